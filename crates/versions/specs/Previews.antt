-- What a span finds in files, as they lie in memory.
use Rattle.std.specs.Prelude.{ℕ, cond, List, [], ◌∷◌, length, Option, Result}
use Rattle.std.specs.Option.{option_map}
use Rattle.rows.specs.declared.refusal.Refusal.{Refusal}
use Rattle.rows.specs.declared.refusal.Refusal.TheVariants.{DamagedFile}
use Rattle.rows.specs.declared.span.Span.{Span}
use Rattle.rows.specs.Rows.{outside, many_within}
use Rattle.store.specs.declared.files.Stored.{Stored}
use Rattle.store.specs.Putting.{Files}
use Rattle.store.specs.StoreLaws.{file_under}
use Rattle.versions.specs.declared.preview.Preview.{Preview}
use Rattle.versions.specs.FilesHeld.{stored_rows}
use Rattle.versions.specs.Gathering.{gathered}
use Rattle.versions.specs.Plans.{holds_key}

-- what a span finds in a file, if it finds any row
abbrev pub preview_of : Files → Span → Stored → List Preview
preview_of s span x =
    let rs = stored_rows s x in
    cond (holds_key span rs) (record { file = x; inside = many_within span rs; stays = length (outside span rs) } ∷ []) []

abbrev pub preview_found : Files → Span → ℕ → Option (List Preview)
preview_found s span n = option_map (preview_of s span) (file_under s n)

-- what a span finds in some files, in their order, or the first that is missing or damaged
unfoldable pub previews : Files → Span → List ℕ → Result (List Preview) Refusal
previews s span ns = gathered (preview_found s span) DamagedFile ns
