-- What a writer finds to do: the files that it writes, and those that it takes.
use Rattle.std.specs.Prelude.{ℕ, ◌+◌, Bool, cond, List, [], ◌∷◌, ◌++◌, map, length, filter, nat_le, nat_lt}
use Rattle.rows.specs.declared.row.Row.{Row}
use Rattle.rows.specs.declared.span.Span.{Span}
use Rattle.rows.specs.Orders.{Order, insert, erase, raise, pack, touched}
use Rattle.rows.specs.Rows.{outside, raised, many_within}
use Rattle.codec.specs.declared.action.Action.{Action}
use Rattle.codec.specs.declared.action.Action.TheVariants.{Insert, Erase, Raise, Pack}
use Rattle.codec.specs.declared.entry.Added.{Added}
use Rattle.codec.specs.Entries.{TableChange}
use Rattle.codec.specs.Files.{File, file}
use Rattle.codec.specs.Keys.{keys_of}
use Rattle.versions.specs.Contents.{rows_under, rows_of}

pub record Plan : Type 0 where
  pub new : List File
  pub takes : List ℕ

abbrev pub nothing : Plan
nothing = record { new = []; takes = [] }

-- a file of the rows, if there are any
abbrev pub file_if : ℕ → ℕ → List Row → List File
file_if n v [] = []
file_if n v (r ∷ rs) = file n v (r ∷ rs) ∷ []

-- whether some row has its key in the span
abbrev pub holds_key : Span → List Row → Bool
holds_key s rs = nat_lt 0 (many_within s rs)

-- one file taken, and written anew
abbrev pub with_file : ℕ → List File → Plan → Plan
with_file m new p = record { new = new ++ p.new; takes = m ∷ p.takes }

-- each file with a key in the span is written anew, if any of its rows are left; the first new number is n, the version v
unfoldable pub anew : (List Row → List Row) → Span → ℕ → ℕ → List ℕ → List File → Plan
anew change s n v [] fs = nothing
anew change s n v (m ∷ ms) fs =
    let rs = rows_under m fs in
    let new = file_if n v (change rs) in
    cond (holds_key s rs) (with_file m new (anew change s (n + length new) v ms fs)) (anew change s n v ms fs)

-- the files of at most so many rows, in the order of coming
unfoldable pub small_files : ℕ → List ℕ → List File → List ℕ
small_files most ns fs = filter (λ n. nat_le (length (rows_under n fs)) most) ns

-- two files or more become one
unfoldable pub packed : List ℕ → ℕ → ℕ → List File → Plan
packed [] n v fs = nothing
packed (a ∷ []) n v fs = nothing
packed (a ∷ b ∷ ms) n v fs = record { new = file_if n v (rows_of (a ∷ b ∷ ms) fs); takes = a ∷ b ∷ ms }

-- what an order finds to do in a version that has these files: the next number is n
unfoldable pub plan : Order → ℕ → ℕ → List ℕ → List File → Plan
plan (insert rs) n v live fs = record { new = file_if n v rs; takes = [] }
plan (erase s) n v live fs = anew (outside s) s n v live fs
plan (raise s k) n v live fs = anew (raised s k) s n v live fs
plan (pack most) n v live fs = packed (small_files most live fs) n v fs

-- the order without its rows
abbrev pub action_of : Order → Action
action_of (insert rs) = Insert
action_of (erase s) = Erase s
action_of (raise s n) = Raise s n
action_of (pack m) = Pack m

abbrev pub added : File → Added
added f = record { number = f.number; keys = keys_of f.rows }

-- the change that a plan is put as
abbrev pub planned : Order → ℕ → ℕ → List ℕ → List File → TableChange
planned o n v live fs = record {
  action = action_of o;
  touched = touched o (rows_of live fs);
  adds = map added (plan o n v live fs).new;
  takes = (plan o n v live fs).takes;
}
