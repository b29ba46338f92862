-- Files written anew from others that lie in the same memory.
use Rattle.std.specs.Prelude.{◌≡◌, ℕ, ◌+◌, Bool, true, false, cond, not, ◌&&◌, ◌||◌, List, [], ◌∷◌, ◌++◌, length, take, drop, is_some, Some, None, Option, nat_le}
use Rattle.std.specs.List.{flat_map}
use Rattle.rows.specs.declared.row.Row.{Row}
use Rattle.rows.specs.declared.span.Span.{Span}
use Rattle.rows.specs.Checks.{some_else, any}
use Rattle.rows.specs.Rows.{within, raised_row}
use Rattle.codec.specs.declared.rewrite.Part.{Part}
use Rattle.codec.specs.declared.rewrite.Rewrite.{Rewrite}
use Rattle.codec.specs.declared.rewrite.Rewrite.TheVariants.{Whole, Outside, Raised}
use Rattle.codec.specs.declared.rewrite.Rewriting.{Rewriting}
use Rattle.codec.specs.declared.write.Written.{Written}
use Rattle.codec.specs.Bounds.{every}
use Rattle.codec.specs.Files.{File, file, most_rows, file_bytes, file_in}
use Rattle.codec.specs.Keys.{widened}
use Rattle.codec.specs.Words.{put_at}
use Rattle.codec.specs.Writes.{told_of, writes}

-- what becomes of a row: none where an amount would be too large, and none within where it goes
abbrev pub fate_of : Rewrite → Row → Option (Option Row)
fate_of Whole r = Some (Some r)
fate_of (Outside s) r = cond (within s r) (Some None) (Some (Some r))
fate_of (Raised s n) r = some_else (raised_row s n r) None (λ x. Some (Some x))

abbrev pub staying : Option (Option Row) → List Row
staying (Some (Some r)) = r ∷ []
staying (Some None) = []
staying None = []

abbrev pub breaks : Option (Option Row) → Bool
breaks (Some o) = false
breaks None = true

-- the rows that stay, as they are written anew
unfoldable pub rewritten : Rewrite → List Row → List Row
rewritten w rs = flat_map (λ r. staying (fate_of w r)) rs

-- whether some amount would be too large
unfoldable pub refuses : Rewrite → List Row → Bool
refuses w rs = any (λ r. breaks (fate_of w r)) rs

-- parts of memory
abbrev pub lies_in : Part → ℕ → Bool
lies_in p n = nat_le (p.start + p.length) n

abbrev pub apart : Part → Part → Bool
apart p q = nat_le (p.start + p.length) q.start || nat_le (q.start + q.length) p.start

abbrev pub part_in : Part → List ℕ → List ℕ
part_in p xs = take p.length (drop p.start xs)

-- the rows of the file that bytes are; none where they are no file
unfoldable pub rows_in : List ℕ → List Row
rows_in xs = some_else (file_in xs) [] (λ f. f.rows)

-- whether a part lies in the memory, apart from the target, and is a file
abbrev pub is_source : List ℕ → Part → Part → Bool
is_source xs t p = lies_in p (length xs) && (apart p t && is_some (file_in (part_in p xs)))

-- the rows of several files, one behind the other
abbrev pub source_rows : List ℕ → List Part → List Row
source_rows xs ps = flat_map (λ p. rows_in (part_in p xs)) ps

-- the memory around a target, with so much in the target
abbrev pub memory_around : Rewriting → List ℕ → List ℕ
memory_around r out = r.before.now ++ (out ++ r.behind.now)

abbrev pub target_in : Rewriting → List ℕ → Part
target_in r out = record { start = length r.before.now; length = length out }

-- what holds of the memory and the target, whatever stands in the target
abbrev pub AtAnyTarget : Rewriting → (List ℕ → Part → Type 0) → Type 0
AtAnyTarget r P = (out : List ℕ) → r.end ≡ length r.before.now + length out → P (memory_around r out) (target_in r out)

-- the rows of the sources that stay, as they are written
abbrev pub rows_kept : Rewriting → List ℕ → List Part → List Row
rows_kept r out ps = rewritten r.rewrite (source_rows (memory_around r out) ps)

-- how many rows stay of one file, and of several
abbrev pub survey : Rewrite → Bool → List Row → Option ℕ
survey w there rs = cond (there && not (refuses w rs)) (Some (length (rewritten w rs))) None

abbrev pub survey_all : Rewrite → List ℕ → Part → List Part → Option ℕ
survey_all w xs t ps =
    cond (every (is_source xs t) ps && (not (refuses w (source_rows xs ps)) && nat_le (length (rewritten w (source_rows xs ps))) most_rows)) (Some (length (rewritten w (source_rows xs ps)))) None

-- the file that is written anew
abbrev pub new_file : Rewrite → List ℕ → List Part → ℕ → ℕ → File
new_file w xs ps number began = file number began (rewritten w (source_rows xs ps))

unfoldable pub can_rewrite : Rewrite → List ℕ → List Part → Part → ℕ → ℕ → Bool
can_rewrite w xs ps t number began =
    lies_in t (length xs) && (every (is_source xs t) ps && (not (refuses w (source_rows xs ps)) && writes (new_file w xs ps number began) t.length))

-- what is told, and all that the memory holds afterwards
abbrev pub rewrite_done : Rewrite → List ℕ → List Part → Part → ℕ → ℕ → Option Written × List ℕ
rewrite_done w xs ps t number began =
    cond (can_rewrite w xs ps t number began) (Some (told_of (new_file w xs ps number began)), put_at t.start (file_bytes (new_file w xs ps number began)) xs) (None, xs)

-- keys widened by rows, one after the other
abbrev pub widened_by : Span → List Row → Span
widened_by s [] = s
widened_by s (r ∷ rs) = widened_by (widened r.key s) rs
