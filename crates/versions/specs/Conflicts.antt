-- Which changes are in conflict with one that is about to be put.
use Rattle.std.specs.Prelude.{ℕ, Bool, false, ◌||◌, List}
use Rattle.rows.specs.declared.span.Span.{Span}
use Rattle.rows.specs.Checks.{any}
use Rattle.rows.specs.Spans.{overlap}
use Rattle.codec.specs.declared.action.Action.{Action}
use Rattle.codec.specs.declared.action.Action.TheVariants.{Insert, Erase, Raise, Pack}
use Rattle.codec.specs.declared.entry.Added.{Added}
use Rattle.codec.specs.Entries.{TableChange}
use Rattle.versions.specs.Alive.{has}

-- whether some number stands in both lists
unfoldable pub shares : List ℕ → List ℕ → Bool
shares ms ns = any (has ns) ms

-- whether some added file may have a key in the span, by its smallest and its largest key
unfoldable pub reaches : Span → List Added → Bool
reaches s adds = any (λ a. overlap s a.keys) adds

-- whether added files may have rows that an action would have had to touch
abbrev pub misses : Action → List Added → Bool
misses Insert adds = false
misses (Erase s) adds = reaches s adds
misses (Raise s n) adds = reaches s adds
misses (Pack m) adds = false

-- a change that came between: it takes a file that mine takes too, or adds one with keys in my span
unfoldable pub conflict : TableChange → TableChange → Bool
conflict mine c = shares mine.takes c.takes || misses mine.action c.adds

unfoldable pub any_conflict : TableChange → List TableChange → Bool
any_conflict mine cs = any (conflict mine) cs
