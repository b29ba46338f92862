-- What answers tell.
use Rattle.std.specs.Prelude.{◌≡◌, Bool, false, Ok, Err, vec_items, MatchBool, Result, ◌==◌}
use Rattle.rows.specs.declared.refusal.Refusal.{Refusal}
use Rattle.rows.specs.Refusals.{number_of}
use Rattle.writers.specs.declared.answer.Answer.{Answer}
use Rattle.writers.specs.declared.answer.Answer.TheVariants.{Fine, Again, NotYet, Counted, Rows}
use Rattle.writers.specs.Memory.{Memory}
use Rattle.writers.specs.Model.{Told, fine, again, not_yet, counted, shows, refused}

abbrev pub told_of : Result Answer Refusal → Told
told_of (Ok Fine) = fine
told_of (Ok Again) = again
told_of (Ok NotYet) = not_yet
told_of (Ok (Counted n)) = counted n
told_of (Ok (Rows rows)) = shows (vec_items rows)
told_of (Err e) = refused e

-- whether memory ran out
abbrev pub told_out : Told → Bool
told_out fine = false
told_out again = false
told_out not_yet = false
told_out (counted n) = false
told_out (shows rs) = false
told_out (refused e) = number_of e == 13

-- a deed is done as it is defined, or memory ran out and nothing has changed
abbrev pub Does : Told → Memory → Memory → Told × Memory → Type 0
Does t before after done = MatchBool (told_out t) (after ≡ before) ((t, after) ≡ done)
