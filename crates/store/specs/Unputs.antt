-- What a deed is told where a file or an entry was not put.
use Rattle.rows.specs.declared.refusal.Refusal.{Refusal}
use Rattle.rows.specs.declared.refusal.Refusal.TheVariants.{NoRoom}
use Rattle.store.specs.declared.unput.Unput.{Unput}
use Rattle.store.specs.declared.unput.Unput.TheVariants.{Refused, OtherPlace, NumberTaken, OutOfBounds}

abbrev pub unput_refusal : Unput → Refusal
unput_refusal (Refused r) = r
unput_refusal OtherPlace = NoRoom 0
unput_refusal NumberTaken = NoRoom 0
unput_refusal OutOfBounds = NoRoom 0
