-- Files put into the first free slot, under the next number.
use Rattle.std.specs.Prelude.{◌≡◌, ℕ, ◌+◌, ◌*◌, ◌%◌, ◌^◌, cond, ◌&&◌, List, length, Some, None, Ok, Err, Option, Result, ◌==◌, nat_lt, slice_set}
use Rattle.rows.specs.declared.refusal.Refusal.TheVariants.{NoRoom}
use Rattle.rows.specs.Checks.{some_else}
use Rattle.codec.specs.declared.entry.Added.{Added}
use Rattle.codec.specs.declared.rewrite.Part.{Part}
use Rattle.codec.specs.declared.rewrite.Rewrite.{Rewrite}
use Rattle.codec.specs.declared.write.Written.{Written}
use Rattle.codec.specs.Files.{file, pairs, file_bytes}
use Rattle.codec.specs.Rewrites.{rewrite_done}
use Rattle.codec.specs.Words.{put_at}
use Rattle.codec.specs.Writes.{told_of, writes}
use Rattle.store.specs.declared.Store.{Store}
use Rattle.store.specs.declared.unput.Unput.{Unput}
use Rattle.store.specs.declared.unput.Unput.TheVariants.{Refused, NumberTaken, OutOfBounds}
use Rattle.store.specs.Slots.{slot_size, slots, slot_with, room_for}

abbrev pub no_room : {A : Type 0} → ℕ → List ℕ → ℕ → Result A Unput
no_room next directory n = Err (Refused (NoRoom (room_for next directory n)))

-- the slot that the next file goes into
abbrev pub next_slot : ℕ → List ℕ → ℕ → Result ℕ Unput
next_slot next directory n =
    cond (nat_lt next (2 ^ 32))
    (some_else (slot_with directory n (next + 1)) (some_else (slot_with directory n 0) (no_room next directory n) (λ i. Ok i)) (λ _. Err NumberTaken))
    (no_room next directory n)

-- the files of a store: how many rows they may have, the next number, and both slices
pub record Files : Type 0 where
  pub most : ℕ
  pub next : ℕ
  pub directory : List ℕ
  pub bytes : List ℕ

abbrev pub files_of : Store → List ℕ → List ℕ → Files
files_of s directory bytes = record { most = s.most_rows; next = s.next; directory = directory; bytes = bytes }

-- the part of the file bytes that a slot has
abbrev pub slot_part : ℕ → ℕ → Part
slot_part most i = record { start = i * slot_size most; length = slot_size most }

-- what is told of a file that was written into a slot, and the store afterwards
abbrev pub in_slot : Files → ℕ → Option Written × List ℕ → Result Added Unput × Files
in_slot s i w =
    some_else {B = Result Added Unput × Files} w.0 (Err OutOfBounds, s) (λ told. (
      Ok (record { number = s.next; keys = told.keys }),
      record { most = s.most; next = s.next + 1; directory = slice_set (slice_set s.directory (2 * i) (s.next + 1)) (1 + 2 * i) told.length; bytes = w.1 },
    ))

abbrev pub put_by : Files → (ℕ → Option Written × List ℕ) → Result ℕ Unput → Result Added Unput × Files
put_by s write (Ok i) = in_slot s i (write i)
put_by s write (Err u) = (Err u, s)

abbrev pub slot_of : Files → Result ℕ Unput
slot_of s = next_slot s.next s.directory (slots s.most (length s.directory) (length s.bytes))

-- a file of lent rows, written into a part of the file bytes
abbrev pub lent_in : ℕ → ℕ → List ℕ → Part → List ℕ → Option Written × List ℕ
lent_in number began lent p bytes =
    cond (length lent % 2 == 0 && writes (file number began (pairs lent)) p.length) (Some (told_of (file number began (pairs lent))), put_at p.start (file_bytes (file number began (pairs lent))) bytes) (None, bytes)

unfoldable pub put_rows : ℕ → List ℕ → Files → Result Added Unput × Files
put_rows began lent s = put_by s (λ i. lent_in s.next began lent (slot_part s.most i) s.bytes) (slot_of s)

unfoldable pub put_rewritten : ℕ → List Part → Rewrite → Files → Result Added Unput × Files
put_rewritten began sources w s = put_by s (λ i. rewrite_done w s.bytes sources (slot_part s.most i) s.next began) (slot_of s)

-- a put of a file leaves the other numbers
abbrev pub SameButNext : Store → Store → Type 0
SameButNext s t = (t.horizon ≡ s.horizon) × (t.entries ≡ s.entries) × (t.most_rows ≡ s.most_rows)
