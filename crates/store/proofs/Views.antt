-- What a view of lent memory tells is told of the memory.
use Rattle.std.proofs.Common.{◌≡◌, ℕ, ◌<◌, List, length, Ok, Result, sym, ap, ◌∙◌, arith}
use Rattle.codec.specs.Entries.{LogEntry}
use Rattle.store.specs.declared.Store.{Store}
use Rattle.store.specs.declared.memory.FileMemory.{FileMemory}
use Rattle.store.specs.declared.memory.LogMemory.{LogMemory}
use Rattle.store.specs.declared.unput.Unput.{Unput}
use Rattle.store.specs.Log.{place_for}
use Rattle.store.specs.Memory.{slot_count}
use Rattle.store.specs.Putting.{next_slot, slot_of, files_of}
use Rattle.store.specs.Slots.{slots}
use Rattle.store.proofs.PutLaws.{next_slot_is}

-- how many slots there are
pub slots_told : (most : ℕ) (v : FileMemory) (d bs : List ℕ) (n : ℕ) → n ≡ slots most (length v.directory.now) (length v.bytes.now) → v.directory.now ≡ d → v.bytes.now ≡ bs → n ≡ slots most (length d) (length bs)
slots_told most v d bs n h e f = h ∙ ap (λ x. slots most (length x) (length v.bytes.now)) e ∙ ap (λ y. slots most (length d) (length y)) f

-- the slot that the next file goes into
pub slot_told : (s : Store) (v : FileMemory) (d bs : List ℕ) (r : Result ℕ Unput) → v.directory.now ≡ d → v.bytes.now ≡ bs → r ≡ next_slot s.next v.directory.now (slot_count s v) → r ≡ slot_of (files_of s d bs)
slot_told s v d bs r e f p =
    p ∙ ap (λ x. next_slot s.next x (slots s.most_rows (length x) (length v.bytes.now))) e ∙ ap (λ y. next_slot s.next d (slots s.most_rows (length d) (length y))) f

-- that slot, by another view of the same memory
pub slot_here : (s : Store) (v w : FileMemory) (d bs : List ℕ) (i : ℕ) → v.directory.now ≡ d → v.bytes.now ≡ bs → w.directory.now ≡ d → w.bytes.now ≡ bs → Ok i ≡ next_slot s.next v.directory.now (slot_count s v) → i < slot_count s w
slot_here s v w d bs i e f g h p =
    let q : slot_count s v ≡ slot_count s w = ap (λ x. slots s.most_rows (length x) (length v.bytes.now)) (e ∙ sym g) ∙ ap (λ y. slots s.most_rows (length w.directory.now) (length y)) (f ∙ sym h) in
    omega (arith, q, (next_slot_is s.next v.directory.now (slot_count s v) i p).1)

-- where the next entry goes
pub place_told : (e : LogEntry) (count : ℕ) (v : LogMemory) (ends bs : List ℕ) (r : Result (ℕ × ℕ) Unput) → v.ends.now ≡ ends → v.bytes.now ≡ bs → r ≡ place_for e count v.ends.now (length v.bytes.now) → r ≡ place_for e count ends (length bs)
place_told e count v ends bs r p q h = h ∙ ap (λ x. place_for e count x (length v.bytes.now)) p ∙ ap (λ y. place_for e count ends (length y)) q
