-- The files and entries that a store's memory holds, and their bytes written out: a header, then each file, then each entry.
use Rattle.std.specs.Prelude.{◌≡◌, ℕ, zero, suc, ◌-◌, cond, List, [], ◌∷◌, ◌++◌, length, Result, MatchResult, ◌==◌}
use Rattle.std.specs.List.{flat_map}
use Rattle.rows.specs.Checks.{some_else}
use Rattle.rows.specs.declared.refusal.Refusal.{Refusal}
use Rattle.rows.specs.declared.refusal.Refusal.TheVariants.{OutOfMemory}
use Rattle.codec.specs.Seals.{sealed_bytes}
use Rattle.codec.specs.Words.{bytes_of}
use Rattle.store.specs.declared.header.Header.{Header}
use Rattle.store.specs.Log.{Log, entry_bytes_at}
use Rattle.store.specs.Putting.{Files}
use Rattle.store.specs.Slots.{slots, mark_at, slot_bytes}

abbrev pub slots_of : Files → ℕ
slots_of s = slots s.most (length s.directory) (length s.bytes)

-- the file of a slot, if it is not free
abbrev pub file_of_slot : Files → ℕ → List (ℕ × List ℕ)
file_of_slot s i = cond (mark_at s.directory i == 0) [] ((mark_at s.directory i - 1, slot_bytes s.most s.directory s.bytes i) ∷ [])

-- number and bytes of the files of the first slots
abbrev pub files_below : Files → ℕ → List (ℕ × List ℕ)
files_below s zero = []
files_below s (suc n) = files_below s n ++ file_of_slot s n

abbrev pub files_held : Files → List (ℕ × List ℕ)
files_held s = files_below s (slots_of s)

-- the bytes of an entry; none where they do not lie in the log
abbrev pub entry_held : Log → ℕ → List ℕ
entry_held l k = some_else (entry_bytes_at l.ends l.bytes k) [] (λ bs. bs)

abbrev pub entries_below : Log → ℕ → List (List ℕ)
entries_below l zero = []
entries_below l (suc n) = entries_below l n ++ (entry_held l n ∷ [])

abbrev pub entries_held : Log → List (List ℕ)
entries_held l = entries_below l l.count

-- bytes behind their count
abbrev pub counted : List ℕ → List ℕ
counted bs = bytes_of (length bs ∷ []) ++ bs

abbrev pub numbered : ℕ × List ℕ → List ℕ
numbered f = bytes_of (f.0 ∷ []) ++ counted f.1

abbrev pub header_words : Header → List ℕ
header_words h = h.horizon ∷ h.next ∷ h.most_rows ∷ h.slots ∷ h.files ∷ h.entries ∷ []

abbrev pub header_of : ℕ → ℕ → Files → Header
header_of horizon count s = record { horizon = horizon; next = s.next; most_rows = s.most; slots = slots_of s; files = length (files_held s); entries = count }

unfoldable pub exported : ℕ → Files → Log → List ℕ
exported horizon s l = sealed_bytes (header_words (header_of horizon l.count s)) ++ (flat_map numbered (files_held s) ++ flat_map counted (entries_held l))

-- what is there afterwards is what was there and bytes behind it, unless memory ran out
abbrev pub Appends : {A : Type 0} → Result A Refusal → List ℕ → List ℕ → List ℕ → Type 0
Appends r before after bs = MatchResult r (λ _. after ≡ before ++ bs) (λ e. e ≡ OutOfMemory)
