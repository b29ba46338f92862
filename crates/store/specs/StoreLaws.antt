-- What is promised of a store: files that are put are found, files and entries stay, what is deleted is gone, and what is written out reads in.
use Rattle.std.specs.Prelude.{◌≡◌, ℕ, ◌+◌, ◌^◌, ◌<◌, ◌≤◌, ◌⊎◌, List, length, Some, None, Ok, Err, sum_by, Option, Result, ◌≢◌}
use Rattle.std.specs.Option.{option_map}
use Rattle.rows.specs.declared.refusal.Refusal.{Refusal}
use Rattle.codec.specs.declared.entry.Added.{Added}
use Rattle.codec.specs.declared.file.Head.{Head}
use Rattle.codec.specs.declared.rewrite.Part.{Part}
use Rattle.codec.specs.declared.rewrite.Rewrite.{Rewrite}
use Rattle.codec.specs.Entries.{LogEntry}
use Rattle.codec.specs.Files.{File, file, pairs, file_bytes, head_of, file_in}
use Rattle.codec.specs.Rewrites.{part_in, new_file}
use Rattle.codec.specs.Words.{AreWords}
use Rattle.store.specs.declared.files.Stored.{Stored}
use Rattle.store.specs.declared.unput.Unput.{Unput}
use Rattle.store.specs.declared.unput.Unput.TheVariants.{NumberTaken}
use Rattle.store.specs.declared.Store.{Store}
use Rattle.store.specs.Export.{slots_of, files_held, entries_held, exported}
use Rattle.store.specs.Import.{read_in}
use Rattle.store.specs.Opening.{Numbers, numbers, numbers_of, opened}
use Rattle.store.specs.Log.{Log, log_of, SoundLog, entry_at, put_entry}
use Rattle.store.specs.Putting.{Files, files_of, put_rows, put_rewritten}
use Rattle.store.specs.Slots.{slots, mark_at, numbers_below, stored, freed}

-- the file under a number
abbrev pub file_under : Files → ℕ → Option Stored
file_under s n = stored s.most s.directory s.bytes n

-- that a put of a file was told Ok, of lent rows or of rows of other files, and what it left
abbrev pub WasPut : Files → File → Added → Files → Type 0
WasPut s f a t =
    ((began : ℕ) × (lent : List ℕ) × (f ≡ file s.next began (pairs lent)) × (◌≡◌ {A = Result Added Unput × Files} (Ok a, t) (put_rows began lent s)))
    ⊎ ((began : ℕ) × (sources : List Part) × (w : Rewrite) × (f ≡ new_file w s.bytes sources s.next began) × (◌≡◌ {A = Result Added Unput × Files} (Ok a, t) (put_rewritten began sources w s)))

-- that a file is under a number, with its bytes, which read as that file
abbrev pub IsUnder : Files → ℕ → File → Type 0
IsUnder s n f = (p : Part) × (file_under s n ≡ Some (record { part = p; head = head_of f })) × (part_in p s.bytes ≡ file_bytes f) × (file_in (part_in p s.bytes) ≡ Some f)

-- what was put is found under the number that was next, and the number behind it is next
abbrev pub WhatIsPutIsFound : Type 0
WhatIsPutIsFound = (s t : Files) (f : File) (a : Added) → WasPut s f a t → (a.number ≡ s.next) × IsUnder t s.next f × (t.next ≡ s.next + 1)

-- every other number has the file that it had, in the same part of the same bytes, or still none
abbrev pub OtherFilesStay : Type 0
OtherFilesStay =
    (s t : Files) (f : File) (a : Added) → WasPut s f a t → (n : ℕ) → (n ≢ s.next)
    → (file_under t n ≡ file_under s n) × ((x : Stored) → file_under s n ≡ Some x → part_in x.part t.bytes ≡ part_in x.part s.bytes)

-- a deleted file is gone, and no other
abbrev pub WhatIsDeletedIsGone : Type 0
WhatIsDeletedIsGone =
    (most : ℕ) (directory bytes : List ℕ) (n : ℕ)
    → (stored most (freed directory (n + 1) (slots most (length directory) (length bytes))) bytes n ≡ None)
    × ((m : ℕ) → (m ≢ n) → stored most (freed directory (n + 1) (slots most (length directory) (length bytes))) bytes m ≡ stored most directory bytes m)

-- the entry at a place
abbrev pub entry_under : Log → ℕ → Option LogEntry
entry_under l k = entry_at l.count l.ends l.bytes k

-- an entry put behind the others is found there, the others are as they were, and the log stays sound
abbrev pub EntriesNeverChange : Type 0
EntriesNeverChange =
    (l m : Log) (e : LogEntry) (v : ℕ) → SoundLog l → ◌≡◌ {A = Result ℕ Unput × Log} (Ok v, m) (put_entry e l)
    → (v ≡ m.count) × (m.count ≡ l.count + 1) × (entry_under m l.count ≡ Some e) × ((k : ℕ) → k < l.count → entry_under m k ≡ entry_under l k) × SoundLog m

-- a store that was opened has no files and no entries, and its log is sound
abbrev pub WhatIsOpenedIsEmpty : Type 0
WhatIsOpenedIsEmpty =
    (s : Store) (horizon most : ℕ) (before directory bytes ends log : List ℕ) → ◌≡◌ {A = Result Numbers Refusal × List ℕ} (numbers_of (Ok s), directory) (opened horizon most before)
    → ((n : ℕ) → file_under (files_of s directory bytes) n ≡ None) × ((k : ℕ) → entry_under (log_of s ends log) k ≡ None) × SoundLog (log_of s ends log)

-- where nothing was put, nothing has changed
abbrev pub WhatIsRefusedChangesNothing : Type 0
WhatIsRefusedChangesNothing =
    ((s t : Files) (u : Unput) (began : ℕ) (lent : List ℕ) → ◌≡◌ {A = Result Added Unput × Files} (Err u, t) (put_rows began lent s) → t ≡ s)
    × ((s t : Files) (u : Unput) (began : ℕ) (sources : List Part) (w : Rewrite) → ◌≡◌ {A = Result Added Unput × Files} (Err u, t) (put_rewritten began sources w s) → t ≡ s)
    × ((l m : Log) (u : Unput) (e : LogEntry) → ◌≡◌ {A = Result ℕ Unput × Log} (Err u, m) (put_entry e l) → m ≡ l)

-- no file is put where some slot bears the next number already
abbrev pub ATakenNumberIsRefused : Type 0
ATakenNumberIsRefused =
    (s : Files) (i : ℕ) → s.next < 2 ^ 32 → i < slots s.most (length s.directory) (length s.bytes) → mark_at s.directory i ≡ s.next + 1
    → ((began : ℕ) (lent : List ℕ) → put_rows began lent s ≡ (Err NumberTaken, s)) × ((began : ℕ) (sources : List Part) (w : Rewrite) → put_rewritten began sources w s ≡ (Err NumberTaken, s))

-- that lent memory has the slots, the places and the bytes of log that files and entries take
abbrev pub HasRoom : Files → Log → List ℕ → List ℕ → List ℕ → List ℕ → Type 0
HasRoom s l directory bytes ends log =
    (slots_of s ≤ slots s.most (length directory) (length bytes)) × (l.count ≤ length ends) × (sum_by length (entries_held l) ≤ length log)

-- what was written out is read into memory that has room for it, whatever that held before, as a store with the same numbers, files and entries, whose log is sound
abbrev pub WhatIsWrittenOutReadsIn : Type 0
WhatIsWrittenOutReadsIn =
    (s : Store) (directory bytes ends log : List ℕ) → AreWords directory → length directory < 2 ^ 64 → length log < 2 ^ 64
    → (d b e l : List ℕ) → HasRoom (files_of s directory bytes) (log_of s ends log) d b e l
    → (d' : List ℕ) × (b' : List ℕ) × (e' : List ℕ) × (l' : List ℕ)
    × (read_in (exported s.horizon (files_of s directory bytes) (log_of s ends log)) d b e l ≡ (Ok (numbers s), d', b', e', l'))
    × (files_held (files_of s d' b') ≡ files_held (files_of s directory bytes))
    × (entries_held (log_of s e' l') ≡ entries_held (log_of s ends log))
    × SoundLog (log_of s e' l')

-- memory as large as that of a store whose log is sound has room for it; for any log, as many bytes are enough as are written out
abbrev pub AsMuchMemoryHasRoom : Type 0
AsMuchMemoryHasRoom =
    (horizon : ℕ) (s : Files) (l : Log) (directory bytes ends log : List ℕ) → length s.directory ≤ length directory → length s.bytes ≤ length bytes → l.count ≤ length ends
    → (SoundLog l × (length l.bytes ≤ length log)) ⊎ (length (exported horizon s l) ≤ length log)
    → HasRoom s l directory bytes ends log

-- head and bytes of the file under a number
abbrev pub found_under : Files → ℕ → Option (Head × List ℕ)
found_under s n = option_map (λ x. (x.head, part_in x.part s.bytes)) (file_under s n)

-- stores that hold the same files and entries answer alike: the same numbers, the same head and bytes under each of them, and the same entry at each place
abbrev pub WhatHoldsTheSameAnswersAlike : Type 0
WhatHoldsTheSameAnswersAlike =
    ((s t : Files) → files_held s ≡ files_held t → (numbers_below s.directory (slots_of s) ≡ numbers_below t.directory (slots_of t)) × ((n : ℕ) → found_under s n ≡ found_under t n))
    × ((l m : Log) → entries_held l ≡ entries_held m → (k : ℕ) → entry_under l k ≡ entry_under m k)
