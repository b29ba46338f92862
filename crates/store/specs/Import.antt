-- A store read in from the bytes that it was written out as.
use Rattle.std.specs.Prelude.{ℕ, zero, suc, ◌+◌, ◌-◌, ◌*◌, ◌%◌, ◌^◌, cond, ◌||◌, List, length, take, drop, replicate, Some, None, Ok, Err, sum, Option, Result, ◌==◌, nat_lt, slice_set}
use Rattle.rows.specs.Checks.{some_else}
use Rattle.codec.specs.Words.{le, put_at}
use Rattle.store.specs.Export.{header_words}
use Rattle.store.specs.Opening.{Numbers, numbers}
use Rattle.store.specs.Slots.{slot_size, slots}
use Rattle.store.specs.declared.Store.{Store}
use Rattle.store.specs.declared.header.Header.{Header}
use Rattle.store.specs.declared.unread.Unread.{Unread}
use Rattle.store.specs.declared.unread.Unread.TheVariants.{At, TooSmall}

-- the number of the eight bytes from a byte on
abbrev pub word_at : ℕ → List ℕ → ℕ
word_at at bs = le (take 8 (drop at bs))

-- the byte at which the first number of a header stands that is out of its bounds
abbrev pub out_at : Header → Option ℕ
out_at h =
    cond (nat_lt 4096 h.horizon) (Some 0)
    (cond (nat_lt (2 ^ 32) h.next) (Some 8)
    (cond (h.most_rows == 0 || nat_lt 65536 h.most_rows) (Some 16)
    (cond (nat_lt h.slots h.files) (Some 32)
    (cond (nat_lt 65536 h.entries) (Some 40) None))))

abbrev pub bounded : Header → Result Header Unread
bounded h = some_else (out_at h) (Ok h) (λ at. Err (At at))

-- the numbers at the front of bytes
abbrev pub header_at : List ℕ → Header
header_at bs = record { horizon = word_at 0 bs; next = word_at 8 bs; most_rows = word_at 16 bs; slots = word_at 24 bs; files = word_at 32 bs; entries = word_at 40 bs }

-- the header that bytes begin with
abbrev pub header_in : List ℕ → Result Header Unread
header_in bs =
    cond (nat_lt (length bs) 56) (Err (At (length bs)))
    (cond (word_at 48 bs == sum (header_words (header_at bs)) % 2 ^ 64)
    (bounded (header_at bs))
    (Err (At 48)))

-- where the file from a byte on ends: number, length, and so many bytes, at most a slot's
abbrev pub file_end : ℕ → ℕ → List ℕ → Result ℕ Unread
file_end most at bs =
    cond (nat_lt (length bs - at) 16) (Err (At (length bs)))
    (cond (word_at at bs == 2 ^ 64 - 1) (Err (At at))
    (cond (nat_lt (slot_size most) (word_at (at + 8) bs)) (Err (At (at + 8)))
    (cond (nat_lt (length bs - at - 16) (word_at (at + 8) bs)) (Err (At (length bs)))
    (Ok (at + 16 + word_at (at + 8) bs)))))

-- a file read into a slot: where it ends, and the directory and the file bytes afterwards
abbrev pub read_to : ℕ → ℕ → List ℕ → ℕ → List ℕ → List ℕ → Result ℕ Unread → Result ℕ Unread × List ℕ × List ℕ
read_to most at bs i d fs (Ok end) = (Ok end, slice_set (slice_set d (2 * i) (word_at at bs + 1)) (1 + 2 * i) (end - at - 16), put_at (i * slot_size most) (take (end - at - 16) (drop (at + 16) bs)) fs)
read_to most at bs i d fs (Err u) = (Err u, d, fs)

unfoldable pub file_read : ℕ → ℕ → List ℕ → ℕ → List ℕ → List ℕ → Result ℕ Unread × List ℕ × List ℕ
file_read most at bs i d fs = read_to most at bs i d fs (file_end most at bs)

-- the rest of a reading, if what came before it was read
abbrev pub read_on : Result ℕ Unread × List ℕ × List ℕ → (ℕ → List ℕ → List ℕ → Result ℕ Unread × List ℕ × List ℕ) → Result ℕ Unread × List ℕ × List ℕ
read_on (Ok at, d, fs) rest = rest at d fs
read_on (Err u, d, fs) rest = (Err u, d, fs)

-- so many files read into the slots from one on
unfoldable pub files_read : ℕ → List ℕ → ℕ → ℕ → ℕ → List ℕ → List ℕ → Result ℕ Unread × List ℕ × List ℕ
files_read most bs zero i at d fs = (Ok at, d, fs)
files_read most bs (suc n) i at d fs = read_on (file_read most at bs i d fs) (λ at' d' fs'. files_read most bs n (i + 1) at' d' fs')

-- where the entry from a byte on ends: its length, and so many bytes, at most those left in the log
abbrev pub entry_end : ℕ → ℕ → List ℕ → Result ℕ Unread
entry_end at left bs =
    cond (nat_lt (length bs - at) 8) (Err (At (length bs)))
    (cond (nat_lt (length bs - at - 8) (word_at at bs)) (Err (At (length bs)))
    (cond (nat_lt left (word_at at bs)) (Err TooSmall)
    (Ok (at + 8 + word_at at bs))))

-- an entry read to a place, behind the bytes of the log that are used: where it ends, and the ends and the log afterwards
abbrev pub place_to : ℕ → List ℕ → ℕ → ℕ → List ℕ → List ℕ → Result ℕ Unread → Result ℕ Unread × List ℕ × List ℕ
place_to at bs k used es log (Ok end) = (Ok end, slice_set es k (used + (end - at - 8)), put_at used (take (end - at - 8) (drop (at + 8) bs)) log)
place_to at bs k used es log (Err u) = (Err u, es, log)

unfoldable pub place_read : ℕ → List ℕ → ℕ → ℕ → List ℕ → List ℕ → Result ℕ Unread × List ℕ × List ℕ
place_read at bs k used es log = place_to at bs k used es log (entry_end at (length log - used) bs)

-- so many entries read to the places from one on
unfoldable pub entries_read : List ℕ → ℕ → ℕ → ℕ → ℕ → List ℕ → List ℕ → Result ℕ Unread × List ℕ × List ℕ
entries_read bs zero k at used es log = (Ok at, es, log)
entries_read bs (suc n) k at used es log = read_on (place_read at bs k used es log) (λ at' es' log'. entries_read bs n (k + 1) at' (used + (at' - at - 8)) es' log')

abbrev pub Body : Type 0
Body = Result Unit Unread × List ℕ × List ℕ × List ℕ × List ℕ

-- what is told in the end, which is an error where bytes are left
abbrev pub body_end : List ℕ → List ℕ → List ℕ → Result ℕ Unread × List ℕ × List ℕ → Body
body_end bs d fs (Ok end, es, log) = (cond (nat_lt end (length bs)) (Err (At end)) (Ok tt), d, fs, es, log)
body_end bs d fs (Err u, es, log) = (Err u, d, fs, es, log)

abbrev pub body_entries : List ℕ → ℕ → List ℕ → List ℕ → Result ℕ Unread × List ℕ × List ℕ → Body
body_entries bs count es log (Ok at, d, fs) = body_end bs d fs (entries_read bs count 0 at 0 es log)
body_entries bs count es log (Err u, d, fs) = (Err u, d, fs, es, log)

-- files and entries read from behind the header into memory, its directory cleared before
unfoldable pub body_read : ℕ → List ℕ → ℕ → ℕ → List ℕ → List ℕ → List ℕ → List ℕ → Body
body_read most bs held count d fs es log = body_entries bs count es log (files_read most bs held 0 56 (replicate (length d) 0) fs)

abbrev pub numbers_read : Result Store Unread → Result Numbers Unread
numbers_read (Ok s) = Ok (numbers s)
numbers_read (Err u) = Err u

abbrev pub Import : Type 0
Import = Result Numbers Unread × List ℕ × List ℕ × List ℕ × List ℕ

abbrev pub numbers_at : Header → Numbers
numbers_at h = record { horizon = h.horizon; next = h.next; entries = h.entries; most_rows = h.most_rows }

-- what is told of a store, by what is told of its body
abbrev pub body_told : Numbers → Body → Import
body_told n (Ok _, d, fs, es, log) = (Ok n, d, fs, es, log)
body_told n (Err u, d, fs, es, log) = (Err u, d, fs, es, log)

-- a store by its header, in memory that has the slots and the places that the header says
abbrev pub read_by : List ℕ → List ℕ → List ℕ → List ℕ → List ℕ → Result Header Unread → Import
read_by bs d fs es log (Ok h) =
    cond (nat_lt (slots h.most_rows (length d) (length fs)) h.slots) (Err TooSmall, d, fs, es, log)
    (cond (nat_lt (length es) h.entries) (Err TooSmall, d, fs, es, log)
    (body_told (numbers_at h) (body_read h.most_rows bs h.files h.entries d fs es log)))
read_by bs d fs es log (Err u) = (Err u, d, fs, es, log)

unfoldable pub read_in : List ℕ → List ℕ → List ℕ → List ℕ → List ℕ → Import
read_in bs d fs es log = read_by bs d fs es log (header_in bs)
