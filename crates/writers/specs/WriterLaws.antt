-- What is promised of writers together, over every list of deeds from an empty table.
use Rattle.std.specs.Prelude.{◌≡◌, ℕ, ◌+◌, ◌≤◌, Bool, true, false, cond, ◌&&◌, ◌⊎◌, List, [], ◌∷◌, ◌++◌, map, take, count_by, ◌==◌, nat_lt}
use Rattle.rows.specs.declared.row.Row.{Row}
use Rattle.rows.specs.Orders.{Order, insert, pack, done_to, touched}
use Rattle.rows.specs.Rows.{Alike}
use Rattle.codec.specs.Entries.{TableChange}
use Rattle.versions.specs.Conflicts.{conflict}
use Rattle.versions.specs.Contents.{all_there}
use Rattle.versions.specs.Kept.{kept}
use Rattle.versions.specs.VersionLaws.{Stands}
use Rattle.writers.specs.Model.{Entry, ready, Table, empty, changes_of, orders_of, newest, files_at, seen, Deed, begin, look, put, stop, read, Told, fine, again, not_yet, counted, shows, refused, step, told, end}

-- orders done one after the other
unfoldable pub in_turn : List Order → List Row → List Row
in_turn [] rs = rs
in_turn (o ∷ os) rs = in_turn os (done_to o rs)

-- an order that was put: whose, which, and the count that was told
pub record Done : Type 0 where
  pub writer : ℕ
  pub order : Order
  pub count : ℕ

abbrev pub done_by : Entry → Done
done_by e = record { writer = e.writer; order = e.order; count = e.change.touched }

abbrev pub if_counted : Told → ℕ → Order → List Done
if_counted fine w o = []
if_counted again w o = []
if_counted not_yet w o = []
if_counted (counted n) w o = record { writer = w; order = o; count = n } ∷ []
if_counted (shows rs) w o = []
if_counted (refused e) w o = []

-- what one deed was told as done, where the orders are those with which each writer began last
unfoldable pub done_at : ℕ → Table → (ℕ → Order) → Deed → List Done
done_at h t asked (begin w o) = []
done_at h t asked (look w) = []
done_at h t asked (put w) = if_counted (told h t (put w)) w (asked w)
done_at h t asked (stop w) = []
done_at h t asked (read v) = []

unfoldable pub asked_after : (ℕ → Order) → Deed → ℕ → Order
asked_after asked (begin w o) u = cond (w == u) o (asked u)
asked_after asked (look w) u = asked u
asked_after asked (put w) u = asked u
asked_after asked (stop w) u = asked u
asked_after asked (read v) u = asked u

-- all that some deeds were told as done, in their order
unfoldable pub all_done : ℕ → Table → (ℕ → Order) → List Deed → List Done
all_done h t asked [] = []
all_done h t asked (d ∷ ds) = done_at h t asked d ++ all_done h (step h t d) (asked_after asked d) ds

-- An order is there whole or not at all, and once: the entries are the puts that were told a count, in their order, each with the order that
-- its writer last began with and the count that it was told; each count is that of the rows touched when its turn came; every file of a
-- kept version is there; and what a kept version holds never changes while it is kept.
abbrev pub Atomic : Type 0
Atomic =
    (h : ℕ) (ds : List Deed) →
    let t = end h empty ds in
    (map done_by t.entries ≡ all_done h empty (λ w. pack 0) ds)
    × ((k : ℕ) (e : Entry) → Stands t.entries k e → e.change.touched ≡ touched e.order (in_turn (take k (orders_of t.entries)) []))
    × ((v : ℕ) → kept h (newest t) v ≡ true → all_there (files_at t v) t.files ≡ true)
    × ((more : List Deed) (v : ℕ) →
    let u = end h t more in
    v ≤ newest t → kept h (newest u) v ≡ true → (files_at u v ≡ files_at t v) × (seen u v ≡ seen t v))

-- The rows of every kept version are, each as often, its orders done one after the other in the order of the entries, beginning with none.
abbrev pub Serializable : Type 0
Serializable =
    (h : ℕ) (ds : List Deed) (v : ℕ) →
    let t = end h empty ds in
    kept h (newest t) v ≡ true → Alike (seen t v) (in_turn (take v (orders_of t.entries)) [])

-- that a writer took too long, or an entry since it looked is in conflict with its own
abbrev pub InTheWay : ℕ → Table → ℕ → ℕ → Entry → Type 0
InTheWay h t b v e =
    (kept h (newest t) b ≡ false) ⊎ ((k : ℕ) × (c : TableChange) × (v ≤ k) × Stands (changes_of t.entries) k c × (conflict e.change c ≡ true))

-- A ready writer that looks is told again exactly if it took too long or an entry since is in conflict; else it is told fine.
abbrev pub AgainOnlyInConflict : Type 0
AgainOnlyInConflict =
    (h : ℕ) (t : Table) (w b v : ℕ) (e : Entry) → t.writers w ≡ ready b v e →
    (told h t (look w) ≡ again → InTheWay h t b v e)
    × (InTheWay h t b v e → told h t (look w) ≡ again)
    × ((told h t (look w) ≡ again) ⊎ (told h t (look w) ≡ fine))

-- A writer that nobody comes between begins, looks and puts, and is told how many rows of the newest version its order touches.
abbrev pub AloneSucceeds : Type 0
AloneSucceeds =
    (h : ℕ) (ds : List Deed) (w : ℕ) (o : Order) →
    let t = end h empty ds in
    let a = step h t (begin w o) in
    let b = step h a (look w) in
    (told h t (begin w o) ≡ fine) × (told h a (look w) ≡ fine) × (told h b (put w) ≡ counted (touched o (seen t (newest t))))

-- Of writers that have looked up to the newest version, the first to put is told its count, and its entry is put behind the others.
abbrev pub FirstPutCounts : Type 0
FirstPutCounts =
    (h : ℕ) (t : Table) (w b : ℕ) (e : Entry) → t.writers w ≡ ready b (newest t) e →
    (told h t (put w) ≡ counted e.change.touched) × ((step h t (put w)).entries ≡ t.entries ++ e ∷ [])

-- Nobody is in the way of inserting, but for time.
abbrev pub InsertsNeverConflict : Type 0
InsertsNeverConflict =
    (h : ℕ) (ds : List Deed) (w b v : ℕ) (e : Entry) (rs : List Row) →
    let t = end h empty ds in
    t.writers w ≡ ready b v e → e.order ≡ insert rs → kept h (newest t) b ≡ true → told h t (look w) ≡ fine

-- A pack changes no rows: those of the versions before and after it are alike.
abbrev pub PacksChangeNoRows : Type 0
PacksChangeNoRows =
    (h : ℕ) (ds : List Deed) (v m : ℕ) (e : Entry) →
    let t = end h empty ds in
    Stands t.entries v e → e.order ≡ pack m → kept h (newest t) v ≡ true → Alike (seen t v) (seen t (v + 1))

-- whether a deed is a put of a writer that was told a count
abbrev pub is_counted : Told → Bool
is_counted fine = false
is_counted again = false
is_counted not_yet = false
is_counted (counted n) = true
is_counted (shows rs) = false
is_counted (refused e) = false

abbrev pub puts_of : ℕ → ℕ → Table → Deed → ℕ
puts_of w h t (begin u o) = 0
puts_of w h t (look u) = 0
puts_of w h t (put u) = cond (u == w && is_counted (told h t (put u))) 1 0
puts_of w h t (stop u) = 0
puts_of w h t (read v) = 0

-- how many puts of a writer were told a count
unfoldable pub puts_told : ℕ → ℕ → Table → List Deed → ℕ
puts_told w h t [] = 0
puts_told w h t (d ∷ ds) = puts_of w h t d + puts_told w h (step h t d) ds

-- The log has an entry of a writer behind n others of its own exactly if more than n puts of that writer were told a count, and then just one.
abbrev pub PutsCanBeFound : Type 0
PutsCanBeFound =
    (h : ℕ) (ds : List Deed) (w n : ℕ) →
    count_by (λ e. (e.writer == w) && e.serial == n) (end h empty ds).entries ≡ cond (nat_lt n (puts_told w h empty ds)) 1 0
