-- What is promised of versions and of plans.
use Rattle.std.specs.Prelude.{◌≡◌, ℕ, ◌<◌, ◌≤◌, true, false, List, ◌++◌, length, take, drop, count_by, nat_eq, slice_index_or}
use Rattle.std.specs.List.{flat_map, AllByRecursion}
use Rattle.rows.specs.declared.row.Row.{Row}
use Rattle.rows.specs.declared.span.Span.{Span}
use Rattle.rows.specs.Orders.{Order, done_to, touched}
use Rattle.rows.specs.Rows.{Alike, many_within}
use Rattle.rows.specs.Spans.{overlap, contains_key}
use Rattle.codec.specs.declared.entry.Added.{Added}
use Rattle.codec.specs.Entries.{TableChange}
use Rattle.codec.specs.Files.{File}
use Rattle.codec.specs.Keys.{keys_of}
use Rattle.versions.specs.Alive.{has, numbers, after, version}
use Rattle.versions.specs.Conflicts.{any_conflict}
use Rattle.versions.specs.Contents.{all_there, rows_under, rows_by, rows_of}
use Rattle.versions.specs.Plans.{plan, planned}

-- that an element stands at a place of a list
abbrev pub Stands : {A : Type 0} → List A → ℕ → A → Type 0
Stands xs i x = (i < length xs) × (slice_index_or xs i x ≡ x)

-- every number that changes add, and every number that they take
abbrev pub all_added : List TableChange → List ℕ
all_added cs = flat_map (λ c. numbers c.adds) cs

abbrev pub all_taken : List TableChange → List ℕ
all_taken cs = flat_map (λ c. c.takes) cs

-- how often a number stands in a list
unfoldable pub tally : ℕ → List ℕ → ℕ
tally n ns = count_by (nat_eq n) ns

abbrev pub AddedOnce : List TableChange → Type 0
AddedOnce cs = (n : ℕ) → tally n (all_added cs) ≤ 1

-- each file holds the rows that its number has for good
abbrev pub Faithful : (ℕ → List Row) → List File → Type 0
Faithful contents fs = AllByRecursion (λ f. f.rows ≡ contents f.number) fs

-- the keys that are told of added files are the smallest and the largest of their rows
abbrev pub Keyed : (ℕ → List Row) → List Added → Type 0
Keyed contents adds = AllByRecursion (λ a. a.keys ≡ keys_of (contents a.number)) adds

abbrev pub AllKeyed : (ℕ → List Row) → List TableChange → Type 0
AllKeyed contents cs = AllByRecursion (λ c. Keyed contents c.adds) cs

-- the files of a version do not change when entries are put behind
abbrev pub VersionsAreFixed : Type 0
VersionsAreFixed = (cs more : List TableChange) (v : ℕ) → v ≤ length cs → version (cs ++ more) v ≡ version cs v

-- the rows of a version depend only on the files that it has
abbrev pub RowsAreOfTheirFiles : Type 0
RowsAreOfTheirFiles = (ns : List ℕ) (fs gs : List File) → ((n : ℕ) → has ns n ≡ true → rows_under n fs ≡ rows_under n gs) → rows_of ns fs ≡ rows_of ns gs

-- a file of version b is in version k as long as no entry between takes it; one that is taken and not added again is in it no more
abbrev pub FilesStayUntilTaken : Type 0
FilesStayUntilTaken =
    (cs : List TableChange) (b k n : ℕ) → b ≤ k →
    (has (version cs b) n ≡ true → has (all_taken (drop b (take k cs))) n ≡ false → has (version cs k) n ≡ true)
    × (has (all_taken (drop b (take k cs))) n ≡ true → has (all_added (drop b (take k cs))) n ≡ false → has (version cs k) n ≡ false)

-- the smallest and the largest key tell of every row: apart from a span none has its key in it, within a span all have
abbrev pub KeyRangesTell : Type 0
KeyRangesTell =
    (s : Span) (rs : List Row) →
    (overlap s (keys_of rs) ≡ false → many_within s rs ≡ 0)
    × (contains_key s (keys_of rs).from ≡ true → contains_key s (keys_of rs).to ≡ true → many_within s rs ≡ length rs)

-- a plan made at version b does to version k what its order does, and its count is right there, if nothing that came between is in conflict with it
abbrev pub PlanCarriesOver : Type 0
PlanCarriesOver =
    (contents : ℕ → List Row) (o : Order) (cs : List TableChange) (b k n : ℕ) (fs : List File) →
    let mine = planned o n b (version cs b) fs in
    let live = version cs k in
    b ≤ k → any_conflict mine (drop b (take k cs)) ≡ false →
    AddedOnce cs → AllKeyed contents cs → Faithful contents (fs ++ (plan o n b (version cs b) fs).new) → all_there (version cs b) fs ≡ true →
    Alike (rows_by contents (after live mine)) (done_to o (rows_by contents live)) × (mine.touched ≡ touched o (rows_by contents live))
