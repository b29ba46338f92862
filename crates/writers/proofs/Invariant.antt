-- What holds of every table that deeds lead to, and that beginning, looking, putting, stopping and reading keep it.
use Rattle.std.proofs.Common.{◌≡◌, ℕ, zero, suc, ◌+◌, ◌<◌, ◌≤◌, Bool, true, false, cond, not, ◌&&◌, eqb, ◌⊎◌, List, [], ◌∷◌, ◌++◌, map, length, take, drop, filter, sym, refl, ap, ◌∙◌, subst, inl, inr, arith}
use Rattle.std.proofs.ByRecursion.{All-append, All-push, All-drop, all_kept_by}
use Rattle.std.proofs.lemmas.List.{length_push, map_push}
use Rattle.std.proofs.lemmas.Bool.{eqb-true, eqb-false, and_parts, or_parts, not-false}
use Rattle.std.proofs.lemmas.Bool.Decides.{nat_tests}
use Rattle.rows.specs.Checks.{any}
use Rattle.rows.specs.declared.row.Row.{Row}
use Rattle.rows.specs.Orders.{Order, insert, touched}
use Rattle.rows.specs.Rows.{Alike}
use Rattle.rows.proofs.Orders.{done_alike, touched_alike}
use Rattle.rows.proofs.Rows.{alike_same, alike_trans}
use Rattle.codec.specs.Files.{File}
use Rattle.versions.specs.Alive.{has, numbers, alive, version}
use Rattle.versions.specs.Conflicts.{any_conflict}
use Rattle.versions.specs.Contents.{there, rows_by}
use Rattle.versions.specs.Kept.{kept}
use Rattle.versions.specs.Plans.{plan, added}
use Rattle.versions.specs.VersionLaws.{Stands, all_added, tally, AddedOnce, Faithful, Keyed, AllKeyed}
use Rattle.versions.proofs.ListLaws.{any_append, any_weaker, any_kept}
use Rattle.versions.proofs.Tallies.{tally_none, tally_cases, tally_has}
use Rattle.versions.proofs.AliveLaws.{live_once}
use Rattle.versions.proofs.ContentLaws.{there_left, Whole, whole_after}
use Rattle.versions.proofs.KeptLaws.{kept_parts, kept_newest, kept_before}
use Rattle.versions.proofs.Fits.{Fits, put_alike, put_touched, fits_over}
use Rattle.versions.proofs.PlanLaws.{listed_keys, Block, block_low, block_high, block_once, Begun, plan_laid, plan_fits}
use Rattle.writers.specs.Model.{Entry, Writer, idle, ready, Table, empty, changes_of, orders_of, newest, files_at, Deed, begin, look, put, stop, read, at_writer, with_writer, plan_at, entry_at, begun, must_begin_anew, with_entry, step}
use Rattle.writers.specs.WriterLaws.{in_turn}
use Rattle.writers.proofs.Steps.{look_ways, put_ways, news}
use Rattle.writers.proofs.Logs.{version_old, turns_old, version_since, version_push, turns_push, added_push, length_cases, stands_cases}

-- whether a file of this number is there whose writer began at this version
unfoldable pub there_since : ℕ → ℕ → List File → Bool
there_since n b fs = any (λ f. eqb n f.number && eqb b f.began) fs

module _ (n b : ℕ) where
  pub since_there : (fs : List File) → there_since n b fs ≡ true → there n fs ≡ true
  unfolding there_since there
  since_there fs h = any_weaker (λ f. eqb n f.number && eqb b f.began) (λ f. eqb n f.number) fs (λ f e. (and_parts _ _ e).0) h

  pub since_left : (fs gs : List File) → there_since n b fs ≡ true → there_since n b (fs ++ gs) ≡ true
  unfolding there_since
  since_left fs gs h = let e = any_append (λ f. eqb n f.number && eqb b f.began) fs gs in grind (arith, nat_tests)

  pub since_right : (fs gs : List File) → there_since n b gs ≡ true → there_since n b (fs ++ gs) ≡ true
  unfolding there_since
  since_right fs gs h = let e = any_append (λ f. eqb n f.number && eqb b f.began) fs gs in grind (arith, nat_tests)

  pub since_new : (fs : List File) → Begun b fs → 1 ≤ tally n (numbers (map added fs)) → there_since n b fs ≡ true
  unfolding there_since
  since_new [] p h = absurd (omega (arith, tally_none n))
  since_new (f ∷ fs) p h =
      let ih : 1 ≤ tally n (numbers (map added fs)) → there_since n b fs ≡ true = since_new fs p.1 in
      let cases = tally_cases n f.number (numbers (map added fs)) h in
      let here = p.0 in
      grind (arith, nat_tests)

-- a log whose every version, kept or not, holds its orders done one after the other, with the counts of their turns
pub record Log (contents : ℕ → List Row) (es : List Entry) : Type 0 where
  pub keyed : AllKeyed contents (changes_of es)
  pub turns : (k : ℕ) → k ≤ length es → Alike (rows_by contents (version (changes_of es) k)) (in_turn (take k (orders_of es)) [])
  pub counts : (k : ℕ) (e : Entry) → Stands es k e → e.change.touched ≡ touched e.order (in_turn (take k (orders_of es)) [])
  pub once : AddedOnce (changes_of es)

-- a writer that began at version b and looked up to version v may put its entry there, and its new files are there as long as version b is kept
pub record Ready (contents : ℕ → List Row) (h : ℕ) (fs : List File) (es : List Entry) (next b v : ℕ) (e : Entry) : Type 0 where
  pub upto : v ≤ length es
  pub young : kept h v b ≡ true
  pub fits : Fits contents (version (changes_of es) v) e.order e.change
  pub free : (rs : List Row) → e.order ≡ insert rs → e.change.takes ≡ []
  pub keyed : Keyed contents e.change.adds
  pub fresh : (n : ℕ) → tally n (numbers e.change.adds) + tally n (all_added (changes_of es)) ≤ 1
  pub below : (n : ℕ) → next ≤ n → tally n (numbers e.change.adds) ≡ 0
  pub held : kept h (length es) b ≡ true → (n : ℕ) → 1 ≤ tally n (numbers e.change.adds) → there_since n b fs ≡ true

abbrev pub Sound : (ℕ → List Row) → ℕ → List File → List Entry → ℕ → Writer → Type 0
Sound contents h fs es next idle = Unit {0}
Sound contents h fs es next (ready b v e) = Ready contents h fs es next b v e

-- no two writers add a file of the same number
abbrev pub adds_of : Writer → List ℕ
adds_of idle = []
adds_of (ready b v e) = numbers e.change.adds

abbrev pub Apart : (ℕ → Writer) → Type 0
Apart ws = (w u : ℕ) → (w ≡ u → ⊥) → (n : ℕ) → tally n (adds_of (ws w)) + tally n (adds_of (ws u)) ≤ 1

-- THE INVARIANT, where contents gives each file number its rows for good
pub record Inv (contents : ℕ → List Row) (h : ℕ) (t : Table) : Type 0 where
  pub faithful : Faithful contents t.files
  pub log : Log contents t.entries
  pub below : (n : ℕ) → t.next ≤ n → tally n (all_added (changes_of t.entries)) ≡ 0
  pub whole : (v : ℕ) → kept h (newest t) v ≡ true → Whole (files_at t v) t.files
  pub sound : (w : ℕ) → Sound contents h t.files t.entries t.next (t.writers w)
  pub apart : Apart t.writers

-- the numbers that a writer adds
module _ (contents : ℕ → List Row) (h : ℕ) (fs : List File) (es : List Entry) (next : ℕ) where
  pub adds_fresh : (x : Writer) (n : ℕ) → tally n (all_added (changes_of es)) ≤ 1 → Sound contents h fs es next x → tally n (adds_of x) + tally n (all_added (changes_of es)) ≤ 1
  adds_fresh idle n o s = omega (arith, tally_none n)
  adds_fresh (ready b v e) n o s = s.fresh n

  pub adds_below : (x : Writer) (n : ℕ) → next ≤ n → Sound contents h fs es next x → tally n (adds_of x) ≡ 0
  adds_below idle n o s = tally_none n
  adds_below (ready b v e) n o s = s.below n o

-- another writer in one place
pub apart_at : (ws : ℕ → Writer) (w : ℕ) (x : Writer) → Apart ws → ((u : ℕ) → (w ≡ u → ⊥) → (n : ℕ) → tally n (adds_of x) + tally n (adds_of (ws u)) ≤ 1) → Apart (at_writer ws w x)
apart_at ws w x a b i j d n = go (eqb w i) (eqb w j) refl refl
  where
    go : (p q : Bool) → eqb w i ≡ p → eqb w j ≡ q → tally n (adds_of (cond p x (ws i))) + tally n (adds_of (cond q x (ws j))) ≤ 1
    go true true e f = absurd (d (sym (eqb-true w i e) ∙ eqb-true w j f))
    go true false e f = b j (eqb-false w j f) n
    go false true e f = omega (arith, b i (eqb-false w i e) n)
    go false false e f = a i j d n

pub all_at : (P : ℕ → Writer → Type 0) (ws : ℕ → Writer) (w : ℕ) (x : Writer) → P w x → ((u : ℕ) → (w ≡ u → ⊥) → P u (ws u)) → (u : ℕ) → P u (at_writer ws w x u)
all_at P ws w x p q u = go (eqb w u) refl
  where
    go : (t : Bool) → eqb w u ≡ t → P u (cond t x (ws u))
    go true e = subst (λ k. P k x) (eqb-true w u e) p
    go false e = q u (eqb-false w u e)

module _ (contents : ℕ → List Row) (h : ℕ) (t : Table) (i : Inv contents h t) where
  -- what holds of a ready writer, and that it adds no file that another one adds
  pub ready_sound : (w b v : ℕ) (e : Entry) → t.writers w ≡ ready b v e → Ready contents h t.files t.entries t.next b v e
  ready_sound w b v e q = subst (Sound contents h t.files t.entries t.next) q (i.sound w)

  pub ready_apart : (w b v : ℕ) (e : Entry) → t.writers w ≡ ready b v e
      → (u : ℕ) → (w ≡ u → ⊥) → (n : ℕ) → tally n (numbers e.change.adds) + tally n (adds_of (t.writers u)) ≤ 1
  ready_apart w b v e q u d n = subst (λ z. tally n (adds_of z) + tally n (adds_of (t.writers u)) ≤ 1) q (i.apart w u d n)

  pub idle_apart : (u n : ℕ) → tally n [] + tally n (adds_of (t.writers u)) ≤ 1
  idle_apart u n = omega (arith, tally_none n, adds_fresh contents h t.files t.entries t.next (t.writers u) n (i.log.once n) (i.sound u))

  pub inv_writer : (w : ℕ) (x : Writer) → Sound contents h t.files t.entries t.next x
      → ((u : ℕ) → (w ≡ u → ⊥) → (n : ℕ) → tally n (adds_of x) + tally n (adds_of (t.writers u)) ≤ 1) → Inv contents h (with_writer t w x)
  inv_writer w x p q = record {
    faithful = i.faithful;
    log = i.log;
    below = i.below;
    whole = i.whole;
    sound = all_at (λ u. Sound contents h t.files t.entries t.next) t.writers w x p (λ u d. i.sound u);
    apart = apart_at t.writers w x i.apart q;
  }

  pub inv_stop : (w : ℕ) → Inv contents h (with_writer t w idle)
  inv_stop w = inv_writer w idle tt (λ u d. idle_apart u)

  -- other files, and higher numbers for the next ones, where what is needed is still there
  pub inv_files : (gs : List File) (m : ℕ) → t.next ≤ m → Faithful contents gs
      → ((v n : ℕ) → kept h (newest t) v ≡ true → 1 ≤ tally n (files_at t v) → there n t.files ≡ true → there n gs ≡ true)
      → ((b n : ℕ) → kept h (newest t) b ≡ true → there_since n b t.files ≡ true → there_since n b gs ≡ true)
      → Inv contents h (record { files = gs; entries = t.entries; writers = t.writers; next = m })
  inv_files gs m more f old young = record {
    faithful = f;
    log = i.log;
    below = λ n l. i.below n (omega arith);
    whole = λ v k n l. old v n k l (i.whole v k n l);
    sound = λ w. go (t.writers w) (i.sound w);
    apart = i.apart;
  }
    where
      go : (x : Writer) → Sound contents h t.files t.entries t.next x → Sound contents h gs t.entries m x
      go idle s = tt
      go (ready b v e) s = record {
        upto = s.upto;
        young = s.young;
        fits = s.fits;
        free = s.free;
        keyed = s.keyed;
        fresh = s.fresh;
        below = λ n l. s.below n (omega arith);
        held = λ k n l. young b n k (s.held k n l);
      }

  -- fewer files, where every file is left that a kept version has, and every one whose writer began at a kept version
  pub inv_fewer : (test : File → Bool) → ((v : ℕ) (f : File) → kept h (newest t) v ≡ true → has (files_at t v) f.number ≡ true → test f ≡ true)
      → ((f : File) → kept h (newest t) f.began ≡ true → test f ≡ true)
      → Inv contents h (record { files = filter test t.files; entries = t.entries; writers = t.writers; next = t.next })
  unfolding there there_since
  inv_fewer test old young =
      inv_files (filter test t.files) t.next (omega arith) (all_kept_by test _ t.files i.faithful)
      (λ v n k l. any_kept (λ f. eqb n f.number) test t.files
      (λ f e. old v f k (tally_has (files_at t v) f.number (subst (λ z. 1 ≤ tally z (files_at t v)) (eqb-true n f.number e) l))))
      (λ b n k. any_kept (λ f. eqb n f.number && eqb b f.began) test t.files
      (λ f e. young f (subst (λ z. kept h (newest t) z ≡ true) (eqb-true b f.began (and_parts _ _ e).1) k)))

  -- a writer that looks
  pub inv_look : (w : ℕ) → Inv contents h (step h t (look w))
  inv_look w = look_ways h t w (λ u _. Inv contents h u) i (inv_stop w) goes
    where
      goes : (b v : ℕ) (e : Entry) → t.writers w ≡ ready b v e → must_begin_anew h t b v e ≡ false → Inv contents h (with_writer t w (ready b (newest t) e))
      goes b v e q k =
          let r = ready_sound w b v e q in
          let p = or_parts (not (kept h (newest t) b)) (any_conflict e.change (drop v (changes_of t.entries))) k in
          inv_writer w (ready b (newest t) e)
          (record {
            upto = omega arith;
            young = not-false _ p.0;
            fits = subst (λ z. Fits contents z e.order e.change) (sym (version_since t.entries v))
                (fits_over contents (files_at t v) e.order e.change (drop v (changes_of t.entries)) (All-drop _ v (changes_of t.entries) i.log.keyed) p.1 r.fits);
            free = r.free;
            keyed = r.keyed;
            fresh = r.fresh;
            below = r.below;
            held = r.held;
          })
          (ready_apart w b v e q)

-- a log with one entry more that fits at its newest version
pub log_push : (contents : ℕ → List Row) (es : List Entry) (e : Entry) → Log contents es → Fits contents (version (changes_of es) (length es)) e.order e.change → Keyed contents e.change.adds
    → ((n : ℕ) → tally n (numbers e.change.adds) + tally n (all_added (changes_of es)) ≤ 1) → Log contents (es ++ e ∷ [])
log_push contents es e l f keys fresh = record {
  keyed = subst (AllKeyed contents) (sym (map_push (λ x. x.change) es e)) (All-push _ (changes_of es) e.change l.keyed keys);
  turns = λ k h. turn k (length_cases es e k h);
  counts = λ k d s. count k d (stands_cases es e k d s);
  once = λ n. omega (arith, added_push es e n, fresh n);
}
  where
    live : List ℕ
    live = version (changes_of es) (length es)

    before : Alike (rows_by contents live) (in_turn (take (length es) (orders_of es)) [])
    before = l.turns (length es) (omega arith)

    distinct : (n : ℕ) → tally n live ≤ 1
    distinct n = live_once (changes_of es) (length es) n (l.once n)

    turn : (k : ℕ) → (k ≤ length es) ⊎ (k ≡ length es + 1) → Alike (rows_by contents (version (changes_of (es ++ e ∷ [])) k)) (in_turn (take k (orders_of (es ++ e ∷ []))) [])
    turn k (inl p) =
        alike_trans _ _ _ (alike_same _ _ (ap (rows_by contents) (version_old es (e ∷ []) k p)))
        (alike_trans _ _ _ (l.turns k p) (alike_same _ _ (sym (turns_old es (e ∷ []) k p))))
    turn k (inr p) =
        subst (λ z. Alike (rows_by contents (version (changes_of (es ++ e ∷ [])) z)) (in_turn (take z (orders_of (es ++ e ∷ []))) [])) (sym p)
        (alike_trans _ _ _ (alike_same _ _ (ap (rows_by contents) (version_push es e)))
        (alike_trans _ _ _ (put_alike contents live e.order e.change distinct f)
        (alike_trans _ _ _ (done_alike e.order _ _ before) (alike_same _ _ (sym (turns_push es e))))))

    count : (k : ℕ) (d : Entry) → Stands es k d ⊎ ((k ≡ length es) × (e ≡ d)) → d.change.touched ≡ touched d.order (in_turn (take k (orders_of (es ++ e ∷ []))) [])
    count k d (inl s) = l.counts k d s ∙ ap (touched d.order) (sym (turns_old es (e ∷ []) k (omega (arith, s.0))))
    count k d (inr (p, q)) =
        subst (λ z. z.change.touched ≡ touched z.order (in_turn (take k (orders_of (es ++ e ∷ []))) [])) q
        (put_touched contents live e.order e.change distinct f ∙ touched_alike e.order _ _ before
        ∙ ap (touched e.order) (sym (turns_old es (e ∷ []) (length es) (omega arith)) ∙ ap (λ z. in_turn (take z (orders_of (es ++ e ∷ []))) []) (sym p)))

-- a writer that has looked up to the newest version puts its entry
module _ (contents : ℕ → List Row) (h : ℕ) (t : Table) (w b : ℕ) (e : Entry) (i : Inv contents h t) (q : t.writers w ≡ ready b (newest t) e) where
  mine : Ready contents h t.files t.entries t.next b (newest t) e
  mine = ready_sound contents h t i w b (newest t) e q

  put_whole : (v : ℕ) → (v ≤ newest t) ⊎ (v ≡ newest t + 1) → kept h (length (t.entries ++ e ∷ [])) v ≡ true → Whole (version (changes_of (t.entries ++ e ∷ [])) v) t.files
  put_whole v (inl p) k =
      subst (λ z. Whole z t.files) (sym (version_old t.entries (e ∷ []) v p))
      (i.whole v (kept_before h (newest t) (length (t.entries ++ e ∷ [])) v p (omega (arith, length_push t.entries e)) k))
  put_whole v (inr p) k =
      subst (λ z. Whole z t.files) (sym (ap (version (changes_of (t.entries ++ e ∷ []))) p ∙ version_push t.entries e))
      (whole_after (files_at t (newest t)) e.change t.files (i.whole (newest t) (kept_newest h (newest t))) (λ n l. since_there n b t.files (mine.held mine.young n l)))

  put_sound : (x : Writer) → Sound contents h t.files t.entries t.next x → ((n : ℕ) → tally n (numbers e.change.adds) + tally n (adds_of x) ≤ 1)
      → Sound contents h t.files (t.entries ++ e ∷ []) t.next x
  put_sound idle s a = tt
  put_sound (ready c v f) s a = record {
    upto = omega (arith, s.upto, length_push t.entries e);
    young = s.young;
    fits = subst (λ z. Fits contents z f.order f.change) (sym (version_old t.entries (e ∷ []) v s.upto)) s.fits;
    free = s.free;
    keyed = s.keyed;
    fresh = λ n. omega (arith, added_push t.entries e n, s.fresh n, a n, mine.fresh n);
    below = s.below;
    held = λ k. s.held
        (kept_before h (newest t) (length (t.entries ++ e ∷ [])) c (omega (arith, (kept_parts h v c s.young).0, s.upto)) (omega (arith, length_push t.entries e)) k);
  }

  pub inv_entry : Inv contents h (with_entry t w e)
  inv_entry = record {
    faithful = i.faithful;
    log = log_push contents t.entries e i.log mine.fits mine.keyed mine.fresh;
    below = λ n l. omega (arith, added_push t.entries e n, mine.below n l, i.below n l);
    whole = λ v k. put_whole v (length_cases t.entries e v (kept_parts h (length (t.entries ++ e ∷ [])) v k).0) k;
    sound = all_at (λ u. Sound contents h t.files (t.entries ++ e ∷ []) t.next) t.writers w idle tt
        (λ u d. put_sound (t.writers u) (i.sound u) (ready_apart contents h t i w b (newest t) e q u d));
    apart = apart_at t.writers w idle i.apart (λ u d. idle_apart contents h t i u);
  }

pub inv_put : (contents : ℕ → List Row) (h : ℕ) (t : Table) (w : ℕ) → Inv contents h t → Inv contents h (step h t (put w))
inv_put contents h t w i = put_ways h t w (λ u _. Inv contents h u) i i (λ b e q. inv_entry contents h t w b e i q)

-- an insert takes nothing
pub insert_takes_none : (o : Order) (n v : ℕ) (live : List ℕ) (fs : List File) (rs : List Row) → o ≡ insert rs → (plan o n v live fs).takes ≡ []
unfolding plan
insert_takes_none o n v live fs rs e = ap (λ z. (plan z n v live fs).takes) e

-- a writer that begins
pub inv_begin : (contents : ℕ → List Row) (h : ℕ) (t : Table) (w : ℕ) (o : Order) → Inv contents h t → Faithful contents (plan_at t o).new → Inv contents h (begun t w o)
unfolding begun
inv_begin contents h t w o i f = inv_writer contents h more filed w (ready v v e) mine apart
  where
    v : ℕ
    v = newest t

    e : Entry
    e = entry_at t w o

    new : List File
    new = (plan_at t o).new

    more : Table
    more = record { files = t.files ++ new; entries = t.entries; writers = t.writers; next = t.next + length new }

    block : Block t.next new
    block = (plan_laid o t.next v (files_at t v) t.files).block

    filed : Inv contents h more
    filed = inv_files contents h t i (t.files ++ new) (t.next + length new) (omega arith) (All-append _ t.files new i.faithful f)
        (λ k n _ _. there_left n t.files new) (λ b n _. since_left n b t.files new)

    mine : Ready contents h (t.files ++ new) t.entries (t.next + length new) v v e
    mine = record {
      upto = omega arith;
      young = kept_newest h v;
      fits = plan_fits contents o t.next v (files_at t v) t.files i.faithful (i.whole v (kept_newest h v)) (λ n. live_once (changes_of t.entries) v n (i.log.once n)) f;
      free = insert_takes_none o t.next v (files_at t v) t.files;
      keyed = listed_keys contents new f;
      fresh = fresh;
      below = λ n l. block_high t.next new n block l;
      held = λ _ n l. since_right n v t.files new (since_new n v new (plan_laid o t.next v (files_at t v) t.files).begun l);
    }
      where
        fresh : (n : ℕ) → tally n (numbers (map added new)) + tally n (all_added (changes_of t.entries)) ≤ 1
        fresh n =
            let low : n < t.next → tally n (numbers (map added new)) ≡ 0 = block_low t.next new n block in
            let high : t.next ≤ n → tally n (all_added (changes_of t.entries)) ≡ 0 = i.below n in
            let one = i.log.once n in
            let mine = block_once t.next new n block in
            grind (arith, nat_tests)

    apart : (u : ℕ) → (w ≡ u → ⊥) → (n : ℕ) → tally n (numbers (map added new)) + tally n (adds_of (t.writers u)) ≤ 1
    apart u d n =
        let low : n < t.next → tally n (numbers (map added new)) ≡ 0 = block_low t.next new n block in
        let high : t.next ≤ n → tally n (adds_of (t.writers u)) ≡ 0 = λ l. adds_below contents h t.files t.entries t.next (t.writers u) n l (i.sound u) in
        let one = adds_fresh contents h t.files t.entries t.next (t.writers u) n (i.log.once n) (i.sound u) in
        let mine = block_once t.next new n block in
        grind (arith, nat_tests)

pub inv_step : (contents : ℕ → List Row) (h : ℕ) (t : Table) (d : Deed) → Inv contents h t → Faithful contents (news t d) → Inv contents h (step h t d)
unfolding step
inv_step contents h t (begin w o) i f = inv_begin contents h t w o i f
inv_step contents h t (look w) i f = inv_look contents h t i w
inv_step contents h t (put w) i f = inv_put contents h t w i
inv_step contents h t (stop w) i f = inv_stop contents h t i w
inv_step contents h t (read v) i f = i

-- the empty table
none_live : (n k : ℕ) → tally n (version [] k) ≡ 0
unfolding version alive
none_live n zero = tally_none n
none_live n (suc k) = tally_none n

none_in_turn : (contents : ℕ → List Row) (k : ℕ) → rows_by contents (version [] k) ≡ in_turn (take k []) []
unfolding version alive in_turn
none_in_turn contents zero = refl
none_in_turn contents (suc k) = refl

pub inv_empty : (contents : ℕ → List Row) (h : ℕ) → Inv contents h empty
inv_empty contents h = record {
  faithful = tt;
  log = record { keyed = tt; turns = λ k _. alike_same _ _ (none_in_turn contents k); counts = λ k e s. absurd (omega (arith, s.0)); once = λ n. omega (arith, tally_none n) };
  below = λ n _. tally_none n;
  whole = λ v _ n l. absurd (omega (arith, none_live n v));
  sound = λ w. tt;
  apart = λ w u d n. omega (arith, tally_none n);
}
