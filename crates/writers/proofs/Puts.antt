-- Who put which entry: each is the order that its writer last began with, and the entries of a writer are numbered in the order of its puts.
use Rattle.std.proofs.Common.{◌≡◌, ℕ, ◌+◌, Bool, true, false, cond, ◌&&◌, eqb, ltb, List, [], ◌∷◌, ◌++◌, map, count_by, sym, refl, ap, ◌∙◌, subst, append_assoc, append-nil, arith}
use Rattle.std.proofs.lemmas.List.{map_push}
use Rattle.std.proofs.lemmas.List.Sums.{sum_by_push}
use Rattle.std.proofs.lemmas.Bool.{ne_eqb}
use Rattle.std.proofs.lemmas.Bool.Decides.{nat_tests}
use Rattle.rows.specs.Orders.{Order}
use Rattle.writers.specs.Model.{Entry, Writer, idle, ready, Table, empty, newest, own_puts, Deed, begin, look, put, stop, read, at_writer, entry_at, begun, step, end}
use Rattle.writers.specs.WriterLaws.{done_by, if_counted, done_at, asked_after, all_done, is_counted, puts_of, puts_told, PutsCanBeFound}
use Rattle.writers.proofs.Logs.{own_push}
use Rattle.writers.proofs.Steps.{look_ways, put_ways}
use Rattle.writers.proofs.Invariant.{all_at}

-- a ready writer's entry bears its name, and how many entries it has put before
abbrev pub Signs : List Entry → ℕ → Writer → Type 0
Signs es w idle = Unit {0}
Signs es w (ready b v e) = (e.writer ≡ w) × (e.serial ≡ own_puts w es)

-- how many entries of a log bear this writer and this number
abbrev pub found : ℕ → ℕ → List Entry → ℕ
found w n es = count_by (λ e. eqb e.writer w && eqb e.serial n) es

-- the entries of each writer bear 0, 1, 2 and so on, each once
pub record Signed (es : List Entry) (ws : ℕ → Writer) : Type 0 where
  pub serials : (w n : ℕ) → found w n es ≡ cond (ltb n (own_puts w es)) 1 0
  pub signs : (w : ℕ) → Signs es w (ws w)

-- another writer in one place
pub signed_at : (es : List Entry) (ws : ℕ → Writer) (w : ℕ) (x : Writer) → Signed es ws → Signs es w x → Signed es (at_writer ws w x)
signed_at es ws w x s p = record { serials = s.serials; signs = all_at (Signs es) ws w x p (λ u d. s.signs u) }

-- a writer that puts its entry
module _ (es : List Entry) (ws : ℕ → Writer) (w b v : ℕ) (e : Entry) (q : ws w ≡ ready b v e) (s : Signed es ws) where
  mine : (e.writer ≡ w) × (e.serial ≡ own_puts w es)
  mine = subst (Signs es w) q (s.signs w)

  put_serials : (u n : ℕ) → found u n (es ++ e ∷ []) ≡ cond (ltb n (own_puts u (es ++ e ∷ []))) 1 0
  put_serials u n =
      let count = sum_by_push (λ x. cond (eqb x.writer u && eqb x.serial n) 1 0) es e in
      let own = own_push es e u in
      let before = s.serials u n in
      let name = mine.0 in
      let serial = mine.1 in
      let same : w ≡ u → own_puts w es ≡ own_puts u es = ap (λ z. own_puts z es) in
      grind (arith, nat_tests)

  put_signs : (u : ℕ) → (w ≡ u → ⊥) → (x : Writer) → Signs es u x → Signs (es ++ e ∷ []) u x
  put_signs u d idle p = tt
  put_signs u d (ready c k f) p =
      let other : eqb e.writer u ≡ false = ne_eqb e.writer u (λ z. d (sym mine.0 ∙ z)) in
      (p.0, omega (arith, p.1, own_push es e u, ap (λ z. cond {A = ℕ} z 1 0) other))

  pub signed_put : Signed (es ++ e ∷ []) (at_writer ws w idle)
  signed_put = record { serials = put_serials; signs = all_at (Signs (es ++ e ∷ [])) ws w idle tt (λ u d. put_signs u d (ws u) (s.signs u)) }

pub step_signed : (h : ℕ) (t : Table) (d : Deed) → Signed t.entries t.writers → Signed (step h t d).entries (step h t d).writers
unfolding step begun
step_signed h t (begin w o) s = signed_at t.entries t.writers w _ s (refl, refl)
step_signed h t (look w) s =
    look_ways h t w (λ u _. Signed u.entries u.writers) s (signed_at t.entries t.writers w idle s tt)
    (λ b v e q k. signed_at t.entries t.writers w (ready b (newest t) e) s (subst (Signs t.entries w) q (s.signs w)))
step_signed h t (put w) s = put_ways h t w (λ u _. Signed u.entries u.writers) s s (λ b e q. signed_put t.entries t.writers w b (newest t) e q s)
step_signed h t (stop w) s = signed_at t.entries t.writers w idle s tt
step_signed h t (read v) s = s

-- each ready writer's entry has the order that it last began with
abbrev pub Asks : Order → Writer → Type 0
Asks o idle = Unit {0}
Asks o (ready b v e) = e.order ≡ o

abbrev pub AllAsk : (ℕ → Order) → (ℕ → Writer) → Type 0
AllAsk asked ws = (w : ℕ) → Asks (asked w) (ws w)

pub asks_at : (asked : ℕ → Order) (ws : ℕ → Writer) (w : ℕ) (x : Writer) → AllAsk asked ws → Asks (asked w) x → AllAsk asked (at_writer ws w x)
asks_at asked ws w x a p = all_at (λ u. Asks (asked u)) ws w x p (λ u d. a u)

pub step_asks : (h : ℕ) (t : Table) (asked : ℕ → Order) (d : Deed) → AllAsk asked t.writers → AllAsk (asked_after asked d) (step h t d).writers
unfolding step begun asked_after
step_asks h t asked (begin w o) a = λ u. go u (eqb w u)
  where
    go : (u : ℕ) (m : Bool) → Asks (cond m o (asked u)) (cond m (ready (newest t) (newest t) (entry_at t w o)) (t.writers u))
    go u true = refl
    go u false = a u
step_asks h t asked (look w) a =
    look_ways h t w (λ u _. AllAsk asked u.writers) a (asks_at asked t.writers w idle a tt)
    (λ b v e q k. asks_at asked t.writers w (ready b (newest t) e) a (subst (Asks (asked w)) q (a w)))
step_asks h t asked (put w) a = put_ways h t w (λ u _. AllAsk asked u.writers) a a (λ b e q. asks_at asked t.writers w idle a tt)
step_asks h t asked (stop w) a = asks_at asked t.writers w idle a tt
step_asks h t asked (read v) a = a

-- the log after one deed: what the deed was told as done stands behind
module _ (h : ℕ) (t : Table) (s : Signed t.entries t.writers) where
  pub step_done : (asked : ℕ → Order) → AllAsk asked t.writers → (d : Deed) → map done_by (step h t d).entries ≡ map done_by t.entries ++ done_at h t asked d
  unfolding step begun done_at
  step_done asked a (begin w o) = sym (append-nil (map done_by t.entries))
  step_done asked a (look w) =
      look_ways h t w (λ u _. map done_by u.entries ≡ map done_by t.entries ++ []) (sym (append-nil _)) (sym (append-nil _)) (λ b v e q k. sym (append-nil _))
  step_done asked a (put w) =
      put_ways h t w (λ u x. map done_by u.entries ≡ map done_by t.entries ++ if_counted x w (asked w)) (sym (append-nil _)) (sym (append-nil _)) puts
    where
      puts : (b : ℕ) (e : Entry) → t.writers w ≡ ready b (newest t) e
          → map done_by (t.entries ++ e ∷ []) ≡ map done_by t.entries ++ record { writer = w; order = asked w; count = e.change.touched } ∷ []
      puts b e q =
          let name : e.writer ≡ w = (subst (Signs t.entries w) q (s.signs w)).0 in
          let order : e.order ≡ asked w = subst (Asks (asked w)) q (a w) in
          map_push done_by t.entries e ∙ (λ i. map done_by t.entries ++ record { writer = name i; order = order i; count = e.change.touched } ∷ [])
  step_done asked a (stop w) = sym (append-nil (map done_by t.entries))
  step_done asked a (read v) = sym (append-nil (map done_by t.entries))

  pub step_puts : (w : ℕ) (d : Deed) → own_puts w (step h t d).entries ≡ own_puts w t.entries + puts_of w h t d
  unfolding step begun
  step_puts w (begin u o) = omega arith
  step_puts w (look u) = look_ways h t u (λ z _. own_puts w z.entries ≡ own_puts w t.entries + 0) (omega arith) (omega arith) (λ b v e q k. omega arith)
  step_puts w (put u) =
      put_ways h t u (λ z x. own_puts w z.entries ≡ own_puts w t.entries + cond (eqb u w && is_counted x) 1 0) (none (eqb u w)) (none (eqb u w)) puts
    where
      none : (m : Bool) → own_puts w t.entries ≡ own_puts w t.entries + cond (m && false) 1 0
      none true = omega arith
      none false = omega arith

      puts : (b : ℕ) (e : Entry) → t.writers u ≡ ready b (newest t) e → own_puts w (t.entries ++ e ∷ []) ≡ own_puts w t.entries + cond (eqb u w && true) 1 0
      puts b e q =
          let name : e.writer ≡ u = (subst (Signs t.entries u) q (s.signs u)).0 in
          let own = own_push t.entries e w in
          grind (arith, nat_tests)
  step_puts w (stop u) = omega arith
  step_puts w (read v) = omega arith

-- whole runs
pub run_signed : (h : ℕ) (t : Table) (ds : List Deed) → Signed t.entries t.writers → Signed (end h t ds).entries (end h t ds).writers
unfolding end
run_signed h t [] s = s
run_signed h t (d ∷ ds) s = run_signed h (step h t d) ds (step_signed h t d s)

pub run_done : (h : ℕ) (t : Table) (asked : ℕ → Order) (ds : List Deed) → Signed t.entries t.writers → AllAsk asked t.writers
    → map done_by (end h t ds).entries ≡ map done_by t.entries ++ all_done h t asked ds
unfolding end all_done
run_done h t asked [] s a = sym (append-nil (map done_by t.entries))
run_done h t asked (d ∷ ds) s a =
    let rest = all_done h (step h t d) (asked_after asked d) ds in
    run_done h (step h t d) (asked_after asked d) ds (step_signed h t d s) (step_asks h t asked d a)
    ∙ ap (λ z. z ++ rest) (step_done h t s asked a d) ∙ append_assoc (map done_by t.entries) (done_at h t asked d) rest

pub run_puts : (h : ℕ) (t : Table) (w : ℕ) (ds : List Deed) → Signed t.entries t.writers → own_puts w (end h t ds).entries ≡ own_puts w t.entries + puts_told w h t ds
unfolding end puts_told
run_puts h t w [] s = omega arith
run_puts h t w (d ∷ ds) s = omega (arith, run_puts h (step h t d) w ds (step_signed h t d s), step_puts h t s w d)

pub signed_empty : Signed [] (λ w. idle)
unfolding own_puts
signed_empty = record { serials = λ w n. grind (arith, nat_tests); signs = λ w. tt }

pub puts_can_be_found : PutsCanBeFound
unfolding own_puts
puts_can_be_found h ds w n =
    let own : own_puts w (end h empty ds).entries ≡ puts_told w h empty ds = omega (arith, run_puts h empty w ds signed_empty) in
    (run_signed h empty ds signed_empty).serials w n ∙ ap (λ m. cond (ltb n m) 1 0) own
