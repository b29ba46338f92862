-- What writing an entry leaves.
use Rattle.std.proofs.Common.{◌≡◌, ℕ, ◌+◌, ◌*◌, ◌%◌, ◌^◌, ◌<◌, ◌≤◌, Bool, true, false, cond, ltb, List, [], ◌∷◌, ◌++◌, length, get_or, take, drop, Some, None, sum, Option, sym, refl, ap, ◌∙◌, arith}
use Rattle.std.proofs.lemmas.List.{append_assoc, length-append, length-take-le, take_at, take_more}
use Rattle.std.proofs.lemmas.Bool.{and_from, and_left, and_right, and_parts, cond-true, cond-false, le-ltb, lt-ltb, ltb-true}
use Rattle.std.proofs.lemmas.Bool.Decides.{nat_tests}
use Rattle.codec.specs.declared.action.Action.{Action}
use Rattle.codec.specs.declared.action.Action.TheVariants.{Insert, Erase, Raise, Pack}
use Rattle.codec.specs.declared.entry.Added.{Added}
use Rattle.codec.specs.declared.entry.Front.{Front}
use Rattle.codec.specs.Bounds.{is_key, is_word, every}
use Rattle.codec.specs.Actions.{action_words, action_fits}
use Rattle.codec.specs.Words.{words_of, put_at, bytes_of}
use Rattle.codec.specs.Seals.{written}
use Rattle.codec.specs.Entries.{LogEntry, added_fits, files_fit, count_with, files_writable, entry_fits, added_words, change_head, entry_head, entry_words, entry_bytes, writable, front_of, entry_written, entry_in}
use Rattle.codec.proofs.WordLaws.{put_on}
use Rattle.codec.proofs.SealLaws.{cond_some, length_sealed_bytes, seal_done, written_done, written_not, written_some}
use Rattle.codec.proofs.EntryFiles.{length_added_words, added_words_append}
use Rattle.codec.proofs.EntryLaws.{entry_fits_words, come_back}

-- how long an entry is
length_action_words : (o : Action) → length (action_words o) ≡ 4
length_action_words Insert = refl
length_action_words (Erase s) = refl
length_action_words (Raise s n) = refl
length_action_words (Pack m) = refl

length_entry_head : (e : LogEntry) → length (entry_head e) ≡ 10
length_entry_head e =
    let o = e.change.action in
    omega (arith, length-append (action_words o) (e.change.touched ∷ length e.change.adds ∷ length e.change.takes ∷ []), length_action_words o)

length_entry_words : (e : LogEntry) → length (entry_words e) ≡ count_with e.change.adds e.change.takes
length_entry_words e =
    let c = e.change in
    let files = added_words c.adds ++ c.takes in
    omega (arith, length_entry_head e, length-append (change_head c) files, length-append (added_words c.adds) c.takes, length_added_words c.adds)

pub length_entry_bytes : (e : LogEntry) → length (entry_bytes e) ≡ 8 * (count_with e.change.adds e.change.takes + 1)
unfolding entry_bytes
length_entry_bytes e = length_sealed_bytes (entry_words e) ∙ omega (arith, length_entry_words e)

-- whether files can be written, by the code's tests
module _ (adds : List Added) (takes : List ℕ) where
  pub files_counted : (r : Option ℕ) → every added_fits adds ≡ true → every is_key takes ≡ true → r ≡ cond (is_word (8 * (count_with adds takes + 1))) (Some (count_with adds takes)) None → r ≡ cond (files_writable adds takes) (Some (count_with adds takes)) None
  files_counted r ha ht e = grind (arith, nat_tests)

  pub files_some : (n : ℕ) → Some n ≡ cond (files_writable adds takes) (Some (count_with adds takes)) None → (files_writable adds takes ≡ true) × (n ≡ count_with adds takes)
  files_some n e = let p = cond_some (files_writable adds takes) (count_with adds takes) n (sym e) in (p.0, sym p.1)

  pub files_none : None ≡ cond (files_writable adds takes) (Some (count_with adds takes)) None → files_writable adds takes ≡ false
  files_none e = go (files_writable adds takes) e
    where
      go : (b : Bool) → None ≡ cond b (Some (count_with adds takes)) None → b ≡ false
      go true f = absurd (let z : ◌≡◌ {A = ℕ} 0 1 = cc in omega arith)
      go false f = refl

-- whether an entry can be written
module _ (e : LogEntry) where
  pub writer_unfit : 16 ≤ e.writer → None ≡ front_of e
  unfolding writable
  writer_unfit h = sym (cond-false _ _ _ (and_left (entry_fits e) _ (and_right (is_word e.place) _ (and_left (ltb e.writer 16) _ (le-ltb e.writer 16 h)))))

  pub files_unfit : (adds : List Added) (takes : List ℕ) → adds ≡ e.change.adds → takes ≡ e.change.takes → files_writable adds takes ≡ false → None ≡ front_of e
  unfolding writable
  files_unfit adds takes ea et h =
      let f : files_writable e.change.adds e.change.takes ≡ false = sym (ap (λ l. files_writable l takes) ea ∙ ap (files_writable e.change.adds) et) ∙ h in
      sym (cond-false (writable e) _ _ (grind (arith, nat_tests, length_entry_bytes e)))

  pub front_done : (adds : List Added) (takes h : List ℕ) (n a t : ℕ) → adds ≡ e.change.adds → takes ≡ e.change.takes → Some n ≡ cond (files_writable adds takes) (Some (count_with adds takes)) None
      → e.place < 2 ^ 64 → e.writer < 16 → e.serial < 2 ^ 64 → action_fits e.change.action ≡ true → e.change.touched < 2 ^ 64
      → h ≡ e.place ∷ e.writer ∷ e.serial ∷ (action_words e.change.action ++ e.change.touched ∷ a ∷ t ∷ []) → a ≡ length e.change.adds → t ≡ length e.change.takes
      → Some (record { head = h; count = n }) ≡ front_of e
  unfolding writable
  front_done adds takes h n a t ea et f hp hw hs ha ht eh na nt =
      let g : Some n ≡ cond (files_writable e.change.adds e.change.takes) (Some (count_with e.change.adds e.change.takes)) None =
      f ∙ ap (λ l. cond (files_writable l takes) (Some (count_with l takes)) None) ea ∙ ap (λ l. cond (files_writable e.change.adds l) (Some (count_with e.change.adds l)) None) et in
      let p = files_some e.change.adds e.change.takes n g in
      let q = and_parts (files_fit e.change.adds e.change.takes) _ p.0 in
      let w : writable e ≡ true =
      and_from _ _ (and_from _ _ (lt-ltb e.place (2 ^ 64) hp) (and_from _ _ (lt-ltb e.writer 16 hw) (and_from _ _ (lt-ltb e.serial (2 ^ 64) hs) (and_from _ _ ha (and_from _ _ (lt-ltb e.change.touched (2 ^ 64) ht) q.0)))))
      (ap is_word (length_entry_bytes e) ∙ q.1) in
      let m : n ≡ length (entry_words e) = p.1 ∙ sym (length_entry_words e) in
      let k : h ≡ entry_head e = eh ∙ cc in
      ap Some (λ i. record { head = k i; count = m i }) ∙ sym (cond-true (writable e) _ _ w)

-- what is known of the front of an entry that can be written
pub record Written (e : LogEntry) (f : Front) : Type 0 where
  pub can : writable e ≡ true
  pub count : f.count ≡ count_with e.change.adds e.change.takes
  pub bytes : 8 * (f.count + 1) ≡ length (entry_bytes e)
  pub fits : 8 * (f.count + 1) < 2 ^ 64
  pub head : f.head ≡ entry_head e

pub front_is : (e : LogEntry) (f : Front) → Some f ≡ front_of e → Written e f
unfolding writable
front_is e f h =
    let p = cond_some (writable e) (record { head = entry_head e; count = length (entry_words e) }) f (sym h) in
    let q = and_parts (entry_fits e) _ p.0 in
    let m : f.count ≡ length (entry_words e) = ap (λ (x : Front). x.count) (sym p.1) in
    let k : f.count ≡ count_with e.change.adds e.change.takes = m ∙ length_entry_words e in
    let b = length_entry_bytes e in
    record {
      can = p.0;
      count = k;
      bytes = omega arith;
      fits = omega (arith, ltb-true (length (entry_bytes e)) (2 ^ 64) q.1);
      head = ap (λ (x : Front). x.head) (sym p.1);
    }

-- files written one by one
pub put_add : (adds : List Added) (k i : ℕ) (d : Added) (xs cur cur' : List ℕ) → i < length adds → 8 * k ≤ length xs → cur ≡ put_at (8 * k) (bytes_of (added_words (take i adds))) xs
    → cur' ≡ put_at (8 * (k + 3 * i)) (bytes_of (added_words (get_or adds i d ∷ []))) cur → cur' ≡ put_at (8 * k) (bytes_of (added_words (take (i + 1) adds))) xs
put_add adds k i d xs cur cur' h room e f =
    let n : length (added_words (take i adds)) ≡ 3 * i = length_added_words (take i adds) ∙ ap (λ k. 3 * k) (length-take-le i adds (omega arith)) in
    put_on (8 * k) (8 * (k + 3 * i)) xs cur cur' (added_words (take i adds)) (added_words (get_or adds i d ∷ [])) (omega (arith, n)) room e f
    ∙ ap (λ l. put_at (8 * k) (bytes_of l) xs) (sym (ap added_words (take_more adds i d h) ∙ added_words_append (take i adds) (get_or adds i d ∷ [])))

pub put_take : (takes : List ℕ) (k i : ℕ) (xs cur cur' : List ℕ) → i < length takes → 8 * k ≤ length xs → cur ≡ put_at (8 * k) (bytes_of (take i takes)) xs
    → cur' ≡ put_at (8 * (k + i)) (bytes_of (get_or takes i 0 ∷ [])) cur → cur' ≡ put_at (8 * k) (bytes_of (take (i + 1) takes)) xs
put_take takes k i xs cur cur' h room e f =
    put_on (8 * k) (8 * (k + i)) xs cur cur' (take i takes) (get_or takes i 0 ∷ []) (omega (arith, length-take-le i takes (omega arith))) room e f
    ∙ ap (λ l. put_at (8 * k) (bytes_of l) xs) (sym (take_more takes i 0 h))

-- the whole entry
module _ (e : LogEntry) (f : Front) (front : Written e f) where
  pub length_done : Some (8 * (f.count + 1)) ≡ cond (writable e) (Some (length (entry_bytes e))) None
  length_done = ap Some front.bytes ∙ sym (cond-true (writable e) _ _ front.can)

  pub no_room : (xs : List ℕ) → length xs < 8 * (f.count + 1) → ◌≡◌ {A = Option ℕ × List ℕ} (None, xs) (entry_written e xs)
  no_room xs room = written_not (entry_bytes e) xs (omega (arith, front.bytes)) ∙ sym (cond-true (writable e) _ _ front.can)

  pub entry_done : (a : ℕ) (xs one two three four takes : List ℕ) (adds : List Added) → a ≡ length e.change.adds → adds ≡ e.change.adds → takes ≡ e.change.takes → 8 * (f.count + 1) ≤ length xs
      → one ≡ put_at (8 * 0) (bytes_of f.head) xs
      → two ≡ put_at (8 * 10) (bytes_of (added_words adds)) one
      → three ≡ put_at (8 * (10 + 3 * a)) (bytes_of takes) two
      → four ≡ put_at (8 * f.count) (bytes_of ((sum (take f.count (words_of three)) % 2 ^ 64) ∷ [])) three
      → ◌≡◌ {A = Option ℕ × List ℕ} (Some (8 * (f.count + 1)), four) (entry_written e xs)
  unfolding entry_bytes writable
  entry_done a xs one two three four takes adds na ea et room e1 e2 e3 e4 =
      let c = e.change in
      let A = added_words e.change.adds in
      let H = entry_head e in
      let la : length (added_words e.change.adds) ≡ 3 * a = length_added_words c.adds ∙ ap (λ k. 3 * k) (sym na) in
      let lh : length (entry_head e) ≡ 10 = length_entry_head e in
      let lb : 8 * (f.count + 1) ≡ length (entry_bytes e) = front.bytes in
      let count = front.count in
      let g1 : one ≡ put_at 0 (bytes_of H) xs = e1 ∙ ap (λ l. put_at 0 (bytes_of l) xs) front.head in
      let g2 : two ≡ put_at 0 (bytes_of (H ++ A)) xs = put_on 0 80 xs one two H A (omega arith) (omega arith) g1 (e2 ∙ ap (λ l. put_at 80 (bytes_of (added_words l)) one) ea) in
      let lha : length (entry_head e ++ added_words e.change.adds) ≡ 10 + 3 * a = length-append H A ∙ omega arith in
      let g3 : three ≡ put_at 0 (bytes_of ((H ++ A) ++ c.takes)) xs =
      put_on 0 (8 * (10 + 3 * a)) xs two three (H ++ A) c.takes (omega arith) (omega arith) g2 (e3 ∙ ap (λ l. put_at (8 * (10 + 3 * a)) (bytes_of l) two) et) in
      let g4 : three ≡ put_at 0 (bytes_of (entry_words e)) xs = g3 ∙ ap (λ l. put_at 0 (bytes_of l) xs) (append_assoc H A c.takes) in
      let fit = and_parts (entry_fits e) _ front.can in
      let g5 = seal_done (entry_words e) xs three four f.count (count ∙ sym (length_entry_words e)) (omega arith) (entry_fits_words e fit.0) g4 e4 in
      written_done (entry_bytes e) xs four (8 * (f.count + 1)) (omega arith) lb g5 ∙ sym (cond-true (writable e) _ _ front.can)

-- an entry that was written was in its bounds, and reads again
pub entry_read_back : (e : LogEntry) (xs cur : List ℕ) (n : ℕ) → ◌≡◌ {A = Option ℕ × List ℕ} (Some n, cur) (entry_written e xs)
    → (entry_fits e ≡ true) × (n ≡ length (entry_bytes e)) × (cur ≡ entry_bytes e ++ drop (length (entry_bytes e)) xs) × (entry_in (take n cur) ≡ Some e)
unfolding writable
entry_read_back e xs cur n f = go (writable e) refl f
  where
    go : (b : Bool) → writable e ≡ b → ◌≡◌ {A = Option ℕ × List ℕ} (Some n, cur) (cond b (written (entry_bytes e) xs) (None, xs))
        → (entry_fits e ≡ true) × (n ≡ length (entry_bytes e)) × (cur ≡ entry_bytes e ++ drop (length (entry_bytes e)) xs) × (entry_in (take n cur) ≡ Some e)
    go true w g =
        let p = and_parts (entry_fits e) _ w in
        let q = written_some (entry_bytes e) xs cur n g in
        let rest = drop (length (entry_bytes e)) xs in
        let front : take n cur ≡ entry_bytes e = ap (take n) q.2 ∙ take_at (entry_bytes e) rest n (sym q.1) in
        (p.0, q.1, q.2, ap entry_in front ∙ come_back e p.0)
    go false w g = absurd (let h : ◌≡◌ {A = Option ℕ} (Some n) None = ap (λ (p : Option ℕ × List ℕ). p.0) g in let z : ◌≡◌ {A = ℕ} 0 1 = cc in omega arith)
