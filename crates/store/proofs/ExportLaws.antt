-- What writing out appends, by the files and entries held.
use Rattle.std.proofs.Common.{◌≡◌, ℕ, zero, suc, ◌+◌, ◌-◌, ◌<◌, ◌≤◌, cond, List, [], ◌∷◌, ◌++◌, length, get_or, take, Ok, Err, Result, sym, refl, ap, ◌∙◌, add-one, arith}
use Rattle.std.proofs.lemmas.Bool.Decides.{nat_tests}
use Rattle.std.specs.List.{flat_map}
use Rattle.std.proofs.lemmas.List.{append_assoc, append-nil, length-append, take_all, take_more}
use Rattle.codec.specs.Seals.{sealed_bytes}
use Rattle.codec.specs.Words.{bytes_of}
use Rattle.codec.proofs.WordLaws.{bytes_of_append}
use Rattle.rows.specs.declared.refusal.Refusal.{Refusal}
use Rattle.store.specs.declared.header.Header.{Header}
use Rattle.store.specs.Export.{Appends, slots_of, file_of_slot, files_below, files_held, entry_held, entries_below, entries_held, counted, numbered, header_words, header_of, exported}
use Rattle.store.specs.Log.{Log}
use Rattle.store.specs.Putting.{Files}
use Rattle.store.specs.Slots.{free_below, mark_at, slot_bytes}
use Rattle.std.proofs.lemmas.Bool.{eq-eqb, ne_eqb}

-- bytes behind bytes that were appended
pub appends_then : {A : Type 0} (r : Result A Refusal) (a m after bs cs : List ℕ) → m ≡ a ++ bs → Appends r m after cs → Appends r a after (bs ++ cs)
appends_then (Ok x) a m after bs cs e h = h ∙ ap (λ l. l ++ cs) e ∙ append_assoc a bs cs
appends_then (Err x) a m after bs cs e h = h

joined_append : {X : Type 0} (f : X → List ℕ) (xs ys : List X) → flat_map f (xs ++ ys) ≡ flat_map f xs ++ flat_map f ys
joined_append f [] ys = refl
joined_append f (x ∷ xs) ys = ap (λ l. f x ++ l) (joined_append f xs ys) ∙ sym (append_assoc (f x) (flat_map f xs) (flat_map f ys))

-- one turn more: what is written behind what was written so far
turn : {X : Type 0} (f : X → List ℕ) (xs ys zs : List X) (a old new : List ℕ) → zs ≡ xs ++ ys → old ≡ a ++ flat_map f xs → new ≡ old ++ flat_map f ys → new ≡ a ++ flat_map f zs
turn f xs ys zs a old new z e h =
    h ∙ ap (λ l. l ++ flat_map f ys) e ∙ append_assoc a (flat_map f xs) (flat_map f ys) ∙ ap (λ l. a ++ l) (sym (joined_append f xs ys) ∙ ap (flat_map f) (sym z))

-- what a slot adds: its file, or nothing where it is free
module _ (s : Files) (i : ℕ) (old new : List ℕ) (m : ℕ) (e : m ≡ mark_at s.directory i) where
  pub slot_written : (bs : List ℕ) → 0 < m → bs ≡ slot_bytes s.most s.directory s.bytes i → new ≡ old ++ numbered (m - 1, bs) → new ≡ old ++ flat_map numbered (file_of_slot s i)
  slot_written bs h b n =
      n ∙ ap (λ l. old ++ l)
      ((λ j. numbered (e j - 1, b j)) ∙ sym (append-nil (numbered (mark_at s.directory i - 1, slot_bytes s.most s.directory s.bytes i)))
      ∙ ap (λ t. flat_map numbered (cond t [] ((mark_at s.directory i - 1, slot_bytes s.most s.directory s.bytes i) ∷ []))) (sym (ne_eqb (mark_at s.directory i) 0 (λ z. omega (arith, e, h, z)))))

  pub slot_passed : m ≤ 0 → new ≡ old → new ≡ old ++ flat_map numbered (file_of_slot s i)
  slot_passed h n =
      n ∙ sym (append-nil old)
      ∙ ap (λ t. old ++ flat_map numbered (cond {A = List (ℕ × List ℕ)} t [] ((mark_at s.directory i - 1, slot_bytes s.most s.directory s.bytes i) ∷ []))) (sym (eq-eqb (mark_at s.directory i) 0 (omega (arith, e, h))))

pub files_turn : (s : Files) (i : ℕ) (a old new : List ℕ) → old ≡ a ++ flat_map numbered (files_below s i) → new ≡ old ++ flat_map numbered (file_of_slot s i) → new ≡ a ++ flat_map numbered (files_below s (i + 1))
files_turn s i a old new e h = turn numbered (files_below s i) (file_of_slot s i) (files_below s (i + 1)) a old new (ap (files_below s) (add-one i)) e h

pub entries_turn : (l : Log) (k : ℕ) (a old new : List ℕ) → old ≡ a ++ flat_map counted (entries_below l k) → new ≡ old ++ counted (entry_held l k) → new ≡ a ++ flat_map counted (entries_below l (k + 1))
entries_turn l k a old new e h = turn counted (entries_below l k) (entry_held l k ∷ []) (entries_below l (k + 1)) a old new (ap (entries_below l) (add-one k)) e (h ∙ ap (λ bs. old ++ bs) (sym (append-nil (counted (entry_held l k)))))

-- numbers, one after the other
pub words_start : (ws : List ℕ) (a : List ℕ) → a ≡ a ++ bytes_of (take 0 ws)
unfolding bytes_of
words_start ws a = sym (append-nil a)

pub words_turn : (ws : List ℕ) (i : ℕ) (a old new : List ℕ) → i < length ws → old ≡ a ++ bytes_of (take i ws) → new ≡ old ++ bytes_of (get_or ws i 0 ∷ []) → new ≡ a ++ bytes_of (take (i + 1) ws)
words_turn ws i a old new h e n =
    n ∙ ap (λ l. l ++ bytes_of (get_or ws i 0 ∷ [])) e ∙ append_assoc a (bytes_of (take i ws)) (bytes_of (get_or ws i 0 ∷ [])) ∙ ap (λ l. a ++ l) (sym (bytes_of_append (take i ws) (get_or ws i 0 ∷ [])) ∙ ap bytes_of (sym (take_more ws i 0 h)))

pub words_end : (ws : List ℕ) (i : ℕ) (a new : List ℕ) → length ws ≤ i → new ≡ a ++ bytes_of (take i ws) → new ≡ a ++ bytes_of ws
words_end ws i a new h e = e ∙ ap (λ l. a ++ bytes_of l) (take_all i ws h)

-- slots that are not free hold a file
pub held_or_free : (s : Files) (n : ℕ) → length (files_below s n) + free_below s.directory n ≡ n
held_or_free s zero = refl
held_or_free s (suc n) = let p = length-append (files_below s n) (file_of_slot s n) in let q = held_or_free s n in grind (arith, nat_tests, p, q)

pub held_count : (horizon count : ℕ) (s : Files) (n free : ℕ) → n ≡ slots_of s → free ≡ free_below s.directory (slots_of s) → record { horizon = horizon; next = s.next; most_rows = s.most; slots = n; files = n - free; entries = count } ≡ header_of horizon count s
held_count horizon count s n free e f =
    let q : n - free ≡ length (files_held s) = omega (arith, held_or_free s (slots_of s), e, f) in
    λ j. record { horizon = horizon; next = s.next; most_rows = s.most; slots = e j; files = q j; entries = count }

-- the header, the files and the entries, one behind the other
pub written_out : (horizon : ℕ) (s : Files) (l : Log) (h : Header) (none one two three : List ℕ) → none ≡ [] → h ≡ header_of horizon l.count s → one ≡ none ++ sealed_bytes (header_words h) → two ≡ one ++ flat_map numbered (files_held s) → three ≡ two ++ flat_map counted (entries_held l) → three ≡ exported horizon s l
unfolding exported
written_out horizon s l h none one two three z e a b c =
    let front = sealed_bytes (header_words (header_of horizon l.count s)) in
    let fs = flat_map numbered (files_held s) in
    let first : one ≡ front = a ∙ ap (λ n. n ++ sealed_bytes (header_words h)) z ∙ ap (λ k. sealed_bytes (header_words k)) e in
    c ∙ ap (λ x. x ++ flat_map counted (entries_held l)) (b ∙ ap (λ x. x ++ fs) first) ∙ append_assoc front fs (flat_map counted (entries_held l))
