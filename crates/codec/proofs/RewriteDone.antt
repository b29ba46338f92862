-- Files written anew: when they are not, and what the three writes to the target leave.
use Rattle.std.proofs.Common.{◌≡◌, ℕ, ◌+◌, ◌*◌, ◌%◌, ◌^◌, ◌<◌, ◌≤◌, Bool, true, false, cond, not, ◌&&◌, leb, List, [], ◌∷◌, ◌++◌, length, take, Some, None, sum, Option, sym, refl, ap, ◌∙◌, subst, arith}
use Rattle.std.proofs.lemmas.List.{length-append}
use Rattle.std.proofs.lemmas.Bool.{and_parts, and_from, and_left, and_right, le-leb, leb-true, leb-false}
use Rattle.std.proofs.lemmas.Bool.Decides.{nat_tests}
use Rattle.rows.specs.declared.row.Row.{Row}
use Rattle.rows.specs.declared.span.Span.{Span}
use Rattle.rows.specs.Checks.{some_else}
use Rattle.codec.specs.declared.rewrite.Part.{Part}
use Rattle.codec.specs.declared.rewrite.Rewrite.{Rewrite}
use Rattle.codec.specs.declared.rewrite.Rewrite.TheVariants.{Whole, Outside, Raised}
use Rattle.codec.specs.declared.write.Written.{Written}
use Rattle.codec.specs.Bounds.{every}
use Rattle.codec.specs.Files.{File, most_rows, row_fits, file_in, row_words, file_bytes}
use Rattle.codec.specs.Keys.{keys_of}
use Rattle.codec.specs.Rewrites.{fate_of, staying, rewritten, refuses, lies_in, part_in, rows_in, is_source, source_rows, survey_all, new_file, can_rewrite, rewrite_done}
use Rattle.codec.specs.Words.{AreWords, put_at, bytes_of, words_of}
use Rattle.codec.specs.Writes.{told_of, writes}
use Rattle.codec.proofs.BoundLaws.{every_append}
use Rattle.codec.proofs.FileLaws.{Fits, rows_of_file, length_file_bytes}
use Rattle.codec.proofs.LentFiles.{writes_no_count, writes_no_room, writes_yes, count_none, count_many, file_sealed}
use Rattle.codec.proofs.PartLaws.{middle_put}
use Rattle.codec.proofs.SourceWrites.{same_sources}
use Rattle.codec.proofs.WordLaws.{length_bytes_of, length_put_at}

-- rows that stay are in their bounds
staying_fits : (w : Rewrite) (r : Row) → row_fits r ≡ true → every row_fits (staying (fate_of w r)) ≡ true
staying_fits Whole r e = and_from _ _ e refl
staying_fits (Outside s) r e = grind (arith, nat_tests)
staying_fits (Raised s n) r e = grind (arith, nat_tests)

pub rewritten_fits : (w : Rewrite) (rs : List Row) → every row_fits rs ≡ true → every row_fits (rewritten w rs) ≡ true
unfolding rewritten
rewritten_fits w [] e = refl
rewritten_fits w (r ∷ rs) e =
    let p = and_parts (row_fits r) (every row_fits rs) e in
    every_append row_fits (staying (fate_of w r)) (rewritten w rs) (staying_fits w r p.0) (rewritten_fits w rs p.1)

rows_in_fit : (xs : List ℕ) → every row_fits (rows_in xs) ≡ true
unfolding rows_in
rows_in_fit xs = by (file_in xs) refl
  where
    by : (o : Option File) → file_in xs ≡ o → every row_fits (some_else o [] (λ f. f.rows)) ≡ true
    by None p = refl
    by (Some f) p = (rows_of_file xs f p).2

source_rows_fit : (xs : List ℕ) (ps : List Part) → every row_fits (source_rows xs ps) ≡ true
source_rows_fit xs [] = refl
source_rows_fit xs (p ∷ ps) = every_append row_fits (rows_in (part_in p xs)) (source_rows xs ps) (rows_in_fit (part_in p xs)) (source_rows_fit xs ps)

-- what the survey tells
pub survey_all_some : (w : Rewrite) (xs : List ℕ) (t : Part) (ps : List Part) (c : ℕ) → Some c ≡ survey_all w xs t ps
    → (every (is_source xs t) ps ≡ true) × (refuses w (source_rows xs ps) ≡ false) × (c ≡ length (rewritten w (source_rows xs ps))) × (length (rewritten w (source_rows xs ps)) ≤ 65536)
survey_all_some w xs t ps c e = by (every (is_source xs t) ps) (refuses w (source_rows xs ps)) (leb (length (rewritten w (source_rows xs ps))) most_rows) refl e
  where
    by : (a r m : Bool) → leb (length (rewritten w (source_rows xs ps))) most_rows ≡ m → Some c ≡ cond (a && (not r && m)) (Some (length (rewritten w (source_rows xs ps)))) None
        → (a ≡ true) × (r ≡ false) × (c ≡ length (rewritten w (source_rows xs ps))) × (length (rewritten w (source_rows xs ps)) ≤ 65536)
    by true false true l p = (refl, refl, cc, leb-true _ _ l)
    by true false false l p = absurd (let z : ◌≡◌ {A = ℕ} 0 1 = cc in omega arith)
    by true true m l p = absurd (let z : ◌≡◌ {A = ℕ} 0 1 = cc in omega arith)
    by false r m l p = absurd (let z : ◌≡◌ {A = ℕ} 0 1 = cc in omega arith)

module _ (w : Rewrite) (xs : List ℕ) (ps : List Part) (t : Part) (number began : ℕ) where
  abbrev f : File
  f = new_file w xs ps number began

  not_rewritten : can_rewrite w xs ps t number began ≡ false → ◌≡◌ {A = Option Written × List ℕ} (None, xs) (rewrite_done w xs ps t number began)
  not_rewritten e = ap (λ b. cond {A = Option Written × List ℕ} b (Some (told_of f), put_at t.start (file_bytes f) xs) (None, xs)) (sym e)

  pub no_target : false ≡ lies_in t (length xs) → ◌≡◌ {A = Option Written × List ℕ} (None, xs) (rewrite_done w xs ps t number began)
  unfolding can_rewrite
  no_target e = not_rewritten (and_left _ _ (sym e))

  no_writes : writes (new_file w xs ps number began) t.length ≡ false → ◌≡◌ {A = Option Written × List ℕ} (None, xs) (rewrite_done w xs ps t number began)
  unfolding can_rewrite
  no_writes e = not_rewritten (and_right (lies_in t (length xs)) _ (and_right (every (is_source xs t) ps) _ (and_right (not (refuses w (source_rows xs ps))) _ e)))

  pub no_survey : None ≡ survey_all w xs t ps → ◌≡◌ {A = Option Written × List ℕ} (None, xs) (rewrite_done w xs ps t number began)
  unfolding can_rewrite
  no_survey e = not_rewritten (by (every (is_source xs t) ps) (refuses w (source_rows xs ps)) (leb (length (rewritten w (source_rows xs ps))) most_rows) refl e)
    where
      by : (a r m : Bool) → leb (length (rewritten w (source_rows xs ps))) most_rows ≡ m → None ≡ cond (a && (not r && m)) (Some (length (rewritten w (source_rows xs ps)))) None
          → (lies_in t (length xs) && (a && (not r && writes (new_file w xs ps number began) t.length))) ≡ false
      by true false true l p = absurd (let z : ◌≡◌ {A = ℕ} 0 1 = cc in omega arith)
      by true false false l p = and_right (lies_in t (length xs)) _ (writes_no_count f t.length (count_many (length (rewritten w (source_rows xs ps))) (leb-false _ _ l)))
      by true true m l p = and_right (lies_in t (length xs)) _ refl
      by false r m l p = and_right (lies_in t (length xs)) _ refl

  module _ (c : ℕ) (s : Some c ≡ survey_all w xs t ps) where
    counted : c ≡ length (rewritten w (source_rows xs ps))
    counted = (survey_all_some w xs t ps c s).2

    pub no_rows : c ≡ 0 → ◌≡◌ {A = Option Written × List ℕ} (None, xs) (rewrite_done w xs ps t number began)
    no_rows e = no_writes (writes_no_count f t.length (count_none (length (rewritten w (source_rows xs ps))) (omega (arith, counted))))

    pub no_room : t.length < 8 * (4 + 2 * c) → ◌≡◌ {A = Option Written × List ℕ} (None, xs) (rewrite_done w xs ps t number began)
    no_room h = no_writes (writes_no_room f t.length (omega (arith, counted)))

    module _ (small : number < 2 ^ 32) (some : 0 < c) (inside : true ≡ lies_in t (length xs)) (room : 8 * (4 + 2 * c) ≤ t.length) where
      can : began < 2 ^ 64 → can_rewrite w xs ps t number began ≡ true
      unfolding can_rewrite
      can b =
          let q = survey_all_some w xs t ps c s in
          let fit : Fits (new_file w xs ps number began) =
          record { number = small; began = b; some = omega (arith, counted); few = q.3; all = rewritten_fits w (source_rows xs ps) (source_rows_fit xs ps) } in
          and_from _ _ (sym inside) (and_from _ _ q.0 (and_from _ _ (ap not q.1) (writes_yes f t.length fit (omega (arith, counted)))))

-- the three writes of the file, where the sources lie before and behind the target
module _ (before out behind : List ℕ) (w : Rewrite) (ps : List Part) (number began c : ℕ)
    (s : Some c ≡ survey_all w (before ++ (out ++ behind)) (record { start = length before; length = length out }) ps) (room : 8 * (4 + 2 * c) ≤ length out)
    (one : List ℕ) (head : one ≡ put_at (8 * 0) (bytes_of (number ∷ began ∷ c ∷ [])) out) where
  abbrev memory : List ℕ
  memory = before ++ (out ++ behind)

  abbrev t : Part
  t = record { start = length before; length = length out }

  abbrev then : List ℕ
  then = before ++ (one ++ behind)

  pub same_size : length one ≡ length out
  same_size = ap length head ∙ length_put_at (8 * 0) (bytes_of (number ∷ began ∷ c ∷ [])) out (omega (arith, room, length_bytes_of (number ∷ began ∷ c ∷ [])))

  -- the head leaves the sources as they are
  same : (every (is_source (before ++ (one ++ behind)) t) ps ≡ true) × (source_rows (before ++ (one ++ behind)) ps ≡ source_rows (before ++ (out ++ behind)) ps)
  same =
      let h : length (bytes_of (number ∷ began ∷ c ∷ [])) ≡ 24 = length_bytes_of (number ∷ began ∷ c ∷ []) in
      let e : before ++ (one ++ behind) ≡ put_at (length before) (bytes_of (number ∷ began ∷ c ∷ [])) (before ++ (out ++ behind)) =
      ap (λ l. before ++ (l ++ behind)) head ∙ middle_put before out behind (bytes_of (number ∷ began ∷ c ∷ [])) (omega (arith, h, room)) in
      same_sources memory t (length before) (bytes_of (number ∷ began ∷ c ∷ [])) then (omega arith) (omega (arith, h, room)) (omega (arith, length-append before (out ++ behind), length-append out behind)) e ps
      (survey_all_some w memory t ps c s).0

  pub still_sources : every (is_source (before ++ (one ++ behind)) (record { start = length before; length = length one })) ps ≡ true
  still_sources = ap (λ n. every (is_source then (record { start = length before; length = n })) ps) same_size ∙ same.0

  pub still_room : 8 * (4 + 2 * length (rewritten w (source_rows (before ++ (one ++ behind)) ps))) ≤ length one
  still_room = omega (arith, room, same_size, (survey_all_some w memory t ps c s).2, ap (λ rs. length (rewritten w rs)) same.1)

  module _ (small : number < 2 ^ 32) (some : 0 < c) (two three : List ℕ) (keys : Span) (a1 : AreWords (number ∷ began ∷ c ∷ []))
      (e2 : two ≡ put_at 24 (bytes_of (row_words (rewritten w (source_rows (before ++ (one ++ behind)) ps)))) one) (k : keys ≡ keys_of (rewritten w (source_rows (before ++ (one ++ behind)) ps)))
      (a2 : AreWords (row_words (rewritten w (source_rows (before ++ (one ++ behind)) ps))))
      (e3 : three ≡ put_at (8 * (3 + 2 * c)) (bytes_of ((sum (take (3 + 2 * c) (words_of two)) % 2 ^ 64) ∷ [])) two) where
    abbrev g : File
    g = new_file w memory ps number began

    was : rewritten w (source_rows (before ++ (one ++ behind)) ps) ≡ rewritten w (source_rows (before ++ (out ++ behind)) ps)
    was = ap (rewritten w) same.1

    many : c ≡ length (rewritten w (source_rows (before ++ (out ++ behind)) ps))
    many = (survey_all_some w memory t ps c s).2

    sealed : three ≡ put_at 0 (file_bytes (new_file w (before ++ (out ++ behind)) ps number began)) out
    sealed =
        file_sealed g number began c (row_words (rewritten w (source_rows memory ps))) out one two three (ap (λ j. number ∷ began ∷ j ∷ row_words (rewritten w (source_rows memory ps))) (sym many)) many room a1
        (subst (λ (l : List Row). AreWords (row_words l)) was a2) head (e2 ∙ ap (λ l. put_at 24 (bytes_of (row_words l)) one) was) e3

    pub is_rewritten : ◌≡◌ {A = Option Written × List ℕ} (Some (record { length = 8 * (4 + 2 * c); keys = keys }), before ++ (three ++ behind))
        (rewrite_done w (before ++ (out ++ behind)) ps (record { start = length before; length = length out }) number began)
    is_rewritten =
        let l : 8 * (4 + 2 * c) ≡ length (file_bytes (new_file w (before ++ (out ++ behind)) ps number began)) = omega (arith, many, length_file_bytes g) in
        let key : keys ≡ keys_of (rewritten w (source_rows (before ++ (out ++ behind)) ps)) = k ∙ ap keys_of was in
        let tell : record { length = 8 * (4 + 2 * c); keys = keys } ≡ told_of (new_file w (before ++ (out ++ behind)) ps number began) = λ i. record { length = l i; keys = key i } in
        let inside : true ≡ lies_in t (length (before ++ (out ++ behind))) = sym (le-leb (length before + length out) (length memory) (omega (arith, length-append before (out ++ behind), length-append out behind))) in
        let whole : before ++ (three ++ behind) ≡ put_at (length before) (file_bytes (new_file w (before ++ (out ++ behind)) ps number began)) (before ++ (out ++ behind)) =
        ap (λ l. before ++ (l ++ behind)) sealed ∙ middle_put before out behind (file_bytes g) (omega (arith, l, room)) in
        rw (can w memory ps t number began c s small some inside room a1.1.0, tell, whole)
