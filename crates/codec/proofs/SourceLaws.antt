-- The sources of a file that is written anew, surveyed one by one.
use Rattle.std.proofs.Common.{◌≡◌, ℕ, ◌+◌, ◌-◌, ◌<◌, ◌≤◌, Bool, true, false, cond, not, ◌&&◌, ◌||◌, leb, ◌⊎◌, List, ◌++◌, length, get_or, drop, is_some, Some, None, Option, sym, refl, ap, ◌∙◌, inl, inr, arith}
use Rattle.std.proofs.lemmas.List.{at_drop_more, at_drop_all, length-append}
use Rattle.std.proofs.lemmas.Bool.{lt-leb, le-leb}
use Rattle.rows.specs.declared.row.Row.{Row}
use Rattle.codec.specs.declared.rewrite.Part.{Part}
use Rattle.codec.specs.declared.rewrite.Rewrite.{Rewrite}
use Rattle.codec.specs.Bounds.{every}
use Rattle.codec.specs.Files.{most_rows, file_in}
use Rattle.codec.specs.Rewrites.{rewritten, refuses, lies_in, apart, part_in, rows_in, is_source, source_rows, survey, survey_all}
use Rattle.codec.proofs.BoundLaws.{every_more, every_stop, every_end}
use Rattle.codec.proofs.RewriteLaws.{rewritten_append, refuses_append}

-- what one survey tells
pub survey_some : (w : Rewrite) (there : Bool) (rs : List Row) (n : ℕ) → Some n ≡ survey w there rs → (there ≡ true) × (refuses w rs ≡ false) × (n ≡ length (rewritten w rs))
survey_some w there rs n e = by there (refuses w rs) e
  where
    by : (t r : Bool) → Some n ≡ cond (t && not r) (Some (length (rewritten w rs))) None → (t ≡ true) × (r ≡ false) × (n ≡ length (rewritten w rs))
    by true true p = absurd (let z : ◌≡◌ {A = ℕ} 0 1 = cc in omega arith)
    by true false p = (refl, refl, cc)
    by false r p = absurd (let z : ◌≡◌ {A = ℕ} 0 1 = cc in omega arith)

pub survey_none : (w : Rewrite) (there : Bool) (rs : List Row) → None ≡ survey w there rs → (there ≡ false) ⊎ (refuses w rs ≡ true)
survey_none w there rs e = by there (refuses w rs) e
  where
    by : (t r : Bool) → None ≡ cond (t && not r) (Some (length (rewritten w rs))) None → (t ≡ false) ⊎ (r ≡ true)
    by true true p = inr refl
    by true false p = absurd (let z : ◌≡◌ {A = ℕ} 0 1 = cc in omega arith)
    by false r p = inl refl

-- the bytes of a part that lies apart from the target
pub part_there : (xs : List ℕ) (t p : Part) (bs : List ℕ) → Some bs ≡ cond (lies_in p (length xs) && apart p t) (Some (part_in p xs)) None → (is_source xs t p ≡ is_some (file_in (part_in p xs))) × (bs ≡ part_in p xs)
part_there xs t p bs e = by (lies_in p (length xs)) (apart p t) e
  where
    by : (a b : Bool) → Some bs ≡ cond (a && b) (Some (part_in p xs)) None → ((a && (b && is_some (file_in (part_in p xs)))) ≡ is_some (file_in (part_in p xs))) × (bs ≡ part_in p xs)
    by true true q = (refl, cc)
    by true false q = absurd (let z : ◌≡◌ {A = ℕ} 0 1 = cc in omega arith)
    by false b q = absurd (let z : ◌≡◌ {A = ℕ} 0 1 = cc in omega arith)

pub part_absent : (xs : List ℕ) (t p : Part) → ◌≡◌ {A = Option (List ℕ)} None (cond (lies_in p (length xs) && apart p t) (Some (part_in p xs)) None) → is_source xs t p ≡ false
part_absent xs t p e = by (lies_in p (length xs)) (apart p t) e
  where
    by : (a b : Bool) → ◌≡◌ {A = Option (List ℕ)} None (cond (a && b) (Some (part_in p xs)) None) → (a && (b && is_some (file_in (part_in p xs)))) ≡ false
    by true true q = absurd (let z : ◌≡◌ {A = ℕ} 0 1 = cc in omega arith)
    by true false q = refl
    by false b q = refl

-- a survey of all sources, so far
abbrev pub Surveyed : Rewrite → List ℕ → Part → List Part → ℕ → ℕ → Type 0
Surveyed w xs t ps i n =
    (every (is_source xs t) (drop i ps) ≡ every (is_source xs t) ps)
    × (refuses w (source_rows xs (drop i ps)) ≡ refuses w (source_rows xs ps))
    × (n + length (rewritten w (source_rows xs (drop i ps))) ≡ length (rewritten w (source_rows xs ps)))
    × (n ≤ 65536)

pub survey_all_not_there : (w : Rewrite) (xs : List ℕ) (t : Part) (ps : List Part) → every (is_source xs t) ps ≡ false → None ≡ survey_all w xs t ps
survey_all_not_there w xs t ps e = rw e

pub survey_all_refused : (w : Rewrite) (xs : List ℕ) (t : Part) (ps : List Part) → refuses w (source_rows xs ps) ≡ true → None ≡ survey_all w xs t ps
survey_all_refused w xs t ps e = by (every (is_source xs t) ps) (refuses w (source_rows xs ps)) e
  where
    by : (a r : Bool) → r ≡ true → None ≡ cond (a && (not r && leb (length (rewritten w (source_rows xs ps))) most_rows)) (Some (length (rewritten w (source_rows xs ps)))) None
    by true true p = refl
    by true false p = absurd (let z : ◌≡◌ {A = ℕ} 0 1 = cc in omega arith)
    by false r p = refl

pub survey_all_many : (w : Rewrite) (xs : List ℕ) (t : Part) (ps : List Part) → 65536 < length (rewritten w (source_rows xs ps)) → None ≡ survey_all w xs t ps
survey_all_many w xs t ps h = by (every (is_source xs t) ps) (refuses w (source_rows xs ps)) (leb (length (rewritten w (source_rows xs ps))) most_rows) (lt-leb (length (rewritten w (source_rows xs ps))) most_rows h)
  where
    by : (a r m : Bool) → m ≡ false → None ≡ cond (a && (not r && m)) (Some (length (rewritten w (source_rows xs ps)))) None
    by true true m p = refl
    by true false true p = absurd (let z : ◌≡◌ {A = ℕ} 0 1 = cc in omega arith)
    by true false false p = refl
    by false r m p = refl

module _ (w : Rewrite) (xs : List ℕ) (t : Part) (ps : List Part) (i n : ℕ) (inv : Surveyed w xs t ps i n) where
  module _ (d : Part) (h : i < length ps) where
    left : source_rows xs (drop i ps) ≡ rows_in (part_in (get_or ps i d) xs) ++ source_rows xs (drop (i + 1) ps)
    left = at_drop_more (source_rows xs) ps i d h

    refuses_left : refuses w (source_rows xs (drop i ps)) ≡ (refuses w (rows_in (part_in (get_or ps i d) xs)) || refuses w (source_rows xs (drop (i + 1) ps)))
    refuses_left = ap (refuses w) left ∙ refuses_append w (rows_in (part_in (get_or ps i d) xs)) (source_rows xs (drop (i + 1) ps))

    many_left : length (rewritten w (source_rows xs (drop i ps))) ≡ length (rewritten w (rows_in (part_in (get_or ps i d) xs))) + length (rewritten w (source_rows xs (drop (i + 1) ps)))
    many_left =
        ap (λ l. length (rewritten w l)) left ∙ ap length (rewritten_append w (rows_in (part_in (get_or ps i d) xs)) (source_rows xs (drop (i + 1) ps)))
        ∙ length-append (rewritten w (rows_in (part_in (get_or ps i d) xs))) (rewritten w (source_rows xs (drop (i + 1) ps)))

    pub survey_stop : None ≡ survey w (is_source xs t (get_or ps i d)) (rows_in (part_in (get_or ps i d) xs)) → None ≡ survey_all w xs t ps
    survey_stop e = go (survey_none w (is_source xs t (get_or ps i d)) (rows_in (part_in (get_or ps i d) xs)) e)
      where
        go : (is_source xs t (get_or ps i d) ≡ false) ⊎ (refuses w (rows_in (part_in (get_or ps i d) xs)) ≡ true) → None ≡ survey_all w xs t ps
        go (inl a) = survey_all_not_there w xs t ps (sym inv.0 ∙ every_stop (is_source xs t) ps i d h a)
        go (inr r) = survey_all_refused w xs t ps (sym inv.1 ∙ refuses_left ∙ ap (λ b. b || refuses w (source_rows xs (drop (i + 1) ps))) r)

    module _ (c : ℕ) (e : Some c ≡ survey w (is_source xs t (get_or ps i d)) (rows_in (part_in (get_or ps i d) xs))) where
      pub survey_over : 65536 - n < c → None ≡ survey_all w xs t ps
      survey_over o =
          let p = survey_some w (is_source xs t (get_or ps i d)) (rows_in (part_in (get_or ps i d) xs)) c e in
          survey_all_many w xs t ps (omega (arith, many_left, p.2, inv.2, inv.3))

      pub survey_more : (m : ℕ) → c ≤ 65536 - n → m ≡ n + c → Surveyed w xs t ps (i + 1) m
      survey_more m o k =
          let p = survey_some w (is_source xs t (get_or ps i d)) (rows_in (part_in (get_or ps i d) xs)) c e in (
            sym (every_more (is_source xs t) ps i d h p.0) ∙ inv.0,
            ap (λ b. b || refuses w (source_rows xs (drop (i + 1) ps))) (sym p.1) ∙ sym refuses_left ∙ inv.1,
            omega (arith, many_left, p.2, inv.2),
            omega (arith, inv.3),
          )

  pub survey_end : length ps ≤ i → Some n ≡ survey_all w xs t ps
  unfolding rewritten refuses
  survey_end h =
      let a : every (is_source xs t) ps ≡ true = sym inv.0 ∙ every_end (is_source xs t) ps i h in
      let r : refuses w (source_rows xs ps) ≡ false = sym inv.1 ∙ at_drop_all (λ l. refuses w (source_rows xs l)) ps i h in
      let z : length (rewritten w (source_rows xs (drop i ps))) ≡ 0 = ap length (at_drop_all (λ l. rewritten w (source_rows xs l)) ps i h) in
      let c : n ≡ length (rewritten w (source_rows xs ps)) = omega (arith, z, inv.2) in
      rw (a, r, le-leb (length (rewritten w (source_rows xs ps))) most_rows (omega (arith, inv.3)), c)
