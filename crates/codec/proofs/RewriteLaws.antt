-- Rows that are written anew, and the rows of a file as they are read for that.
use Rattle.std.proofs.Common.{◌≡◌, ℕ, ◌+◌, ◌≤◌, Bool, true, false, ◌||◌, List, [], ◌∷◌, ◌++◌, length, is_some, Some, None, Option, sym, refl, ap, ◌∙◌, arith}
use Rattle.std.specs.Option.{option_map}
use Rattle.std.proofs.lemmas.List.{append_assoc, length-append}
use Rattle.std.proofs.lemmas.Bool.Decides.{nat_tests}
use Rattle.rows.specs.declared.row.Row.{Row}
use Rattle.rows.specs.declared.span.Span.{Span}
use Rattle.rows.specs.Checks.{some_else}
use Rattle.rows.specs.Orders.{passes_limit}
use Rattle.rows.specs.Rows.{outside, raised}
use Rattle.codec.specs.declared.file.Head.{Head}
use Rattle.codec.specs.declared.rewrite.Rewrite.{Rewrite}
use Rattle.codec.specs.declared.rewrite.Rewrite.TheVariants.{Whole, Outside, Raised}
use Rattle.codec.specs.Files.{File, head_of, file_in, rows_from}
use Rattle.codec.specs.Rewrites.{fate_of, staying, breaks, rewritten, refuses, rows_in, survey}
use Rattle.codec.proofs.FileLaws.{rows_from_file}

-- over lists put together
pub rewritten_append : (w : Rewrite) (xs ys : List Row) → rewritten w (xs ++ ys) ≡ rewritten w xs ++ rewritten w ys
unfolding rewritten
rewritten_append w [] ys = refl
rewritten_append w (x ∷ xs) ys = ap (λ l. staying (fate_of w x) ++ l) (rewritten_append w xs ys) ∙ sym (append_assoc (staying (fate_of w x)) (rewritten w xs) (rewritten w ys))

pub rewritten_step : (w : Rewrite) (left rest : List Row) (r : Row) → left ≡ r ∷ rest → rewritten w left ≡ staying (fate_of w r) ++ rewritten w rest
unfolding rewritten
rewritten_step w left rest r e = ap (rewritten w) e

pub refuses_append : (w : Rewrite) (xs ys : List Row) → refuses w (xs ++ ys) ≡ (refuses w xs || refuses w ys)
unfolding refuses
refuses_append w [] ys = refl
refuses_append w (x ∷ xs) ys = let ih = refuses_append w xs ys in grind (arith, nat_tests)

-- what a rewrite makes of rows, by what an order makes of them
pub rewritten_whole : (rs : List Row) → rewritten Whole rs ≡ rs
unfolding rewritten
rewritten_whole [] = refl
rewritten_whole (r ∷ rs) = ap (λ l. r ∷ l) (rewritten_whole rs)

pub rewritten_outside : (s : Span) (rs : List Row) → rewritten (Outside s) rs ≡ outside s rs
unfolding rewritten outside
rewritten_outside s [] = refl
rewritten_outside s (r ∷ rs) = let ih = rewritten_outside s rs in grind (arith, nat_tests)

pub refuses_whole : (rs : List Row) → refuses Whole rs ≡ false
unfolding refuses
refuses_whole [] = refl
refuses_whole (r ∷ rs) = refuses_whole rs

pub refuses_outside : (s : Span) (rs : List Row) → refuses (Outside s) rs ≡ false
unfolding refuses
refuses_outside s [] = refl
refuses_outside s (r ∷ rs) = let ih = refuses_outside s rs in grind (arith, nat_tests)

pub refuses_raised : (s : Span) (n : ℕ) (rs : List Row) → refuses (Raised s n) rs ≡ passes_limit s n rs
unfolding refuses
refuses_raised s n [] = refl
refuses_raised s n (r ∷ rs) = let ih = refuses_raised s n rs in grind (arith, nat_tests)

pub rewritten_raised : (s : Span) (n : ℕ) (rs : List Row) → passes_limit s n rs ≡ false → rewritten (Raised s n) rs ≡ raised s n rs
unfolding rewritten raised
rewritten_raised s n [] e = refl
rewritten_raised s n (r ∷ rs) e =
    let ih : passes_limit s n rs ≡ false → rewritten (Raised s n) rs ≡ raised s n rs = rewritten_raised s n rs in
    grind (arith, nat_tests)

-- whether a row that is not refused stays
pub staying_some : (o : Option Row) → is_some o ≡ true → length (staying (Some o)) ≡ 1
staying_some (Some r) e = refl
staying_some None e = absurd (let z : ◌≡◌ {A = ℕ} 0 1 = cc in omega arith)

pub staying_none : (o : Option Row) → is_some o ≡ false → length (staying (Some o)) ≡ 0
staying_none (Some r) e = absurd (let z : ◌≡◌ {A = ℕ} 0 1 = cc in omega arith)
staying_none None e = refl

staying_few : (o : Option Row) → length (staying (Some o)) ≤ 1
staying_few (Some r) = omega arith
staying_few None = omega arith

pub survey_refused : (w : Rewrite) (there : Bool) (rs : List Row) → refuses w rs ≡ true → None ≡ survey w there rs
survey_refused w true rs e = rw e
survey_refused w false rs e = refl

pub survey_counted : (w : Rewrite) (there : Bool) (rs : List Row) (n : ℕ) → there ≡ true → refuses w rs ≡ false → n ≡ length (rewritten w rs) → Some n ≡ survey w there rs
survey_counted w there rs n t e c = rw (t, e, c)

-- the rows of a file, one by one
pub head_there : (xs : List ℕ) (h : Head) → Some h ≡ option_map head_of (file_in xs) → (is_some (file_in xs) ≡ true) × (length (rows_in xs) ≡ h.count)
unfolding rows_in
head_there xs h e = by (file_in xs) e
  where
    by : (o : Option File) → Some h ≡ option_map head_of o → (is_some o ≡ true) × (length (some_else o [] (λ f. f.rows)) ≡ h.count)
    by None p = absurd (let z : ◌≡◌ {A = ℕ} 0 1 = cc in omega arith)
    by (Some f) p = (refl, let q : head_of f ≡ h = cc in ap (λ (g : Head). g.count) q)

pub rows_from_there : (xs : List ℕ) → is_some (file_in xs) ≡ true → rows_from xs ≡ rows_in xs
unfolding rows_in
rows_from_there xs e = by (file_in xs) refl e
  where
    by : (o : Option File) → file_in xs ≡ o → is_some o ≡ true → rows_from xs ≡ some_else o [] (λ f. f.rows)
    by None p q = absurd (let z : ◌≡◌ {A = ℕ} 0 1 = cc in omega arith)
    by (Some f) p q = rows_from_file xs f p

-- counting the rows that stay, while some are left
abbrev pub Counted : Rewrite → List Row → List Row → ℕ → Type 0
Counted w rs left n = (refuses w left ≡ refuses w rs) × (n + length (rewritten w left) ≡ length (rewritten w rs)) × (n + length left ≤ length rs)

module _ (w : Rewrite) (rs left rest : List Row) (r : Row) (e : left ≡ r ∷ rest) (n : ℕ) (inv : Counted w rs left n) where
  refuses_step : refuses w left ≡ (breaks (fate_of w r) || refuses w rest)
  unfolding refuses
  refuses_step = ap (refuses w) e

  pub count_one : (o : Option Row) (m : ℕ) → fate_of w r ≡ Some o → m ≡ n + length (staying (Some o)) → Counted w rs rest m
  count_one o m f c =
      let k = ap length (rewritten_step w left rest r e ∙ ap (λ t. staying t ++ rewritten w rest) f) ∙ length-append (staying (Some o)) (rewritten w rest) in
      (ap (λ t. breaks t || refuses w rest) (sym f) ∙ sym refuses_step ∙ inv.0, omega (arith, k, inv.1), omega (arith, ap length e, staying_few o, c, inv.2))

  pub count_breaks : (there : Bool) → fate_of w r ≡ None → None ≡ survey w there rs
  count_breaks there f = survey_refused w there rs (sym inv.0 ∙ refuses_step ∙ ap (λ t. breaks t || refuses w rest) f)

pub count_end : (w : Rewrite) (rs left : List Row) (n : ℕ) (there : Bool) → left ≡ [] → there ≡ true → Counted w rs left n → Some n ≡ survey w there rs
unfolding rewritten refuses
count_end w rs left n there e t inv = survey_counted w there rs n t (sym inv.0 ∙ ap (refuses w) e) (omega (arith, ap (λ l. length (rewritten w l)) e, inv.1))
