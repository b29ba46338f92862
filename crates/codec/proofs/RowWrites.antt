-- The rows of files written to the target, one behind the other.
use Rattle.std.proofs.Common.{◌≡◌, ℕ, ◌+◌, ◌*◌, ◌^◌, ◌<◌, ◌≤◌, true, List, [], ◌∷◌, ◌++◌, length, is_some, Some, None, Option, sym, refl, ap, ◌∙◌, subst, arith}
use Rattle.std.proofs.ByRecursion.{All-append}
use Rattle.std.proofs.lemmas.List.{length-append}
use Rattle.rows.specs.declared.row.Row.{Row}
use Rattle.rows.specs.declared.span.Span.{Span}
use Rattle.rows.specs.Checks.{some_else}
use Rattle.codec.specs.Files.{File, file_in, row_words}
use Rattle.codec.specs.Keys.{widened}
use Rattle.codec.specs.Rewrites.{rows_in, widened_by}
use Rattle.codec.specs.Words.{AreWords, put_at, bytes_of}
use Rattle.codec.proofs.FileLaws.{rows_of_file, length_row_words, row_words_append}
use Rattle.codec.proofs.WordLaws.{length_bytes_of, length_put_at, put_none, put_on}

pub count_in : (xs : List ℕ) → is_some (file_in xs) ≡ true → length xs ≡ 8 * (4 + 2 * length (rows_in xs))
unfolding rows_in
count_in xs e = by (file_in xs) refl e
  where
    by : (o : Option File) → file_in xs ≡ o → is_some o ≡ true → length xs ≡ 8 * (4 + 2 * length (some_else o [] (λ f. f.rows)))
    by None p q = absurd (let z : ◌≡◌ {A = ℕ} 0 1 = cc in omega arith)
    by (Some f) p q = omega (arith, (rows_of_file xs f p).0)

widened_append : (s : Span) (rs qs : List Row) → widened_by s (rs ++ qs) ≡ widened_by (widened_by s rs) qs
widened_append s [] qs = refl
widened_append s (r ∷ rs) qs = widened_append (widened r.key s) rs qs

-- rows are written behind k others to a target, while some of them are left
pub record Left (rs : List Row) (k : ℕ) (s : Span) (out : List ℕ) (left : List Row) (cur : List ℕ) (n : ℕ) (keys : Span) : Type 0 where
  pub after : put_at (8 * (3 + 2 * n)) (bytes_of (row_words left)) cur ≡ put_at (8 * (3 + 2 * k)) (bytes_of (row_words rs)) out
  pub count : n + length left ≡ k + length rs
  pub widest : widened_by keys left ≡ widened_by s rs
  pub fit : AreWords (row_words left) → AreWords (row_words rs)
  pub long : length cur ≡ length out

pub all_left : {rs : List Row} {k : ℕ} {s : Span} {out : List ℕ} → Left rs k s out rs out k s
all_left = record { after = refl; count = refl; widest = refl; fit = λ a. a; long = refl }

pub same_left : {rs : List Row} {k : ℕ} {s : Span} {out : List ℕ} {left rest : List Row} {cur : List ℕ} {n : ℕ} {keys : Span} → Left rs k s out left cur n keys → left ≡ rest → Left rs k s out rest cur n keys
same_left {rs = rs} {k = k} {s = s} {out = out} {cur = cur} {n = n} {keys = keys} inv e = subst (λ (l : List Row). Left rs k s out l cur n keys) e inv

-- what was written of all rows
pub record Put (rs : List Row) (k : ℕ) (s : Span) (out cur : List ℕ) (n : ℕ) (keys : Span) : Type 0 where
  pub after : cur ≡ put_at (8 * (3 + 2 * k)) (bytes_of (row_words rs)) out
  pub count : n ≡ k + length rs
  pub keys_of : keys ≡ widened_by s rs
  pub fit : AreWords (row_words rs)

pub none_left : {rs : List Row} {k : ℕ} {s : Span} {out : List ℕ} {left : List Row} {cur : List ℕ} {n : ℕ} {keys : Span} → Left rs k s out left cur n keys → left ≡ [] → Put rs k s out cur n keys
none_left {cur = cur} {n = n} {keys = keys} inv e =
    record {
      after = put_none (8 * (3 + 2 * n)) cur ∙ ap (λ l. put_at (8 * (3 + 2 * n)) (bytes_of (row_words l)) cur) (sym e) ∙ inv.after;
      count = omega (arith, ap length e, inv.count);
      keys_of = ap (widened_by keys) (sym e) ∙ inv.widest;
      fit = inv.fit (subst (λ (l : List Row). AreWords (row_words l)) (sym e) tt);
    }

module _ {rs : List Row} {k : ℕ} {s : Span} {out : List ℕ} {left : List Row} {cur : List ℕ} {n : ℕ} {keys : Span} (inv : Left rs k s out left cur n keys) (new rest : List Row) (e : left ≡ new ++ rest)
    (room : 8 * (4 + 2 * (k + length rs)) ≤ length out) where
  pub left_room : 8 * (4 + 2 * (n + length new)) ≤ length cur
  left_room = omega (arith, room, inv.count, inv.long, ap length e, length-append new rest)

  pub fewer_left : {cur' : List ℕ} {n' : ℕ} {keys' : Span} → Put new n keys cur cur' n' keys' → Left rs k s out rest cur' n' keys'
  fewer_left {cur' = cur'} {n' = n'} {keys' = keys'} put =
      let words : row_words left ≡ row_words new ++ row_words rest = ap row_words e ∙ row_words_append new rest in
      record {
        after = put_on (8 * (3 + 2 * n)) (8 * (3 + 2 * n')) cur cur' (put_at (8 * (3 + 2 * n')) (bytes_of (row_words rest)) cur') (row_words new) (row_words rest) (omega (arith, put.count, length_row_words new)) (omega (arith, left_room))
            put.after refl
            ∙ ap (λ l. put_at (8 * (3 + 2 * n)) (bytes_of l) cur) (sym words) ∙ inv.after;
        count = omega (arith, put.count, inv.count, ap length e, length-append new rest);
        widest = ap (λ z. widened_by z rest) put.keys_of ∙ sym (widened_append keys new rest) ∙ ap (widened_by keys) (sym e) ∙ inv.widest;
        fit = λ g. inv.fit (subst AreWords (sym words) (All-append (λ v. v < 2 ^ 64) (row_words new) (row_words rest) put.fit g));
        long = ap length put.after ∙ length_put_at (8 * (3 + 2 * n)) (bytes_of (row_words new)) cur (omega (arith, left_room, length_bytes_of (row_words new), length_row_words new)) ∙ inv.long;
      }
