-- The entries of a history, step by step.
use Rattle.std.proofs.Common.{◌≡◌, ℕ, ◌+◌, ◌<◌, ◌≤◌, Bool, cond, ◌&&◌, eqb, List, [], ◌∷◌, map, length, get_or, count_by, drop, Some, None, Ok, Option, Result, sym, refl, ap, ◌∙◌, arith}
use Rattle.std.specs.Option.{option_map}
use Rattle.rows.specs.declared.refusal.Refusal.{Refusal}
use Rattle.std.proofs.lemmas.List.{get_or-map, length-map, drop_more, drop_all}
use Rattle.std.proofs.lemmas.List.Sums.{sum_by-cons}
use Rattle.codec.specs.declared.entry.Entry.{Entry}
use Rattle.codec.specs.Entries.{TableChange, LogEntry, entry_of}
use Rattle.versions.specs.Alive.{after, alive}
use Rattle.versions.specs.Histories.{changes, puts_by, is_put, first_place}
use Rattle.std.specs.List.{position, position_from}
use Rattle.std.proofs.lemmas.Iterator.Adapters.{position_from-zero}
use Rattle.versions.specs.VersionLaws.{Stands}

-- the entry that the code reads is the one that is meant
pub entry_stands : (read held : List Entry) (i : ℕ) (x : Entry) → read ≡ held → i < length read → x ≡ get_or read i x → Stands (map entry_of held) i (entry_of x)
entry_stands read held i x e h r =
    let within : i < length held = omega (arith, ap length e) in (
      omega (arith, length-map held entry_of),
      get_or-map entry_of held i x (entry_of x) within ∙ ap (λ l. entry_of (get_or l i x)) (sym e) ∙ ap entry_of (sym r),
    )

pub change_stands : (es : List LogEntry) (i : ℕ) (e : LogEntry) → Stands es i e → Stands (changes es) i e.change
change_stands es i e s = (
  omega (arith, s.0, length-map es (λ (x : LogEntry). x.change)),
  get_or-map (λ (x : LogEntry). x.change) es i e e.change s.0 ∙ ap (λ (x : LogEntry). x.change) s.1,
)

-- an entry that was opened, or was none
module _ (o : Option Entry) (under : Option LogEntry) (e : ◌≡◌ {A = Result (Option LogEntry) Refusal} (Ok (option_map entry_of o)) (Ok under)) where
  opened : option_map entry_of o ≡ under
  opened = cc

  pub under_some : (x : Entry) → o ≡ Some x → under ≡ Some (entry_of x)
  under_some x p = sym opened ∙ ap (option_map entry_of) p

  pub under_none : o ≡ None → under ≡ None
  under_none p = sym opened ∙ ap (option_map entry_of) p

  pub found_some : (x : Entry) → o ≡ Some x → option_map (λ y. y ∷ []) under ≡ Some (entry_of x ∷ [])
  found_some x p = ap (option_map (λ (y : LogEntry). y ∷ [])) (under_some x p)

  pub found_none : o ≡ None → option_map {U = List LogEntry} (λ y. y ∷ []) under ≡ None
  found_none p = ap (option_map (λ (y : LogEntry). y ∷ [])) (under_none p)

-- one change more of those that are left
pub alive_go : (cs : List TableChange) (i : ℕ) (c : TableChange) (live live' all : List ℕ) → Stands cs i c → live' ≡ after live c → alive (drop i cs) live ≡ all → alive (drop (i + 1) cs) live' ≡ all
unfolding alive
alive_go cs i c live live' all s e inv =
    ap (alive (drop (i + 1) cs)) e ∙ ap (λ x. alive (drop (i + 1) cs) (after live x)) (sym s.1) ∙ ap (λ l. alive l live) (sym (drop_more cs i c s.0)) ∙ inv

pub alive_end : (cs : List TableChange) (i : ℕ) (live all : List ℕ) → length cs ≤ i → alive (drop i cs) live ≡ all → live ≡ all
unfolding alive
alive_end cs i live all h inv = ap (λ l. alive l live) (sym (drop_all i cs h)) ∙ inv

-- entries counted and placed as the code holds them
pub puts_counted : (w : ℕ) (xs : List Entry) → count_by (λ e. eqb e.writer w) xs ≡ puts_by w (map entry_of xs)
unfolding puts_by
puts_counted w [] = refl
puts_counted w (x ∷ xs) =
    let ih = puts_counted w xs in
    let read = sum_by-cons (λ (e : Entry). cond (eqb e.writer w) 1 0) x xs in
    let meant = sum_by-cons (λ (e : LogEntry). cond (eqb e.writer w) 1 0) (entry_of x) (map entry_of xs) in
    cc

module _ (w serial : ℕ) where
  abbrev pub held_put : Entry → Bool
  held_put e = eqb e.writer w && eqb e.serial serial

  placed_from : (k : ℕ) (xs : List Entry) → position_from held_put k xs ≡ first_place (is_put w serial) k (map entry_of xs)
  unfolding first_place
  placed_from k [] = refl
  placed_from k (x ∷ xs) = ap (λ o. cond (held_put x) (Some k) o) (placed_from (k + 1) xs)

  pub put_placed : (xs : List Entry) → position held_put xs ≡ first_place (is_put w serial) 0 (map entry_of xs)
  put_placed xs = position_from-zero held_put xs ∙ placed_from 0 xs
