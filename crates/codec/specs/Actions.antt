-- Actions as a kind and three numbers: 0 insert, 1 erase from to, 2 raise from to n, 3 pack m; those not used are 0.
use Rattle.std.specs.Prelude.{◌≡◌, ℕ, zero, suc, Bool, true, cond, ◌&&◌, List, [], ◌∷◌, Some, None, Option, Result, ◌==◌, slice_index_or}
use Rattle.std.specs.Result.{result_ok}
use Rattle.rows.specs.declared.span.Span.{Span}
use Rattle.codec.specs.declared.action.Action.{Action}
use Rattle.codec.specs.declared.action.NoAction.{NoAction}
use Rattle.codec.specs.declared.action.Action.TheVariants.{Insert, Erase, Raise, Pack}
use Rattle.codec.specs.Bounds.{is_key, is_word}

abbrev pub span : ℕ → ℕ → Span
span a b = record { from = a; to = b }

abbrev pub action_words : Action → List ℕ
action_words Insert = 0 ∷ 0 ∷ 0 ∷ 0 ∷ []
action_words (Erase s) = 1 ∷ s.from ∷ s.to ∷ 0 ∷ []
action_words (Raise s n) = 2 ∷ s.from ∷ s.to ∷ n ∷ []
action_words (Pack m) = 3 ∷ m ∷ 0 ∷ 0 ∷ []

abbrev pub action_fits : Action → Bool
action_fits Insert = true
action_fits (Erase s) = is_key s.from && is_key s.to
action_fits (Raise s n) = is_key s.from && (is_key s.to && is_key n)
action_fits (Pack m) = is_word m

-- the action that a kind and three numbers are
abbrev pub action_in : ℕ → ℕ → ℕ → ℕ → Option Action
action_in zero a b c = cond (a == 0 && (b == 0 && c == 0)) (Some Insert) None
action_in (suc zero) a b c = cond (is_key a && (is_key b && c == 0)) (Some (Erase (span a b))) None
action_in (suc (suc zero)) a b c = cond (is_key a && (is_key b && is_key c)) (Some (Raise (span a b) c)) None
action_in (suc (suc (suc zero))) a b c = cond (b == 0 && c == 0) (Some (Pack a)) None
action_in (suc (suc (suc (suc k)))) a b c = None

-- the numbers of an action, and that it is in its bounds
abbrev pub HasWords : Action → List ℕ → Type 0
HasWords o ws = (ws ≡ action_words o) × (action_fits o ≡ true)

-- the action that four numbers are, or that they are none
abbrev pub ReadsAs : List ℕ → Result Action NoAction → Type 0
ReadsAs ws r = result_ok r ≡ action_in (slice_index_or ws 0 0) (slice_index_or ws 1 0) (slice_index_or ws 2 0) (slice_index_or ws 3 0)
