use Rattle.std.proofs.Common.{ℕ, ◌*◌, ◌<◌, vec_items, sym, ap, ◌∙◌, arith}
use Rattle.std.proofs.lemmas.List.{length-map}
use Rattle.std.specs.Option.{option_map}
use Rattle.codec.specs.Words.{le, numbers}
use Rattle.codec.specs.Entries.{change_of}
use Rattle.codec.proofs.EntryReads.{adds_part, takes_part, change_too_short, change_other_count, change_no_action, change_no_adds, change_no_takes, change_done}
use Rattle.codec.proofs.WordLaws.{numbers_front}
use Rattle.codec.proofs.entry.read_change.Goals as goal

pub returns-in_default : goal.returns-in_default
returns-in_default c = let ws = c.args.words.now in change_too_short (numbers ws) (omega (arith, length-map ws le, c.in_default.ensures.cases))

pub returns-then-many_adds-files : goal.returns-then-many_adds-files
returns-then-many_adds-files c =
    let ws = c.args.words.now in
    let head = c.in-Some.field-0-0.now in
    let parts = c.in-Some.ensures.cases in
    let at = λ (j : ℕ) (h : j < 7). numbers_front 7 j ws head parts.0 h in
    let m = c.number-many_adds.result in
    let many = c.number-many_adds.ensures ∙ at 5 (omega arith) in
    change_other_count (numbers ws) (λ e. omega (arith, e, length-map ws le, many, parts.2))

pub returns-then-many_takes-takes : goal.returns-then-many_takes-takes
returns-then-many_takes-takes c =
    let ws = c.args.words.now in
    let head = c.in-Some.field-0-0.now in
    let parts = c.in-Some.ensures.cases in
    let at = λ (j : ℕ) (h : j < 7). numbers_front 7 j ws head parts.0 h in
    let m = c.number-many_adds.result in
    let many = c.number-many_adds.ensures ∙ at 5 (omega arith) in
    change_other_count (numbers ws) (λ e. c.if-many_takes-takes.true (omega (arith, e, length-map ws le, many, c.number-many_takes.ensures ∙ at 6 (omega arith), parts.2, c.split_at.ensures.back_len)))

pub returns-in_default-try_from : goal.returns-in_default-try_from
returns-in_default-try_from c =
    let ws = c.args.words.now in
    let head = c.in-Some.field-0-0.now in
    let parts = c.in-Some.ensures.cases in
    let at = λ (j : ℕ) (h : j < 7). numbers_front 7 j ws head parts.0 h in
    let m = c.number-many_adds.result in
    let many = c.number-many_adds.ensures ∙ at 5 (omega arith) in
    change_no_action (numbers ws) _ _ _ _ m (c.number.ensures ∙ at 0 (omega arith)) (c.number-2.ensures ∙ at 1 (omega arith)) (c.number-3.ensures ∙ at 2 (omega arith)) (c.number-4.ensures ∙ at 3 (omega arith)) many c.in_default-try_from.ensures

pub returns-in_default-2 : goal.returns-in_default-2
returns-in_default-2 c =
    let ws = c.args.words.now in
    let head = c.in-Some.field-0-0.now in
    let parts = c.in-Some.ensures.cases in
    let at = λ (j : ℕ) (h : j < 7). numbers_front 7 j ws head parts.0 h in
    let m = c.number-many_adds.result in
    let many = c.number-many_adds.ensures ∙ at 5 (omega arith) in
    change_no_adds (numbers ws) _ _ _ _ m (c.number.ensures ∙ at 0 (omega arith)) (c.number-2.ensures ∙ at 1 (omega arith)) (c.number-3.ensures ∙ at 2 (omega arith)) (c.number-4.ensures ∙ at 3 (omega arith)) many c.in-Ok.action c.in-Ok.ensures
    (ap (option_map vec_items) (sym c.in_default-2.is) ∙ c.in_ok-adds.ensures ∙ adds_part ws c.in-Some.files.now c.split_at.result.0.now (3 * m) parts.1 c.split_at.ensures.front)

pub returns-in_default-3 : goal.returns-in_default-3
returns-in_default-3 c =
    let ws = c.args.words.now in
    let head = c.in-Some.field-0-0.now in
    let parts = c.in-Some.ensures.cases in
    let at = λ (j : ℕ) (h : j < 7). numbers_front 7 j ws head parts.0 h in
    let m = c.number-many_adds.result in
    let many = c.number-many_adds.ensures ∙ at 5 (omega arith) in
    change_no_takes (numbers ws) _ _ _ _ m (c.number.ensures ∙ at 0 (omega arith)) (c.number-2.ensures ∙ at 1 (omega arith)) (c.number-3.ensures ∙ at 2 (omega arith)) (c.number-4.ensures ∙ at 3 (omega arith)) many c.in-Ok.action (vec_items c.in-Some-2.adds) c.in-Ok.ensures
    (ap (option_map vec_items) (sym c.in-Some-2.is) ∙ c.in_ok-adds.ensures ∙ adds_part ws c.in-Some.files.now c.split_at.result.0.now (3 * m) parts.1 c.split_at.ensures.front)
    (ap (option_map vec_items) (sym c.in_default-3.is) ∙ c.in_ok-takes.ensures ∙ takes_part ws c.in-Some.files.now c.split_at.result.1.now (3 * m) parts.1 c.split_at.ensures.back)

pub returns : goal.returns
returns c =
    let ws = c.args.words.now in
    let head = c.in-Some.field-0-0.now in
    let parts = c.in-Some.ensures.cases in
    let at = λ (j : ℕ) (h : j < 7). numbers_front 7 j ws head parts.0 h in
    let m = c.number-many_adds.result in
    let many = c.number-many_adds.ensures ∙ at 5 (omega arith) in
    let change = change_of (record { action = c.in-Ok.action; touched = c.number-5.result; adds = c.in-Some-2.adds; takes = c.in-Some-3.takes }) in
    change_done (numbers ws) _ _ _ _ m (c.number.ensures ∙ at 0 (omega arith)) (c.number-2.ensures ∙ at 1 (omega arith)) (c.number-3.ensures ∙ at 2 (omega arith)) (c.number-4.ensures ∙ at 3 (omega arith)) many change c.number-many_takes.result c.in-Ok.ensures (c.number-5.ensures ∙ at 4 (omega arith))
    (ap (option_map vec_items) (sym c.in-Some-2.is) ∙ c.in_ok-adds.ensures ∙ adds_part ws c.in-Some.files.now c.split_at.result.0.now (3 * m) parts.1 c.split_at.ensures.front)
    (ap (option_map vec_items) (sym c.in-Some-3.is) ∙ c.in_ok-takes.ensures ∙ takes_part ws c.in-Some.files.now c.split_at.result.1.now (3 * m) parts.1 c.split_at.ensures.back)
    (c.number-many_takes.ensures ∙ at 6 (omega arith)) (omega (arith, length-map ws le, many, parts.2, c.split_at.ensures.back_len))
