use Rattle.std.proofs.Common.{◌≡◌, ◌||◌, [], ◌++◌, IfOk, OnOk, subst, sym, ap, ◌∙◌, rules}
use Rattle.std.specs.BTreeSet.{InsertsAll, IsFromIterResult, contains as in_set}
use Rattle.std.specs.Ordering.{nat_cmp}
use Rattle.std.proofs.lemmas.List.{nil_from_length}
use Rattle.std.proofs.lemmas.Iterator.{YieldsList-from_slice}
use Rattle.std.proofs.lemmas.Iterator.Adapters.{fact_from_collect, fact_from_extend}
use Rattle.std.proofs.lemmas.Iterator.Consumers.{YieldsList-from_chain, YieldsList-from_copied, YieldsList-from_rest}
use Rattle.versions.specs.Alive.{has}
use Rattle.versions.proofs.LiveLaws.{set_filled, set_start, set_grown, set_done}
use Rattle.versions.proofs.sets.set_of.Goals as goal

pub returns-then-numbers-le-FEW : goal.returns-then-numbers-le-FEW
returns-then-numbers-le-FEW c =
    let none = c.new-set.result in
    let ns = c.args.numbers.now in
    let all : OnOk c.extend.result (InsertsAll nat_cmp none ns c.extend.new.self) = fact_from_extend (λ n. n.now) c.extend.result c.extend.ensures.ran (λ it b. YieldsList-from_slice ns b.0) (λ ks e made. subst (λ l. InsertsAll nat_cmp none l c.extend.new.self) e made) in
    set_filled none c.extend.new.self ns c.new-set.ensures.empty (search rules)

pub loop-rest-init : goal.loop-rest-init
loop-rest-init c = (c.new-set.ensures.ordered, set_start c.new-set.result c.args.numbers.now c.new-set.ensures.empty)

pub loop-rest-preserved : goal.loop-rest-preserved
loop-rest-preserved c =
    let part = c.split_at.result.0.now in
    let keys = c.loop-rest.set.keys in
    let made : IfOk c.collect.result (IsFromIterResult nat_cmp (keys ++ part)) = fact_from_collect (IsFromIterResult nat_cmp) c.collect.result c.collect.ensures.ran
    (YieldsList-from_copied (YieldsList-from_chain (YieldsList-from_rest keys (search rules)) (YieldsList-from_slice part (search rules)) (search rules) (search rules))) in
    let all : IsFromIterResult nat_cmp (keys ++ part) c.in_ok-set.set = search rules in
    (all.1, λ n. set_grown c.loop-rest.set c.in_ok-set.set part c.loop-rest.rest.now c.split_at.result.1.now (sym c.split_at.ensures.by_index.0) all n ∙ c.loop-rest.invariant.1 n)

pub returns : goal.returns
returns c =
    let none : c.loop-rest.rest.now ≡ [] = nil_from_length c.loop-rest.rest.now (search rules) in
    (c.loop-rest.invariant.0, set_done c.loop-rest.set c.args.numbers.now (λ n. ap (λ l. in_set nat_cmp c.loop-rest.set n || has l n) (sym none) ∙ c.loop-rest.invariant.1 n))
