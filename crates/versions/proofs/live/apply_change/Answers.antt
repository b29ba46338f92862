use Rattle.std.proofs.Common.{◌≡◌, ◌++◌, not, filter, vec_items, sym, ap, ◌∙◌, rules}
use Rattle.std.specs.BTreeSet.{contains as in_set}
use Rattle.std.specs.Ordering.{nat_cmp}
use Rattle.std.proofs.lemmas.Fn.{filter_same}
use Rattle.std.proofs.lemmas.List.{nil_from_length}
use Rattle.std.proofs.lemmas.Iterator.{YieldsList-from_slice, YieldsList-from_map}
use Rattle.std.proofs.lemmas.Iterator.Consumers.{YieldsList-at}
use Rattle.std.proofs.lemmas.Iterator.Adapters.{items_from_extend}
use Rattle.codec.specs.declared.entry.Added.{Added}
use Rattle.versions.specs.Alive.{has, minus, numbers}
use Rattle.versions.proofs.LiveLaws.{minus_by_set}
use Rattle.versions.proofs.Tallies.{minus_none}
use Rattle.versions.proofs.live.apply_change.Goals as goal
use Rattle.versions.proofs.live.apply_change.Goals.{then-not-is_empty+in_ok-taken, else-not-is_empty}

pub returns : goal.returns
returns c =
    let live = vec_items c.args.live.now in
    let takes = vec_items c.args.change.now.takes in
    let adds = vec_items c.args.change.now.adds in
    let mid : vec_items c.if-not-is_empty.live ≡ minus live takes = elim c.if-not-is_empty.branch [
      | then-not-is_empty+in_ok-taken w ↦
          let taken = w.in_ok-taken.taken in
          let kept : vec_items w.retain.new.self ≡ filter (λ n. not (in_set nat_cmp taken n)) live = filter_same _ _ _ (λ x b f' k. search rules) _ _ w.retain.ensures.filtered in
          ap vec_items w.live-is ∙ kept ∙ minus_by_set taken live takes (λ n. w.in_ok-taken.ensures.1 n ∙ ap (λ l. has l n) w.deref.ensures.value)
      | else-not-is_empty w ↦ ap vec_items w.live-is ∙ sym (ap (minus live) (nil_from_length takes (search rules)) ∙ minus_none live)
    ] in
    let behind = items_from_extend c.extend.result c.extend.ensures.ran
    (YieldsList-from_map _ (λ (a : Added). a.number) (YieldsList-at c.map.ensures.source (YieldsList-from_slice adds (search rules))) c.map.ensures.closure (λ x r q k. search rules)) in
    let new : vec_items c.extend.new.self ≡ vec_items c.if-not-is_empty.live ++ numbers adds = search rules in
    new ∙ ap (λ l. l ++ numbers adds) mid
