use Rattle.std.proofs.Common.{rules, ◌≡◌, ◌-◌, Ok, ltb, get_or, map, filter, vec_items, ap, ◌∙◌}
use Rattle.store.specs.Memory.{slot_count}
use Rattle.store.specs.Slots.{slots_in}
use Rattle.store.proofs.SlotLists.{numbers_are}
use Rattle.store.proofs.Store.files.Goals as goal

pub returns : goal.returns
returns c =
    let d = c.args.memory.directory.now in
    let n = slot_count c.args.self.now c.args.memory in
    let listed : vec_items c.in_ok-collect.field-0 ≡ map (λ m. m - 1) (filter (λ m. ltb 0 m) (map (λ s. get_or s 0 0) (slots_in n d))) = search rules in
    ap Ok (listed ∙ numbers_are d n)
