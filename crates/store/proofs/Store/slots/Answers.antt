use Rattle.std.proofs.Common.{◌≡◌, ◌/◌, length, min, take, ap, ◌∙◌, arith}
use Rattle.store.specs.Slots.{slots, slots_in}
use Rattle.store.proofs.SlotLists.{slots_of_chunks}
use Rattle.store.proofs.Store.slots.Goals as goal

pub returns-clause-slots : goal.returns-clause-slots
returns-clause-slots c =
    let d = c.args.memory.directory.now in
    let bytes = length c.args.memory.bytes.now in
    let count : c.min-count.result ≡ slots c.args.self.now.most_rows (length d) bytes =
    c.min-count.ensures ∙ ap (λ n. min n (bytes / c.slot_size.result)) c.as_chunks.ensures.front_len ∙ ap (λ n. min (length d / 2) (bytes / n)) c.slot_size.ensures in
    ap (take c.min-count.result) c.as_chunks.ensures.front
    ∙ slots_of_chunks c.min-count.result (length d / 2) d (omega (arith, c.min-count.ensures, c.as_chunks.ensures.front_len))
    ∙ ap (λ n. slots_in n d) count
