use Rattle.std.proofs.Common.{◌≡◌, ap, ◌∙◌, vec_items, arith, get_or, []}
use Rattle.store.specs.Memory.{files_in, slot_count}
use Rattle.store.specs.Slots.{mark_at}
use Rattle.store.proofs.ExportLaws.{files_turn, slot_written, slot_passed}
use Rattle.store.proofs.SlotLists.{mark_is}
use Rattle.store.proofs.Store.push_files.Goals as goal
use Rattle.store.proofs.Store.push_files.Goals.{then-mark-gt0+in_ok-push_file, else-mark-gt0}

pub loop-slot-preserved : goal.loop-slot-preserved
loop-slot-preserved c =
    let s = files_in c.args.self.now c.args.files in
    let i = c.loop-slot.slot in
    let mark : get_or (get_or c.slots-mark-items.result.now i []) 0 0 ≡ mark_at s.directory i =
    ap (λ l. get_or (get_or l i []) 0 0) c.slots-mark-items.ensures.slots ∙ mark_is s.directory (slot_count c.args.self.now c.args.files) i (omega (arith, c.loop-slot-test.true, c.slots-mark-items.ensures.count)) [] in
    elim c.if-mark-gt0.branch [
      | then-mark-gt0+in_ok-push_file w ↦ files_turn s i (vec_items c.args.out.now) (vec_items c.loop-slot.out) (vec_items c.if-mark-gt0.out) c.loop-slot.invariant (slot_written s i (vec_items c.loop-slot.out) (vec_items c.if-mark-gt0.out) _ mark w.slot_bytes.result.now w.if-mark-gt0.true w.slot_bytes.ensures (ap vec_items w.out-is ∙ w.in_ok-push_file.ensures))
      | else-mark-gt0 w ↦ files_turn s i (vec_items c.args.out.now) (vec_items c.loop-slot.out) (vec_items c.if-mark-gt0.out) c.loop-slot.invariant (slot_passed s i (vec_items c.loop-slot.out) (vec_items c.if-mark-gt0.out) _ mark w.if-mark-gt0.false (ap vec_items w.out-is))
    ]
