use Rattle.std.proofs.Common.{◌+◌, ◌-◌, length, refl, ap, ◌∙◌, arith}
use Rattle.std.proofs.lemmas.Result.{err_from_is_err_and}
use Rattle.store.specs.Memory.{files_in_mut}
use Rattle.store.specs.Putting.{slot_part, lent_in, put_rows}
use Rattle.store.proofs.PutLaws.{next_slot_is, put_not, put_unfit, put_done, none_same, lent_part, lent_in_slot}
use Rattle.store.proofs.Views.{slot_told, slot_here}
use Rattle.store.proofs.Store.put_rows.Goals as goal

pub returns-in_err-slot : goal.returns-in_err-slot
unfolding put_rows
returns-in_err-slot c =
    let p = err_from_is_err_and c.from_residual.result c.from_residual.ensures.1 in
    let told = slot_told c.args.self.now c.view.result _ _ _ c.view.ensures.directory c.view.ensures.bytes c.in_err-slot.ensures in
    record {
      put = rw (p.1, p.2) (put_not (files_in_mut c.args.self.now c.args.memory.now) (λ i. lent_in c.args.self.now.next c.args.began c.args.lent.now (slot_part c.args.self.now.most_rows i) c.args.memory.now.bytes.now) _ told);
      lent = (refl, refl);
      same = (refl, refl, refl);
    }

pub slot_start-start-requires : goal.slot_start-start-requires
slot_start-start-requires c = slot_here c.args.self.now c.view.result c.view-2.result _ _ c.in_ok-slot.slot c.view.ensures.directory c.view.ensures.bytes c.view-2.ensures.directory c.view-2.ensures.bytes c.in_ok-slot.ensures

pub returns-in_default : goal.returns-in_default
unfolding put_rows
returns-in_default c =
    let told = slot_told c.args.self.now c.view.result _ _ _ c.view.ensures.directory c.view.ensures.bytes c.in_ok-slot.ensures in
    let start = c.slot_start-start.result in
    let written =
    lent_part c.args.self.now.next c.args.began c.args.lent.now c.args.memory.now.bytes.now start (start + c.slot_size.result - start) _ c.write_file.new.out (omega (arith, c.slot_start-start.ensures.inside, c.slot_size.ensures, ap length c.view-2.ensures.bytes)) c.in_default.ensures
    ∙ lent_in_slot c.args.self.now.next c.args.began c.args.lent.now c.args.memory.now.bytes.now c.args.self.now.most_rows c.in_ok-slot.slot _ _ c.slot_start-start.ensures.start (omega (arith, c.slot_size.ensures)) in
    record {
      put = put_unfit (files_in_mut c.args.self.now c.args.memory.now) (λ i. lent_in c.args.self.now.next c.args.began c.args.lent.now (slot_part c.args.self.now.most_rows i) c.args.memory.now.bytes.now) c.in_ok-slot.slot told _ written (none_same _ _ _ _ _ written);
      lent = (refl, refl);
      same = (refl, refl, refl);
    }

pub fill_slot-requires : goal.fill_slot-requires
fill_slot-requires c =
    record {
      inside = omega (arith, c.slot_start-start.ensures.marked, ap length c.view-2.ensures.directory);
      below = (next_slot_is c.args.self.now.next _ _ c.in_ok-slot.slot c.in_ok-slot.ensures).0;
    }

pub returns : goal.returns
unfolding put_rows
returns c =
    let told = slot_told c.args.self.now c.view.result _ _ _ c.view.ensures.directory c.view.ensures.bytes c.in_ok-slot.ensures in
    let start = c.slot_start-start.result in
    let written =
    lent_part c.args.self.now.next c.args.began c.args.lent.now c.args.memory.now.bytes.now start (start + c.slot_size.result - start) _ c.write_file.new.out (omega (arith, c.slot_start-start.ensures.inside, c.slot_size.ensures, ap length c.view-2.ensures.bytes)) c.in-Some.ensures
    ∙ lent_in_slot c.args.self.now.next c.args.began c.args.lent.now c.args.memory.now.bytes.now c.args.self.now.most_rows c.in_ok-slot.slot _ _ c.slot_start-start.ensures.start (omega (arith, c.slot_size.ensures)) in
    record {
      put = put_done (files_in_mut c.args.self.now c.args.memory.now) (λ i. lent_in c.args.self.now.next c.args.began c.args.lent.now (slot_part c.args.self.now.most_rows i) c.args.memory.now.bytes.now) c.in_ok-slot.slot told c.in-Some.written _ _ c.fill_slot.result _ _ written
          c.fill_slot.ensures.added c.fill_slot.ensures.after c.fill_slot.ensures.next c.fill_slot.ensures.same.2;
      lent = (refl, refl);
      same = c.fill_slot.ensures.same;
    }
