use Rattle.std.proofs.Common.{Ok, Err, ap, ◌∙◌, arith}
use Rattle.std.proofs.lemmas.Result.{err_from_is_err_and}
use Rattle.store.specs.Import.{place_read}
use Rattle.store.proofs.ImportLaws.{place_keeps, entries_step, entries_all}
use Rattle.store.proofs.import.read_entries.Goals as goal

pub returns-in_err-next : goal.returns-in_err-next
returns-in_err-next c =
    let l = c.loop-place in
    let p = err_from_is_err_and c.from_residual.result c.from_residual.ensures.1 in
    let told = c.in_err-next.ensures.read ∙ ap (λ bs. place_read l.here.at bs l.place l.used l.log.ends.now l.log.bytes.now) l.invariant.1 in
    rw (p.1, p.2) (record {
      read = entries_step c.args.from.bytes.now c.args.count l.place l.here.at l.used l.log.ends.now l.log.bytes.now _ (Err _, c.read_place.new.log.ends.now, c.read_place.new.log.bytes.now) (omega arith) told l.invariant.0;
      bytes = tt;
      lent = (c.in_err-next.ensures.lent.0 ∙ l.invariant.5.0, c.in_err-next.ensures.lent.1 ∙ l.invariant.5.1);
    })

pub read_place-requires : goal.read_place-requires
read_place-requires c = record { inside = omega (arith, c.loop-place.invariant.3, c.requires); behind = c.loop-place.invariant.2 }

pub loop-place-preserved : goal.loop-place-preserved
loop-place-preserved c =
    let l = c.loop-place in
    let bs = c.args.from.bytes.now in
    let told = c.in_ok-next.ensures.read ∙ ap (λ xs. place_read l.here.at xs l.place l.used l.log.ends.now l.log.bytes.now) l.invariant.1 in
    let k = place_keeps l.here.at bs l.place l.used l.log.ends.now l.log.bytes.now c.in_ok-next.next.at c.read_place.new.log.ends.now c.read_place.new.log.bytes.now l.invariant.2 told in (
      entries_step bs c.args.count l.place l.here.at l.used l.log.ends.now l.log.bytes.now _ (Ok c.in_ok-next.next.at, c.read_place.new.log.ends.now, c.read_place.new.log.bytes.now) (omega arith) told l.invariant.0,
      c.in_ok-next.ensures.bytes ∙ l.invariant.1,
      omega (arith, k.2, k.4),
      k.3 ∙ l.invariant.3,
      k.4 ∙ l.invariant.4,
      (c.in_ok-next.ensures.lent.0 ∙ l.invariant.5.0, c.in_ok-next.ensures.lent.1 ∙ l.invariant.5.1),
    )

-- the next entry begins behind the length of this one
pub overflow_sub-used : goal.overflow_sub-used
overflow_sub-used c =
    let l = c.loop-place in
    omega (arith, (place_keeps l.here.at l.here.bytes.now l.place l.used l.log.ends.now l.log.bytes.now c.in_ok-next.next.at c.read_place.new.log.ends.now c.read_place.new.log.bytes.now l.invariant.2 c.in_ok-next.ensures.read).0)

pub overflow_sub-used-in-loop-place : goal.overflow_sub-used-in-loop-place
overflow_sub-used-in-loop-place c =
    let l = c.loop-place in
    omega (arith, (place_keeps l.here.at l.here.bytes.now l.place l.used l.log.ends.now l.log.bytes.now c.in_ok-next.next.at c.read_place.new.log.ends.now c.read_place.new.log.bytes.now l.invariant.2 c.in_ok-next.ensures.read).0)

pub returns : goal.returns
returns c =
    let l = c.loop-place in
    record {
      read = entries_all c.args.from.bytes.now c.args.count l.place l.here.at l.used l.log.ends.now l.log.bytes.now _ (omega arith) l.invariant.0;
      bytes = l.invariant.1;
      lent = l.invariant.5;
    }
