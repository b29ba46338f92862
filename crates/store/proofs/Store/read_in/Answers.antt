use Rattle.std.proofs.Common.{Ok, Err, refl, arith}
use Rattle.std.proofs.lemmas.Result.{err_from_is_err_and}
use Rattle.store.proofs.ImportLaws.{header_bounds, in_no_header, in_few_slots, in_few_places, in_body}
use Rattle.store.proofs.Views.{slots_told}
use Rattle.store.proofs.Store.read_in.Goals as goal

pub returns-in_err-header : goal.returns-in_err-header
returns-in_err-header c =
    let p = err_from_is_err_and c.from_residual.result c.from_residual.ensures.1 in
    rw (p.1, p.2) (record {
      read = in_no_header c.args.bytes.now c.args.files.now.directory.now c.args.files.now.bytes.now c.args.log.now.ends.now c.args.log.now.bytes.now _ c.in_err-header.ensures;
      files = (refl, refl);
      log = (refl, refl);
    })

pub invariant_of-store : goal.invariant_of-store
invariant_of-store c =
    let b = header_bounds c.args.bytes.now c.in_ok-header.header c.in_ok-header.ensures in
    record { near = b.1; numbered = b.2; logged = b.6; some = b.3; few = b.4 }

pub returns-then-header-slots : goal.returns-then-header-slots
returns-then-header-slots c =
    record {
      read = in_few_slots c.args.bytes.now c.args.files.now.directory.now c.args.files.now.bytes.now c.args.log.now.ends.now c.args.log.now.bytes.now c.in_ok-header.header _ c.in_ok-header.ensures (slots_told c.in_ok-header.header.most_rows c.view.result _ _ _ c.slots.ensures.count c.view.ensures.directory c.view.ensures.bytes) (omega arith);
      files = (refl, refl);
      log = (refl, refl);
    }

pub returns-then-header-log : goal.returns-then-header-log
returns-then-header-log c =
    record {
      read = in_few_places c.args.bytes.now c.args.files.now.directory.now c.args.files.now.bytes.now c.args.log.now.ends.now c.args.log.now.bytes.now c.in_ok-header.header _ c.in_ok-header.ensures (slots_told c.in_ok-header.header.most_rows c.view.result _ _ _ c.slots.ensures.count c.view.ensures.directory c.view.ensures.bytes) (omega arith) (omega arith);
      files = (refl, refl);
      log = (refl, refl);
    }

pub read_body-requires : goal.read_body-requires
read_body-requires c =
    let b = header_bounds c.args.bytes.now c.in_ok-header.header c.in_ok-header.ensures in
    record { header = b.0; slots = omega (arith, b.5, (slots_told c.in_ok-header.header.most_rows c.view.result _ _ _ c.slots.ensures.count c.view.ensures.directory c.view.ensures.bytes)); places = omega arith }

pub returns-in_err-read_body : goal.returns-in_err-read_body
returns-in_err-read_body c =
    let p = err_from_is_err_and c.from_residual-in_err-read_body.result c.from_residual-in_err-read_body.ensures.1 in
    rw (p.1, p.2) (record {
      read = in_body c.args.bytes.now c.args.files.now.directory.now c.args.files.now.bytes.now c.args.log.now.ends.now c.args.log.now.bytes.now c.in_ok-header.header _ (Err _, c.read_body.new.files.directory.now, c.read_body.new.files.bytes.now, c.read_body.new.log.ends.now, c.read_body.new.log.bytes.now) c.in_ok-header.ensures (slots_told c.in_ok-header.header.most_rows c.view.result _ _ _ c.slots.ensures.count c.view.ensures.directory c.view.ensures.bytes) (omega arith) (omega arith) c.in_err-read_body.ensures.read;
      files = c.in_err-read_body.ensures.files;
      log = c.in_err-read_body.ensures.log;
    })

pub returns : goal.returns
returns c =
    record {
      read = in_body c.args.bytes.now c.args.files.now.directory.now c.args.files.now.bytes.now c.args.log.now.ends.now c.args.log.now.bytes.now c.in_ok-header.header _ (Ok tt, c.read_body.new.files.directory.now, c.read_body.new.files.bytes.now, c.read_body.new.log.ends.now, c.read_body.new.log.bytes.now) c.in_ok-header.ensures (slots_told c.in_ok-header.header.most_rows c.view.result _ _ _ c.slots.ensures.count c.view.ensures.directory c.view.ensures.bytes) (omega arith) (omega arith) c.in_ok-read_body.ensures.read;
      files = c.in_ok-read_body.ensures.files;
      log = c.in_ok-read_body.ensures.log;
    }
