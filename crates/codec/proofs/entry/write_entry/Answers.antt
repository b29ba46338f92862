use Rattle.std.proofs.Common.{length, sym, ap, ◌∙◌, arith}
use Rattle.codec.specs.Entries.{entry_of}
use Rattle.codec.proofs.EntryWrites.{front_is, no_room, entry_done}
use Rattle.codec.proofs.entry.write_entry.Goals as goal

pub returns-then-out-count : goal.returns-then-out-count
returns-then-out-count c = no_room (entry_of c.args.entry.now) c.in_ok-head.field-0 (front_is (entry_of c.args.entry.now) c.in_ok-head.field-0 (sym c.in_ok-head.was ∙ c.front.ensures)) c.args.out.now (omega arith)

pub put_adds-requires : goal.put_adds-requires
put_adds-requires c =
    let front = front_is (entry_of c.args.entry.now) c.in_ok-head.field-0 (sym c.in_ok-head.was ∙ c.front.ensures) in
    omega (arith, front.count, ap length c.as_slice.ensures.value)

pub put_takes-requires : goal.put_takes-requires
put_takes-requires c =
    let front = front_is (entry_of c.args.entry.now) c.in_ok-head.field-0 (sym c.in_ok-head.was ∙ c.front.ensures) in
    omega (arith, front.count, ap length c.as_slice-2.ensures.value, c.len.ensures ∙ c.args.entry.now.change.adds.ok.0)

pub returns : goal.returns
returns c =
    let e = entry_of c.args.entry.now in
    let f = c.in_ok-head.field-0 in
    entry_done e f (front_is e f (sym c.in_ok-head.was ∙ c.front.ensures)) c.len.result c.args.out.now c.put_words.new.out c.put_adds.new.out c.put_takes.new.out c.put_seal.new.out
    c.as_slice-2.result.now c.as_slice.result.now (c.len.ensures ∙ c.args.entry.now.change.adds.ok.0) c.as_slice.ensures.value c.as_slice-2.ensures.value (omega arith)
    c.put_words.ensures.after c.put_adds.ensures c.put_takes.ensures c.put_seal.ensures
