use Rattle.std.proofs.Common.{rules, ◌≡◌, ◌==◌, cond, Some, None, Ok, ap, arith}
use Rattle.codec.specs.declared.entry.Entry.{Entry}
use Rattle.store.proofs.LogLaws.{entry_beyond, entry_unbounded, entry_kept}
use Rattle.store.proofs.Store.entry.Goals as goal

pub returns-then-place-self : goal.returns-then-place-self
returns-then-place-self c = ap Ok (entry_beyond c.args.self.now.entries c.args.memory.ends.now c.args.memory.bytes.now c.args.place (omega arith))

pub returns-in_default : goal.returns-in_default
returns-in_default c = ap Ok (entry_unbounded c.args.self.now.entries c.args.memory.ends.now c.args.memory.bytes.now c.args.place (omega arith) c.in_default.ensures)

pub returns : goal.returns
returns c =
    let none : c.in_ok-entry.entry ≡ None → c.filter.result ≡ None = λ e. search rules in
    let some : (x : Entry) → c.in_ok-entry.entry ≡ Some x → c.filter.result ≡ cond (x.place == c.args.place) (Some x) None = λ x e. search rules in
    ap Ok (entry_kept c.args.self.now.entries c.args.memory.ends.now c.args.memory.bytes.now c.args.place (omega arith) c.in-Some.bytes.now c.in_ok-entry.entry c.filter.result c.in-Some.ensures c.in_ok-entry.ensures none some)
