use Rattle.std.proofs.Common.{ℕ, ◌<◌, Ok, sym, ap, ◌∙◌, arith}
use Rattle.std.proofs.lemmas.List.{length-map, drop-map}
use Rattle.std.specs.Option.{option_map}
use Rattle.codec.specs.Words.{le, numbers}
use Rattle.codec.specs.Entries.{change_of, entry_of, change_from}
use Rattle.codec.proofs.EntryReads.{entry_unsealed, entry_too_short, entry_no_writer, entry_no_change, entry_found}
use Rattle.codec.proofs.WordLaws.{numbers_front}
use Rattle.codec.proofs.entry.read_entry.Goals as goal

pub returns-in_default : goal.returns-in_default
returns-in_default c = ap Ok (entry_unsealed c.args.bytes.now (sym c.in_default.ensures))

pub returns-in_default-split_first_chunk : goal.returns-in_default-split_first_chunk
returns-in_default-split_first_chunk c =
    let ws = c.in-Some.words.now in
    ap Ok (entry_too_short c.args.bytes.now (numbers ws) (sym c.in-Some.ensures) (omega (arith, length-map ws le, c.in_default-split_first_chunk.ensures.cases)))

pub returns-then-writer : goal.returns-then-writer
returns-then-writer c =
    let ws = c.in-Some.words.now in
    let writer = c.number-writer.ensures ∙ numbers_front 3 1 ws c.in-Some-split_first_chunk.field-0-0.now c.in-Some-split_first_chunk.ensures.cases.0 (omega arith) in
    ap Ok (entry_no_writer c.args.bytes.now (numbers ws) (sym c.in-Some.ensures) (omega (arith, writer)))

pub returns-in_default-2 : goal.returns-in_default-2
returns-in_default-2 c =
    let ws = c.in-Some.words.now in
    let rest = ap (λ l. change_from (numbers l)) c.in-Some-split_first_chunk.ensures.cases.1 ∙ ap change_from (sym (drop-map le 3 ws)) in
    ap Ok (entry_no_change c.args.bytes.now (numbers ws) (sym c.in-Some.ensures) (ap (option_map change_of) (sym c.in_default-2.is) ∙ c.in_ok-change.ensures ∙ rest))

pub returns : goal.returns
returns c =
    let ws = c.in-Some.words.now in
    let head = c.in-Some-split_first_chunk.field-0-0.now in
    let parts = c.in-Some-split_first_chunk.ensures.cases in
    let at = λ (j : ℕ) (h : j < 3). numbers_front 3 j ws head parts.0 h in
    let rest = ap (λ l. change_from (numbers l)) parts.1 ∙ ap change_from (sym (drop-map le 3 ws)) in
    let entry = entry_of (record { place = c.number.result; writer = c.number-writer.result; serial = c.number-2.result; change = c.in-Some-2.change }) in
    ap Ok (entry_found c.args.bytes.now (numbers ws) (sym c.in-Some.ensures) entry (c.number.ensures ∙ at 0 (omega arith)) (c.number-writer.ensures ∙ at 1 (omega arith)) (c.number-2.ensures ∙ at 2 (omega arith)) (omega arith)
    (ap (option_map change_of) (sym c.in-Some-2.is) ∙ c.in_ok-change.ensures ∙ rest))
