use Rattle.std.proofs.Common.{sym, ◌∙◌, arith}
use Rattle.codec.specs.Entries.{entry_of}
use Rattle.codec.proofs.EntryWrites.{files_none, writer_unfit, files_unfit, front_done}
use Rattle.codec.proofs.entry.Entry.front.Goals as goal

pub returns-then-self-ge-WRITERS : goal.returns-then-self-ge-WRITERS
returns-then-self-ge-WRITERS c = writer_unfit (entry_of c.args.self.now) (omega arith)

pub returns-in_err-count : goal.returns-in_err-count
returns-in_err-count c =
    let adds = c.as_slice.result.now in
    let takes = c.as_slice-2.result.now in
    c.from_residual.ensures ∙ files_unfit (entry_of c.args.self.now) adds takes c.as_slice.ensures.value c.as_slice-2.ensures.value (files_none adds takes (sym c.in_err-count.was ∙ c.files_words.ensures))

pub returns : goal.returns
returns c =
    let change = c.args.self.now.change in
    let fit = c.words.ensures.fit in
    front_done (entry_of c.args.self.now) c.as_slice.result.now c.as_slice-2.result.now c.words.result c.in_ok-count.count c.len.result c.len-2.result c.as_slice.ensures.value c.as_slice-2.ensures.value
    (sym c.in_ok-count.was ∙ c.files_words.ensures) fit.0 (omega arith) fit.1 fit.3 fit.2 c.words.ensures.value
    (c.len.ensures ∙ change.adds.ok.0) (c.len-2.ensures ∙ change.takes.ok.0)
