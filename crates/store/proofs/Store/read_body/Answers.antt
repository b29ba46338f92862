use Rattle.std.proofs.Common.{Ok, Err, refl, ap, ◌∙◌, arith}
use Rattle.std.proofs.lemmas.Result.{err_from_is_err_and}
use Rattle.store.specs.Import.{entries_read}
use Rattle.store.proofs.ImportLaws.{body_no_files, body_by, body_longer, body_whole}
use Rattle.store.proofs.Store.read_body.Goals as goal

pub returns-in_err-behind : goal.returns-in_err-behind
returns-in_err-behind c =
    let p = err_from_is_err_and c.from_residual.result c.from_residual.ensures.1 in
    rw (p.1, p.2) (record {
      read = body_no_files c.args.self.now.most_rows c.args.bytes.now c.args.held c.args.self.now.entries c.args.files.now.directory.now c.args.files.now.bytes.now c.args.log.now.ends.now c.args.log.now.bytes.now c.fill.new.self _ c.read_files.new.files.directory.now c.read_files.new.files.bytes.now (c.fill.ensures.after (λ y e. e)) c.in_err-behind.ensures.read;
      files = c.in_err-behind.ensures.lent;
      log = (refl, refl);
    })

pub read_entries-requires : goal.read_entries-requires
read_entries-requires c = c.requires.places

pub returns-in_err-end : goal.returns-in_err-end
returns-in_err-end c =
    let p = err_from_is_err_and c.from_residual-in_err-end.result c.from_residual-in_err-end.ensures.1 in
    rw (p.1, p.2) (record {
      read = body_by c.args.self.now.most_rows c.args.bytes.now c.args.held c.args.self.now.entries c.args.files.now.directory.now c.args.files.now.bytes.now c.args.log.now.ends.now c.args.log.now.bytes.now c.fill.new.self c.in_ok-behind.behind.at c.read_files.new.files.directory.now c.read_files.new.files.bytes.now (Err _, c.read_entries.new.log.ends.now, c.read_entries.new.log.bytes.now) (c.fill.ensures.after (λ y e. e)) c.in_ok-behind.ensures.read (c.in_err-end.ensures.read ∙ ap (λ bs. entries_read bs c.args.self.now.entries 0 c.in_ok-behind.behind.at 0 c.args.log.now.ends.now c.args.log.now.bytes.now) c.in_ok-behind.ensures.bytes);
      files = c.in_ok-behind.ensures.lent;
      log = c.in_err-end.ensures.lent;
    })

pub returns-then-end-bytes : goal.returns-then-end-bytes
returns-then-end-bytes c =
    record {
      read = body_longer c.args.bytes.now c.read_files.new.files.directory.now c.read_files.new.files.bytes.now c.in_ok-end.end.at c.read_entries.new.log.ends.now c.read_entries.new.log.bytes.now c.if-end-bytes.true
          ∙ body_by c.args.self.now.most_rows c.args.bytes.now c.args.held c.args.self.now.entries c.args.files.now.directory.now c.args.files.now.bytes.now c.args.log.now.ends.now c.args.log.now.bytes.now c.fill.new.self c.in_ok-behind.behind.at c.read_files.new.files.directory.now c.read_files.new.files.bytes.now (Ok c.in_ok-end.end.at, c.read_entries.new.log.ends.now, c.read_entries.new.log.bytes.now) (c.fill.ensures.after (λ y e. e)) c.in_ok-behind.ensures.read (c.in_ok-end.ensures.read ∙ ap (λ bs. entries_read bs c.args.self.now.entries 0 c.in_ok-behind.behind.at 0 c.args.log.now.ends.now c.args.log.now.bytes.now) c.in_ok-behind.ensures.bytes);
      files = c.in_ok-behind.ensures.lent;
      log = c.in_ok-end.ensures.lent;
    }

pub returns : goal.returns
returns c =
    record {
      read = body_whole c.args.bytes.now c.read_files.new.files.directory.now c.read_files.new.files.bytes.now c.in_ok-end.end.at c.read_entries.new.log.ends.now c.read_entries.new.log.bytes.now (omega (arith, c.if-end-bytes.false))
          ∙ body_by c.args.self.now.most_rows c.args.bytes.now c.args.held c.args.self.now.entries c.args.files.now.directory.now c.args.files.now.bytes.now c.args.log.now.ends.now c.args.log.now.bytes.now c.fill.new.self c.in_ok-behind.behind.at c.read_files.new.files.directory.now c.read_files.new.files.bytes.now (Ok c.in_ok-end.end.at, c.read_entries.new.log.ends.now, c.read_entries.new.log.bytes.now) (c.fill.ensures.after (λ y e. e)) c.in_ok-behind.ensures.read (c.in_ok-end.ensures.read ∙ ap (λ bs. entries_read bs c.args.self.now.entries 0 c.in_ok-behind.behind.at 0 c.args.log.now.ends.now c.args.log.now.bytes.now) c.in_ok-behind.ensures.bytes);
      files = c.in_ok-behind.ensures.lent;
      log = c.in_ok-end.ensures.lent;
    }
