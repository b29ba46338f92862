use Rattle.std.proofs.Common.{◌++◌, length, ap, sym, ◌∙◌, refl, arith}
use Rattle.codec.specs.declared.rewrite.Part.{Part}
use Rattle.codec.proofs.RewriteDone.{no_survey, no_rows, no_room, same_size, still_sources, still_room, is_rewritten}
use Rattle.codec.proofs.rewrite.rewrite_between.Goals as goal

pub returns-in_err-count : goal.returns-in_err-count
returns-in_err-count c =
    let memory = c.args.before.now ++ (c.args.out.now ++ c.args.behind.now) in
    let target : Part = record { start = length c.args.before.now; length = length c.args.out.now } in
    ap (λ o. (o, memory)) c.from_residual.ensures
    ∙ no_survey c.args.rewrite memory c.args.sources.now target c.args.number c.args.began (sym c.in_err-count.was ∙ c.count_in_all.ensures c.args.out.now refl)

pub returns-then-count-eq0 : goal.returns-then-count-eq0
returns-then-count-eq0 c =
    let memory = c.args.before.now ++ (c.args.out.now ++ c.args.behind.now) in
    let target : Part = record { start = length c.args.before.now; length = length c.args.out.now } in
    no_rows c.args.rewrite memory c.args.sources.now target c.args.number c.args.began c.in_ok-count.count (c.in_ok-count.ensures c.args.out.now refl) (omega arith)

pub returns-then-out-length : goal.returns-then-out-length
returns-then-out-length c =
    let memory = c.args.before.now ++ (c.args.out.now ++ c.args.behind.now) in
    let target : Part = record { start = length c.args.before.now; length = length c.args.out.now } in
    no_room c.args.rewrite memory c.args.sources.now target c.args.number c.args.began c.in_ok-count.count (c.in_ok-count.ensures c.args.out.now refl) (omega arith)

pub put_all-keys-requires : goal.put_all-keys-requires
put_all-keys-requires c =
    let s = c.in_ok-count.ensures c.args.out.now refl in
    let room = c.if-out-length.false in
    let head = c.put_words.ensures.after in
    record {
      end = omega (arith, same_size c.args.before.now c.args.out.now c.args.behind.now c.args.rewrite c.args.sources.now c.args.number c.args.began c.in_ok-count.count s room _ head);
      valid = still_sources c.args.before.now c.args.out.now c.args.behind.now c.args.rewrite c.args.sources.now c.args.number c.args.began c.in_ok-count.count s room _ head;
      room = still_room c.args.before.now c.args.out.now c.args.behind.now c.args.rewrite c.args.sources.now c.args.number c.args.began c.in_ok-count.count s room _ head;
    }

pub returns : goal.returns
returns c =
    let s = c.in_ok-count.ensures c.args.out.now refl in
    let put = c.put_all-keys.ensures in
    is_rewritten c.args.before.now c.args.out.now c.args.behind.now c.args.rewrite c.args.sources.now c.args.number c.args.began c.in_ok-count.count s c.if-out-length.false _ c.put_words.ensures.after
    (omega arith) (omega arith) _ _ _ c.put_words.ensures.fit put.after put.keys put.fit c.put_seal.ensures
