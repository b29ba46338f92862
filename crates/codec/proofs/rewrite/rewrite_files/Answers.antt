use Rattle.std.proofs.Common.{◌≡◌, ◌++◌, length, sym, ap, ◌∙◌}
use Rattle.codec.specs.declared.rewrite.Part.{Part}
use Rattle.codec.specs.Rewrites.{rewrite_done}
use Rattle.codec.proofs.RewriteDone.{no_target}
use Rattle.codec.proofs.rewrite.rewrite_files.Goals as goal

pub returns-then-not-lies_in : goal.returns-then-not-lies_in
returns-then-not-lies_in c = no_target c.args.rewrite c.args.bytes.now c.args.sources.now c.args.target c.args.number c.args.began c.if-not-lies_in.ensures

pub returns : goal.returns
returns c =
    let first = c.split_at_mut-before in
    let second = c.split_at_mut-out in
    let whole : first.result.0.now ++ (second.result.0.now ++ second.result.1.now) ≡ c.args.bytes.now = sym (first.ensures.value ∙ ap (λ l. first.result.0.now ++ l) second.ensures.value) in
    let target : (record { start = length first.result.0.now; length = length second.result.0.now }) ≡ c.args.target = λ i. record { start = first.ensures.front_len i; length = second.ensures.front_len i } in
    c.rewrite_between.ensures
    ∙ ap (λ l. rewrite_done c.args.rewrite l c.args.sources.now (record { start = length first.result.0.now; length = length second.result.0.now }) c.args.number c.args.began) whole
    ∙ ap (λ (t : Part). rewrite_done c.args.rewrite c.args.bytes.now c.args.sources.now t c.args.number c.args.began) target
