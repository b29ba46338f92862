use Rattle.std.proofs.Common.{◌≡◌, ◌-◌, drop}
use Rattle.std.specs.BTreeSet.{contains as in_set}
use Rattle.std.specs.Ordering.{nat_cmp}
use Rattle.rows.specs.Checks.{any}
use Rattle.rows.specs.Spans.{overlap}
use Rattle.codec.specs.Entries.{change_of}
use Rattle.store.specs.Log.{log_of}
use Rattle.writers.specs.Deeds.{conflict_among, span_of}
use Rattle.writers.proofs.looking.conflict_since.Given as goal

abbrev pub invariant-loop-number : goal.invariant-loop-number
invariant-loop-number l = any (λ n. in_set nat_cmp l.taken n) (drop l.number-index l.number-items) ≡ any (λ n. in_set nat_cmp l.taken n) l.number-items

abbrev pub invariant-loop-added : goal.invariant-loop-added
invariant-loop-added l = any (λ a. overlap l.keys a.keys) (drop l.added-index l.added-items) ≡ any (λ a. overlap l.keys a.keys) l.added-items

abbrev pub invariant-loop-place : goal.invariant-loop-place
invariant-loop-place l =
    let mine = change_of l.mine in
    let log = log_of l.store l.log.ends.now l.log.bytes.now in
    (l.span ≡ span_of l.mine.action) × (conflict_among mine log (l.place-end - l.place) l.place ≡ conflict_among mine log (l.place-end - l.looked) l.looked)
