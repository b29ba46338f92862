use Rattle.std.proofs.Common.{◌≡◌, ℕ, ◌-◌, Some, Ok, sym, ap, ◌∙◌, arith}
use Rattle.std.specs.BTreeSet.{contains as in_set}
use Rattle.rows.specs.Checks.{any}
use Rattle.rows.specs.Spans.{overlap}
use Rattle.codec.specs.declared.entry.Added.{Added}
use Rattle.codec.specs.Entries.{change_of, entry_of}
use Rattle.store.specs.Log.{log_of}
use Rattle.store.specs.StoreLaws.{entry_under}
use Rattle.versions.specs.Alive.{has}
use Rattle.versions.proofs.HistoryLaws.{under_some, under_none}
use Rattle.writers.specs.Deeds.{conflict_among, span_of}
use Rattle.writers.proofs.Scans.{any_end, any_on, any_here, hit_takes, hit_adds, clear_of_takes, clear_of_all, among_end, among_damaged, among_hit, among_on}
use Rattle.writers.proofs.looking.conflict_since.Goals as goal
use Rattle.writers.proofs.looking.conflict_since.Goals.{else-loop-place-test, then-loop-place-test+in_ok-entry+in-Some+then-loop-number-test+then-contains, then-loop-place-test+in_ok-entry+in-Some+else-loop-number-test+in-Some-span+then-loop-added-test+then-overlaps}
use Rattle.std.specs.Ordering.{nat_cmp}

pub returns-in_default : goal.returns-in_default
returns-in_default c =
    let mine = change_of c.args.mine.now in
    let l = log_of c.args.store.now c.args.log.ends.now c.args.log.bytes.now in
    let k = c.loop-place.place in
    among_damaged mine l c.entries-place-end.result k _ c.loop-place.invariant.1 (omega arith) (under_none c.in_ok-entry.field-0 (entry_under l k) c.in_ok-entry.ensures c.in_default.is)
    ∙ ap (λ n. conflict_among mine l (n - c.args.looked) c.args.looked) c.entries-place-end.ensures

pub loop-number-preserved : goal.loop-number-preserved
loop-number-preserved c =
    let xs = c.deref-number-items.result.now in
    let i = c.loop-number.number-index in
    let found = c.contains.ensures in
    (any_on (λ n. in_set nat_cmp c.in_ok-taken.taken n) xs i c.loop-number.invariant 0 (omega arith) (sym found ∙ c.if-contains.false))

pub loop-place-preserved-in_default-span : goal.loop-place-preserved-in_default-span
loop-place-preserved-in_default-span c =
    let mine = change_of c.args.mine.now in
    let l = log_of c.args.store.now c.args.log.ends.now c.args.log.bytes.now in
    let k = c.loop-place.place in
    let x = entry_of c.in-Some.entry in
    let taken = c.in_ok-taken.taken in
    let xs = c.deref-number-items.result.now in
    let none = any_end (λ n. in_set nat_cmp taken n) xs c.loop-number.number-index c.loop-number.invariant (omega arith) in
    let clear = clear_of_takes mine x.change taken (λ n. c.in_ok-taken.ensures.1 n ∙ ap (λ ns. has ns n) c.deref.ensures.value) (ap (any (λ n. in_set nat_cmp taken n)) (sym c.deref-number-items.ensures.value) ∙ none) (sym c.loop-place.invariant.0 ∙ c.in_default-span.is) in
    (c.loop-place.invariant.0, among_on mine l c.entries-place-end.result k _ c.loop-place.invariant.1 (omega arith) x (under_some c.in_ok-entry.field-0 (entry_under l k) c.in_ok-entry.ensures c.in-Some.entry c.in-Some.is) clear)

pub loop-place-preserved : goal.loop-place-preserved
loop-place-preserved c =
    let mine = change_of c.args.mine.now in
    let l = log_of c.args.store.now c.args.log.ends.now c.args.log.bytes.now in
    let k = c.loop-place.place in
    let x = entry_of c.in-Some.entry in
    let keys = c.in-Some-span.keys in
    let taken = c.in_ok-taken.taken in
    let span : span_of mine.action ≡ Some keys = sym c.loop-place.invariant.0 ∙ c.in-Some-span.is in
    let none = any_end (λ n. in_set nat_cmp taken n) c.deref-number-items.result.now c.loop-number.number-index c.loop-number.invariant (omega arith) in
    let apart = any_end (λ (a : Added). overlap keys a.keys) c.deref-added-items.result.now c.loop-added.added-index c.loop-added.invariant (omega arith) in
    let clear = clear_of_all mine x.change taken (λ n. c.in_ok-taken.ensures.1 n ∙ ap (λ ns. has ns n) c.deref.ensures.value) (ap (any (λ n. in_set nat_cmp taken n)) (sym c.deref-number-items.ensures.value) ∙ none) keys span (ap (any (λ (a : Added). overlap keys a.keys)) (sym c.deref-added-items.ensures.value) ∙ apart) in
    (sym span, among_on mine l c.entries-place-end.result k _ c.loop-place.invariant.1 (omega arith) x (under_some c.in_ok-entry.field-0 (entry_under l k) c.in_ok-entry.ensures c.in-Some.entry c.in-Some.is) clear)

pub returns : goal.returns
returns c =
    let mine = change_of c.args.mine.now in
    let l = log_of c.args.store.now c.args.log.ends.now c.args.log.bytes.now in
    let k = c.loop-place.place in
    let end = c.entries-place-end.result in
    let taken = c.in_ok-taken.taken in
    let sets : (n : ℕ) → in_set nat_cmp taken n ≡ has mine.takes n = λ n. c.in_ok-taken.ensures.1 n ∙ ap (λ ns. has ns n) c.deref.ensures.value in
    let told : Ok c.loop-place-test.found ≡ conflict_among mine l (end - c.args.looked) c.args.looked = elim c.loop-place-test.branch [
      | else-loop-place-test w ↦ ap Ok w.found-is ∙ among_end mine l end k _ c.loop-place.invariant.1 (omega arith)
      | then-loop-place-test+in_ok-entry+in-Some+then-loop-number-test+then-contains w ↦
          let xs = w.deref-number-items.result.now in
          let i = w.loop-number.number-index in
          let found = w.contains.ensures in
          let hit = any_here (λ n. in_set nat_cmp taken n) xs i w.loop-number.invariant 0 (omega arith) (sym found ∙ w.if-contains.true) in
          let x = entry_of w.in-Some.entry in
          ap Ok w.found-is ∙ among_hit mine l end k _ c.loop-place.invariant.1 (omega arith) x (under_some w.in_ok-entry.field-0 (entry_under l k) w.in_ok-entry.ensures w.in-Some.entry w.in-Some.is)
          (hit_takes mine x.change taken sets (ap (any (λ n. in_set nat_cmp taken n)) (sym w.deref-number-items.ensures.value) ∙ hit))
      | then-loop-place-test+in_ok-entry+in-Some+else-loop-number-test+in-Some-span+then-loop-added-test+then-overlaps w ↦
          let xs = w.deref-added-items.result.now in
          let i = w.loop-added.added-index in
          let keys = w.in-Some-span.keys in
          let hit = any_here (λ (a : Added). overlap keys a.keys) xs i w.loop-added.invariant _ (omega arith) (sym w.if-overlaps.ensures) in
          let x = entry_of w.in-Some.entry in
          ap Ok w.found-is ∙ among_hit mine l end k _ c.loop-place.invariant.1 (omega arith) x (under_some w.in_ok-entry.field-0 (entry_under l k) w.in_ok-entry.ensures w.in-Some.entry w.in-Some.is)
          (hit_adds mine x.change taken sets keys (sym c.loop-place.invariant.0 ∙ w.in-Some-span.is) (ap (any (λ (a : Added). overlap keys a.keys)) (sym w.deref-added-items.ensures.value) ∙ hit))
    ] in
    told ∙ ap (λ n. conflict_among mine l (n - c.args.looked) c.args.looked) c.entries-place-end.ensures
