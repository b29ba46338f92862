use Rattle.std.proofs.Common.{◌≡◌, ℕ, ◌+◌, ◌≤◌, List, length, Some, sym, subst, rules}
use Rattle.store.specs.Memory.{files_in}
use Rattle.store.specs.StoreLaws.{file_under}
use Rattle.versions.specs.FilesHeld.{HasRows}
use Rattle.versions.proofs.StoredLaws.{stored_lies, part_slice}
use Rattle.versions.proofs.held.Held.find.Goals as goal

pub overflow_add-end : goal.overflow_add-end
overflow_add-end c =
    let s = files_in c.args.store.now c.args.memory in
    let x = c.in_ok-file.file in
    let under : Some x ≡ file_under s c.args.number = search rules in
    let h : x.part.start + x.part.length ≤ length c.args.memory.bytes.now = (stored_lies s c.args.number x under).inside in
    search rules

pub slice_bounds-result-end : goal.slice_bounds-result-end
slice_bounds-result-end c =
    let s = files_in c.args.store.now c.args.memory in
    let x = c.in_ok-file.file in
    let under : Some x ≡ file_under s c.args.number = search rules in
    let h : x.part.start + x.part.length ≤ length c.args.memory.bytes.now = (stored_lies s c.args.number x under).inside in
    search rules

pub invariant_of-result : goal.invariant_of-result
invariant_of-result c =
    let s = files_in c.args.store.now c.args.memory in
    let x = c.in_ok-file.file in
    let under : Some x ≡ file_under s c.args.number = search rules in
    record { whole = subst (λ (l : List ℕ). HasRows l x.head.count) (sym (part_slice x.part c.args.memory.bytes.now)) (stored_lies s c.args.number x under).rows }
