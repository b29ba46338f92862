-- What is promised of putting and deleting files.
use Rattle.std.proofs.Common.{◌≡◌, ℕ, ◌*◌, ◌%◌, Bool, true, false, cond, not, ◌&&◌, eqb, List, length, Some, None, Option, sym, refl, ap, ◌∙◌, subst, inl, inr, arith}
use Rattle.std.proofs.lemmas.Bool.{and_parts}
use Rattle.codec.specs.declared.entry.Added.{Added}
use Rattle.codec.specs.declared.rewrite.Part.{Part}
use Rattle.codec.specs.declared.rewrite.Rewrite.{Rewrite}
use Rattle.codec.specs.declared.write.Written.{Written}
use Rattle.codec.specs.Bounds.{every}
use Rattle.codec.specs.Files.{File, file, pairs, file_fits, file_bytes}
use Rattle.codec.specs.Rewrites.{lies_in, is_source, refuses, source_rows, part_in, new_file, can_rewrite, rewrite_done}
use Rattle.codec.specs.Words.{put_at}
use Rattle.codec.specs.Writes.{told_of, writes}
use Rattle.codec.proofs.LentFiles.{writes_room}
use Rattle.store.specs.Putting.{Files, slot_part, lent_in, put_rows, put_rewritten}
use Rattle.store.specs.Slots.{slot_size}
use Rattle.store.specs.StoreLaws.{file_under, WasPut, IsUnder, WhatIsPutIsFound, OtherFilesStay, WhatIsDeletedIsGone}
use Rattle.store.proofs.FileKeeping.{deleted_gone, deleted_other, Filled, filled, filled_found, filled_other, filled_bytes, Writes, put_fills}

-- what was written where something was told
told_some : (b : Bool) (x told : Written) (ys xs cur : List ℕ) → ◌≡◌ {A = Option Written × List ℕ} (Some told, cur) (cond b (Some x, ys) (None, xs)) → (b ≡ true) × (told ≡ x) × (cur ≡ ys)
told_some true x told ys xs cur e =
    let h : ◌≡◌ {A = Option Written} (Some told) (Some x) = ap (λ (p : Option Written × List ℕ). p.0) e in
    (refl, cc, ap (λ (p : Option Written × List ℕ). p.1) e)
told_some false x told ys xs cur e =
    absurd (let h : ◌≡◌ {A = Option Written} (Some told) None = ap (λ (p : Option Written × List ℕ). p.0) e in let z : ◌≡◌ {A = ℕ} 0 1 = cc in omega arith)

writes_fits : (f : File) (room : ℕ) → writes f room ≡ true → file_fits f ≡ true
unfolding writes
writes_fits f room e = (and_parts (file_fits f) _ e).0

-- both ways to put a file write it so
lent_writes : (s : Files) (began : ℕ) (lent : List ℕ) → Writes s (file s.next began (pairs lent)) (λ i. lent_in s.next began lent (slot_part s.most i) s.bytes)
lent_writes s began lent i told bytes e =
    let f = file s.next began (pairs lent) in
    let p = told_some (eqb (length lent % 2) 0 && writes f (slot_size s.most)) (told_of f) told (put_at (i * slot_size s.most) (file_bytes f) s.bytes) s.bytes bytes e in
    let w = (and_parts (eqb (length lent % 2) 0) _ p.0).1 in
    (refl, writes_fits f (slot_size s.most) w, ap (λ (x : Written). x.length) p.1, writes_room f (slot_size s.most) w, p.2)

can_write : (w : Rewrite) (xs : List ℕ) (ps : List Part) (t : Part) (n began : ℕ) → can_rewrite w xs ps t n began ≡ true → writes (new_file w xs ps n began) t.length ≡ true
unfolding can_rewrite
can_write w xs ps t n began e = (and_parts (not (refuses w (source_rows xs ps))) _ (and_parts (every (is_source xs t) ps) _ (and_parts (lies_in t (length xs)) _ e).1).1).1

rewrite_writes : (s : Files) (began : ℕ) (ps : List Part) (w : Rewrite) → Writes s (new_file w s.bytes ps s.next began) (λ i. rewrite_done w s.bytes ps (slot_part s.most i) s.next began)
rewrite_writes s began ps w i told bytes e =
    let f = new_file w s.bytes ps s.next began in
    let p = told_some (can_rewrite w s.bytes ps (slot_part s.most i) s.next began) (told_of f) told (put_at (i * slot_size s.most) (file_bytes f) s.bytes) s.bytes bytes e in
    let k = can_write w s.bytes ps (slot_part s.most i) s.next began p.0 in
    (refl, writes_fits f (slot_size s.most) k, ap (λ (x : Written). x.length) p.1, writes_room f (slot_size s.most) k, p.2)

-- what a put leaves
was_filled : (s t : Files) (f : File) (a : Added) → WasPut s f a t → (i : ℕ) × Filled s f i × (t ≡ filled s f i) × (a.number ≡ s.next)
unfolding put_rows put_rewritten
was_filled s t f a (inl (began, lent, e, p)) =
    subst (λ (g : File). (i : ℕ) × Filled s g i × (t ≡ filled s g i) × (a.number ≡ s.next)) (sym e)
    (put_fills s t (file s.next began (pairs lent)) a (λ i. lent_in s.next began lent (slot_part s.most i) s.bytes) (lent_writes s began lent) p)
was_filled s t f a (inr (began, sources, w, e, p)) =
    subst (λ (g : File). (i : ℕ) × Filled s g i × (t ≡ filled s g i) × (a.number ≡ s.next)) (sym e)
    (put_fills s t (new_file w s.bytes sources s.next began) a (λ i. rewrite_done w s.bytes sources (slot_part s.most i) s.next began) (rewrite_writes s began sources w) p)

pub what_is_put_is_found : WhatIsPutIsFound
what_is_put_is_found s t f a p =
    let w = was_filled s t f a p in
    (w.3, subst (λ (u : Files). IsUnder u s.next f) (sym w.2) (filled_found s f w.0 w.1), ap (λ (u : Files). u.next) w.2)

pub other_files_stay : OtherFilesStay
other_files_stay s t f a p n ne =
    let w = was_filled s t f a p in
    (ap (λ (u : Files). file_under u n) w.2 ∙ filled_other s f w.0 w.1 n ne, λ x e. ap (λ (u : Files). part_in x.part u.bytes) w.2 ∙ filled_bytes s f w.0 w.1 n x e)

pub what_is_deleted_is_gone : WhatIsDeletedIsGone
what_is_deleted_is_gone most d bs n = (deleted_gone most d bs n, deleted_other most d bs n)
