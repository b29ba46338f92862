-- What was written out reads in: the header, the files and the entries.
use Rattle.std.proofs.Common.{◌≡◌, ℕ, ◌+◌, ◌*◌, ◌%◌, ◌^◌, ◌<◌, ◌≤◌, cond, eqb, List, [], ◌++◌, length, get_or, drop, replicate, Ok, Err, sum, sym, refl, ap, ◌∙◌, arith}
use Rattle.std.specs.List.{flat_map}
use Rattle.std.proofs.lemmas.List.{append-nil, drop_at, length-append, length-drop}
use Rattle.std.proofs.lemmas.Bool.{eq-eqb, le-ltb}
use Rattle.std.proofs.lemmas.Bool.Decides.{nat_tests}
use Rattle.codec.specs.Seals.{sealed, sealed_bytes}
use Rattle.codec.specs.Words.{AreWords}
use Rattle.codec.proofs.SealLaws.{length_sealed_bytes}
use Rattle.codec.proofs.WordLaws.{get_d_words, words_bytes}
use Rattle.store.specs.declared.Store.{Store}
use Rattle.store.specs.declared.header.Header.{Header}
use Rattle.store.specs.declared.unread.Unread.TheVariants.{At}
use Rattle.store.specs.Export.{slots_of, files_held, entries_held, counted, numbered, header_words, header_of, exported}
use Rattle.store.specs.Import.{word_at, bounded, header_at, header_in, files_read, entries_read, Body, body_read, Import, read_in}
use Rattle.store.specs.Log.{log_of}
use Rattle.store.specs.Opening.{numbers}
use Rattle.store.specs.Putting.{files_of}
use Rattle.store.specs.Slots.{slots}
use Rattle.store.specs.StoreLaws.{HasRoom, WhatIsWrittenOutReadsIn}
use Rattle.store.proofs.ExportLaws.{held_or_free}
use Rattle.store.proofs.HeldEntries.{length_entries, entries_fit, entries_come_back}
use Rattle.store.proofs.HeldFiles.{files_fit, files_come_back}
use Rattle.store.proofs.ImportLaws.{body_by, body_whole, in_body}
use Rattle.store.proofs.Standing.{stands_behind, listed, laid, files_stand, ended, logged, entries_stand}

-- a header within its bounds
pub record Bounded (h : Header) : Type 0 where
  pub near : h.horizon ≤ 4096
  pub numbered : h.next ≤ 2 ^ 32
  pub some : 1 ≤ h.most_rows
  pub few : h.most_rows ≤ 65536
  pub fits : h.slots < 2 ^ 64
  pub held : h.files ≤ h.slots
  pub logged : h.entries ≤ 65536

-- it is read again
module _ (h : Header) (rest : List ℕ) (b : Bounded h) where
  abbrev front : List ℕ
  front = sealed_bytes (header_words h) ++ rest

  are_words : AreWords (sealed (header_words h))
  are_words =
      (omega (arith, b.near), (omega (arith, b.numbered), (omega (arith, b.few), (b.fits, (omega (arith, b.fits, b.held), (omega (arith, b.logged), (omega arith, tt)))))))

  word_read : (k : ℕ) → k < 7 → word_at (8 * k) front ≡ get_or (sealed (header_words h)) k 0
  word_read k l = sym (get_d_words 7 k front l) ∙ ap (λ ws. get_or ws k 0) (words_bytes (sealed (header_words h)) rest are_words)

  header_same : header_at front ≡ h
  header_same = λ j.
      record {
        horizon = word_read 0 (omega arith) j;
        next = word_read 1 (omega arith) j;
        most_rows = word_read 2 (omega arith) j;
        slots = word_read 3 (omega arith) j;
        files = word_read 4 (omega arith) j;
        entries = word_read 5 (omega arith) j;
      }

  in_bounds : bounded h ≡ Ok h
  in_bounds = grind (arith, nat_tests)

  pub header_read : header_in front ≡ Ok h
  header_read =
      let long : 56 ≤ length (sealed_bytes (header_words h) ++ rest) = omega (arith, length-append (sealed_bytes (header_words h)) rest, length_sealed_bytes (header_words h)) in
      ap (λ t. cond t (Err (At (length front))) (cond (eqb (word_at 48 front) (sum (header_words (header_at front)) % 2 ^ 64)) (bounded (header_at front)) (Err (At 48)))) (le-ltb (length front) 56 long)
      ∙ ap (λ t. cond t (bounded (header_at front)) (Err (At 48))) (eq-eqb (word_at 48 front) (sum (header_words (header_at front)) % 2 ^ 64) (word_read 6 (omega arith) ∙ ap (λ x. sum (header_words x) % 2 ^ 64) (sym header_same)))
      ∙ ap bounded header_same ∙ in_bounds

-- a store that was written out, and memory that has room for it
module _ (s : Store) (directory bytes ends log : List ℕ) (words : AreWords directory) (few : length directory < 2 ^ 64) (short : length log < 2 ^ 64) (d b e l : List ℕ)
    (room : HasRoom (files_of s directory bytes) (log_of s ends log) d b e l) where
  abbrev xs : List (ℕ × List ℕ)
  xs = files_held (files_of s directory bytes)

  abbrev cs : List (List ℕ)
  cs = entries_held (log_of s ends log)

  abbrev header : Header
  header = header_of s.horizon s.entries (files_of s directory bytes)

  abbrev whole : List ℕ
  whole = sealed_bytes (header_words header) ++ (flat_map numbered xs ++ flat_map counted cs)

  -- where the files end, and where the entries do
  abbrev behind : ℕ
  behind = 56 + length (flat_map numbered xs)

  abbrev end : ℕ
  end = behind + length (flat_map counted cs)

  held : length xs ≤ slots_of (files_of s directory bytes)
  held = omega (arith, held_or_free (files_of s directory bytes) (slots_of (files_of s directory bytes)))

  header_bounded : Bounded header
  header_bounded =
      record {
        near = s.near;
        numbered = s.numbered;
        some = s.some;
        few = s.few;
        fits = omega arith;
        held = held;
        logged = s.logged;
      }

  files_from : drop 56 whole ≡ flat_map numbered xs ++ flat_map counted cs
  files_from = drop_at (sealed_bytes (header_words header)) (flat_map numbered xs ++ flat_map counted cs) 56 (length_sealed_bytes (header_words header))

  entries_from : drop behind whole ≡ flat_map counted cs ++ []
  entries_from = stands_behind whole 56 (flat_map numbered xs) (flat_map counted cs) files_from ∙ sym (append-nil (flat_map counted cs))

  nothing_from : length whole ≤ end
  nothing_from =
      let z : drop end whole ≡ [] = stands_behind whole behind (flat_map counted cs) [] entries_from in
      omega (arith, ap length z, length-drop end whole)

  many : length cs ≡ s.entries
  many = length_entries (log_of s ends log) s.entries

  entries_read_in : (Ok end, ended 0 0 cs e, logged 0 cs l) ≡ entries_read whole s.entries 0 behind 0 e l
  entries_read_in =
      sym (entries_stand whole cs [] 0 behind 0 e l (entries_fit (log_of s ends log) s.entries short) (omega (arith, room.2)) entries_from)
      ∙ ap (λ n. entries_read whole n 0 behind 0 e l) many

  files_read_in : (Ok behind, listed 0 xs (replicate (length d) 0), laid s.most_rows 0 xs b) ≡ files_read s.most_rows whole (length xs) 0 56 (replicate (length d) 0) b
  files_read_in = sym (files_stand s.most_rows whole xs (flat_map counted cs) 0 56 (replicate (length d) 0) b (files_fit (files_of s directory bytes) (slots_of (files_of s directory bytes)) s.few words) files_from)

  body_read_in : ◌≡◌ {A = Body} (Ok tt, listed 0 xs (replicate (length d) 0), laid s.most_rows 0 xs b, ended 0 0 cs e, logged 0 cs l) (body_read s.most_rows whole (length xs) s.entries d b e l)
  body_read_in =
      body_whole whole (listed 0 xs (replicate (length d) 0)) (laid s.most_rows 0 xs b) end (ended 0 0 cs e) (logged 0 cs l) nothing_from
      ∙ body_by s.most_rows whole (length xs) s.entries d b e l (replicate (length d) 0) behind (listed 0 xs (replicate (length d) 0)) (laid s.most_rows 0 xs b) (Ok end, ended 0 0 cs e, logged 0 cs l) refl files_read_in entries_read_in

  store_read_in : ◌≡◌ {A = Import} (Ok (numbers s), listed 0 xs (replicate (length d) 0), laid s.most_rows 0 xs b, ended 0 0 cs e, logged 0 cs l) (read_in whole d b e l)
  store_read_in =
      in_body whole d b e l header (slots s.most_rows (length d) (length b)) (Ok tt, listed 0 xs (replicate (length d) 0), laid s.most_rows 0 xs b, ended 0 0 cs e, logged 0 cs l)
      (sym (header_read header (flat_map numbered xs ++ flat_map counted cs) header_bounded)) refl room.0 room.1 body_read_in

pub what_is_written_out_reads_in : WhatIsWrittenOutReadsIn
unfolding exported
what_is_written_out_reads_in s directory bytes ends log words few short d b e l room =
    let S = files_of s directory bytes in
    let L = log_of s ends log in
    let there = entries_come_back s.entries (entries_held L) e l (length_entries L s.entries) room.1 room.2 in (
      listed 0 (files_held S) (replicate (length d) 0),
      laid s.most_rows 0 (files_held S) b,
      ended 0 0 (entries_held L) e,
      logged 0 (entries_held L) l,
      sym (store_read_in s directory bytes ends log words few short d b e l room),
      files_come_back s.most_rows s.next (files_held S) (length d) b (omega (arith, held s directory bytes ends log words few short d b e l room, room.0)) (files_fit S (slots_of S) s.few words),
      there.0,
      there.1,
    )
