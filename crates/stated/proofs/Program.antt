-- The ligature program of a listing tells its labels, its accessible steps and what follows them.
use Prim.Native.Nat.{ℕ, zero, suc, ◌+◌, ◌-◌, ◌/◌, ◌≤◌, ◌<◌}
use native.Mathlib.Omega.{arith}
use mathlib.Core.Path.{◌≡◌, refl, sym, ap, ◌∙◌}
use mathlib.Core.Bool.{Bool, true, false, cond, ◌&&◌}
use mathlib.Core.List.{List, [], ◌∷◌, ◌++◌, append-nil}
use lib.Dec.{eqb}
use lib.ListN.{length, get_or}
use borrow.Author.Tests.{eqb-true, eqb-false, ne_eqb, eq-eqb, leb-false, ltb-true}
use Rattle.lent.specs.Fold.{iterate}
use Rattle.lent.specs.Write.{codes, flat}
use Rattle.ink.specs.Ink.{digits, octal, code as char_text, between, alphanumeric}
use Rattle.faults.specs.Header.{upper}
use Rattle.tfm.specs.Characters.{byte_of}
use Rattle.tfm.specs.Lengths.{word_of}
use Rattle.program.specs.Steps.{address_of}
use Rattle.items.specs.Items.{raw, code, word_text, leaf}
use Rattle.ligatures.specs.Labels.{label_item, boundary_label, label_items}
use Rattle.ligatures.specs.Ligatures.{boundary_item, kern_item, ligature_item, step_item, count_step, skipped, tail_item, unused_step, unused, accessible_item, piece, run_end, piece_end, ligtable as ligtable_item, program_comment}
use Rattle.forest.specs.Forest.{past, in_name, name_at, name_of, same, is_comment}
use Rattle.forest.specs.Plain.{word_bytes}
use Rattle.forest.proofs.Quiet.{is_quiet, quiet, quiet_words, calm, good_empty, good_choose, good_loop, good_jumps}
use Rattle.ligatures.proofs.Ways.{run_within, end_within}
use Rattle.reading.specs.Values.{took, code_in, real_in, real_at, signs_in, point_in, digits_in, digit_of, places_in, parts, signed, printable, bounded}
use Rattle.reading.specs.Heads.{Statement, begins, boundary, label, kern, ligature, stop, skip, top, ligtable, character, within, small, leads, states, label_at, kern_in, ligature_in, before, number_in, ligature_names, in_ligtable, at_top, entry_in, has_list}
use Rattle.reading.specs.Read.{tells, leaves}
use Rattle.reading.proofs.Reals.{Bounded}
use Rattle.reading.proofs.Tells.{in_full, is_name, name_calm, known, words_stop, code_words, none_left, Tells, tells_as, tells_none, tells_then, tells_choose, tells_either, tells_loop, tells_leaf, tells_remarks, tells_code, tells_number, tells_bare, tells_kern, tells_ligature, tells_list}
use Rattle.stated.proofs.Spans.{spanned, span_none, span_one, span_next, tells_all}
use Rattle.stated.specs.Stated.{in_turn, boundary_stated, label_stated, labels_stated, kern_stated, code_stated, step_stated, tail_stated, program_stated}

-- a label's code begins with C or O, and so is none of the boundary's
label_code : (letters : Bool) (c : ℕ) → label_at (past (word_bytes (code letters c ∷ []))) ≡ states ligtable label true (code_in 0 255 (word_bytes (code letters c ∷ [])))
unfolding label_at past word_bytes word_text flat char_text octal code_in upper
label_code letters c = go (letters && alphanumeric c)
  where
    go : (b : Bool) → label_at (past (cond b (32 ∷ 67 ∷ 32 ∷ c ∷ []) (32 ∷ 79 ∷ 32 ∷ digits 8 11 c) ++ [])) ≡ states ligtable label true (code_in 0 255 (cond b (32 ∷ 67 ∷ 32 ∷ c ∷ []) (32 ∷ 79 ∷ 32 ∷ digits 8 11 c) ++ []))
    go true = refl
    go false = refl

-- the steps skipped are no more than the skip byte says
skipped_le : (m : List ℕ) (i n : ℕ) → skipped m i n ≤ n
unfolding skipped iterate
skipped_le m i zero = omega arith
skipped_le m i (suc n) = go (eqb (get_or m (i + 1 + n) 0) 2) (skipped_le m i n)
  where
    go : (b : Bool) → iterate (count_step m i) 0 n ≤ n → cond b (iterate (count_step m i) 0 n + 1) (iterate (count_step m i) 0 n) ≤ suc n
    go true h = omega arith
    go false h = omega arith

-- 0.0 is read as 0
zero_real : real_in 16777216 (word_bytes (raw (codes "R 0.0") ∷ [])) ≡ took 0 true (word_bytes [])
unfolding real_in real_at signs_in point_in digits_in digit_of places_in parts signed past word_bytes word_text flat upper between bounded
zero_real = refl

module _ {A : Type 0} (tell : A → Statement → A) where
  pub one_boundary : (letters : Bool) (s : List ℕ) → byte_of s 0 1 < 256 → Tells tell top (boundary_item letters s) (boundary_stated s) top
  unfolding boundary_item boundary_stated entry_in at_top same is_name in_full in_name alphanumeric between upper
  one_boundary letters s h = tells_choose tell (λ e. tells_code tell refl boundary letters (byte_of s 0 1) (λ s. refl) h) (λ e. tells_none tell)

  one_label : (letters : Bool) (starts : List ℕ) (i c : ℕ) → c < 256 → Tells tell ligtable (label_item letters starts i c) (label_stated starts i c) ligtable
  unfolding label_item label_stated entry_in in_ligtable same is_name in_full in_name alphanumeric between upper states quiet_words
  one_label letters starts i c h =
      tells_choose tell
      (λ e.
      tells_leaf tell (name_calm (codes "LABEL") (code letters c ∷ []) refl refl)
      (known ligtable (codes "LABEL") (word_bytes (code letters c ∷ [])) refl (words_stop (code letters c ∷ []))
      ∙ label_code letters c ∙ rw (code_words letters c [] h) (none_left (within ligtable) (label c ∷ []) true)))
      (λ e. tells_none tell)

  boundary_label_lem : (starts : List ℕ) (i : ℕ) → Tells tell ligtable (boundary_label starts i) (label_stated starts i 256) ligtable
  unfolding boundary_label label_stated entry_in in_ligtable same is_name in_full in_name alphanumeric between upper quiet_words is_quiet quiet label_at past word_bytes word_text flat printable
  boundary_label_lem starts i =
      tells_choose tell
      (λ e.
      tells_leaf tell (name_calm (codes "LABEL") (raw (codes "BOUNDARYCHAR") ∷ []) refl refl)
      (known ligtable (codes "LABEL") (word_bytes (raw (codes "BOUNDARYCHAR") ∷ [])) refl (words_stop (raw (codes "BOUNDARYCHAR") ∷ []))))
      (λ e. tells_none tell)

  labels : (letters : Bool) (starts : List ℕ) (i : ℕ) → Tells tell ligtable (label_items letters starts i) (labels_stated starts i) ligtable
  unfolding label_items labels_stated in_turn
  labels letters starts i = tells_then tell (boundary_label_lem starts i) (tells_loop tell (one_label letters starts i))

  -- a kern beyond the table
  zero_kern : (letters : Bool) (y : ℕ) → y < 256 → Tells tell ligtable (leaf (codes "KRN") (code letters y ∷ raw (codes "R 0.0") ∷ [])) (kern y 0 ∷ []) ligtable
  unfolding entry_in in_ligtable kern_in leads states same is_name in_full in_name alphanumeric between upper quiet_words is_quiet quiet small
  zero_kern letters y h =
      tells_leaf tell (name_calm (codes "KRN") (code letters y ∷ raw (codes "R 0.0") ∷ []) refl refl)
      (known ligtable (codes "KRN") (word_bytes (code letters y ∷ raw (codes "R 0.0") ∷ [])) refl (words_stop (code letters y ∷ raw (codes "R 0.0") ∷ []))
      ∙ rw (code_words letters y (raw (codes "R 0.0") ∷ []) h, zero_real) (none_left (within ligtable) (kern y 0 ∷ []) true))

  one_kern : (letters : Bool) (kerns : List ℕ) (y r : ℕ) → y < 256 → (r < length kerns / 4 → (word_of kerns r < 4294967296) × Bounded small (word_of kerns r))
      → Tells tell ligtable (kern_item letters kerns y r) (kern y (kern_stated kerns r) ∷ []) ligtable
  unfolding kern_item kern_stated entry_in in_ligtable kern_in same is_name in_full in_name alphanumeric between upper
  one_kern letters kerns y r h k =
      tells_either tell
      (λ e. let x = k (ltb-true r (length kerns / 4) e) in tells_as tell (rw e) (tells_kern tell refl letters y (word_of kerns r) (λ s. refl) h x.0 x.1))
      (λ e. tells_as tell (rw e) (zero_kern letters y h))

  one_ligature : (letters : Bool) (op y z : ℕ) → y < 256 → z < 256 → Tells tell ligtable (ligature_item letters op y z) (ligature (code_stated op) y z ∷ []) ligtable
  unfolding ligature_item code_stated entry_in in_ligtable ligature_in before number_in ligature_names same is_name in_full in_name alphanumeric between upper
  one_ligature letters op y z h k =
      tells_either tell (λ e. tells_as tell (rw e (ap said (sym (eqb-true op 1 e)))) (tells_ligature tell refl letters 1 y z (λ s. refl) h k)) (λ e1.
      tells_either tell (λ e. tells_as tell (rw (e1, e) (ap said (sym (eqb-true op 2 e)))) (tells_ligature tell refl letters 2 y z (λ s. refl) h k)) (λ e2.
      tells_either tell (λ e. tells_as tell (rw (e1, e2, e) (ap said (sym (eqb-true op 3 e)))) (tells_ligature tell refl letters 3 y z (λ s. refl) h k)) (λ e3.
      tells_either tell (λ e. tells_as tell (rw (e1, e2, e3, e) (ap said (sym (eqb-true op 5 e)))) (tells_ligature tell refl letters 5 y z (λ s. refl) h k)) (λ e5.
      tells_either tell (λ e. tells_as tell (rw (e1, e2, e3, e5, e) (ap said (sym (eqb-true op 6 e)))) (tells_ligature tell refl letters 6 y z (λ s. refl) h k)) (λ e6.
      tells_either tell (λ e. tells_as tell (rw (e1, e2, e3, e5, e6, e) (ap said (sym (eqb-true op 7 e)))) (tells_ligature tell refl letters 7 y z (λ s. refl) h k)) (λ e7.
      tells_either tell (λ e. tells_as tell (rw (e1, e2, e3, e5, e6, e7, e) (ap said (sym (eqb-true op 11 e)))) (tells_ligature tell refl letters 11 y z (λ s. refl) h k)) (λ e11.
      tells_as tell (rw (e1, e2, e3, e5, e6, e7, e11)) (tells_ligature tell refl letters 0 y z (λ s. refl) h k))))))))
    where
      said : ℕ → List Statement
      said x = ligature x y z ∷ []

  one_tail : (m : List ℕ) (i n : ℕ) → Tells tell ligtable (tail_item m i n) (tail_stated m i n) ligtable
  unfolding tail_item tail_stated entry_in in_ligtable same is_name in_full in_name alphanumeric between upper
  one_tail m i n =
      tells_choose tell (λ e. tells_none tell)
      (λ e. tells_choose tell (λ d. tells_bare tell refl (stop ∷ []) (λ s. refl))
      (λ d. tells_number tell refl skip 0 127 (skipped m i n) (λ s. refl) (omega arith) (omega (arith, skipped_le m i n, leb-false 128 n d)) (omega arith)))

  -- the tables of a copy: every step is one of bytes, and every kern's word is in its range
  module _ (letters : Bool) (s kerns : List ℕ) (bytes : (i j : ℕ) → byte_of s i j < 256) (fits : (r : ℕ) → r < length kerns / 4 → (word_of kerns r < 4294967296) × Bounded small (word_of kerns r)) where
    pub one_step : (i : ℕ) → Tells tell ligtable (step_item letters s kerns i) (step_stated s kerns i) ligtable
    unfolding step_item step_stated
    one_step i =
        tells_choose tell (λ e. tells_none tell)
        (λ e. tells_choose tell (λ d. one_kern letters kerns (byte_of s i 1) (address_of s i - 32768) (bytes i 1) (fits (address_of s i - 32768)))
        (λ d. one_ligature letters (byte_of s i 2) (byte_of s i 1) (byte_of s i 3) (bytes i 1) (bytes i 3)))

    -- a character's program, which is a comment
    pub one_comment : (c nl i : ℕ) → Tells tell (character c) (program_comment letters s kerns nl i) [] (character c)
    unfolding program_comment has_list is_comment name_of name_at past in_name alphanumeric between upper same calm quiet quiet_words is_quiet word_bytes
    one_comment c nl i = tells_remarks tell refl refl refl (good_jumps _ _ nl nl i (λ j h. (one_step j).good))

    module _ (m starts : List ℕ) (marks : (i : ℕ) → get_or m i 0 ≤ 2) where
      pub good_unused : (i n : ℕ) → Tells tell ligtable (unused letters s kerns m i n) [] ligtable
      unfolding unused unused_step has_list is_comment name_of name_at past in_name alphanumeric between upper same calm quiet quiet_words is_quiet word_bytes
      good_unused i n = tells_remarks tell refl refl refl (good_loop (λ j h. good_choose (λ e. good_empty) (λ e. (one_step (i + j)).good)))

      accessible : (i : ℕ) → Tells tell ligtable (accessible_item letters s kerns m starts i) (labels_stated starts i ++ step_stated s kerns i ++ tail_stated m i (byte_of s i 0)) ligtable
      unfolding accessible_item
      accessible i = tells_then tell (tells_then tell (labels letters starts i) (one_step i)) (one_tail m i (byte_of s i 0))

      -- what a step states, if it is accessible
      g : ℕ → List Statement
      g i = cond (eqb (get_or m i 0) 2) (labels_stated starts i ++ step_stated s kerns i ++ tail_stated m i (byte_of s i 0)) []

      -- a run of steps that are not accessible states nothing
      run_silent : (k i : ℕ) → spanned g i (run_end m k i - i) ≡ []
      unfolding run_end g
      run_silent zero i = span_none g i (i - i) (omega arith)
      run_silent (suc k) i = go (eqb (get_or m i 0) 2) refl (run_silent k (i + 1))
        where
          go : (b : Bool) → eqb (get_or m i 0) 2 ≡ b → spanned g (i + 1) (run_end m k (i + 1) - (i + 1)) ≡ [] → spanned g i (cond b i (run_end m k (i + 1)) - i) ≡ []
          go true e h = span_none g i (i - i) (omega arith)
          go false e h = span_next g i (run_end m k (i + 1) - i) (run_end m k (i + 1) - (i + 1)) (omega (arith, run_within m k (i + 1))) ∙ rw (e, h)

      module _ (nl : ℕ) where
        -- a piece states what its accessible steps do
        silent_piece : (i : ℕ) → eqb (get_or m i 0) 0 ≡ true → spanned g i (piece_end m nl i - i) ≡ []
        unfolding piece_end g
        silent_piece i e =
            let z : get_or m i 0 ≡ 0 = eqb-true (get_or m i 0) 0 e in
            let n : eqb (get_or m i 0) 2 ≡ false = ne_eqb (get_or m i 0) 2 (omega arith) in
            let r = run_end m (nl - (i + 1)) (i + 1) in
            rw e (span_next g i (r - i) (r - (i + 1)) (omega (arith, run_within m (nl - (i + 1)) (i + 1))) ∙ rw (n, run_silent (nl - (i + 1)) (i + 1)))

        single_piece : (i : ℕ) → eqb (get_or m i 0) 0 ≡ false → spanned g i (piece_end m nl i - i) ≡ g i
        unfolding piece_end
        single_piece i e = let z : i + 1 - i ≡ 1 = omega arith in rw (e, z) (span_one g i)

        one_piece : (i : ℕ) → i < nl → Tells tell ligtable (piece letters s kerns m starts i (piece_end m nl i)) (spanned g i (piece_end m nl i - i)) ligtable
        unfolding piece g
        one_piece i h =
            tells_either tell (λ e. tells_as tell (sym (silent_piece i e)) (good_unused i (piece_end m nl i - i)))
            (λ e. tells_either tell
            (λ d.
            let z : get_or m i 0 ≡ 1 = eqb-true (get_or m i 0) 1 d in
            let n : eqb (get_or m i 0) 2 ≡ false = ne_eqb (get_or m i 0) 2 (omega arith) in
            tells_as tell (sym (single_piece i e ∙ rw n)) (tells_none tell))
            (λ d.
            let z : get_or m i 0 ≡ 2 = omega (arith, marks i, eqb-false (get_or m i 0) 0 e, eqb-false (get_or m i 0) 1 d) in
            tells_as tell (sym (single_piece i e ∙ rw (eq-eqb (get_or m i 0) 2 z))) (accessible i)))

        pub whole_program : Tells tell top (ligtable_item letters s kerns m starts nl) (program_stated s kerns m starts nl) top
        unfolding ligtable_item program_stated leaves tells g entry_in at_top same is_name in_full in_name alphanumeric between upper
        whole_program =
            tells_choose tell
            (λ e. tells_none tell)
            (λ e. tells_as tell (append-nil _) (tells_list tell refl (begins ∷ []) [] (λ s. refl) (tells_all tell _ (piece_end m nl) nl g one_piece (λ i h. let w = end_within m nl i h in (omega (arith, w.least), w.most))) (λ a ok. refl)))
