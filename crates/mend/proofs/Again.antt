-- Mending twice changes nothing more: the copy of the copy is the copy. r is what follows the copy in a lent buffer.
use Prim.Native.Nat.{ℕ, zero, suc, ◌+◌, ◌-◌, ◌*◌, ◌/◌, ◌%◌, ◌≤◌, ◌<◌}
use native.Mathlib.Omega.{arith}
use mathlib.Core.Path.{◌≡◌, sym, ◌∙◌}
use mathlib.Core.Bool.{false}
use mathlib.Core.List.{List, ◌++◌}
use lib.ListN.{get_or}
use Rattle.lent.specs.Answer.{first}
use Rattle.tfm.specs.Sizes.{layout_of, number_of}
use Rattle.tfm.specs.Subfiles.{count_of, table_of}
use Rattle.tfm.specs.Characters.{byte_of, untagged, exists_in}
use Rattle.tfm.specs.Lengths.{too_big}
use Rattle.tfm.specs.declared.Layout.{Layout}
use Rattle.program.specs.Steps.{redirected}
use Rattle.program.specs.Marks.{marks_of}
use Rattle.faults.specs.Header.{bad_parameter}
use Rattle.faults.specs.Characters.{piece_missing}
use Rattle.mend.specs.Copy.{loses_tag, mended_info, mended_length, mended_step, mended_piece, mended_parameter, mended_in, mended}
use Rattle.mend.proofs.Back.{made, copy_byte, copy_past, copy_at, copy_sizes, copy_layout, same_copy}
use Rattle.mend.proofs.Kept.{first_zero, not_big, info_byte_lem, copy_exists, cleared, length_mend}
use Rattle.mend.proofs.Twice.{mend_again}
use Rattle.mend.proofs.Strings.{header_again}
use Rattle.mend.proofs.Tags.{Retagged, info_again}
use Rattle.mend.proofs.Marked.{Restepped, step0, step1, step2, step3, same_redirected, same_marks, step_again}

-- param, of which params' is the copy's: a word that was not cleared is not bad
module _ (params params' : List ℕ) (n : ℕ) (bytes : (i : ℕ) → i < n → get_or params' i 0 ≡ mended_parameter params i) where
  same_bad : (w : ℕ) → 4 * w < n → bad_parameter params (w + 1) ≡ false → bad_parameter params' (w + 1) ≡ false
  unfolding mended_parameter bad_parameter too_big byte_of first
  same_bad w h q =
      let one : w + 1 - 1 ≡ w = omega arith in
      let d : (4 * w + 0) / 4 ≡ w = omega arith in
      let z : get_or params' (4 * w + 0) 0 ≡ get_or params (4 * w + 0) 0 = bytes (4 * w + 0) (omega arith) ∙ rw (d, q) in
      rw (one, z) (rw one at q)

  parameter_again : (i : ℕ) → i < n → mended_parameter params' i ≡ mended_parameter params i
  unfolding mended_parameter
  parameter_again i h = mend_again _ _ _ _ _ (bytes i h) (λ q e. same_bad (i / 4) (omega arith) q)

-- exten, of which recipes' is the copy's: a piece that was not made 0 is not missing, for the same codes exist
piece_again : (infos infos' recipes recipes' : List ℕ) (l : Layout) → ((code : ℕ) → exists_in infos' l code ≡ exists_in infos l code)
    → (i : ℕ) → get_or recipes' i 0 ≡ mended_piece infos recipes l i → mended_piece infos' recipes' l i ≡ mended_piece infos recipes l i
unfolding mended_piece piece_missing byte_of
piece_again infos infos' recipes recipes' l exists i at =
    let n : 4 * (i / 4) + i % 4 ≡ i = omega arith in
    mend_again _ _ _ _ _ at (λ q e. rw (exists (get_or recipes' (4 * (i / 4) + i % 4) 0), n, e) (rw n at q))

module _ (f : List ℕ) (l : Layout) (later : ℕ) (e : number_of f l later ≡ 0) (r : List ℕ) where
  -- char_info and lig_kern as the mends made them
  tags_mended : (k : ℕ) → byte_of (table_of (mended f l ++ r) l 1) k 2
      ≡ first (loses_tag (table_of f l 1) (table_of f l 6) l (l.bc + k)) (untagged (byte_of (table_of f l 1) k 2)) (byte_of (table_of f l 1) k 2)
  unfolding byte_of mended_in mended_info
  tags_mended k =
      let w : (4 * k + 2) / 4 ≡ k = omega arith in
      let j : (4 * k + 2) % 4 ≡ 2 = omega arith in
      copy_at f l later e r 1 (4 * k + 2) (omega arith) (λ z. rw (j, z, first_zero)) ∙ rw (j, w)

  retagged : Retagged (table_of f l 1) (table_of f l 6) (table_of (mended f l ++ r) l 1) l
  retagged = record {
    exists = copy_exists f l later e r;
    remainder = λ k. info_byte_lem f l later e r k 3 (omega arith) (omega arith);
    tags = tags_mended;
  }

  step_byte_lem : (i j : ℕ) → i < l.nl → j < 4 → byte_of (table_of (mended f l ++ r) l 6) i j
      ≡ mended_step (table_of f l 1) (table_of f l 6) (marks_of (table_of f l 1) (table_of f l 6) l) l (4 * i + j)
  unfolding byte_of mended_in count_of
  step_byte_lem i j h p = copy_byte f l later e r 6 (4 * i + j) (omega arith) (omega arith)

  restepped : Restepped (table_of f l 1) (table_of f l 6) (marks_of (table_of f l 1) (table_of f l 6) l) (table_of (mended f l ++ r) l 6) l
  unfolding byte_of count_of
  restepped = record {
    byte0 = λ i h. step_byte_lem i 0 h (omega arith) ∙ step0 _ _ _ l i;
    byte1 = λ i h. step_byte_lem i 1 h (omega arith) ∙ step1 _ _ _ l i;
    byte2 = λ i h. step_byte_lem i 2 h (omega arith) ∙ step2 _ _ _ l i;
    byte3 = λ i h. step_byte_lem i 3 h (omega arith) ∙ step3 _ _ _ l i;
    past = λ i j h. copy_past f l later e r 6 (4 * i + j) (omega arith) (omega arith);
  }

  -- programs start where they did
  starts : (n : ℕ) → redirected (table_of (mended f l ++ r) l 6) l n ≡ redirected (table_of f l 6) l n
  starts = same_redirected _ _ _ _ l restepped

  -- width, height, depth, italic and kern: no word of the copy is too big
  length_again : (k : ℕ) → 2 ≤ k → k ≤ 7 → (k ≡ 6 → ⊥) → (i : ℕ) → i < 4 * count_of l k → made (mended f l ++ r) l k i ≡ made f l k i
  unfolding mended_length
  length_again k low high other i h =
      let t = table_of f l k in
      let clear = cleared f l later e r k low high other (i / 4) in
      length_mend (mended f l ++ r) l k low high other i
      ∙ mend_again _ _ _ _ _ (copy_byte f l later e r k i (omega arith) h ∙ length_mend f l k low high other i) (λ _ _. not_big t _ (i / 4) clear)
      ∙ sym (length_mend f l k low high other i)

  -- lig_kern: by the same marks
  step_twice : (i : ℕ) → i < 4 * l.nl → made (mended f l ++ r) l 6 i ≡ made f l 6 i
  unfolding mended_in
  step_twice i h =
      let n : 4 * (i / 4) + i % 4 ≡ i = omega arith in
      rw (same_marks _ _ _ _ l restepped _ retagged, ← n) (step_again _ _ _ _ l restepped _ retagged (i / 4) (omega arith) (i % 4) (omega arith))

  -- what is made of a byte of the copy is it, subfile by subfile
  again_at : (k i : ℕ) → k ≤ 9 → i < 4 * count_of l k → made (mended f l ++ r) l k i ≡ made f l k i
  unfolding mended_in count_of
  again_at zero i p h = header_again _ _ l (λ j q. copy_byte f l later e r 0 j p q) i h
  again_at (suc zero) i p h = info_again _ _ _ l retagged _ starts i (copy_byte f l later e r 1 i p h)
  again_at (suc (suc zero)) i p h = length_again 2 (omega arith) (omega arith) (omega arith) i h
  again_at (suc (suc (suc zero))) i p h = length_again 3 (omega arith) (omega arith) (omega arith) i h
  again_at (suc (suc (suc (suc zero)))) i p h = length_again 4 (omega arith) (omega arith) (omega arith) i h
  again_at (suc (suc (suc (suc (suc zero))))) i p h = length_again 5 (omega arith) (omega arith) (omega arith) i h
  again_at (suc (suc (suc (suc (suc (suc zero)))))) i p h = step_twice i h
  again_at (suc (suc (suc (suc (suc (suc (suc zero))))))) i p h = length_again 7 (omega arith) (omega arith) (omega arith) i h
  again_at (suc (suc (suc (suc (suc (suc (suc (suc zero)))))))) i p h =
      piece_again _ _ _ _ l (copy_exists f l later e r) i (copy_byte f l later e r 8 i p h)
  again_at (suc (suc (suc (suc (suc (suc (suc (suc (suc zero))))))))) i p h =
      parameter_again _ _ (4 * l.np) (λ j q. copy_byte f l later e r 9 j p q) i h
  again_at (suc (suc (suc (suc (suc (suc (suc (suc (suc (suc k)))))))))) i p h = absurd (omega arith)

  -- for any sizes that accept the file
  pub mended_again : mended (mended f l ++ r) l ≡ mended f l
  mended_again = same_copy (mended f l ++ r) f l (copy_sizes f l later e r) again_at

-- and by the copy's own sizes, which are the file's
pub copy_again : (f : List ℕ) (later : ℕ) → number_of f (layout_of f) later ≡ 0 → (r : List ℕ)
    → mended (mended f (layout_of f) ++ r) (layout_of (mended f (layout_of f) ++ r)) ≡ mended f (layout_of f)
copy_again f later e r = rw (copy_layout f (layout_of f) later e r) (mended_again f (layout_of f) later e r)
