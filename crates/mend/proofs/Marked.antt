-- The steps of the copy: their marks are the file's, and no mend is left to do.
use Prim.Native.Nat.{ℕ, zero, suc, ◌+◌, ◌-◌, ◌*◌, ◌/◌, ◌%◌, ◌≤◌, ◌<◌}
use native.Mathlib.Decide.{dec_le, dec_lt}
use native.Mathlib.Omega.{arith}
use mathlib.Core.Path.{◌≡◌, refl, sym, ap, ◌∙◌}
use mathlib.Core.Bool.{Bool, true, false, cond, ◌&&◌, and-false, or-false, and-eq-true_iff}
use mathlib.Core.List.{List}
use lib.Dec.{leb, ltb, eqb}
use lib.ListN.{get_or}
use borrow.Author.Tests.{leb-true, eqb-true, le-leb, lt-leb, le-ltb, ne_eqb}
use Rattle.lent.specs.Answer.{first}
use Rattle.lent.specs.Fold.{iterate}
use Rattle.tfm.specs.Sizes.{chars}
use Rattle.tfm.specs.Characters.{byte_of, info_of, in_range}
use Rattle.tfm.specs.declared.Layout.{Layout}
use Rattle.program.specs.Steps.{address_of, boundary_char, has_boundary, boundary_start, redirects, redirected, next_of}
use Rattle.program.specs.Marks.{store_if, mark_first, mark_last, mark_label, mark_info, mark_step, marks_from, marks_of}
use Rattle.faults.specs.Steps.{bad_label, bad_start, skips_too_far, is_step, is_ligature, step_for_missing, ligature_to_missing, odd_code}
use Rattle.faults.specs.Characters.{link_missing, links, ends_cycle, bad_recipe}
use Rattle.mend.specs.Copy.{loses_tag, mended_step}
use Rattle.mend.proofs.Back.{same_turns}
use Rattle.mend.proofs.Twice.{mend_again}
use Rattle.mend.proofs.Tags.{Retagged, same_tag, lost_tag, same_remainder}

-- what the mends of lig_kern did: s' is of the copy
pub record Restepped (infos s m s' : List ℕ) (l : Layout) : Type 0 where
  pub byte0 : (i : ℕ) → i < l.nl → byte_of s' i 0 ≡ first (skips_too_far s m l i) 128 (byte_of s i 0)
  pub byte1 : (i : ℕ) → i < l.nl → byte_of s' i 1 ≡ first (step_for_missing infos s m l i) (l.bc % 256) (byte_of s i 1)
  pub byte2 : (i : ℕ) → i < l.nl → byte_of s' i 2 ≡ first (odd_code s m i) 0 (byte_of s i 2)
  pub byte3 : (i : ℕ) → i < l.nl → byte_of s' i 3 ≡ first (ligature_to_missing infos s m l i) (l.bc % 256) (byte_of s i 3)
  pub past : (i j : ℕ) → l.nl ≤ i → byte_of s' i j ≡ byte_of s i j

-- step i is kept, or it was no step over 128 and is none
data Fate (s s' : List ℕ) (i : ℕ) : Type 0 where
  kept : byte_of s' i 0 ≡ byte_of s i 0 → byte_of s' i 1 ≡ byte_of s i 1 → byte_of s' i 2 ≡ byte_of s i 2 → byte_of s' i 3 ≡ byte_of s i 3 → Fate s s' i
  small : byte_of s i 0 ≤ 128 → byte_of s' i 0 ≤ 128 → Fate s s' i

-- the mends of the four bytes of step w
module _ (infos s m : List ℕ) (l : Layout) (w : ℕ) where
  pub step0 : mended_step infos s m l (4 * w + 0) ≡ first (skips_too_far s m l w) 128 (byte_of s w 0)
  unfolding mended_step byte_of
  step0 = let d : (4 * w + 0) / 4 ≡ w = omega arith in let j : (4 * w + 0) % 4 ≡ 0 = omega arith in rw (d, j)

  pub step1 : mended_step infos s m l (4 * w + 1) ≡ first (step_for_missing infos s m l w) (l.bc % 256) (byte_of s w 1)
  unfolding mended_step byte_of
  step1 = let d : (4 * w + 1) / 4 ≡ w = omega arith in let j : (4 * w + 1) % 4 ≡ 1 = omega arith in rw (d, j)

  pub step2 : mended_step infos s m l (4 * w + 2) ≡ first (odd_code s m w) 0 (byte_of s w 2)
  unfolding mended_step byte_of
  step2 = let d : (4 * w + 2) / 4 ≡ w = omega arith in let j : (4 * w + 2) % 4 ≡ 2 = omega arith in rw (d, j)

  pub step3 : mended_step infos s m l (4 * w + 3) ≡ first (ligature_to_missing infos s m l w) (l.bc % 256) (byte_of s w 3)
  unfolding mended_step byte_of
  step3 = let d : (4 * w + 3) / 4 ≡ w = omega arith in let j : (4 * w + 3) % 4 ≡ 3 = omega arith in rw (d, j)

-- an odd code is that of a ligature
odd_small : (s m : List ℕ) (w : ℕ) → odd_code s m w ≡ true → ltb (byte_of s w 2) 128 ≡ true
unfolding odd_code is_ligature
odd_small s m w q = ((and-eq-true_iff (is_step s m w) _).0 ((and-eq-true_iff (is_step s m w && ltb (byte_of s w 2) 128) _).0 q).0).1

-- a program that would start past the steps marks nothing
no_label : (s : List ℕ) (l : Layout) (x : List ℕ) (n : ℕ) → leb l.nl (redirected s l n) ≡ true → mark_label s l x n ≡ x
unfolding mark_label store_if
no_label s l x n h = rw (le-ltb (redirected s l n) l.nl (leb-true _ _ h), and-false)

-- a tag 1 that is taken is that of such a program
lost_start : (infos s : List ℕ) (l : Layout) (k : ℕ) → eqb (info_of infos k).tag 1 ≡ true → loses_tag infos s l (l.bc + k) ≡ true
    → leb l.nl (redirected s l (info_of infos k).remainder) ≡ true
unfolding loses_tag bad_start bad_label link_missing ends_cycle links bad_recipe
lost_start infos s l k t q =
    let word : l.bc + k - l.bc ≡ k = omega arith in
    let tag = eqb-true (info_of infos k).tag 1 t in
    ((and-eq-true_iff (in_range l (l.bc + k)) _).0 (simp (word, tag, and-false, or-false) at q)).1

module _ (infos s m s' : List ℕ) (l : Layout) (c : Restepped infos s m s' l) where
  -- step i is there: over 128 it is not mended, and otherwise it is not made so
  module _ (i : ℕ) (h : i < l.nl) where
    no_step_lem : 128 < byte_of s i 0 → is_step s m i ≡ false
    unfolding is_step
    no_step_lem q = rw (lt-leb (byte_of s i 0) 128 q, and-false)

    over_kept : 128 < byte_of s i 0 → Fate s s' i
    unfolding skips_too_far step_for_missing is_ligature odd_code ligature_to_missing first
    over_kept q =
        kept
        (c.byte0 i h ∙ rw (le-ltb (byte_of s i 0) 128 (omega arith), and-false))
        (c.byte1 i h ∙ rw (no_step_lem q))
        (c.byte2 i h ∙ rw (no_step_lem q))
        (c.byte3 i h ∙ rw (no_step_lem q))

    still_small : byte_of s i 0 ≤ 128 → byte_of s' i 0 ≤ 128
    unfolding first
    still_small q = rw (c.byte0 i h) (go (skips_too_far s m l i))
      where
        go : (b : Bool) → first b 128 (byte_of s i 0) ≤ 128
        go true = omega arith
        go false = q

  -- and past the steps nothing changes
  fate : (i : ℕ) → Fate s s' i
  fate i = elim (dec_lt i l.nl) [
    | yes h ↦ elim (dec_le (byte_of s i 0) 128) [
      | yes q ↦ small q (still_small i h q)
      | no q ↦ over_kept i h (omega arith)
    ]
    | no h ↦ let p : l.nl ≤ i = omega arith in kept (c.past i 0 p) (c.past i 1 p) (c.past i 2 p) (c.past i 3 p)
  ]

  -- what 003 reads of steps over 128 is the same: where programs start, and the boundary
  pub same_redirected : (n : ℕ) → redirected s' l n ≡ redirected s l n
  unfolding redirected redirects address_of
  same_redirected n = elim (fate n) [
    | kept e0 e1 e2 e3 ↦ rw (e0, e2, e3)
    | small p q ↦ rw (le-ltb 128 (byte_of s n 0) p, le-ltb 128 (byte_of s' n 0) q, and-false)
  ]

  same_redirects : (n : ℕ) → redirects s' l n ≡ redirects s l n
  unfolding redirects
  same_redirects n = elim (fate n) [
    | kept e0 e1 e2 e3 ↦ rw e0
    | small p q ↦ rw (le-ltb 128 (byte_of s n 0) p, le-ltb 128 (byte_of s' n 0) q)
  ]

  same_boundary : boundary_char s' ≡ boundary_char s
  unfolding boundary_char
  same_boundary = elim (fate 0) [
    | kept e0 e1 e2 e3 ↦ rw (e0, e1)
    | small p q ↦ rw (ne_eqb (byte_of s 0 0) 255 (omega arith), ne_eqb (byte_of s' 0 0) 255 (omega arith))
  ]

  -- so the first step, the last step and a label mark the same
  first_mark : (x : List ℕ) → mark_first s' x ≡ mark_first s x
  unfolding mark_first
  first_mark x = elim (fate 0) [
    | kept e0 e1 e2 e3 ↦ rw e0
    | small p q ↦ rw (ne_eqb (byte_of s 0 0) 255 (omega arith), ne_eqb (byte_of s' 0 0) 255 (omega arith))
  ]

  last_mark : (x : List ℕ) → mark_last s' l x ≡ mark_last s l x
  unfolding mark_last has_boundary boundary_start address_of store_if
  last_mark x = elim (fate (l.nl - 1)) [
    | kept e0 e1 e2 e3 ↦ rw (e0, e2, e3)
    | small p q ↦ rw (ne_eqb (byte_of s (l.nl - 1) 0) 255 (omega arith), ne_eqb (byte_of s' (l.nl - 1) 0) 255 (omega arith))
  ]

  label_mark : (x : List ℕ) (n : ℕ) → mark_label s' l x n ≡ mark_label s l x n
  unfolding mark_label
  label_mark x n = rw (same_redirected n, same_redirects n)

  -- and a step too: a skip that was mended marked nothing
  step_mark : (x : List ℕ) (i : ℕ) → i < l.nl → mark_step s' l x i ≡ mark_step s l x i
  unfolding mark_step store_if next_of skips_too_far first
  step_mark x i h = go (skips_too_far s m l i) refl
    where
      go : (b : Bool) → skips_too_far s m l i ≡ b → mark_step s' l x i ≡ mark_step s l x i
      go true q =
          let e : byte_of s' i 0 ≡ 128 = c.byte0 i h ∙ rw q in
          let far = leb-true l.nl (i + 1 + byte_of s i 0) ((and-eq-true_iff (eqb (get_or m i 0) 2 && ltb (byte_of s i 0) 128) _).0 q).1 in
          simp (e, le-ltb (i + 1 + byte_of s i 0) l.nl far, and-false)
      go false q = let e : byte_of s' i 0 ≡ byte_of s i 0 = c.byte0 i h ∙ rw q in rw e

  module _ (infos' : List ℕ) (d : Retagged infos s infos' l) where
    -- and a word of char_info: a tag 1 that was taken marked nothing
    info_mark : (x : List ℕ) (k : ℕ) → mark_info infos' s' l x k ≡ mark_info infos s l x k
    unfolding mark_info
    info_mark x k = rw (same_remainder infos s infos' l d k, label_mark x (info_of infos k).remainder) (go (loses_tag infos s l (l.bc + k)) refl)
      where
        by : Bool → List ℕ
        by tagged = cond tagged (mark_label s l x (info_of infos k).remainder) x

        taken : (b : Bool) → eqb (info_of infos k).tag 1 ≡ b → loses_tag infos s l (l.bc + k) ≡ true → x ≡ by b
        taken true t q = sym (no_label s l x (info_of infos k).remainder (lost_start infos s l k t q))
        taken false t q = refl

        go : (b : Bool) → loses_tag infos s l (l.bc + k) ≡ b → by (eqb (info_of infos' k).tag 1) ≡ by (eqb (info_of infos k).tag 1)
        go true q = rw (lost_tag infos s infos' l d k q) (taken (eqb (info_of infos k).tag 1) refl q)
        go false q = rw (same_tag infos s infos' l d k q)

    -- the marks are the file's
    pub same_marks : marks_of infos' s' l ≡ marks_of infos s l
    unfolding marks_of marks_from
    same_marks =
        same_turns (mark_step s' l) (mark_step s l) _ l.nl step_mark
        ∙ ap (λ (x : List ℕ). iterate (mark_step s l) x l.nl)
        (same_turns (mark_info infos' s' l) (mark_info infos s l) _ (chars l) (λ x k h. info_mark x k)
        ∙ ap (λ (x : List ℕ). iterate (mark_info infos s l) x (chars l)) (last_mark _ ∙ ap (mark_last s l) (first_mark _)))

    -- what is a step, and a ligature, is one again
    same_step : (w : ℕ) → is_step s' m w ≡ is_step s m w
    unfolding is_step
    same_step w = elim (fate w) [
      | kept e0 e1 e2 e3 ↦ rw e0
      | small p q ↦ rw (le-leb (byte_of s w 0) 128 p, le-leb (byte_of s' w 0) 128 q)
    ]

    module _ (w : ℕ) (h : w < l.nl) where
      same_ligature : is_ligature s' m w ≡ is_ligature s m w
      unfolding is_ligature first
      same_ligature = go (odd_code s m w) refl
        where
          go : (b : Bool) → odd_code s m w ≡ b → is_ligature s' m w ≡ is_ligature s m w
          go true q = let e : byte_of s' w 2 ≡ 0 = c.byte2 w h ∙ rw q in rw (same_step w, e, odd_small s m w q)
          go false q = let e : byte_of s' w 2 ≡ byte_of s w 2 = c.byte2 w h ∙ rw q in rw (same_step w, e)

      -- what is made of a byte of s' is it
      pub step_again : (j : ℕ) → j < 4 → mended_step infos' s' m l (4 * w + j) ≡ mended_step infos s m l (4 * w + j)
      unfolding skips_too_far next_of step_for_missing odd_code ligature_to_missing
      step_again zero p = step0 infos' s' m l w ∙ mend_again _ _ _ _ _ (c.byte0 w h) (λ q e. rw e q) ∙ sym (step0 infos s m l w)
      step_again (suc zero) p =
          step1 infos' s' m l w
          ∙ mend_again _ _ _ _ _ (c.byte1 w h) (λ q e. rw (same_step w, d.exists (byte_of s' w 1), same_boundary, e) q)
          ∙ sym (step1 infos s m l w)
      step_again (suc (suc zero)) p =
          step2 infos' s' m l w ∙ mend_again _ _ _ _ _ (c.byte2 w h) (λ q e. rw (same_ligature, e) q) ∙ sym (step2 infos s m l w)
      step_again (suc (suc (suc zero))) p =
          step3 infos' s' m l w
          ∙ mend_again _ _ _ _ _ (c.byte3 w h) (λ q e. rw (same_ligature, d.exists (byte_of s' w 3), e) q)
          ∙ sym (step3 infos s m l w)
      step_again (suc (suc (suc (suc j)))) p = absurd (omega arith)
