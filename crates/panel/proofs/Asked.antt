-- A subfile number over 9 is answered as 10 is.
use Prim.Native.Nat.{ℕ, ◌<◌, min}
use native.Mathlib.Omega.{arith}
use mathlib.Core.Path.{◌≡◌, refl, sym, ◌∙◌}
use mathlib.Core.Bool.{Bool, true, false}
use mathlib.Core.List.{List, []}
use lib.Dec.{ltb}
use borrow.Author.Tests.{lt-ltb, ltb-true, ltb-false}
use Rattle.lent.specs.Answer.{first}
use Rattle.lent.proofs.Answers.{refused}
use Rattle.tfm.specs.Sizes.{layout_of, number_of}
use Rattle.tfm.specs.Subfiles.{subfile_number, subfile_start, subfile_of}
use Rattle.tfm.proofs.Accepted.{accepted}

module _ (f : List ℕ) where
  over_number : (k : ℕ) → 9 < k → subfile_number f k ≡ number_of f (layout_of f) 17
  unfolding subfile_number first
  over_number k h = rw (lt-ltb 9 k h)

  over_refused : (k : ℕ) → 9 < k → subfile_number f k ≡ 0 → ⊥
  over_refused k h e =
      let zero = (accepted f (layout_of f) 17 (sym (over_number k h) ∙ e)).rest in absurd (omega (arith, zero))

  over_start : (k : ℕ) → 9 < k → subfile_start f k ≡ 0
  unfolding subfile_start
  over_start k h = sym (refused _ _ _ (over_refused k h))

  over_of : (k : ℕ) → 9 < k → subfile_of f k ≡ []
  unfolding subfile_of
  over_of k h = sym (refused _ _ _ (over_refused k h))

  abbrev Alike : ℕ → ℕ → Type 0
  Alike j k = (subfile_number f j ≡ subfile_number f k) × (subfile_start f j ≡ subfile_start f k) × (subfile_of f j ≡ subfile_of f k)

  both_over : (j k : ℕ) → 9 < j → 9 < k → Alike j k
  both_over j k g h = (
    over_number j g ∙ sym (over_number k h),
    over_start j g ∙ sym (over_start k h),
    over_of j g ∙ sym (over_of k h),
  )

  by_test : (k : ℕ) (b : Bool) → ltb 9 k ≡ b → Alike (min k 10) k
  by_test k true e =
      let over = ltb-true 9 k e in both_over (min k 10) k (omega (arith, over)) over
  by_test k false e =
      let same : min k 10 ≡ k = omega (arith, ltb-false 9 k e) in rw same (refl, refl, refl)

  pub asked : (k : ℕ) → Alike (min k 10) k
  asked k = by_test k (ltb 9 k) refl
