-- The sizes of an accepted file are small.
use Prim.Native.Nat.{ℕ, ◌+◌, ◌/◌, ◌≤◌}
use native.Mathlib.Decide.{dec_le}
use native.Mathlib.Omega.{arith}
use mathlib.Core.Path.{◌≡◌, sym, ◌∙◌}
use mathlib.Core.Bool.{◌||◌, true≢false, or-true, true-or}
use mathlib.Core.List.{List}
use lib.Dec.{ltb}
use borrow.Author.Tests.{lt-ltb}
use Rattle.tfm.specs.Sizes.{any_over, layout_number, number_of}
use Rattle.tfm.specs.declared.Layout.{Layout}
use Rattle.tfm.proofs.Accepted.{fails, passed}

module _ (f : List ℕ) (l : Layout) (later : ℕ) (e1 : number_of f l later ≡ 0) where
  from_7 : layout_number l later ≡ 0
  unfolding number_of
  from_7 = passed _ _ _ (passed _ _ _ (passed _ _ _ (passed _ _ _ (passed _ _ _ (passed _ _ _ e1)))))

  pub few_steps : l.nl ≤ 32767
  unfolding layout_number
  few_steps = elim (dec_le l.nl 32767) [
    | yes h ↦ h
    | no h ↦ absurd (true≢false (sym (simp (lt-ltb 127 (l.nl / 256) (omega arith), or-true, true-or)) ∙ fails (any_over l) _ _ from_7))
  ]

  pub last_code_lem : l.ec ≤ 255
  unfolding layout_number
  last_code_lem = elim (dec_le l.ec 255) [
    | yes h ↦ h
    | no h ↦ absurd (true≢false (sym (rw (lt-ltb 255 l.ec (omega arith), or-true)) ∙ fails (ltb (l.ec + 1) l.bc || ltb 255 l.ec) _ _ (passed _ _ _ (passed _ _ _ from_7))))
  ]
