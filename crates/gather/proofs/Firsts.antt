-- The bounded walk finds the first step for a right code, and only that.
use Prim.Native.Nat.{ℕ, zero, suc, ◌<◌, ◌≤◌, min}
use native.Mathlib.Omega.{arith}
use native.Mathlib.Decide.{dec_lt, ℕ_discrete}
use mathlib.Core.Path.{◌≡◌, refl, sym, ◌∙◌, subst}
use mathlib.Core.List.{List}
use borrow.Author.Tests.{lt-ltb, le-ltb, le-leb, lt-leb, eq-eqb, ne_eqb}
use Rattle.tfm.specs.Characters.{byte_of}
use Rattle.program.specs.Steps.{next_of}
use Rattle.gather.specs.Steps.{hit, next, step_from, step_for}
use Rattle.gather.proofs.Walks.{past, at_step, same_steps}

-- in the program at step i, step j is the first for y
pub data First (s : List ℕ) (nl y : ℕ) : ℕ → ℕ → Type 0 where
  here : {i : ℕ} → i < nl → byte_of s i 0 ≤ 128 → byte_of s i 1 ≡ y → First s nl y i i
  later : {i j : ℕ} → i < nl → byte_of s i 0 < 128 → (byte_of s i 1 ≡ y → ⊥) → First s nl y (next_of s i) j → First s nl y i j

module _ (s : List ℕ) (nl y : ℕ) where
  module _ (f i : ℕ) (h : i < nl) where
    step_hit : byte_of s i 0 ≤ 128 → byte_of s i 1 ≡ y → step_from s nl (suc f) i y ≡ i
    unfolding hit
    step_hit b e = at_step s nl f i y h ∙ rw (le-leb (byte_of s i 0) 128 b, eq-eqb (byte_of s i 1) y e)

    step_pass : byte_of s i 0 < 128 → (byte_of s i 1 ≡ y → ⊥) → step_from s nl (suc f) i y ≡ step_from s nl f (next_of s i) y
    unfolding hit next
    step_pass b e =
        at_step s nl f i y h
        ∙ rw (le-leb (byte_of s i 0) 128 (omega arith), ne_eqb (byte_of s i 1) y e, lt-ltb (byte_of s i 0) 128 b) (within (dec_lt (next_of s i) nl))
      where
        within : Dec (next_of s i < nl) → step_from s nl f (min (next_of s i) nl) y ≡ step_from s nl f (next_of s i) y
        within (yes k) = let e : min (next_of s i) nl ≡ next_of s i = omega arith in rw e
        within (no k) = past s nl f (min (next_of s i) nl) y (omega arith) ∙ sym (past s nl f (next_of s i) y (omega arith))

    step_over : 128 < byte_of s i 0 → step_from s nl (suc f) i y ≡ nl
    unfolding hit next
    step_over b = at_step s nl f i y h ∙ rw (lt-leb (byte_of s i 0) 128 b, le-ltb (byte_of s i 0) 128 (omega arith)) (past s nl f nl y (omega arith))

    step_last : byte_of s i 0 ≡ 128 → (byte_of s i 1 ≡ y → ⊥) → step_from s nl (suc f) i y ≡ nl
    unfolding hit next
    step_last b e =
        at_step s nl f i y h
        ∙ rw (le-leb (byte_of s i 0) 128 (omega arith), ne_eqb (byte_of s i 1) y e, le-ltb (byte_of s i 0) 128 (omega arith)) (past s nl f nl y (omega arith))

  step_none : (i : ℕ) → step_from s nl zero i y ≡ nl
  unfolding step_from
  step_none i = refl

  first_from : (f i : ℕ) → step_from s nl f i y < nl → First s nl y i (step_from s nl f i y)
  first_from zero i l = absurd (omega (arith, step_none i))
  first_from (suc f) i l = elim (dec_lt i nl) [
    | no n ↦ absurd (omega (arith, past s nl (suc f) i y (omega arith)))
    | yes h ↦ elim (dec_lt 128 (byte_of s i 0)) [
      | yes o ↦ absurd (omega (arith, step_over f i h o))
      | no o ↦ elim (ℕ_discrete (byte_of s i 1) y) [
        | yes e ↦ subst (λ (j : ℕ). First s nl y i j) (sym (step_hit f i h (omega arith) e)) (here h (omega arith) e)
        | no e ↦ elim (dec_lt (byte_of s i 0) 128) [
          | yes b ↦ rw (step_pass f i h b e) (later h b e (first_from f (next_of s i) (omega (arith, step_pass f i h b e))))
          | no b ↦ absurd (omega (arith, step_last f i h (omega arith) e))
        ]
      ]
    ]
  ]

  -- what the walk finds is the first step for y
  pub first_found : (i : ℕ) → step_for s nl i y < nl → First s nl y i (step_for s nl i y)
  first_found i = first_from nl i

  -- and the first step for y is what it finds
  pub found_first : {i j : ℕ} → First s nl y i j → step_for s nl i y ≡ j
  found_first {i} (here h b e) = same_steps s nl nl (suc nl) i y (omega arith) (omega arith) ∙ step_hit nl i h b e
  found_first {i} (later h b e d) = same_steps s nl nl (suc nl) i y (omega arith) (omega arith) ∙ step_pass nl i h b e ∙ found_first d
