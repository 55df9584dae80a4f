-- Where programs start: of a code by its tag and a redirect, of the left boundary by the last step.
use Prim.Native.Nat.{ℕ, ◌-◌, ◌≤◌, ◌<◌}
use native.Mathlib.Decide.{dec_le}
use native.Mathlib.Omega.{arith}
use mathlib.Core.Path.{◌≡◌}
use mathlib.Core.Bool.{true, false, and-false}
use mathlib.Core.List.{List}
use borrow.Author.Tests.{lt-ltb, le-ltb, le-leb, lt-leb, eq-eqb, ne_eqb}
use Rattle.tfm.specs.Characters.{byte_of, info_of, in_range}
use Rattle.tfm.specs.declared.Layout.{Layout}
use Rattle.program.specs.Steps.{address_of, has_boundary, boundary_start, redirects, redirected, program_of}

module _ (s : List ℕ) (l : Layout) (r : ℕ) where
  pub redirect_over : r < l.nl → 128 < byte_of s r 0 → redirected s l r ≡ address_of s r
  unfolding redirected redirects
  redirect_over h b = rw (lt-ltb r l.nl h, lt-ltb 128 (byte_of s r 0) b)

  pub redirect_none : byte_of s r 0 ≤ 128 → redirected s l r ≡ r
  unfolding redirected redirects
  redirect_none b = rw (le-ltb 128 (byte_of s r 0) b, and-false)

module _ (infos s : List ℕ) (l : Layout) (c : ℕ) (n : c ≡ 256 → ⊥) where
  pub program_at : l.bc ≤ c → c ≤ l.ec → (info_of infos (c - l.bc)).tag ≡ 1 → (r : ℕ) → redirected s l (info_of infos (c - l.bc)).remainder ≡ r → r < l.nl
      → program_of infos s l c ≡ r
  unfolding program_of in_range
  program_at a b t r e h =
      rw (ne_eqb c 256 n, le-leb l.bc c a, le-leb c l.ec b, eq-eqb (info_of infos (c - l.bc)).tag 1 t, e, lt-ltb r l.nl h)

  pub no_program : ((info_of infos (c - l.bc)).tag ≡ 1 → ⊥) → program_of infos s l c ≡ l.nl
  unfolding program_of
  no_program t = rw (ne_eqb c 256 n, ne_eqb (info_of infos (c - l.bc)).tag 1 t, and-false)

  pub program_outside : (l.bc ≤ c → c ≤ l.ec → ⊥) → program_of infos s l c ≡ l.nl
  unfolding program_of in_range
  program_outside h = rw (ne_eqb c 256 n) (elim (dec_le l.bc c) [
    | yes a ↦ rw (lt-leb c l.ec (omega (arith, h a)), and-false)
    | no a ↦ rw (lt-leb l.bc c (omega arith))
  ])

module _ (infos s : List ℕ) (l : Layout) where
  pub left_program : has_boundary s l ≡ true → boundary_start s l < l.nl → program_of infos s l 256 ≡ boundary_start s l
  unfolding program_of
  left_program b h = rw (b, lt-ltb (boundary_start s l) l.nl h)

  pub no_left : has_boundary s l ≡ false → program_of infos s l 256 ≡ l.nl
  unfolding program_of
  no_left b = rw b

  pub left_past : has_boundary s l ≡ true → l.nl ≤ boundary_start s l → program_of infos s l 256 ≡ l.nl
  unfolding program_of
  left_past b h = rw (b, le-ltb (boundary_start s l) l.nl h)
