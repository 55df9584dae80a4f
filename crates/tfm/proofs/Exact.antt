-- Eye lengths are exact: the float of a word is the signed word over 2 ^ 20, and of the word 0 it is +0, whose bits are 0.
use Prim.Native.Nat.{ℕ, suc, ◌+◌, ◌*◌, ◌^◌, ◌<◌, ◌≤◌}
use native.Mathlib.Nat.{mul_assoc, mul_comm, lt_trans, mul-pos}
use native.Mathlib.Omega.{arith}
use mathlib.Core.Path.{◌≡◌, refl, sym, ap, ◌∙◌, subst}
use mathlib.Core.Bool.{Bool, true, false}
use lib.Dec.{lit<}
use lib.IntN.{ℤ, pos, negsuc, nat_abs}
use lib.Signed.{mag}
use lib.Pow.{shl_lt}
use lib.Ieee.{Float, nan, inf, fin, binary64, of_bits, to_bits, of_int, div, round, up, down, unlike}
use lib.Ieee.Exact.{HasValue, round_exact}
use lib.Ieee.Back.{round_whole}
use lib.Ieee.Scale.{round_same}
use lib.Ieee.Fits.{down_pos}
use mir.Val.{to_z}
use mir.Syntax.{w32}
use mir.ValLaws.{to_z-Fits}
use Rattle.tfm.specs.Lengths.{eye_of}

pub million : of_bits binary64 4697254411347427328 ≡ fin false 1 (pos 20)
unfolding of_bits
million = refl

-- n over 2 ^ 20 is a value of the format for every n up to 2 ^ 31
over : (s : Bool) (n : ℕ) → n ≤ 2 ^ 31 → HasValue (round binary64 s n 1048576) s n 1048576
over s n h = round_exact binary64 s n 1048576 n 1054 (lit< tt) small fine same
  where
    small : n < 2 ^ 53
    small = omega arith

    fine : n * 2 ^ 1054 < 2 ^ (1074 + 1024)
    fine = lt_trans (shl_lt 53 1054 small) (lit< tt)

    same : n * 2 ^ 1074 ≡ n * 2 ^ 1054 * 1048576
    same = sym (mul_assoc n (2 ^ 1054) 1048576)

halved : (x : Float) (s : Bool) (n : ℕ) → n ≤ 2 ^ 31 → HasValue x s n 1 → HasValue (div binary64 x (fin false 1 (pos 20))) s n 1048576
unfolding div
halved nan s n h v = absurd v
halved (inf t) s n h v = absurd v
halved (fin t m e) s n h v =
    subst (λ (x : Float). HasValue x s n 1048576) (sym (at_s ∙ like)) (over s n h)
  where
    plain : (b : Bool) → unlike b false ≡ b
    plain true = refl
    plain false = refl

    at_s : round binary64 (unlike t false) (m * up e * 1) (1048576 * down e) ≡ round binary64 s (m * up e * 1) (1048576 * down e)
    at_s = ap (λ (b : Bool). round binary64 b (m * up e * 1) (1048576 * down e)) (plain t ∙ v.0)

    like : round binary64 s (m * up e * 1) (1048576 * down e) ≡ round binary64 s n 1048576
    like = round_same binary64 s (m * up e * 1) (1048576 * down e) n 1048576 (mul-pos (lit< tt) (down_pos e)) (lit< tt)
        (ap (λ (x : ℕ). x * 1048576) v.1 ∙ mul_assoc n (down e) 1048576 ∙ ap (λ (x : ℕ). n * x) (mul_comm (down e) 1048576))

abbrev pub negative : ℤ → Bool
negative (pos n) = false
negative (negsuc n) = true

whole : (z : ℤ) → mag z < 2 ^ 31 → HasValue (of_int binary64 z) (negative z) (nat_abs z) 1
unfolding of_int
whole (pos n) h = round_whole binary64 false n (omega arith)
whole (negsuc n) h = round_whole binary64 true (suc n) (omega arith)

size : (z : ℤ) → mag z < 2 ^ 31 → nat_abs z ≤ 2 ^ 31
size (pos n) h = omega arith
size (negsuc n) h = omega arith

-- the eye length of the word w is w's signed number over 2 ^ 20, exactly
pub exact : (w : ℕ) → w < 2 ^ 32 → HasValue (eye_of w) (negative (to_z w32 w)) (nat_abs (to_z w32 w)) 1048576
unfolding eye_of
exact w h =
    let z = to_z w32 w in
    let fits : mag z < 2 ^ 31 = (to_z-Fits w32 w (record { fits = h })).sfits in
    halved (of_int binary64 z) (negative z) (nat_abs z) (size z fits) (whole z fits)

-- zero has all 64 bits 0
pub zero_bits : to_bits binary64 (eye_of 0) ≡ 0
unfolding eye_of to_bits div of_int
zero_bits = refl

-- the literal 0.0
pub zero_literal : of_bits binary64 0 ≡ fin false 0 (pos 0)
unfolding of_bits
zero_literal = refl
