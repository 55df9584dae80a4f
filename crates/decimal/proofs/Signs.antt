-- From good places of the size n to demand 3 of n parts and of -n parts
use Prim.Native.Nat.{ℕ, zero, suc, ◌+◌, ◌*◌, ◌/◌, ◌^◌, ◌≤◌, ◌<◌}
use mathlib.Core.Path.{◌≡◌, refl, sym, ap, ◌∙◌}
use native.Mathlib.Decide.{dec_lt}
use native.Mathlib.Omega.{arith}
use native.Mathlib.Nat.{zero-mul, div-eq_of_lt, div-eq_of_lt-le}
use borrow.Author.Tests.{lt-ltb, le-ltb}
use lib.IntN.{ℤ, pos, negsuc, neg_ℤ, nat_abs, ◌+ℤ◌, ◌-ℤ◌, ◌*ℤ◌, neg_ℤ-neg_ℤ, neg_ℤ-+ℤ}
use Rattle.decimal.specs.Value.{Value, off_by, rounded, Demand3}
use Rattle.decimal.proofs.Loop.{apart, Good}

-- distances of whole numbers, over ℕ
pos_pos : (a b : ℕ) → nat_abs (pos a -ℤ pos b) ≡ apart a b
pos_pos a zero = omega arith
pos_pos a (suc b) =
    elim (dec_lt a (suc b)) [ yes l ↦ rw (lt-ltb a (suc b) l) (omega arith) | no l ↦ rw (le-ltb a (suc b) (omega arith)) (omega arith) ]

neg_pos : (a b : ℕ) → nat_abs (neg_ℤ (pos a) -ℤ pos b) ≡ a + b
neg_pos zero b = omega (arith, pos_pos 0 b)
neg_pos (suc a) zero = rw (lt-ltb 0 (suc a) (omega arith)) (omega arith)
neg_pos (suc a) (suc b) = omega arith

-- the other sign
abbrev opp : Value → Value
opp v = record { digits = neg_ℤ v.digits; places = v.places }

nat_abs_neg : (z : ℤ) → nat_abs (neg_ℤ z) ≡ nat_abs z
nat_abs_neg (pos zero) = refl
nat_abs_neg (pos (suc n)) = refl
nat_abs_neg (negsuc n) = refl

neg_times : (z : ℤ) (p : ℕ) → neg_ℤ z *ℤ pos p ≡ neg_ℤ (z *ℤ pos p)
neg_times (pos zero) p = rw (zero-mul p)
neg_times (pos (suc n)) p = refl
neg_times (negsuc n) p = sym (neg_ℤ-neg_ℤ (pos (suc n * p)))

mirror : (z : ℤ) (u : Value) → off_by (neg_ℤ z) u ≡ off_by z (opp u)
mirror z u =
    ap (λ q. nat_abs (x +ℤ neg_ℤ q)) (neg_times z (10 ^ u.places))
    ∙ sym (nat_abs_neg (x +ℤ neg_ℤ (neg_ℤ y)))
    ∙ ap nat_abs
    (neg_ℤ-+ℤ x (neg_ℤ (neg_ℤ y)) ∙ ap (λ q. neg_ℤ x +ℤ q) (neg_ℤ-neg_ℤ (neg_ℤ y)) ∙ ap (λ q. q +ℤ neg_ℤ y) (sym (neg_times u.digits 1048576)))
  where
    x : ℤ
    x = u.digits *ℤ pos 1048576

    y : ℤ
    y = z *ℤ pos (10 ^ u.places)

-- the size n, and N with K places that are good for it; a number of either sign is compared with them
module _ (n K N : ℕ) (G : Good n K N) where
  off_good : off_by (pos n) (record { digits = pos N; places = K }) ≡ apart (N * 1048576) (n * 10 ^ K)
  off_good = pos_pos (N * 1048576) (n * 10 ^ K)

  shortest : (d : ℤ) (k : ℕ) → 1 ≤ k → k < K → 2 * off_by (pos n) (record { digits = d; places = k }) < 10 ^ k → ⊥
  shortest (pos M) k a b h = omega (arith, pos_pos (M * 1048576) (n * 10 ^ k), G.far k M a b)
  shortest (negsuc M) k a b h = omega (arith, neg_pos (suc M * 1048576) (n * 10 ^ k), G.far k 0 a b)

  nearest : (d : ℤ) → (d ≡ pos N → ⊥) → off_by (pos n) (record { digits = pos N; places = K }) < off_by (pos n) (record { digits = d; places = K })
  nearest (pos M) ne = omega (arith, off_good, pos_pos (M * 1048576) (n * 10 ^ K), G.close, other)
    where
      other : M ≡ N → ⊥
      other e = ne (ap pos e)
  nearest (negsuc M) ne = omega (arith, off_good, neg_pos (suc M * 1048576) (n * 10 ^ K), G.close)

  quotient : (2 * (N * 1048576) + 10 ^ K) / (2 * 10 ^ K) ≡ n
  quotient = div-eq_of_lt-le (2 * 10 ^ K) (omega (arith, G.near)) (omega (arith, G.near))

  pub of_pos : Demand3 (pos n) (record { digits = pos N; places = K })
  of_pos =
      record {
        least = G.least;
        few = G.few;
        near = omega (arith, off_good, G.near);
        shortest = λ u. shortest u.digits u.places;
        nearest = λ u e ne. rw e (nearest u.digits ne);
        back = ap pos quotient;
      }

  back_neg : (m : ℕ) → m ≡ N → rounded (record { digits = neg_ℤ (pos m); places = K }) ≡ neg_ℤ (pos n)
  back_neg zero e = rw (z0, n0)
    where
      z0 : (0 + 10 ^ K) / (2 * 10 ^ K) ≡ 0
      z0 = div-eq_of_lt (omega (arith, G.near))

      n0 : n ≡ 0
      n0 = sym quotient ∙ ap (λ x. (2 * (x * 1048576) + 10 ^ K) / (2 * 10 ^ K)) (sym e) ∙ z0
  back_neg (suc m) e = ap (λ x. neg_ℤ (pos x)) (ap (λ x. (2 * (x * 1048576) + 10 ^ K) / (2 * 10 ^ K)) e ∙ quotient)

  pub of_neg : Demand3 (neg_ℤ (pos n)) (record { digits = neg_ℤ (pos N); places = K })
  of_neg =
      record {
        least = G.least;
        few = G.few;
        near = rw (mirror, neg_ℤ-neg_ℤ) of_pos.near;
        shortest = λ u. rw mirror (of_pos.shortest (opp u));
        nearest = λ u e ne.
            rw (mirror, neg_ℤ-neg_ℤ, mirror (pos n) u) (of_pos.nearest (opp u) e (λ q. ne (sym (neg_ℤ-neg_ℤ u.digits) ∙ ap neg_ℤ q)));
        back = back_neg N refl;
      }
