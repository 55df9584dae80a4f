-- Laws of the room: the count of pairs not yet being settled, and the step at a key.
use mathlib.Core.Path.{◌≡◌, refl, ap}
use mathlib.Core.List.{List, [], ◌∷◌}
use Prim.Native.Nat.{ℕ, zero, suc, ◌+◌, ◌<◌, ◌≤◌}
use native.Mathlib.Nat.{le_of_eq}
use native.Mathlib.Omega.{arith}
use lib.ListN.{length, get_or, set}
use borrow.Author.Tests.{eq-eqb, ne_eqb}
use Rattle.settle.specs.Settle.{stop, key_of, st_of, val_of, classed, step_in}
use Rattle.settle.specs.Room.{Sorted, unit, live, Old}

-- a store changes the count by the units of what goes and what comes
pub live_set : (a : List ℕ) (k v : ℕ) → k < length a → live (set a k v) + unit (st_of (get_or a k 0)) ≡ live a + unit (st_of v)
unfolding live
live_set [] k v h = absurd (omega arith)
live_set (e ∷ es) zero v h = omega arith
live_set (e ∷ es) (suc k) v h = omega (arith, live_set es k v (omega arith))

pub unit_live : (s : ℕ) → 0 < s → s < 4 → unit s ≡ 1
unfolding unit
unit_live zero p q = absurd (omega arith)
unit_live (suc zero) p q = refl
unit_live (suc (suc zero)) p q = refl
unit_live (suc (suc (suc zero))) p q = refl
unit_live (suc (suc (suc (suc s)))) p q = absurd (omega arith)

unit_same : (s t : ℕ) → (0 < s → s < 4 → s ≡ t) → unit s ≤ unit t
unfolding unit
unit_same zero t f = omega arith
unit_same (suc zero) t f = le_of_eq (ap unit (f (omega arith) (omega arith)))
unit_same (suc (suc zero)) t f = le_of_eq (ap unit (f (omega arith) (omega arith)))
unit_same (suc (suc (suc zero))) t f = le_of_eq (ap unit (f (omega arith) (omega arith)))
unit_same (suc (suc (suc (suc s)))) t f = omega arith

-- no pair is yet to be settled that was not so before
pub live_old : (a b : List ℕ) → length b ≡ length a → Old a b → live b ≤ live a
unfolding live
live_old [] [] l o = omega arith
live_old [] (f ∷ fs) l o = absurd (omega arith)
live_old (e ∷ es) [] l o = absurd (omega arith)
live_old (e ∷ es) (f ∷ fs) l o =
    omega (arith, unit_same (st_of f) (st_of e) (λ p q. ap st_of (o 0 p (omega arith))), live_old es fs (omega arith) (λ i. o (suc i)))

-- the step at the key of an entry is the entry's
pub step_at_lem : (P : List ℕ) → Sorted P → (i : ℕ) → i < length P → step_in P (key_of (get_or P i 0)) ≡ classed (st_of (get_or P i 0)) (val_of (get_or P i 0))
unfolding step_in
step_at_lem [] s i h = absurd (omega arith)
step_at_lem (e ∷ es) s zero h = rw (eq-eqb (key_of e) (key_of e) refl)
step_at_lem (e ∷ es) s (suc i) h =
    rw (ne_eqb (key_of e) (key_of (get_or es i 0)) (λ q. omega (arith, s 0 (suc i) (omega arith) h)))
    (step_at_lem es (λ m n p q. s (suc m) (suc n) (omega arith) (omega arith)) i (omega arith))

-- and at a key of no entry there is none
pub step_none : (P : List ℕ) (k : ℕ) → ((i : ℕ) → i < length P → key_of (get_or P i 0) ≡ k → ⊥) → step_in P k ≡ stop
unfolding step_in
step_none [] k f = refl
step_none (e ∷ es) k f =
    rw (ne_eqb (key_of e) k (f 0 (omega arith)))
    (step_none es k (λ i h. f (suc i) (omega arith)))
