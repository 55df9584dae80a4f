-- Determinacy: the contracts leave one answer and one room.
use Prim.Native.Nat.{ℕ, ◌+◌, ◌*◌, ◌<◌, ◌≤◌}
use native.Mathlib.Omega.{arith}
use native.Mathlib.Decide.{dec_lt}
use mathlib.Core.Path.{◌≡◌, refl, sym, ap, ◌∙◌}
use mathlib.Core.List.{List}
use lib.ListN.{length, replicate}
use Rattle.settle.specs.Needs.{det}
use Rattle.settle.specs.Settle.{Step}
use Rattle.gather.specs.Answers.{count, SmallestLoop, SmallestAs, InRange, PairRefused, PairAs, room_after}
use Rattle.std.proofs.Common.{Option, Some, None, Result, Ok, Err}
use Rattle.tfm.specs.declared.refusal.Refusal.{Refusal}
use Rattle.tfm.specs.declared.refusal.Refusal.TheVariants.{FewPairs, OutOfRange}
use Rattle.gather.specs.declared.Pair.{Pair}

-- no looping pair is below the smallest
not_below : {S : ℕ → ℕ → Step} {x y u v : ℕ} → SmallestLoop S x y → SmallestLoop S u v → x * 256 + y < u * 256 + v → ⊥
not_below {x = x} {y} f g h = let w = g.smallest x y f.right_code h in f.loops w.0 w.1

pub one_smallest : (S : ℕ → ℕ → Step) (n : ℕ) (r q : Result (Option Pair) Refusal) → SmallestAs S n r → SmallestAs S n q → r ≡ q
one_smallest S n (Err e) (Err d) f g = rw (f.0, g.0)
one_smallest S n (Err e) (Ok (Some q)) f g = absurd (omega (arith, f.1, g.0))
one_smallest S n (Err e) (Ok None) f g = absurd (omega (arith, f.1, g.0))
one_smallest S n (Ok (Some p)) (Err d) f g = absurd (omega (arith, f.0, g.1))
one_smallest S n (Ok (Some p)) (Ok (Some q)) f g =
    let a = not_below f.1 g.1 in
    let b = not_below g.1 f.1 in
    let e : p.left * 256 + p.right ≡ q.left * 256 + q.right = elim (dec_lt (p.left * 256 + p.right) (q.left * 256 + q.right)) [
      | yes h ↦ absurd (a h)
      | no h ↦ elim (dec_lt (q.left * 256 + q.right) (p.left * 256 + p.right)) [ yes k ↦ absurd (b k) | no k ↦ omega arith ]
    ] in
    let i : p.left ≡ q.left = omega (arith, f.1.right_code, g.1.right_code) in
    let j : p.right ≡ q.right = omega (arith, f.1.right_code, g.1.right_code) in
    λ k. Ok (Some (record { left = i k; right = j k }))
one_smallest S n (Ok (Some p)) (Ok None) f g = let w = g.1 p.left p.right f.1.right_code in absurd (f.1.loops w.0 w.1)
one_smallest S n (Ok None) (Err d) f g = absurd (omega (arith, f.0, g.1))
one_smallest S n (Ok None) (Ok (Some q)) f g = let w = f.1 q.left q.right g.1.right_code in absurd (g.1.loops w.0 w.1)
one_smallest S n (Ok None) (Ok None) f g = refl

pub once_smallest : (S : ℕ → ℕ → Step) (a b c : List ℕ) (r q : Result (Option Pair) Refusal)
    → SmallestAs S (length a) r → b ≡ replicate (length a) 0 → SmallestAs S (length a) q → c ≡ replicate (length a) 0 → (r ≡ q) × (b ≡ c)
once_smallest S a b c r q f d g e = (one_smallest S (length a) r q f g, d ∙ sym e)

-- a refusal of a pair is one of two
data Few (S : ℕ → ℕ → Step) (n x y : ℕ) : Refusal → Type 0 where
  outside : (InRange x y → ⊥) → Few S n x y OutOfRange
  few : InRange x y → n < count S → Few S n x y FewPairs

few_of : (S : ℕ → ℕ → Step) (n x y : ℕ) (e : Refusal) → PairRefused S n x y e → Few S n x y e
few_of S n x y OutOfRange f = outside f
few_of S n x y FewPairs f = few f.0 f.1
few_of S n x y _ f = absurd f

same_refusal : (S : ℕ → ℕ → Step) (n x y : ℕ) {e d : Refusal} → Few S n x y e → Few S n x y d → e ≡ d
same_refusal S n x y (outside f) (outside g) = refl
same_refusal S n x y (outside f) (few g h) = absurd (f g)
same_refusal S n x y (few f h) (outside g) = absurd (g f)
same_refusal S n x y (few f h) (few g k) = refl

not_refused : (S : ℕ → ℕ → Step) (n x y : ℕ) {e : Refusal} → Few S n x y e → InRange x y → count S ≤ n → ⊥
not_refused S n x y (outside f) r h = f r
not_refused S n x y (few f k) r h = omega arith

one_outcome : (S : ℕ → ℕ → Step) (n x y : ℕ) (r q : Result (Option ℕ) Refusal) → PairAs S n x y r → PairAs S n x y q → r ≡ q
one_outcome S n x y (Err e) (Err d) f g = ap Err (same_refusal S n x y (few_of S n x y e f) (few_of S n x y d g))
one_outcome S n x y (Err e) (Ok (Some w)) f g = absurd (not_refused S n x y (few_of S n x y e f) g.0 g.1)
one_outcome S n x y (Err e) (Ok None) f g = absurd (not_refused S n x y (few_of S n x y e f) g.0 g.1)
one_outcome S n x y (Ok (Some v)) (Err d) f g = absurd (not_refused S n x y (few_of S n x y d g) f.0 f.1)
one_outcome S n x y (Ok (Some v)) (Ok (Some w)) f g = ap (λ (u : ℕ). Ok (Some u)) (det f.2 g.2)
one_outcome S n x y (Ok (Some v)) (Ok None) f g = absurd (g.2 v f.2)
one_outcome S n x y (Ok None) (Err d) f g = absurd (not_refused S n x y (few_of S n x y d g) f.0 f.1)
one_outcome S n x y (Ok None) (Ok (Some w)) f g = absurd (f.2 w g.2)
one_outcome S n x y (Ok None) (Ok None) f g = refl

pub once_pair : (S : ℕ → ℕ → Step) (a b c : List ℕ) (x y : ℕ) (r q : Result (Option ℕ) Refusal)
    → PairAs S (length a) x y r → b ≡ room_after a r → PairAs S (length a) x y q → c ≡ room_after a q → (r ≡ q) × (b ≡ c)
once_pair S a b c x y r q f d g e =
    let h = one_outcome S (length a) x y r q f g in
    (h, d ∙ ap (room_after a) h ∙ sym e)
