-- Lists that are the same, a test that passes on a run of numbers, and a skip over accessible steps alone.
use Prim.Native.Nat.{ℕ, zero, suc, ◌+◌, ◌≤◌, ◌<◌}
use native.Mathlib.Omega.{arith}
use mathlib.Core.Path.{◌≡◌, refl, ap, ◌∙◌}
use mathlib.Core.Bool.{Bool, true, false}
use mathlib.Core.List.{List, [], ◌∷◌}
use lib.ListN.{length, get_or}
use borrow.Author.Tests.{eq-eqb}
use Rattle.lent.specs.Fold.{iterate}
use Rattle.ligatures.specs.Ligatures.{skipped}
use Rattle.building.specs.Pick.{rank}
use Rattle.building.proofs.Picks.{rank_next, rank_same}

-- lists of one length that have the same at each place
pub same_list : {A : Type 0} (d : A) (xs ys : List A) → length xs ≡ length ys → ((i : ℕ) → i < length xs → get_or xs i d ≡ get_or ys i d) → xs ≡ ys
same_list d [] [] e h = refl
same_list d [] (y ∷ ys) e h = absurd (omega arith)
same_list d (x ∷ xs) [] e h = absurd (omega arith)
same_list d (x ∷ xs) (y ∷ ys) e h =
    let a : x ≡ y = h 0 (omega arith) in
    let b : xs ≡ ys = same_list d xs ys (omega arith) (λ i k. h (suc i) (omega arith)) in
    rw (a, b)

-- a test that passes from a on for n numbers, and nowhere else
module _ (p : ℕ → Bool) (a n : ℕ) (inside : (i : ℕ) → a ≤ i → i < a + n → p i ≡ true) (outside : (i : ℕ) → (a ≤ i → i < a + n → ⊥) → p i ≡ false) where
  rank_before : (i : ℕ) → i ≤ a → rank p i ≡ 0
  unfolding rank
  rank_before zero h = refl
  rank_before (suc i) h = rw (outside i (λ b c. omega arith)) (rank_before i (omega arith))

  pub rank_run : (r : ℕ) → r ≤ n → rank p (a + r) ≡ r
  rank_run zero h = let e : a + 0 ≡ a = omega arith in rw e (rank_before a (omega arith))
  rank_run (suc r) h = let e : a + suc r ≡ suc (a + r) = omega arith in rw e (rank_next p (a + r) (inside (a + r) (omega arith) (omega arith)) ∙ ap suc (rank_run r (omega arith)))

  pub rank_after : (d : ℕ) → rank p (a + n + d) ≡ n
  rank_after zero = let e : a + n + 0 ≡ a + n = omega arith in rw e (rank_run n (omega arith))
  rank_after (suc d) = let e : a + n + suc d ≡ suc (a + n + d) = omega arith in rw e (rank_same p (a + n + d) (outside (a + n + d) (λ b c. omega arith)) ∙ rank_after d)

-- §75: where all that it passes are accessible, a skip is as it stands
pub skipped_all : (m : List ℕ) (i n : ℕ) → ((j : ℕ) → j < n → get_or m (i + 1 + j) 0 ≡ 2) → skipped m i n ≡ n
unfolding skipped iterate
skipped_all m i zero h = refl
skipped_all m i (suc n) h = rw (eq-eqb (get_or m (i + 1 + n) 0) 2 (h n (omega arith))) (ap (λ (x : ℕ). x + 1) (skipped_all m i n (λ j k. h j (omega arith))) ∙ omega arith)
