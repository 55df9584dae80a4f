-- The word at which a subfile begins is 6 and the sum of the counts before it.
use Rattle.std.proofs.Common.{◌≡◌, refl, ℕ, zero, suc, ◌+◌, ◌*◌, ◌≤◌, min, List, length, get_or, sym, take, sum, mul-suc, add-one, arith}
use Rattle.std.proofs.Math.Decide.{dec_lt}
use Rattle.std.proofs.lemmas.List.{take_all, take_min, get_or_past}
use Rattle.std.proofs.lemmas.List.Sums.{sum_by_more}
use Rattle.lent.specs.Fold.{iterate}
use Rattle.tfm.specs.Subfiles.{counts, count_of, start_of}
use Rattle.tfm.specs.declared.Layout.{Layout}
use Rattle.tfm.proofs.Bounds.{AtMost, at_most}

-- one count more, and past the last nothing more
sum_more : (xs : List ℕ) (k : ℕ) → sum (take (suc k) xs) ≡ sum (take k xs) + get_or xs k 0
sum_more xs k =
    elim (dec_lt k (length xs)) [
      | yes h ↦ rw (← add-one) (sum_by_more (λ (x : ℕ). x) xs k 0 h)
      | no h ↦ rw (take_all (suc k) xs (omega arith), take_all k xs (omega arith), get_or_past xs k 0 (omega arith)) (omega arith)
    ]

summed : (xs : List ℕ) (k : ℕ) → iterate (λ at i. at + get_or xs i 0) 6 k ≡ 6 + sum (take k xs)
unfolding iterate
summed xs zero = refl
summed xs (suc k) = omega (arith, summed xs k, sum_more xs k)

sum_at_most : (b : ℕ) (xs : List ℕ) (k : ℕ) → AtMost b xs → sum (take k xs) ≤ b * k
sum_at_most b xs zero h = omega arith
sum_at_most b xs (suc k) h = rw mul-suc (omega (arith, sum_at_most b xs k h, sum_more xs k, at_most b xs k h))

-- the sum of the counts that there are, of the first k
pub begins : (l : Layout) (xs : List ℕ) (k n r : ℕ) → xs ≡ counts l → n ≡ min k 10 → r ≡ sum (take n xs) → 6 + r ≡ start_of l k
unfolding start_of count_of
begins l xs k n r e m h = let t = take_min k (counts l) in rw (h, e, m) (sym (rw (← t) at (summed (counts l) k)))

pub bounded : (l : Layout) (xs : List ℕ) (k n r : ℕ) → AtMost 65536 (counts l) → xs ≡ counts l → n ≡ min k 10 → r ≡ sum (take n xs) → r ≤ 65536 * k
bounded l xs k n r a e m h = let t = take_min k (counts l) in rw (h, e, m) (rw t (sum_at_most 65536 (counts l) k a))
