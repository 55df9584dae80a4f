-- What the library's methods say of a room: its search by halves, and its test of neighbours.
use Rattle.std.proofs.Common.{◌≡◌, sym, ap, ℕ, zero, suc, ◌+◌, ◌<◌, ◌≤◌, List, length, get_or, Bool, true, false, ltb, Result, Ok, Err, unwrap_or, add-one, arith, tests}
use Rattle.std.proofs.lemmas.List.{get_or_default}
use Rattle.std.proofs.lemmas.Cmp.{ranked}
use Rattle.std.proofs.lemmas.Bool.Decides.{nat_tests}
use Rattle.std.specs.List.{AllWithin, IsAllAdjacentAnswer}
use Rattle.std.specs.List.Sorted.{IsBinarySearchResult, IsSearchInRange}
use Rattle.std.specs.Ordering.{nat_cmp, ordering_index}
use Rattle.std.specs.Result.{result_ok}
use native.Mathlib.Decide.{ℕ_discrete, dec_lt}
use Rattle.std.specs.declared.cmp.Ordering.TheVariants.{Less, Equal, Greater}
use Rattle.settle.specs.Settle.{key_of, st_of, Program, Judged}
use Rattle.settle.specs.Room.{Sorted, Good, Found}
use Rattle.settle.proofs.Whole.{judged_yes, judged_no}

pub found : (a : List ℕ) (key : ℕ) (r : Result ℕ ℕ) → IsSearchInRange r (length a) → IsBinarySearchResult (λ e. nat_cmp (key_of e) key) a r → Sorted a → Found a key (unwrap_or (result_ok r) (length a))
found a key (Ok i) h b s = record { here = λ _. ranked (key_of (get_or a i 0)) key Equal (sym (b 0)); nowhere = λ l. absurd (omega arith) }
found a key (Err i) h b s = record { here = λ l. absurd (omega arith); nowhere = λ _. none (b rises) }
  where
    higher : (m n : ℕ) → m ≤ n → ordering_index (nat_cmp m key) ≤ ordering_index (nat_cmp n key)
    higher m n le = grind (arith, tests)

    keys : (i j : ℕ) → i ≤ j → j < length a → key_of (get_or a i 0) ≤ key_of (get_or a j 0)
    keys i j p q = elim (ℕ_discrete i j) [ yes e ↦ omega (arith, ap (λ k. key_of (get_or a k 0)) e) | no n ↦ omega (arith, s i j (omega arith) q) ]

    rises : (i j d : ℕ) → i ≤ j → j < length a → ordering_index (nat_cmp (key_of (get_or a i d)) key) ≤ ordering_index (nat_cmp (key_of (get_or a j d)) key)
    rises i j d p q =
        higher (key_of (get_or a i d)) (key_of (get_or a j d)) (rw (get_or_default a i d 0 (omega arith), get_or_default a j d 0 q) (keys i j p q))

    none : AllWithin (λ e. nat_cmp (key_of e) key ≡ Less) a 0 i × AllWithin (λ e. nat_cmp (key_of e) key ≡ Greater) a i (length a) → (k : ℕ) → k < length a → key_of (get_or a k 0) ≡ key → ⊥
    none parts k l e = elim (dec_lt k i) [
      | yes q ↦ omega (arith, ranked (key_of (get_or a k 0)) key Less (sym (parts.0 k 0 (omega arith) q)))
      | no q ↦ omega (arith, ranked (key_of (get_or a k 0)) key Greater (sym (parts.1 k 0 (omega arith) l)))
    ]

-- a program is known by its entries and their neighbours
pub program_of_lem : (a : List ℕ) → ((i : ℕ) → i < length a → Good a i) → Program a
program_of_lem a g = record { sorted = up; steps = λ i l. (g i l).step }
  where
    up : Sorted a
    up i zero l m = absurd (omega arith)
    up i (suc j) l m =
        let step : key_of (get_or a j 0) < key_of (get_or a (suc j) 0) = rw add-one at ((g j (omega arith)).next (omega arith)) in
        elim (ℕ_discrete i j) [
          | yes e ↦ omega (arith, step, ap (λ k. key_of (get_or a k 0)) e)
          | no n ↦ omega (arith, step, up i j (omega arith) (omega arith))
        ]

-- and it is what the tests say: each entry has a step, and no two neighbours are out of order
pub program_if : (a : List ℕ) (r : Bool) → ((i : ℕ) → i < length a → st_of (get_or a i 0) < 4) → IsAllAdjacentAnswer (λ e f b. b ≡ ltb (key_of e) (key_of f)) a r → Judged (Program a) r
program_if a true steps h = judged_yes (program_of_lem a (λ i l. record { step = steps i l; next = λ m. let t = h i 0 m in grind (arith, nat_tests) }))
program_if a false steps h = judged_no (λ p. let t = h.2 0 in let l = p.sorted h.0 (h.0 + 1) (omega arith) h.1 in grind (arith, nat_tests))
