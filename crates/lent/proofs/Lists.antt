-- Parts of a list, and the lists that loops make.
use Prim.Native.Nat.{ℕ, zero, suc, ◌+◌, ◌-◌, ◌≤◌, ◌<◌, min}
use native.Mathlib.Nat.{add-zero, add-suc, not-suc-le-zero}
use native.Mathlib.Decide.{dec_le, dec_lt}
use native.Mathlib.Numerals.{add-one}
use native.Mathlib.Omega.{arith}
use mathlib.Core.Path.{◌≡◌, refl, sym, ◌∙◌}
use mathlib.Core.List.{List, [], ◌∷◌, ◌++◌, append_assoc, append-nil}
use lib.ListN.{length, take, drop, set, get_or, replicate, length-append, length-drop, drop_of_length-le, get_or-append}
use lib.Seq.{take_all, drop-length, take-length, take-suc, drop-cons, set_at, get_or_at}
use Rattle.lent.specs.Fold.{iterate, tabulate}

-- `take` and `drop` stop at the end of the list
take_min : (n : ℕ) (l : List ℕ) → take (min n (length l)) l ≡ take n l
take_min n l = go (dec_le n (length l))
  where
    go : Dec (n ≤ length l) → take (min n (length l)) l ≡ take n l
    go (yes h) = let e : min n (length l) ≡ n = omega arith in rw e
    go (no h) =
        let e : min n (length l) ≡ length l = omega arith in
        let h' : length l ≤ n = omega arith in
        rw e (take-length l ∙ sym (take_all n l h'))

drop_min : (n : ℕ) (l : List ℕ) → drop (min n (length l)) l ≡ drop n l
drop_min n l = go (dec_le n (length l))
  where
    go : Dec (n ≤ length l) → drop (min n (length l)) l ≡ drop n l
    go (yes h) = let e : min n (length l) ≡ n = omega arith in rw e
    go (no h) =
        let e : min n (length l) ≡ length l = omega arith in
        let h' : length l ≤ n = omega arith in
        rw e (drop-length l ∙ sym (drop_of_length-le l h'))

pub clamped : (s : List ℕ) (a n x m : ℕ) → x ≡ min a (length s) → m ≡ min n (length s - x) → take (x + m - x) (drop x s) ≡ take n (drop a s)
clamped s a n x m ex em =
    let e : x + m - x ≡ min n (length (drop x s)) = simp length-drop (omega arith) in
    rw (e, take_min, ex, drop_min)

-- one more turn of a loop
pub iterate_more : {A : Type 0} (g : A → ℕ → A) (a : A) (n : ℕ) → iterate g a (n + 1) ≡ g (iterate g a n) n
unfolding iterate
iterate_more g a n = rw add-one

-- a list that is made byte by byte over the front of l₀: at first, and with one byte more
pub tabulate_none : (g : ℕ → ℕ) (l₀ : List ℕ) → l₀ ≡ tabulate g 0 ++ drop 0 l₀
unfolding tabulate
tabulate_none g l₀ = refl

pub length_tabulate : (g : ℕ → ℕ) (n : ℕ) → length (tabulate g n) ≡ n
unfolding tabulate
length_tabulate g zero = refl
length_tabulate g (suc n) = simp (length-append, length_tabulate g n) (omega arith)

pub tabulate_more : (g : ℕ → ℕ) (l₀ l : List ℕ) (n : ℕ) → l ≡ tabulate g n ++ drop n l₀ → n < length l₀
    → set l n (g n) ≡ tabulate g (n + 1) ++ drop (n + 1) l₀
unfolding tabulate
tabulate_more g l₀ l n e h =
    rw (e, drop-cons l₀ n 0 h, set_at (tabulate g n) (get_or l₀ n 0) (drop (suc n) l₀) (g n) n (length_tabulate g n), add-one)
    (sym (append_assoc (tabulate g n) (g n ∷ []) (drop (suc n) l₀)))

-- the bytes of a list, one by one, are its front
tabulate_front : (s : List ℕ) (n : ℕ) → n ≤ length s → tabulate (λ i. get_or s i 0) n ≡ take n s
unfolding tabulate
tabulate_front s zero h = refl
tabulate_front s (suc n) h = rw (tabulate_front s n (omega arith)) (sym (take-suc s n 0 h))

-- a copy's loop has ended
pub copied : (s l l' : List ℕ) (i n : ℕ) → l' ≡ tabulate (λ k. get_or s k 0) i ++ drop i l → n ≡ min (length l) (length s) → i ≡ n
    → l' ≡ take (length l) s ++ drop (length s) l
copied s l l' i n e en ei =
    let m : i ≡ min (length l) (length s) = omega arith in
    let swap : min (length l) (length s) ≡ min (length s) (length l) = omega arith in
    e ∙ rw (tabulate_front s i (omega arith), m, take_min, swap, drop_min)

-- a loop that fills a list has filled all of it
pub filled : (l s : List ℕ) (v i : ℕ) → l ≡ replicate i v ++ drop i s → i ≡ length s → l ≡ replicate (length s) v
filled l s v i e h = e ∙ rw (h, drop-length, append-nil)

-- byte i of the bytes that g gives is g i
pub get_or_tabulate : (g : ℕ → ℕ) (n i : ℕ) → i < n → get_or (tabulate g n) i 0 ≡ g i
unfolding tabulate
get_or_tabulate g zero i h = absurd (not-suc-le-zero h)
get_or_tabulate g (suc n) i h =
    let m = length_tabulate g n in
    elim (dec_lt i n) [
      | yes q ↦ get_or-append (tabulate g n) (g n ∷ []) 0 i (omega arith) ∙ get_or_tabulate g n i q
      | no q ↦ let e : i ≡ n = omega arith in rw e (get_or_at (tabulate g n) (g n) [] 0 n m)
    ]

-- what is joined first stays in front
pub joined_front : (g : ℕ → List ℕ) (k d : ℕ) → (rest : List ℕ) × (iterate (λ s i. s ++ g i) [] (k + d) ≡ iterate (λ s i. s ++ g i) [] k ++ rest)
unfolding iterate
joined_front g k zero = ([], rw add-zero (sym (append-nil _)))
joined_front g k (suc d) = let (rest, e) = joined_front g k d in (rest ++ g (k + d), rw (add-suc, e, append_assoc))
