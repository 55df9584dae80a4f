-- Where pieces end, and that a program goes forwards.
use Rattle.std.proofs.Common.{◌≡◌, refl, ap, subst, ◌∙◌, ℕ, zero, suc, ◌+◌, ◌-◌, ◌≤◌, ◌<◌, Bool, true, false, cond, List, [], ◌∷◌, ◌++◌, length, length-append, append-nil, eqb, Option, Some, None, unwrap_or, max, arith}
use native.Mathlib.Decide.{ℕ_discrete, dec_le}
use lib.ListN.{get_or}
use Rattle.std.specs.Option.{MatchOption}
use Rattle.std.specs.List.{filter, range_with_len}
use Rattle.std.proofs.lemmas.List.{map-id}
use Rattle.std.proofs.lemmas.List.FromFn.{filter_of_map_range_with_len_more}
use Rattle.lent.specs.Fold.{iterate}
use borrow.Author.Tests.{eq-eqb, ne_eqb, le-leb, lt-leb}
use Rattle.tfm.specs.Characters.{byte_of}
use Rattle.program.specs.Steps.{next_of}
use Rattle.items.specs.Items.{loop, Printed}
use Rattle.items.proofs.Laws.{one_round}
use Rattle.lent.specs.declared.Pen.{Pen}
use Rattle.ligatures.specs.Ligatures.{unused_at, unused_step, count_step, skipped, run_end, piece_end, following}

-- no step of a run is accessible, or the step d on from i is its first
run_none : (m : List ℕ) (k i : ℕ) → ((j : ℕ) → i ≤ j → j < i + k → get_or m j 0 ≡ 2 → ⊥) → run_end m k i ≡ i + k
unfolding run_end
run_none m zero i h = omega arith
run_none m (suc k) i h =
    rw (ne_eqb _ _ (h i (omega arith) (omega arith)))
    (run_none m k (i + 1) (λ j a b. h j (omega arith) (omega arith)) ∙ omega arith)

run_first : (m : List ℕ) (k i d : ℕ) → d < k → get_or m (i + d) 0 ≡ 2 → ((j : ℕ) → i ≤ j → j < i + d → get_or m j 0 ≡ 2 → ⊥) → run_end m k i ≡ i + d
unfolding run_end
run_first m zero i d lt e h = absurd (omega arith)
run_first m (suc k) i zero lt e h = let s : i + 0 ≡ i = omega arith in rw (s, eq-eqb _ _ (rw s at e))
run_first m (suc k) i (suc d) lt e h =
    let s : i + suc d ≡ i + 1 + d = omega arith in
    rw (ne_eqb _ _ (h i (omega arith) (omega arith)), s)
    (run_first m k (i + 1) d (omega arith) (rw s at e) (λ j a b. h j (omega arith) (omega arith)))

-- what a search from step i up to nl finds
pub run_found : (m : List ℕ) (nl i : ℕ) (r : Option ℕ)
    → MatchOption r ((j : ℕ) → i ≤ j → j < nl → get_or m j 0 ≡ 2 → ⊥) (λ k. (i ≤ k) × (k < nl) × (get_or m k 0 ≡ 2) × ((j : ℕ) → i ≤ j → j < k → get_or m j 0 ≡ 2 → ⊥))
    → unwrap_or r (max nl i) ≡ run_end m (nl - i) i
run_found m nl i None h = omega (arith, run_none m (nl - i) i (λ j a b. h j a (omega arith)))
run_found m nl i (Some k) (a, b, e, h) =
    let s : i + (k - i) ≡ k = omega arith in
    omega (arith, run_first m (nl - i) i (k - i) (omega arith) (rw s e) (λ j c d. h j c (omega arith)))

-- the steps counted among the n after step i
filter_more : (t : ℕ → Bool) (n : ℕ) → filter t (range_with_len 0 (suc n)) ≡ filter t (range_with_len 0 n) ++ cond (t n) (n ∷ []) []
filter_more t n =
    let s : n + 1 ≡ suc n = omega arith in
    let e = filter_of_map_range_with_len_more t (λ x. x) 0 n n (omega arith) in
    subst (λ k. filter t (range_with_len 0 k) ≡ filter t (range_with_len 0 n) ++ cond (t n) (n ∷ []) []) s
    (rw (map-id (range_with_len 0 (n + 1)), map-id (range_with_len 0 n)) at e)

length_more : (b : Bool) (n : ℕ) (xs : List ℕ) → length (xs ++ cond b (n ∷ []) []) ≡ cond b (length xs + 1) (length xs)
length_more true n xs = length-append xs (n ∷ [])
length_more false n xs = rw append-nil

counted : (m : List ℕ) (i n : ℕ) → length (filter (λ j. eqb (get_or m (i + 1 + j) 0) 2) (range_with_len 0 n)) ≡ iterate (count_step m i) 0 n
unfolding iterate
counted m i zero = refl
counted m i (suc n) =
    ap length (filter_more (λ j. eqb (get_or m (i + 1 + j) 0) 2) n)
    ∙ length_more (eqb (get_or m (i + 1 + n) 0) 2) n (filter (λ j. eqb (get_or m (i + 1 + j) 0) 2) (range_with_len 0 n))
    ∙ ap (λ k. count_step m i k n) (counted m i n)

pub skips : (m : List ℕ) (i n : ℕ) → length (filter (λ j. eqb (get_or m (i + 1 + j) 0) 2) (range_with_len 0 n)) ≡ skipped m i n
unfolding skipped
skips m i n = counted m i n

-- from low to high
pub record Within (low high e : ℕ) : Type 0 where
  pub least : low ≤ e
  pub most : e ≤ high

pub run_within : (m : List ℕ) (k i : ℕ) → Within i (i + k) (run_end m k i)
unfolding run_end
run_within m zero i = record { least = omega arith; most = omega arith }
run_within m (suc k) i =
    elim (ℕ_discrete (get_or m i 0) 2) [
      | yes e ↦ rw (eq-eqb _ _ e) (record { least = omega arith; most = omega arith })
      | no e ↦ rw (ne_eqb _ _ e) (record { least = omega (arith, run_within m k (i + 1)); most = omega (arith, run_within m k (i + 1)) })
    ]

-- a piece ends after its start, and in the table
pub end_within : (m : List ℕ) (nl i : ℕ) → i < nl → Within (i + 1) nl (piece_end m nl i)
unfolding piece_end
end_within m nl i h =
    elim (ℕ_discrete (get_or m i 0) 0) [
      | yes e ↦ rw (eq-eqb _ _ e) (record { least = omega (arith, run_within m (nl - (i + 1)) (i + 1)); most = omega (arith, run_within m (nl - (i + 1)) (i + 1)) })
      | no e ↦ rw (ne_eqb _ _ e) (record { least = omega arith; most = omega arith })
    ]

pub end_is : (m : List ℕ) (nl i : ℕ) {e : ℕ} → i < nl → e ≡ piece_end m nl i → Within (i + 1) nl e
end_is m nl i h q = rw q (end_within m nl i h)

-- a program goes forwards
pub forwards : (s : List ℕ) (nl i : ℕ) {e : ℕ} → i < nl → e ≡ following s nl i → i < e
unfolding following next_of
forwards s nl i h d =
    elim (dec_le 128 (byte_of s i 0)) [
      | yes e ↦ rw (d, le-leb 128 (byte_of s i 0) e) h
      | no e ↦ rw (d, lt-leb 128 (byte_of s i 0) (omega arith)) (omega arith)
    ]

-- one unused step more
pub unused_more : (letters : Bool) (s kerns m : List ℕ) (i k : ℕ) {p q r : Pen} → i ≤ k → Printed q 2 (unused_at letters s kerns m k) r
    → Printed p 2 (loop (k - i) (unused_step letters s kerns m i)) q → Printed p 2 (loop (k + 1 - i) (unused_step letters s kerns m i)) r
unfolding unused_step
unused_more letters s kerns m i k le h g =
    let n : k + 1 - i ≡ (k - i) + 1 = omega arith in
    let at : i + (k - i) ≡ k = omega arith in
    rw n (one_round (rw at h) g)
