-- What passes a test keeps its order: the place of a number among those that pass, and what stands there.
use Prim.Native.Nat.{ℕ, zero, suc, ◌+◌, ◌-◌, ◌≤◌, ◌<◌}
use native.Mathlib.Nat.{not-suc-le-zero}
use native.Mathlib.Decide.{dec_lt}
use native.Mathlib.Omega.{arith}
use mathlib.Core.Path.{◌≡◌, refl, sym, ap, ◌∙◌}
use mathlib.Core.Bool.{Bool, true, false, cond}
use mathlib.Core.List.{[], ◌∷◌, ◌++◌}
use lib.Dec.{ltb}
use lib.ListN.{length, get_or, length-append, get_or-append}
use lib.Seq.{get_or_at}
use borrow.Author.Tests.{lt-ltb, le-ltb}
use Rattle.building.specs.Pick.{rank, picked, least, bound}

module _ (p : ℕ → Bool) where
  pub rank_next : (i : ℕ) → p i ≡ true → rank p (suc i) ≡ suc (rank p i)
  unfolding rank
  rank_next i h = rw h

  pub rank_same : (i : ℕ) → p i ≡ false → rank p (suc i) ≡ rank p i
  unfolding rank
  rank_same i h = rw h

  pub rank_climbs : (i d : ℕ) → rank p i ≤ rank p (d + i)
  unfolding rank
  rank_climbs i zero = let e : 0 + i ≡ i = omega arith in rw e (omega arith)
  rank_climbs i (suc d) = let e : suc d + i ≡ suc (d + i) = omega arith in rw e (go (p (d + i)) (rank_climbs i d))
    where
      go : (b : Bool) → rank p i ≤ rank p (d + i) → rank p i ≤ cond b (suc (rank p (d + i))) (rank p (d + i))
      go true h = omega arith
      go false h = h

  -- one that passes has its place below those of later numbers
  pub rank_below : (i n : ℕ) → p i ≡ true → i < n → rank p i < rank p n
  rank_below i n h k =
      let c : rank p (suc i) ≤ rank p ((n - suc i) + suc i) = rank_climbs (suc i) (n - suc i) in
      let e : (n - suc i) + suc i ≡ n = omega arith in
      let c' = rw (e, rank_next i h) at c in
      omega arith

  -- the least and the greatest
  pub least_le : (n c : ℕ) → p c ≡ true → c < n → least p n ≤ c
  unfolding least
  least_le zero c h k = absurd (not-suc-le-zero k)
  least_le (suc n) c h k = elim (dec_lt (least p n) n) [
    | yes a ↦ rw (lt-ltb (least p n) n a) (elim (dec_lt c n) [ yes b ↦ least_le n c h b | no b ↦ omega arith ])
    | no a ↦ rw (le-ltb (least p n) n (omega arith)) (elim (dec_lt c n) [
      | yes b ↦ absurd (omega (arith, least_le n c h b))
      | no b ↦ let e : c ≡ n = omega arith in let q : p n ≡ true = ap p (sym e) ∙ h in rw q (omega arith)
    ])
  ]

  pub bound_gt : (n c : ℕ) → p c ≡ true → c < n → c < bound p n
  unfolding bound
  bound_gt zero c h k = absurd (not-suc-le-zero k)
  bound_gt (suc n) c h k = elim (dec_lt c n) [
    | yes b ↦ go (p n) (bound_gt n c h b)
    | no b ↦ let e : c ≡ n = omega arith in let q : p n ≡ true = ap p (sym e) ∙ h in rw q k
  ]
    where
      go : (b : Bool) → c < bound p n → c < cond b (suc n) (bound p n)
      go true a = k
      go false a = a

  pub bound_le : (n : ℕ) → bound p n ≤ n
  unfolding bound
  bound_le zero = omega arith
  bound_le (suc n) = go (p n) (bound_le n)
    where
      go : (b : Bool) → bound p n ≤ n → cond b (suc n) (bound p n) ≤ suc n
      go true a = omega arith
      go false a = omega arith

  pub least_bound : (n : ℕ) → (bound p n ≡ 0 → ⊥) → least p n < bound p n
  unfolding least bound
  least_bound zero h = absurd (h refl)
  least_bound (suc n) h = go (p n) refl (λ k. least_bound n k) h
    where
      go : (b : Bool) → p n ≡ b → ((bound p n ≡ 0 → ⊥) → least p n < bound p n) → (cond b (suc n) (bound p n) ≡ 0 → ⊥)
          → cond (ltb (least p n) n) (least p n) (cond b n (suc n)) < cond b (suc n) (bound p n)
      go true e ih k = elim (dec_lt (least p n) n) [
        | yes a ↦ rw (lt-ltb (least p n) n a) (omega arith)
        | no a ↦ rw (le-ltb (least p n) n (omega arith)) (omega arith)
      ]
      go false e ih k =
          let l = ih k in
          let u = bound_le n in
          rw (lt-ltb (least p n) n (omega arith)) l

module _ {A : Type 0} (p : ℕ → Bool) (g : ℕ → A) where
  pub length_picked : (n : ℕ) → length (picked p g n) ≡ rank p n
  unfolding picked rank
  length_picked zero = refl
  length_picked (suc n) = go (p n) (length_picked n)
    where
      go : (b : Bool) → length (picked p g n) ≡ rank p n → length (cond b (picked p g n ++ (g n ∷ [])) (picked p g n)) ≡ cond b (suc (rank p n)) (rank p n)
      go true e = length-append (picked p g n) (g n ∷ []) ∙ omega arith
      go false e = e

  -- at its place stands what is made of it
  pub at_place : (d : A) (n i : ℕ) → p i ≡ true → i < n → get_or (picked p g n) (rank p i) d ≡ g i
  unfolding picked
  at_place d zero i h k = absurd (not-suc-le-zero k)
  at_place d (suc n) i h k = elim (dec_lt i n) [
    | yes b ↦ go (p n) (at_place d n i h b) (rank_below p i n h b)
    | no b ↦ let e : i ≡ n = omega arith in
        let q : p n ≡ true = ap p (sym e) ∙ h in
        rw (e, q) (get_or_at (picked p g n) (g n) [] d (rank p n) (length_picked n))
  ]
    where
      go : (b : Bool) → get_or (picked p g n) (rank p i) d ≡ g i → rank p i < rank p n
          → get_or (cond b (picked p g n ++ (g n ∷ [])) (picked p g n)) (rank p i) d ≡ g i
      go true e l = let m = length_picked n in get_or-append (picked p g n) (g n ∷ []) d (rank p i) (omega arith) ∙ e
      go false e l = e

-- what is picked by the same test, and made the same where it passes
pub picked_alike : {A : Type 0} (p q : ℕ → Bool) (g h : ℕ → A) (n : ℕ) → ((i : ℕ) → p i ≡ q i) → ((i : ℕ) → q i ≡ true → g i ≡ h i) → picked p g n ≡ picked q h n
unfolding picked
picked_alike p q g h zero e d = refl
picked_alike p q g h (suc n) e d = rw (e n) (go (q n) refl (picked_alike p q g h n e d))
  where
    go : (b : Bool) → q n ≡ b → picked p g n ≡ picked q h n → cond b (picked p g n ++ (g n ∷ [])) (picked p g n) ≡ cond b (picked q h n ++ (h n ∷ [])) (picked q h n)
    go true z i = rw (i, d n z)
    go false z i = i

pub rank_alike : (p q : ℕ → Bool) (n : ℕ) → ((i : ℕ) → p i ≡ q i) → rank p n ≡ rank q n
unfolding rank
rank_alike p q zero e = refl
rank_alike p q (suc n) e = rw (e n, rank_alike p q n e)
