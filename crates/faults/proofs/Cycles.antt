-- A walk of as many links as there are codes below the top finds the top exactly if the links lead to it.
use Prim.Native.Nat.{ℕ, zero, suc, ◌-◌, ◌≤◌, ◌<◌}
use mathlib.Core.Path.{◌≡◌, refl, sym, ap, ◌∙◌}
use mathlib.Core.Bool.{Bool, true, cond, ◌&&◌, and-eq-true_iff}
use native.Mathlib.Decide.{ℕ_discrete}
use native.Mathlib.Omega.{arith}
use lib.Dec.{leb, eqb, leb-suc-suc}
use borrow.Author.Tests.{eqb-true, ltb-true, leb-true, eq-eqb, ne_eqb, lt-ltb, le-leb, lt-leb}
use Rattle.faults.specs.Cycle.{Leads, there, on, LargestOfCycle, reaches}

-- a number below n gives c, by f
abbrev Given : ℕ → (ℕ → ℕ) → ℕ → Type 0
Given n f c = (i : ℕ) × (i < n) × (f i ≡ c)

-- f, but at i what the last number below n gives
abbrev without : ℕ → (ℕ → ℕ) → ℕ → ℕ → ℕ
without n f i j = cond (eqb j i) (f (n - 1)) (f j)

-- so one number fewer gives all but f i
given_still : (n : ℕ) (f : ℕ → ℕ) (i : ℕ) → i < n → (c : ℕ) → Given n f c → (f i ≡ c → ⊥) → Given (n - 1) (without n f i) c
given_still n f i p c (j, p', q) other = elim (ℕ_discrete j (n - 1)) [
  | yes u ↦ (i, omega (arith, differ), rw (eq-eqb i i refl) (ap f (sym u) ∙ q))
  | no u ↦ (j, omega arith, rw (ne_eqb j i differ) q)
]
  where
    differ : j ≡ i → ⊥
    differ u = other (ap f (sym u) ∙ q)

module _ (links : ℕ → Bool) (larger : ℕ → ℕ) (top : ℕ) where
  -- the tests that the walk has passed are what a derivation asks
  pub walk_found : (n r : ℕ) → reaches links larger top n r ≡ true → Leads links larger top r
  unfolding reaches
  walk_found zero r e = rw (eqb-true r top e) there
  walk_found (suc n) r e = elim (ℕ_discrete r top) [
    | yes q ↦ rw q there
    | no q ↦
        let h = (and-eq-true_iff _ _).0 (rw (ne_eqb r top q) at e) in
        let l = (and-eq-true_iff _ _).0 h.0 in
        on (ltb-true r top l.0) l.1 (walk_found n (larger r) h.1)
  ]

  -- the number of links that a derivation takes
  steps : {r : ℕ} → Leads links larger top r → ℕ
  steps there = 0
  steps (on h l d) = suc (steps d)

  -- the walk goes where the derivation goes, so it finds the top exactly if it may take as many links
  walk_steps : {r : ℕ} (d : Leads links larger top r) (n : ℕ) → reaches links larger top n r ≡ leb (steps d) n
  unfolding reaches steps
  walk_steps there zero = eq-eqb top top refl
  walk_steps there (suc n) = rw (eq-eqb top top refl, le-leb 0 (suc n) (omega arith))
  walk_steps (on {r} h l d) zero = rw (ne_eqb r top (omega arith), lt-leb (suc (steps d)) 0 (omega arith))
  walk_steps (on {r} h l d) (suc n) = rw (ne_eqb r top (omega arith), lt-ltb r top h, l, leb-suc-suc) (walk_steps d n)

  -- the number is the code's own: the walk from it knows no derivation
  same_steps : {r s : ℕ} (d : Leads links larger top r) (e : Leads links larger top s) → r ≡ s → steps d ≤ steps e
  same_steps d e q =
      leb-true _ _ (sym (walk_steps d (steps e)) ∙ ap (reaches links larger top (steps e)) q ∙ walk_steps e (steps e) ∙ le-leb (steps e) (steps e) (omega arith))

  -- pigeonhole: if n numbers give each code of at most as many links, n - 1 give each code of fewer, since the first code is none of those
  few_steps : {r : ℕ} (d : Leads links larger top r) (n : ℕ) (f : ℕ → ℕ)
      → ((c : ℕ) → c < top → (e : Leads links larger top c) → steps e ≤ steps d → Given n f c) → steps d ≤ n
  unfolding steps
  few_steps there n f all = omega arith
  few_steps (on {r} h l d) n f all =
      let (i, p, q) = all r h (on h l d) (omega arith) in
      omega (arith, few_steps d (n - 1) (without n f i) (λ c b e s. given_still n f i p c (all c b e (omega arith)) (λ u. omega (arith, same_steps (on h l d) e (sym q ∙ u)))))

  -- each code below the top is its own number, so no derivation takes more than top links
  pub walk_finds : (n r : ℕ) → top ≤ n → Leads links larger top r → reaches links larger top n r ≡ true
  walk_finds n r h d = walk_steps d n ∙ le-leb (steps d) n (omega (arith, few_steps d top (λ c. c) (λ c b e s. (c, b, refl))))

module _ (links : ℕ → Bool) (larger : ℕ → ℕ) (c n : ℕ) where
  -- the first link is tested, and the walk goes on from where it leads
  pub cycle_found : links c && reaches links larger c n (larger c) ≡ true → LargestOfCycle links larger c
  cycle_found e = let h = (and-eq-true_iff _ _).0 e in record { linked = h.0; back = walk_found links larger c n (larger c) h.1 }

  -- and c links are enough for the way back
  pub cycle_finds : c ≤ n → LargestOfCycle links larger c → links c && reaches links larger c n (larger c) ≡ true
  cycle_finds h r = rw (r.linked, walk_finds links larger c n (larger c) h r.back)
