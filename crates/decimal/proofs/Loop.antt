-- The loop of 003 §42 ends after at most seven turns, and what it prints is as near and as short as demand 3 asks.
-- n is the size of the word, in parts; before a turn k digits have been printed, D is the number that they and the
-- whole part make, and f is 10^k * (10 n + 5) - 10 * 1048576 * D.
use Prim.Native.Nat.{ℕ, zero, suc, ◌+◌, ◌-◌, ◌*◌, ◌/◌, ◌%◌, ◌^◌, ◌≤◌, ◌<◌}
use mathlib.Core.Path.{◌≡◌, refl, sym, ap, ◌∙◌, subst}
use mathlib.Core.List.{List, [], ◌∷◌}
use mathlib.Core.Option.{some}
use native.Mathlib.Decide.{dec_lt}
use native.Mathlib.Omega.{arith}
use native.Mathlib.Nat.{pow-succ'}
use borrow.Author.Tests.{le-leb, lt-leb, lt-ltb, le-ltb}
use lib.IntN.{pos}
use Rattle.decimal.specs.Text.{nudged, places, Turns, last, more}
use Rattle.decimal.specs.Value.{after_point}

-- |a - b|
abbrev pub apart : ℕ → ℕ → ℕ
apart a b = (a - b) + (b - a)

-- what is used of 10^k for k below 6: no number of suc k places is exactly half a part above or below n,
-- since 2^20 does not divide 5 * 10^k times an odd number
record Small (p : ℕ) : Type 0 where
  small : p ≤ 100000
  above : (n D : ℕ) → 1048576 * D ≡ 10 * (n * p) + 5 * p → ⊥
  below : (n D : ℕ) → 1048576 * D + 5 * p ≡ 10 * (n * p) → ⊥

powers : (k : ℕ) → k < 6 → Small (10 ^ k)
powers zero h = omega arith
powers (suc zero) h = omega arith
powers (suc (suc zero)) h = omega arith
powers (suc (suc (suc zero))) h = omega arith
powers (suc (suc (suc (suc zero)))) h = omega arith
powers (suc (suc (suc (suc (suc zero))))) h = omega arith
powers (suc (suc (suc (suc (suc (suc k)))))) h = omega arith

-- a turn with no nudge, at p = 10^k
module _ (n p D f : ℕ) (sm : Small p) (at : 10 * (n * p) + 5 * p ≡ f + 10485760 * D) where
  -- one that is followed by another: no number of suc k places is within half a part
  leaves : 100 * p < 10 * (f % 1048576) → (M : ℕ) → 10 * p < 2 * apart (M * 1048576) (n * (10 * p))
  leaves h M = elim (dec_lt (10 * D + f / 1048576) M) [ yes l ↦ omega arith | no l ↦ omega arith ]

  -- one that ends the loop: what is printed is within half a part
  ends : 10 * (f % 1048576) ≤ 100 * p → 2 * apart ((10 * D + f / 1048576) * 1048576) (n * (10 * p)) < 10 * p
  ends h = omega (arith, sm.above n (10 * D + f / 1048576), sm.below n (10 * D + f / 1048576))

  again : 10 * (n * (10 * p)) + 5 * (10 * p) ≡ 10 * (f % 1048576) + 10485760 * (10 * D + f / 1048576)
  again = omega arith

-- the arithmetic of the seventh turn, with the nudge: f is above delta, so the digit is 5, and nearer than a quarter of a unit of its place
module _ (n D f : ℕ) (at : 10 * (n * 1000000) + 5000000 ≡ f + 10485760 * D) (lo : 10000000 < f) (hi : f < 10485760) where
  seventh : 2 * apart ((10 * D + (f + 524288 - 5000000) / 1048576) * 1048576) (n * 10000000) < 500000
  seventh = omega arith

-- what is shown of the k places that are printed, which make the number D
pub record Good (n k D : ℕ) : Type 0 where
  pub least : 1 ≤ k
  pub few : k ≤ 7
  -- less than half a part off
  pub near : 2 * apart (D * 1048576) (n * 10 ^ k) < 10 ^ k
  -- less than half a unit of the last place off, so that every other number of k places is farther off
  pub close : 2 * apart (D * 1048576) (n * 10 ^ k) < 1048576
  -- no number of fewer places is within half a part
  pub far : (j M : ℕ) → 1 ≤ j → j < k → 10 ^ j < 2 * apart (M * 1048576) (n * 10 ^ j)

-- a digit after the point
digit : (n k d : ℕ) (t : List ℕ) → d < 10 → after_point n k ((48 + d) ∷ t) ≡ after_point (10 * n + d) (suc k) t
unfolding after_point
digit n k d t h = rw (le-leb 48 (48 + d) (omega arith), le-leb (48 + d) 57 (omega arith), after_point) (ap (λ x. after_point (10 * n + x) (suc k) t) (omega arith))

-- no number of places up to k is within half a part
abbrev Far : ℕ → ℕ → Type 0
Far n k = (j M : ℕ) → 1 ≤ j → j ≤ k → 10 ^ j < 2 * apart (M * 1048576) (n * 10 ^ j)

far_more : (n k : ℕ) → Far n k → ((M : ℕ) → 10 ^ suc k < 2 * apart (M * 1048576) (n * 10 ^ suc k)) → Far n (suc k)
far_more n k F G j M lo hi = elim (dec_lt k j) [ yes l ↦ rw (at_end l) (G M) | no l ↦ F j M lo (omega arith) ]
  where
    at_end : k < j → j ≡ suc k
    at_end l = omega arith

-- what holds before a turn
record State (n k D f : ℕ) : Type 0 where
  turn : k < 7
  at : 10 * (n * 10 ^ k) + 5 * 10 ^ k ≡ f + 10485760 * D
  hi : f < 10485760
  -- before the seventh turn the sixth test has failed
  late : k ≡ 6 → 10000000 < f
  far : Far n k

-- the two cases of the nudge
plain : (f delta : ℕ) → delta ≤ 1048576 → nudged f delta ≡ f
unfolding nudged
plain f delta h = rw (le-ltb 1048576 delta h)

nudge : (f delta : ℕ) → 1048576 < delta → nudged f delta ≡ f + 524288 - delta / 2
unfolding nudged
nudge f delta h = rw (lt-ltb 1048576 delta h)

-- the text t, after k places and the number D, is read as N with K places, and these are good
abbrev pub Outcome : ℕ → ℕ → ℕ → List ℕ → Type 0
Outcome n k D t = (N : ℕ) × (K : ℕ) × (after_point D k t ≡ some (record { digits = pos N; places = K })) × Good n K N

-- the first six turns
module _ (n k D f delta : ℕ) (e : delta ≡ 10 ^ suc k) (s : State n k D f) (l : k < 6) where
  p : 10 ^ suc k ≡ 10 * 10 ^ k
  p = pow-succ' 10 k

  sm : Small (10 ^ k)
  sm = powers k l

  same : nudged f delta ≡ f
  same = plain f delta (omega (arith, p, sm))

  at' : 10 * (n * 10 ^ k) + 5 * 10 ^ k ≡ nudged f delta + 10485760 * D
  at' = rw same s.at

  read : (t : List ℕ) → after_point D k ((48 + nudged f delta / 1048576) ∷ t) ≡ after_point (10 * D + nudged f delta / 1048576) (suc k) t
  read t = digit D k (nudged f delta / 1048576) t (omega (arith, same, s.hi))

  last_early : 10 * (nudged f delta % 1048576) ≤ delta * 10 → Good n (suc k) (10 * D + nudged f delta / 1048576)
  last_early h =
      record {
        least = omega arith;
        few = omega arith;
        near = rw p near;
        close = rw p (omega (arith, near, sm));
        far = λ j M a b. s.far j M a (omega arith);
      }
    where
      near : 2 * apart ((10 * D + nudged f delta / 1048576) * 1048576) (n * (10 * 10 ^ k)) < 10 * 10 ^ k
      near = ends n (10 ^ k) D (nudged f delta) sm at' (omega (arith, p))

  more_early : delta * 10 < 10 * (nudged f delta % 1048576) → State n (suc k) (10 * D + nudged f delta / 1048576) (10 * (nudged f delta % 1048576))
  more_early h =
      record {
        turn = omega arith;
        at = rw p (again n (10 ^ k) D (nudged f delta) sm at');
        hi = omega arith;
        late = λ e6. omega (arith, ap (λ x. 10 ^ x) e6);
        far = far_more n k s.far (λ M. rw p (leaves n (10 ^ k) D (nudged f delta) sm at' (omega (arith, p)) M));
      }

-- the seventh turn
module _ (n D f delta : ℕ) (e : delta ≡ 10000000) (s : State n 6 D f) where
  nudge_six : nudged f delta ≡ f + 524288 - 5000000
  nudge_six = nudge f delta (omega arith) ∙ ap (λ x. f + 524288 - x / 2) e

  near_six : 2 * apart ((10 * D + nudged f delta / 1048576) * 1048576) (n * 10000000) < 500000
  near_six = rw nudge_six (seventh n D f s.at (s.late refl) s.hi)

  last_six : Good n 7 (10 * D + nudged f delta / 1048576)
  last_six =
      record {
        least = omega arith;
        few = omega arith;
        near = omega (arith, near_six);
        close = omega (arith, near_six);
        far = λ j M a b. s.far j M a (omega arith);
      }

  read_six : (t : List ℕ) → after_point D 6 ((48 + nudged f delta / 1048576) ∷ t) ≡ after_point (10 * D + nudged f delta / 1048576) 7 t
  read_six t = digit D 6 (nudged f delta / 1048576) t (omega (arith, nudge_six, s.hi, s.late refl))

pass_on : (n k j D E : ℕ) (s t : List ℕ) → after_point D k s ≡ after_point E j t → Outcome n j E t → Outcome n k D s
pass_on n k j D E s t e r = (r.0, r.1, e ∙ r.2, r.3)

-- a loop that ends, from a state, prints places that are good
good : {f delta : ℕ} {t : List ℕ} → Turns f delta t → (n k D : ℕ) → delta ≡ 10 ^ suc k → State n k D f → Outcome n k D t
unfolding after_point
good (last {f} {delta} h) n k D e s =
    elim (dec_lt k 6) [
      | yes l ↦ (10 * D + nudged f delta / 1048576, suc k, read n k D f delta e s l [], last_early n k D f delta e s l h)
      | no l ↦ at_six (omega (arith, s.turn)) e s
    ]
  where
    at_six : k ≡ 6 → delta ≡ 10 ^ suc k → State n k D f → Outcome n k D ((48 + nudged f delta / 1048576) ∷ [])
    at_six k6 =
        subst (λ x. delta ≡ 10 ^ suc x → State n x D f → Outcome n x D ((48 + nudged f delta / 1048576) ∷ [])) (sym k6)
        (λ e s. (10 * D + nudged f delta / 1048576, 7, read_six n D f delta e s [], last_six n D f delta e s))
good (more {f} {delta} {t} h u) n k D e s =
    pass_on n k (suc k) D (10 * D + nudged f delta / 1048576) ((48 + nudged f delta / 1048576) ∷ t) t (read n k D f delta e s early t)
    (good u n (suc k) (10 * D + nudged f delta / 1048576) (omega (arith, pow-succ' 10 (suc k))) (more_early n k D f delta e s early h))
  where
    six : ¬ (k < 6) → k ≡ 6
    six l = omega (arith, s.turn)

    early : k < 6
    early = elim (dec_lt k 6) [ yes l ↦ l | no l ↦ omega (arith, ap (λ x. 10 ^ suc x) (six l)) ]

-- seven turns are enough: at the seventh delta is 10^7, and the loop's test then holds
runs : (m k f delta : ℕ) → m + k ≡ 6 → delta ≡ 10 ^ suc k → Turns f delta (places (suc m) f delta)
unfolding places
runs zero k f delta q e = rw (le-leb (10 * (nudged f delta % 1048576)) (delta * 10) h) (last h)
  where
    h : 10 * (nudged f delta % 1048576) ≤ delta * 10
    h = omega (arith, ap (λ x. 10 ^ suc x) six)
      where
        six : k ≡ 6
        six = omega arith
runs (suc m) k f delta q e =
    elim (dec_lt (delta * 10) (10 * (nudged f delta % 1048576))) [
      | yes l ↦ rw (lt-leb _ _ l) (more l (runs m (suc k) (10 * (nudged f delta % 1048576)) (delta * 10) (omega arith) (omega (arith, pow-succ' 10 (suc k)))))
      | no l ↦ rw (le-leb _ _ (at_most l)) (last (at_most l))
    ]
  where
    at_most : ¬ (delta * 10 < 10 * (nudged f delta % 1048576)) → 10 * (nudged f delta % 1048576) ≤ delta * 10
    at_most l = omega arith

-- the loop of 003 §42 ends after at most seven turns, with what `places 7` says
pub loop_ends : (f : ℕ) → Turns f 10 (places 7 f 10)
loop_ends f = runs 6 0 f 10 refl refl

-- and its places are good, after a whole part a
pub printed : (a F : ℕ) → F < 1048576 → Outcome (a * 1048576 + F) 0 a (places 7 (10 * F + 5) 10)
printed a F h =
    good (loop_ends (10 * F + 5)) (a * 1048576 + F) 0 a refl
    (record { turn = omega arith; at = omega arith; hi = omega arith; late = λ e. omega arith; far = λ j M lo hi. omega arith })
