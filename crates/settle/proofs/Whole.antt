-- The whole room: visiting every entry, judging a program, and reading an outcome.
use mathlib.Core.Path.{◌≡◌, refl, sym, ap, ◌∙◌, subst}
use mathlib.Core.Logic.{inl, inr, ⊎_elim}
use mathlib.Core.List.{List}
use mathlib.Core.Bool.{true, false}
use Prim.Native.Nat.{ℕ, ◌+◌, ◌*◌, ◌<◌}
use native.Mathlib.Omega.{arith}
use lib.ListN.{length, get_or}
use lib.Seq.{ext_get_or}
use Rattle.settle.specs.Needs.{det}
use Rattle.settle.specs.Settle.{Step, Settles, none, done, Loops, key_of, left_of, right_of, st_of, val_of, classed, step_of, Program, Outcome, Settled, Judged, Told}
use Rattle.settle.specs.Room.{Sorted, Turned, Visitable, Visited, Done, Found}
use Rattle.settle.proofs.Room.{step_none}
use Rattle.settle.proofs.Moves.{at_key, step_here}

pub visited : {a b : List ℕ} {k r : ℕ} → Visitable a k → Turned a k b r → Visited a k b
visited v t = record {
  long = t.looked.long;
  sorted = t.looked.sorted;
  old = t.looked.old;
  past = t.past;
  quiet = λ i h e. v.quiet i (omega (arith, t.looked.long)) (ap st_of (sym (t.looked.old i (omega arith) (omega arith))) ∙ e);
  right = λ P r. (t.looked.answer P (record { all = r; needs = λ i h e. absurd (v.quiet i h e) })).all;
}

pub done_start : (P : List ℕ) → Program P → Done P P 0
unfolding classed
done_start P p = record {
  within = omega arith;
  sorted = p.sorted;
  quiet = λ i h e. omega (arith, p.steps i h);
  right = record {
    long = refl;
    entry = λ i h. record {
      key = refl;
      fresh = λ _ _. refl;
      settled = λ s. done (step_here P p.sorted i h ∙ ap (λ (t : ℕ). classed t (val_of (get_or P i 0))) s);
      loops = λ s. absurd (omega (arith, p.steps i h));
      bare = λ s. absurd (omega (arith, p.steps i h));
      small = omega (arith, p.steps i h);
    };
  };
  past = λ i l. absurd (omega arith);
}

-- reading an outcome
module _ {P b : List ℕ} (p : Program P) (s : Settled P b) where
  same_key : (i : ℕ) → i < length P → key_of (get_or b i 0) ≡ key_of (get_or P i 0)
  same_key i h = ⊎_elim (λ o. omega (arith, o.1, o.3)) (λ o. omega (arith, o.1)) (s.entry i h)

  module _ {x y key : ℕ} (is : key ≡ x * 256 + y) (small : y < 256) where
    pub told_none : Found b key (length b) → Told (step_of P) x y y
    unfolding step_of
    told_none found = record {
      settles = λ _. none (step_none P (x * 256 + y) (λ j h e. found.nowhere (omega arith) j (omega (arith, s.long)) (same_key j h ∙ (e ∙ sym is))));
      loops = λ e. absurd (omega arith);
    }

    module _ {i : ℕ} (h : i < length b) (found : Found b key i) where
      at_pair : (T : ℕ → ℕ → Type 0) → T (left_of (get_or P i 0)) (right_of (get_or P i 0)) → T x y
      at_pair T = at_key T (get_or P i 0) x y (sym (same_key i (omega (arith, s.long))) ∙ (found.here h ∙ is)) small

      pub told_code : st_of (get_or b i 0) ≡ 0 → Told (step_of P) x y (val_of (get_or b i 0))
      told_code z = record {
        settles = λ _. ⊎_elim (λ o. subst (λ (w : ℕ). Settles (step_of P) x y w) (omega (arith, o.1, o.3)) (at_pair (λ u v. Settles (step_of P) u v o.0) o.2)) (λ o. absurd (omega (arith, o.1))) (s.entry i (omega (arith, s.long)));
        loops = λ e. absurd (omega arith);
      }

      pub told_loops : (st_of (get_or b i 0) ≡ 0 → ⊥) → Told (step_of P) x y 257
      told_loops z = record {
        settles = λ n. absurd (n refl);
        loops = λ _. ⊎_elim (λ o. absurd (omega (arith, o.1, o.3))) (λ o. at_pair (λ u v. Loops (step_of P) u v) o.0) (s.entry i (omega (arith, s.long)));
      }

-- a judgement
pub judged_yes : {T : Type 0} → T → Judged T true
judged_yes t = record { holds = λ _. t; fails = λ e. absurd (let z : ◌≡◌ {A = ℕ} 0 1 = cc in omega arith) }

pub judged_no : {T : Type 0} → (T → ⊥) → Judged T false
judged_no f = record { holds = λ e. absurd (let z : ◌≡◌ {A = ℕ} 0 1 = cc in omega arith); fails = λ _. f }

-- a settled room is in order, for `outcome`
pub settled_sorted : {P b : List ℕ} → Program P → Settled P b → Sorted b
settled_sorted p s i j l h =
    omega (arith, p.sorted i j l (omega (arith, s.long)), same_key p s i (omega (arith, s.long)), same_key p s j (omega (arith, s.long)))

-- the contract says the room whole: one outcome for each entry, and one room
same_outcome : {S : ℕ → ℕ → Step} (p d e : ℕ) → Outcome S p d → Outcome S p e → d ≡ e
same_outcome p d e (inl o) (inl q) = o.3 ∙ (ap (λ (w : ℕ). key_of p * 2048 + w) (det o.2 q.2) ∙ sym q.3)
same_outcome p d e (inl o) (inr q) = absurd (q.0 o.0 o.2)
same_outcome p d e (inr o) (inl q) = absurd (o.0 q.0 q.2)
same_outcome p d e (inr o) (inr q) = o.1 ∙ sym q.1

pub settled_unique : (P b c : List ℕ) → Settled P b → Settled P c → b ≡ c
settled_unique P b c s t =
    ext_get_or 0 b c (s.long ∙ sym t.long) (λ i h.
    let l : i < length P = omega (arith, s.long) in
    same_outcome (get_or P i 0) (get_or b i 0) (get_or c i 0) (s.entry i l) (t.entry i l))
