-- `text_of w` is the text that 003 prints, and no other is
use Prim.Native.Nat.{ℕ, zero, suc, ◌+◌, ◌*◌, ◌/◌, ◌%◌, ◌^◌, ◌<◌}
use mathlib.Core.Path.{◌≡◌, refl, ap}
use mathlib.Core.List.{List, [], ◌∷◌, ◌++◌}
use native.Mathlib.Decide.{ℕ_discrete}
use native.Mathlib.Omega.{arith}
use native.Mathlib.Nat.{pow-succ'}
use borrow.Author.Tests.{eq-eqb, ne_eqb}
use Rattle.ink.specs.Ink.{digits}
use Rattle.decimal.specs.Text.{whole, rest, nudged, text_of, Digs, one, next, Turns, last, more, Prints}
use Rattle.decimal.proofs.Loop.{loop_ends}
use Rattle.decimal.proofs.Demand.{whole_lt}

-- the loop of 003 §41 ends, with what `digits` says
digs_end : (k a : ℕ) → a < 10 ^ suc k → Digs a (digits 10 (suc k) a)
unfolding digits
digs_end zero a h = rw (eq-eqb (a / 10) 0 e) (one e)
  where
    e : a / 10 ≡ 0
    e = omega arith
digs_end (suc k) a h =
    elim (ℕ_discrete (a / 10) 0) [
      | yes e ↦ rw (eq-eqb (a / 10) 0 e) (one e)
      | no e ↦ rw (ne_eqb (a / 10) 0 e) (next e (digs_end k (a / 10) (omega (arith, pow-succ' 10 (suc k)))))
    ]

-- every word
pub prints : (w : ℕ) → w < 2 ^ 32 → Prints w (text_of w)
unfolding text_of
prints w h =
    record { whole_text = _; rest_text = _; §41 = digs_end 3 (whole w) (whole_lt w h); §42 = loop_ends (10 * rest w + 5); all = refl }

-- each loop ends in one way
digs_one : {a : ℕ} {s t : List ℕ} → Digs a s → Digs a t → s ≡ t
digs_one (one e) (one e') = refl
digs_one (one e) (next n d) = absurd (n e)
digs_one (next n d) (one e) = absurd (n e)
digs_one (next {a} n d) (next n' d') = ap (λ x. x ++ ((48 + a % 10) ∷ [])) (digs_one d d')

turns_one : {f delta : ℕ} {s t : List ℕ} → Turns f delta s → Turns f delta t → s ≡ t
turns_one (last h) (last h') = refl
turns_one (last h) (more h' u) = absurd (omega arith)
turns_one (more h u) (last h') = absurd (omega arith)
turns_one (more {f} {delta} h u) (more h' v) = ap (λ x. (48 + nudged f delta / 1048576) ∷ x) (turns_one u v)

pub printed_once : (w : ℕ) (s t : List ℕ) → Prints w s → Prints w t → s ≡ t
printed_once w s t p q = cc (p.all, q.all, digs_one p.§41 q.§41, turns_one p.§42 q.§42)
