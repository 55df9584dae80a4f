-- What the code writes byte by byte is the text, and 13 bytes hold it.
use Prim.Native.Nat.{ℕ, zero, suc, ◌+◌, ◌-◌, ◌*◌, ◌/◌, ◌%◌, ◌≤◌, ◌<◌}
use mathlib.Core.Path.{◌≡◌, sym, ap, ◌∙◌}
use mathlib.Core.Bool.{Bool, true, false, cond}
use mathlib.Core.List.{List, [], ◌∷◌}
use native.Mathlib.Decide.{dec_lt}
use native.Mathlib.Omega.{arith}
use borrow.Author.Tests.{lt-ltb, le-ltb, le-leb, lt-leb, eq-eqb, ne_eqb}
use lib.ListN.{length, replicate, length-append, length-replicate}
use Rattle.std.proofs.lemmas.List.{drop-replicate}
use Rattle.ink.specs.Ink.{digits}
use Rattle.lent.specs.Write.{Pen as Place, pen, put1, puts, flat, lit, Ended, fitted, overflowed}
use Rattle.lent.proofs.Ends.{ended}
use Rattle.lent.specs.Pens.{Written, place_of}
use Rattle.lent.specs.declared.Pen.{Pen}
use Rattle.decimal.specs.Room.{filled}
use Rattle.decimal.specs.Text.{negative, whole, rest, nudged, places, text_of}

nudged_le : (f delta : ℕ) → nudged f delta ≤ f
unfolding nudged
nudged_le f delta =
    elim (dec_lt 1048576 delta) [ yes l ↦ rw (lt-ltb 1048576 delta l) (omega arith) | no l ↦ rw (le-ltb 1048576 delta (omega arith)) (omega arith) ]

-- a turn of the loop, as the code takes it: g is what `nudge` gave, and o what comes of the digit
module _ (out o : Place) (f delta g turn : ℕ) (eg : g ≡ nudged f delta) (eo : o ≡ put1 out (48 + g / 1048576 % 10)) (small : f < 10485760) (more : turn < 7) where
  turns : 7 - turn ≡ suc (7 - (turn + 1))
  turns = omega arith

  first : put1 out (48 + nudged f delta / 1048576) ≡ o
  first = ap (put1 out) (omega (arith, nudged_le f delta)) ∙ sym eo

  pub last_turn : 10 * (g % 1048576) ≤ delta * 10 → puts out (places (7 - turn) f delta) ≡ o
  unfolding places puts
  last_turn h = rw (turns, le-leb (10 * (nudged f delta % 1048576)) (delta * 10) (omega arith)) first

  pub next_turn : delta * 10 < 10 * (g % 1048576) → puts out (places (7 - turn) f delta) ≡ puts o (places (7 - (turn + 1)) (10 * (g % 1048576)) (delta * 10))
  unfolding places puts
  next_turn h =
      rw (turns, lt-leb (10 * (nudged f delta % 1048576)) (delta * 10) (omega arith), eg)
      (ap (λ d. puts d (places (7 - (turn + 1)) (10 * (nudged f delta % 1048576)) (delta * 10))) first)

pub no_turn : (out : Place) (f delta turn : ℕ) → 7 ≤ turn → puts out (places (7 - turn) f delta) ≡ out
unfolding places puts
no_turn out f delta turn h = rw none_left
  where
    none_left : 7 - turn ≡ 0
    none_left = omega arith

-- 13 bytes are enough
whole_length : (k a : ℕ) → length (digits 10 k a) ≤ k
unfolding digits
whole_length zero a = omega arith
whole_length (suc k) a =
    elim (dec_lt 0 (a / 10)) [
      | yes l ↦ rw (ne_eqb (a / 10) 0 (omega arith), length-append) (omega (arith, whole_length k (a / 10)))
      | no l ↦ rw (eq-eqb (a / 10) 0 (omega arith)) (omega arith)
    ]

places_length : (k f delta : ℕ) → length (places k f delta) ≤ k
unfolding places
places_length zero f delta = omega arith
places_length (suc k) f delta =
    elim (dec_lt (delta * 10) (10 * (nudged f delta % 1048576))) [
      | yes l ↦ rw (lt-leb (10 * (nudged f delta % 1048576)) (delta * 10) l) (omega (arith, places_length k (10 * (nudged f delta % 1048576)) (delta * 10)))
      | no l ↦ rw (le-leb (10 * (nudged f delta % 1048576)) (delta * 10) (omega arith)) (omega arith)
    ]

sign_length : (b : Bool) → length {A = ℕ} (cond b (45 ∷ []) []) ≤ 1
sign_length true = omega arith
sign_length false = omega arith

text_length : (w : ℕ) → length (text_of w) ≤ 13
unfolding text_of
text_length w =
    simp length-append
    (omega (arith, sign_length (negative w), whole_length 4 (whole w), places_length 7 (10 * rest w + 5) 10))

-- written over zeros, the text has zeros after it
pub text_alone : (w : ℕ) {p q : Pen} {m : List ℕ} {r : ℕ} → place_of p ≡ pen (replicate 13 0) 0 → Written p (lit (text_of w)) q → m ≡ q.out.now → r ≡ q.to
    → record { bytes = m; len = r } ≡ filled (text_of w)
unfolding flat
text_alone w {p} {q} {m} {r} s e em er = rw (em, er) (go (ended (rw s at e.wrote)))
  where
    go : Ended (lit (text_of w)) (replicate 13 0) q.out.now q.to → record { bytes = q.out.now; len = q.to } ≡ filled (text_of w)
    go (fitted h k f) = rw (f, k, drop-replicate {X = ℕ} (length (text_of w)) 13 0)
    go (overflowed h k f) = absurd (omega (arith, text_length w, length-replicate {A = ℕ} 13 0))
