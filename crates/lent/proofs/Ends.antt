-- What comes of a text that is written from the start of a buffer, and that writing keeps the buffer's length.
use Prim.Native.Nat.{ℕ, zero, suc, ◌+◌, ◌≤◌, ◌<◌}
use native.Mathlib.Nat.{zero-add, add-zero, eq-or-lt_of_le}
use native.Mathlib.Numerals.{add-one}
use native.Mathlib.Decide.{dec_le}
use native.Mathlib.Omega.{arith}
use mathlib.Core.Path.{◌≡◌, refl, sym, ap, ◌∙◌}
use mathlib.Core.Logic.{⊎_elim}
use mathlib.Core.Bool.{Bool, true, false, cond}
use mathlib.Core.List.{List, [], ◌∷◌, ◌++◌}
use lib.ListN.{length, drop, set, length-set}
use lib.Seq.{sets, sets-eq}
use lib.Dec.{ltb}
use borrow.Author.Tests.{lt-ltb, le-ltb}
use Rattle.lent.specs.Write.{Pen, pen, Text, none, byte, lit, ◌▹◌, when, each, Wrote, Ended, fitted, overflowed, put1, puts, run, flat}
use Rattle.lent.specs.Fold.{iterate}

-- to write two texts, one after the other, is to write them as one
pub puts_append : (p : Pen) (s t : List ℕ) → puts p (s ++ t) ≡ puts (puts p s) t
unfolding puts
puts_append p [] t = refl
puts_append p (b ∷ s) t = puts_append (put1 p b) s t

run_each : (p : Pen) (n : ℕ) (f : ℕ → Text) → ((q : Pen) (k : ℕ) → run q (f k) ≡ puts q (flat (f k))) → iterate (λ q i. run q (f i)) p n ≡ puts p (iterate (λ s i. s ++ flat (f i)) [] n)
unfolding puts iterate
run_each p zero f each-is = refl
run_each p (suc n) f each-is =
    ap (λ (q : Pen). run q (f n)) (run_each p n f each-is) ∙ each-is _ n ∙ sym (puts_append p (iterate (λ s i. s ++ flat (f i)) [] n) (flat (f n)))

run_flat : (p : Pen) (t : Text) → run p t ≡ puts p (flat t)
unfolding flat puts run
run_flat p none = refl
run_flat p (byte b) = refl
run_flat p (lit bs) = refl
run_flat p (t ▹ u) = ap (λ (q : Pen). run q u) (run_flat p t) ∙ run_flat (puts p (flat t)) u ∙ sym (puts_append p (flat t) (flat u))
run_flat p (when true t u) = run_flat p t
run_flat p (when false t u) = run_flat p u
run_flat p (each n f) = run_each p n f (λ q k. run_flat q (f k))

put_in : (l : List ℕ) (at b : ℕ) → at < length l → put1 (pen l at) b ≡ pen (set l at b) (at + 1)
unfolding put1
put_in l at b h = rw (lt-ltb at (length l) h)

put_out : (l : List ℕ) (at b : ℕ) → length l ≤ at → put1 (pen l at) b ≡ pen l (length l + 1)
unfolding put1
put_out l at b h = rw (le-ltb at (length l) h)

puts_in : (s l : List ℕ) (at : ℕ) → at + length s ≤ length l → puts (pen l at) s ≡ pen (sets l at s) (at + length s)
unfolding puts
puts_in [] l at h = rw (add-zero at)
puts_in (b ∷ s) l at h =
    rw (put_in l at b (omega arith), add-one at)
    (puts_in s (set l at b) (suc at) (simp length-set (omega arith)) ∙ ap (λ (n : ℕ). pen (sets l at (b ∷ s)) n) (omega arith))

-- past the end for good
puts_past : (s l : List ℕ) → puts (pen l (length l + 1)) s ≡ pen l (length l + 1)
unfolding puts
puts_past [] l = refl
puts_past (b ∷ s) l = rw (put_out l (length l + 1) b (omega arith)) (puts_past s l)

abbrev pub place : Pen → ℕ
place (pen l at) = at

puts_out : (s l : List ℕ) (at : ℕ) → at ≤ length l → length l < at + length s → place (puts (pen l at) s) ≡ length l + 1
unfolding puts
puts_out [] l at h k = omega arith
puts_out (b ∷ s) l at h k =
    ⊎_elim
    (λ (e : at ≡ length l). rw (put_out l at b (omega arith), puts_past s l))
    (λ (m : at < length l). rw (put_in l at b m) (puts_out s (set l at b) (at + 1) (simp length-set (omega arith)) (simp length-set (omega arith)) ∙ simp length-set))
    (eq-or-lt_of_le h)

fits : (t : Text) (l : List ℕ) → length (flat t) ≤ length l → run (pen l 0) t ≡ pen (flat t ++ drop (length (flat t)) l) (length (flat t))
fits t l h =
    let k : 0 + length (flat t) ≤ length l = omega arith in
    run_flat (pen l 0) t ∙ puts_in (flat t) l 0 k ∙ rw (sets-eq (flat t) l 0 k, zero-add (length (flat t)))

over : (t : Text) (l : List ℕ) → length l < length (flat t) → place (run (pen l 0) t) ≡ length l + 1
over t l h = rw (run_flat (pen l 0) t) (puts_out (flat t) l 0 (omega arith) (omega arith))

abbrev pub held : Pen → List ℕ
held (pen l at) = l

put_keeps : (p : Pen) (b : ℕ) → length (held (put1 p b)) ≡ length (held p)
unfolding put1
put_keeps (pen l at) b = go (ltb at (length l))
  where
    go : (t : Bool) → length (held (cond t (pen (set l at b) (at + 1)) (pen l (length l + 1)))) ≡ length l
    go true = length-set l at b
    go false = refl

puts_keeps : (p : Pen) (s : List ℕ) → length (held (puts p s)) ≡ length (held p)
unfolding puts
puts_keeps p [] = refl
puts_keeps p (b ∷ s) = puts_keeps (put1 p b) s ∙ put_keeps p b

-- what prints keeps the buffer's length
pub keeps : {l m : List ℕ} {at r : ℕ} {t : Text} → Wrote (pen l at) t (pen m r) → length m ≡ length l
keeps {l} {m} {at} {r} {t} e = ap (λ (p : Pen). length (held p)) (e.is ∙ run_flat (pen l at) t) ∙ puts_keeps (pen l at) (flat t)

-- what did not fit stays so, whatever else is written
pub stuck : {l : List ℕ} {to : ℕ} {t : Text} → to ≡ length l + 1 → Wrote (pen l to) t (pen l to)
stuck {l} {to} {t} e = record { is = rw e (sym (run_flat (pen l (length l + 1)) t ∙ puts_past (flat t) l)) }

pub ended : {l m : List ℕ} {r : ℕ} {t : Text} → Wrote (pen l 0) t (pen m r) → Ended t l m r
ended {l} {m} {r} {t} e =
    elim (dec_le (length (flat t)) (length l)) [
      | yes h ↦ fitted h (ap place (e.is ∙ fits t l h)) (ap held (e.is ∙ fits t l h))
      | no h ↦ overflowed (omega arith) (ap place e.is ∙ over t l (omega arith)) (keeps e)
    ]
