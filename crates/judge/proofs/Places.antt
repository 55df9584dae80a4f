-- What the places after each part of a text say, where the whole text fits: the parts between two equal places are empty.
use Prim.Native.Nat.{ℕ, ◌+◌, ◌≤◌}
use native.Mathlib.Decide.{dec_lt}
use native.Mathlib.Omega.{arith}
use mathlib.Core.Path.{◌≡◌}
use mathlib.Core.Bool.{◌||◌}
use mathlib.Core.List.{List}
use lib.Dec.{ltb}
use lib.ListN.{length, length-append}
use borrow.Author.Tests.{lt-ltb, le-ltb}
use Rattle.lent.specs.Write.{Text, pen, ◌▹◌, flat, Wrote, Ended, fitted, overflowed}
use Rattle.lent.specs.Pens.{Written}
use Rattle.lent.specs.declared.Pen.{Pen}
use Rattle.lent.proofs.Ends.{ended}
use Rattle.lent.proofs.Writes.{seq}

-- a text that fits ends at its length
at_length : {l m : List ℕ} {r : ℕ} {t : Text} → Ended t l m r → length (flat t) ≤ length l → r ≡ length (flat t)
at_length (fitted h e q) fits = e
at_length (overflowed h e q) fits = absurd (omega arith)

placed : {l m : List ℕ} {r : ℕ} {t : Text} → Wrote (pen l 0) t (pen m r) → length (flat t) ≤ length l → r ≡ length (flat t)
placed w fits = at_length (ended w) fits

length_then : (t u : Text) → length (flat (t ▹ u)) ≡ length (flat t) + length (flat u)
unfolding flat
length_then t u = length-append (flat t) (flat u)

-- one of three parts has a byte
any_of : (a b c d e g x y z : ℕ) → b ≡ a + x → d ≡ c + y → g ≡ e + z → ltb a b || ltb c d || ltb e g ≡ ltb 0 (x + y + z)
any_of a b c d e g x y z p q r =
    elim (dec_lt 0 x) [
      | yes h ↦ rw (lt-ltb a b (omega arith), lt-ltb 0 (x + y + z) (omega arith))
      | no h ↦ elim (dec_lt 0 y) [
        | yes k ↦ rw (le-ltb a b (omega arith), lt-ltb c d (omega arith), lt-ltb 0 (x + y + z) (omega arith))
        | no k ↦ elim (dec_lt 0 z) [
          | yes j ↦ rw (le-ltb a b (omega arith), le-ltb c d (omega arith), lt-ltb e g (omega arith), lt-ltb 0 (x + y + z) (omega arith))
          | no j ↦ rw (le-ltb a b (omega arith), le-ltb c d (omega arith), le-ltb e g (omega arith), le-ltb 0 (x + y + z) (omega arith))
        ]
      ]
    ]

-- six parts, one after the other from the start: whether the second, the fourth or the sixth has a byte
pub any_part : {p p1 p2 p3 p4 p5 p6 : Pen} {t1 t2 t3 t4 t5 t6 : Text}
    → Written p t1 p1
    → Written p1 t2 p2
    → Written p2 t3 p3
    → Written p3 t4 p4
    → Written p4 t5 p5
    → Written p5 t6 p6
    → p.to ≡ 0
    → length (flat (t1 ▹ t2 ▹ t3 ▹ t4 ▹ t5 ▹ t6)) ≤ length p.out.now
    → ltb p1.to p2.to || ltb p3.to p4.to || ltb p5.to p6.to ≡ ltb 0 (length (flat (t2 ▹ t4 ▹ t6)))
any_part {p} {p1} {p2} {p3} {p4} {p5} {p6} {t1} {t2} {t3} {t4} {t5} {t6} w1 w2 w3 w4 w5 w6 start fits =
    let v1 = rw start at w1.wrote in
    let v2 = seq w2.wrote v1 in
    let v3 = seq w3.wrote v2 in
    let v4 = seq w4.wrote v3 in
    let v5 = seq w5.wrote v4 in
    let v6 = seq w6.wrote v5 in
    let n2 = length_then t1 t2 in
    let n3 = length_then (t1 ▹ t2) t3 in
    let n4 = length_then (t1 ▹ t2 ▹ t3) t4 in
    let n5 = length_then (t1 ▹ t2 ▹ t3 ▹ t4) t5 in
    let n6 = length_then (t1 ▹ t2 ▹ t3 ▹ t4 ▹ t5) t6 in
    let q1 = placed v1 (omega arith) in
    let q2 = placed v2 (omega arith) in
    let q3 = placed v3 (omega arith) in
    let q4 = placed v4 (omega arith) in
    let q5 = placed v5 (omega arith) in
    let q6 = placed v6 fits in
    rw (length_then (t2 ▹ t4) t6, length_then t2 t4)
    (any_of p1.to p2.to p3.to p4.to p5.to p6.to (length (flat t2)) (length (flat t4)) (length (flat t6)) (omega arith) (omega arith) (omega arith))
