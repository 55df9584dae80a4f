-- The returns of `listing`, over plain lists.
use Prim.Native.Nat.{ℕ, ◌+◌, ◌*◌}
use native.Mathlib.Omega.{arith}
use mathlib.Core.Path.{◌≡◌, refl, ap}
use mathlib.Core.Bool.{Bool, true, false, cond}
use mathlib.Core.List.{List, ◌++◌}
use lib.Dec.{ltb}
use lib.ListN.{length, take, drop, replicate}
use lib.Seq.{take-append_seam}
use Rattle.lent.specs.Write.{pen, Wrote, Ended, fitted, overflowed}
use Rattle.lent.specs.Pens.{place_of}
use Rattle.lent.specs.declared.Pen.{Pen}
use Rattle.lent.proofs.Ends.{ended, keeps}
use Rattle.tfm.specs.Refusal.{number as number_of}
use Rattle.tfm.specs.declared.Layout.{Layout}
use Rattle.tfm.specs.declared.refusal.Refusal.{Refusal}
use Rattle.tfm.proofs.Refusals.{number_positive}
use Rattle.mend.specs.Copy.{mended}
use Rattle.mend.proofs.Back.{copy_length}
use Rattle.judge.specs.Judge.{Verdict, no_verdict, clean, mended_so, looping, Answer, answer, Loop, no_loop, loop_at, verdict_of, too_short, judge_number, zeros, Judged, refused, too_few, too_long, judged}
use Rattle.items.specs.Items.{render, Printed}
use Rattle.listing.specs.Listing as to
use Rattle.listing.specs.Listing.{property_list, listing_text, says, ListedAs}
use Rattle.listing.specs.Inside.{items_in}

-- the parts of an answer
abbrev pub number : Answer → ℕ
number (answer n v k) = n

abbrev pub verdict : Answer → Verdict
verdict (answer n v k) = v

abbrev is_verdict : Verdict → Bool
is_verdict no_verdict = false
is_verdict clean = true
is_verdict mended_so = true
is_verdict looping = true

is_verdict_lem : (b : Bool) (loop : Loop) → is_verdict (verdict_of b loop) ≡ true
is_verdict_lem true no_loop = refl
is_verdict_lem false no_loop = refl
is_verdict_lem b (loop_at x y) = refl

zeros_for : (a b : List ℕ) → length b ≡ length a → zeros b ≡ zeros a
zeros_for a b h = ap (λ (n : ℕ). replicate n 0) h

module _ (f : List ℕ) (l : Layout) (c g p : List ℕ) where
  -- an answer with no number passes a verdict, and leaves the mended copy and the pair room zeroed
  record Passed (a : Answer) (c' p' : List ℕ) : Type 0 where
    pub accepted : judge_number f l c ≡ 0
    pub there : is_verdict (verdict a) ≡ true
    pub copy : c' ≡ mended f l ++ drop (4 * l.lf) c
    pub room : p' ≡ zeros p

  passed : {a : Answer} {c' g' p' : List ℕ} → Judged f l c g p a c' g' p' → number a ≡ 0 → Passed a c' p'
  passed (refused n) e = absurd (n e)
  passed (too_few d h) e = absurd (omega arith)
  passed (too_long b d h k s) e = absurd (omega arith)
  passed (judged b d h k s) e = record { accepted = d; there = is_verdict_lem _ b; copy = refl; room = refl }

  -- the 4·lf bytes with which the copy begins are the mended ones
  begins : {a : Answer} {c' p' : List ℕ} → Passed a c' p' → take (4 * l.lf) c' ≡ mended f l
  unfolding judge_number mended
  begins k =
      rw (k.copy, ← copy_length f l (too_short l c) k.accepted) (take-append_seam _ _)

  module _ (o : List ℕ) {c' g' p' : List ℕ} where
    pub refused_case : (r : Refusal) → Judged f l c g p (answer (number_of r) no_verdict 0) c' g' p'
        → ListedAs f l c g p o (says (number_of r) no_verdict 0 0) c' g' p' (cond (ltb (number_of r) 14) o (zeros o))
    refused_case r h = to.refused (λ z. omega (arith, number_positive r, z)) h

    -- what is printed from the start of o, where the judgement stands
    module _ {v : Verdict} {n : ℕ} (h : Judged f l c g p (answer 0 v n) c' g' p') (s q : Pen) (start : place_of s ≡ pen o 0) (w : Printed s 0 (items_in f l c' v) q) where
      wrote : Wrote (pen o 0) (render 0 (property_list f l v)) (pen q.out.now q.to)
      wrote = rw (start, begins (passed h refl)) at w.listed.wrote

      -- 16, of buffers that are still to be wiped
      pub long_case : {c'' g'' o' : List ℕ} → c'' ≡ zeros c' → g'' ≡ zeros g' → o' ≡ zeros q.out.now → length c' ≡ length c → length g' ≡ length g
          → q.to ≡ length q.out.now + 1 → ListedAs f l c g p o (says 16 no_verdict 0 0) c'' g'' p' o'
      unfolding listing_text
      long_case ec eg eo sc sg past = rw (ec, eg, eo, zeros_for c c' sc, zeros_for g g' sg, zeros_for o q.out.now (keeps wrote), (passed h refl).room) (go (ended wrote))
        where
          go : Ended (render 0 (property_list f l v)) o q.out.now q.to → ListedAs f l c g p o (says 16 no_verdict 0 0) (zeros c) (zeros g) (zeros p) (zeros o)
          go (fitted y z t) = absurd (omega (arith, keeps wrote))
          go (overflowed y z t) = to.too_long h y

      pub fits_case : {o' : List ℕ} → o' ≡ q.out.now → (q.to ≡ length q.out.now + 1 → ⊥) → ListedAs f l c g p o (says 0 v n q.to) c' g' p' o'
      unfolding listing_text
      fits_case eo k = rw eo (go (ended wrote))
        where
          go : Ended (render 0 (property_list f l v)) o q.out.now q.to → ListedAs f l c g p o (says 0 v n q.to) c' g' p' q.out.now
          go (fitted y z t) = rw (z, t) (to.listed h y)
          go (overflowed y z t) = absurd (omega (arith, keeps wrote))
