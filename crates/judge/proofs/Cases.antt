-- The cases of a verdict, over plain lists: what each return of the code makes of what its callees ensure.
use Prim.Native.Nat.{ℕ, ◌+◌, ◌*◌, ◌<◌, ◌≤◌}
use native.Mathlib.Omega.{arith}
use mathlib.Core.Path.{◌≡◌, refl, ap, ◌∙◌, subst}
use mathlib.Core.Bool.{Bool, true, false, ◌||◌, true≢false}
use mathlib.Core.List.{List, [], ◌++◌, append-nil}
use lib.Dec.{ltb}
use lib.ListN.{length, drop, replicate}
use borrow.Author.Tests.{ltb-false}
use Rattle.lent.specs.Answer.{first}
use Rattle.std.proofs.Common.{Result, Ok, Err, Option, Some, None}
use Rattle.lent.specs.Write.{pen, flat, ◌▹◌, Wrote, Ended, fitted, overflowed}
use Rattle.lent.specs.Pens.{place_of}
use Rattle.lent.specs.declared.Pen.{Pen}
use Rattle.lent.proofs.Ends.{ended, keeps}
use Rattle.lent.proofs.Pens.{out_is, to_is}
use Rattle.tfm.specs.Refusal.{number}
use Rattle.tfm.specs.Sizes.{number_of}
use Rattle.tfm.specs.Subfiles.{count_of, table_of, FontOf}
use Rattle.tfm.specs.declared.Font.{Font}
use Rattle.program.specs.Marks.{marks_of}
use Rattle.tfm.specs.declared.Layout.{Layout}
use Rattle.tfm.proofs.Accepted.{fails, passed, accepted}
use Rattle.lent.specs.Fold.{tabulate}
use Rattle.mend.specs.Findings.{findings, any_mend}
use Rattle.mend.specs.Copy.{copy_text, mended}
use Rattle.mend.proofs.Back.{made, copy_length, copy_table}
use Rattle.settle.specs.Settle.{Step}
use Rattle.tfm.specs.declared.refusal.Refusal.{Refusal}
use Rattle.tfm.specs.declared.refusal.Refusal.TheVariants.{NoBytes, FirstByteOver127, OneByte, LengthZero, FewerBytesThanSaid, FewerThanSixWords, SizeOver127, ShortHeader, ImpossibleRange, EmptyTable, TooManyRecipes, SizesDisagree, ShortCopy, FewPairs, FindingsDoNotFit, ListingDoesNotFit, OutOfRange, NoCharacter}
use Rattle.gather.specs.Answers.{count, SmallestAs, InRange, PairAs, PairRefused, room_after}
use Rattle.gather.specs.declared.Pair.{Pair}
use Rattle.judge.specs.Judge.{answer, no_verdict, zeros, too_short, judge_number, program_in, mended_program, LoopIs, all_findings, records, verdict_of, Judged, too_few, too_long, judged, pair_number, no_room, leaves, loops}
use Rattle.judge.specs.Inside.{loop_of, Copied, ReportedAs, PairedUnwiped}

or_left : (a b : Bool) → a || b ≡ false → a ≡ false
or_left true b e = e
or_left false b e = refl

pub or_right : (a b : Bool) → a || b ≡ false → b ≡ false
or_right true b e = absurd (true≢false e)
or_right false b e = e

-- 13 was passed: the copy has room
pub room_for : (l : Layout) (c : List ℕ) → too_short l c ≡ 0 → 4 * l.lf ≤ length c
room_for l c e = ltb-false _ _ (fails _ _ _ e)

module _ (f : List ℕ) (l : Layout) (later : ℕ) (e : number_of f l later ≡ 0) where
  -- the copy's own tables, whatever follows it
  bare_table : (k : ℕ) → k ≤ 9 → table_of (mended f l) l k ≡ tabulate (made f l k) (4 * count_of l k)
  bare_table k h = rw append-nil at (copy_table f l later e [] k h)

  pub same_program : (r : List ℕ) → program_in (mended f l ++ r) l ≡ mended_program f l
  unfolding program_in mended_program
  same_program r =
      rw (copy_table f l later e r 1 (omega arith), copy_table f l later e r 6 (omega arith), bare_table 1 (omega arith), bare_table 6 (omega arith))

module _ (f : List ℕ) (l : Layout) (font : Font) (m : List ℕ) (cut : FontOf f l font) (marked : m ≡ marks_of font.infos.now font.steps.now font.layout) (later : ℕ) (e : number_of f l later ≡ 0) where
  -- a copy that has room holds the mended bytes, and then what it held
  pub copied : {c c' : List ℕ} → 4 * l.lf ≤ length c → Copied f font m c c' → c' ≡ mended f l ++ drop (4 * l.lf) c
  unfolding mended
  copied {c} {c'} room k = at (ended (rw (marked, cut.infos, cut.steps, cut.layout) at k.wrote))
    where
      at : Ended (copy_text f l) c c' k.place → c' ≡ flat (copy_text f l) ++ drop (4 * l.lf) c
      at (fitted h p q) = q ∙ rw (copy_length f l later e)
      at (overflowed h p q) = absurd (omega (arith, copy_length f l later e))

  pub program_in_lem : {c c' : List ℕ} → 4 * l.lf ≤ length c → Copied f font m c c' → program_in c' l ≡ mended_program f l
  program_in_lem {c} room k = rw (copied room k) (same_program f l later e (drop (4 * l.lf) c))

-- zeros for a buffer of the same length
zeros_for : (a b : List ℕ) → length b ≡ length a → zeros b ≡ zeros a
zeros_for a b h = ap (λ (n : ℕ). replicate n 0) h

-- the loop that was found is the smallest, or there is none
looped : (S : ℕ → ℕ → Step) (n : ℕ) (s : Option Pair) → SmallestAs S n (Ok s) → (count S ≤ n) × LoopIs S (loop_of s)
looped S n (Some pair) a = a
looped S n None a = a

-- The returns of `judge_accepted`: c' is the mended copy, s what was found of loops, p' the room after.
module _ (f : List ℕ) (l : Layout) (font : Font) (m : List ℕ) (cut : FontOf f l font) (marked : m ≡ marks_of font.infos.now font.steps.now font.layout) (c g p : List ℕ) (e : judge_number f l c ≡ 0) (c' : List ℕ) (k : Copied f font m c c') where
  there : 4 * l.lf ≤ length c
  unfolding judge_number
  there = room_for l c (accepted f l (too_short l c) e).rest

  mended_program_lem : program_in c' l ≡ mended_program f l
  unfolding judge_number
  mended_program_lem = program_in_lem f l font m cut marked (too_short l c) e there k

  -- 14, of a copy and findings that are still to be wiped
  pub few_case : {r : Refusal} → SmallestAs (program_in c' l) (length p) (Err r) → Judged f l c g p (answer (number r) no_verdict 0) (zeros c') (zeros g) (zeros p)
  few_case {r} a =
      let few = subst (λ (S : ℕ → ℕ → Step). SmallestAs S (length p) (Err r)) mended_program_lem a in
      rw (few.0, zeros_for c c' (keeps k.wrote)) (too_few e few.1)

  module _ (s : Option Pair) (found : SmallestAs (program_in c' l) (length p) (Ok s)) (o q : Pen) (mends : Bool) (start : place_of o ≡ pen g 0) (w : ReportedAs f font m s o mends q) where
    large : (count (mended_program f l) ≤ length p) × LoopIs (mended_program f l) (loop_of s)
    large = looped (mended_program f l) (length p) s (subst (λ (S : ℕ → ℕ → Step). SmallestAs S (length p) (Ok s)) mended_program_lem found)

    wrote : Wrote (pen g 0) (all_findings f l (loop_of s)) (pen q.out.now q.to)
    wrote = rw (start, marked, cut.infos, cut.steps, cut.layout) at w.written.wrote

    known : length (flat (all_findings f l (loop_of s))) ≤ length g → mends ≡ ltb 0 (length (flat (findings f l 2 4 ▹ findings f l 7 11 ▹ findings f l 19 5)))
    known h = rw (marked, cut.infos, cut.steps, cut.layout) at (w.known (to_is o start) (rw (marked, cut.infos, cut.steps, cut.layout, out_is o start) h))

    pub long_case : {g' : List ℕ} → g' ≡ q.out.now → q.to ≡ length q.out.now + 1 → Judged f l c g p (answer 15 no_verdict 0) (zeros c') (zeros g') (zeros p)
    unfolding records
    long_case same h = rw (same, zeros_for c c' (keeps k.wrote), zeros_for g q.out.now (keeps wrote)) (at (ended wrote))
      where
        at : Ended (all_findings f l (loop_of s)) g q.out.now q.to → Judged f l c g p (answer 15 no_verdict 0) (zeros c) (zeros g) (zeros p)
        at (fitted y z t) = absurd (omega (arith, keeps wrote))
        at (overflowed y z t) = too_long (loop_of s) e large.0 large.1 y

    pub done_case : {g' : List ℕ} → g' ≡ q.out.now → (q.to ≡ length q.out.now + 1 → ⊥) → Judged f l c g p (answer 0 (verdict_of mends (loop_of s)) q.to) c' g' (zeros p)
    unfolding records judge_number any_mend
    done_case same h = rw same (at (ended wrote))
      where
        at : Ended (all_findings f l (loop_of s)) g q.out.now q.to → Judged f l c g p (answer 0 (verdict_of mends (loop_of s)) q.to) c' q.out.now (zeros p)
        at (fitted y z t) =
            rw (copied f l font m cut marked (too_short l c) e there k, t, z, known y)
            (judged (loop_of s) e large.0 large.1 y)
        at (overflowed y z t) = absurd (omega (arith, keeps wrote))

-- The returns of `pair_accepted`.
module _ (f : List ℕ) (l : Layout) (font : Font) (m : List ℕ) (cut : FontOf f l font) (marked : m ≡ marks_of font.infos.now font.steps.now font.layout) (x y : ℕ) (c p : List ℕ) (e : pair_number f l x y c ≡ 0) (c' : List ℕ) (k : Copied f font m c c') where
  later : ℕ
  later = first (ltb 256 x || ltb 255 y) 17 (too_short l c)

  number_lem : number_of f l later ≡ 0
  unfolding pair_number later
  number_lem = e

  asked : later ≡ 0
  asked = (accepted f l later number_lem).rest

  has_room : 4 * l.lf ≤ length c
  unfolding later
  has_room = room_for l c (passed _ _ _ asked)

  in_range_lem : InRange x y
  unfolding later
  in_range_lem =
      let both = fails (ltb 256 x || ltb 255 y) 16 (too_short l c) asked in (
        omega (arith, ltb-false 256 x (or_left (ltb 256 x) (ltb 255 y) both)),
        omega (arith, ltb-false 255 y (or_right (ltb 256 x) (ltb 255 y) both)),
      )

  told : (o : Result (Option ℕ) Refusal) → PairAs (program_in c' l) (length p) x y o → PairAs (mended_program f l) (length p) x y o
  told o a = subst (λ (S : ℕ → ℕ → Step). PairAs S (length p) x y o) (program_in_lem f l font m cut marked later number_lem has_room k) a

  few_pairs : (r : Refusal) → PairRefused (mended_program f l) (length p) x y r → (r ≡ FewPairs) × (length p < count (mended_program f l))
  few_pairs FewPairs a = (refl, a.1)
  few_pairs OutOfRange a = absurd (a in_range_lem)
  few_pairs NoBytes a = absurd a
  few_pairs FirstByteOver127 a = absurd a
  few_pairs OneByte a = absurd a
  few_pairs LengthZero a = absurd a
  few_pairs FewerBytesThanSaid a = absurd a
  few_pairs FewerThanSixWords a = absurd a
  few_pairs SizeOver127 a = absurd a
  few_pairs ShortHeader a = absurd a
  few_pairs ImpossibleRange a = absurd a
  few_pairs EmptyTable a = absurd a
  few_pairs TooManyRecipes a = absurd a
  few_pairs SizesDisagree a = absurd a
  few_pairs ShortCopy a = absurd a
  few_pairs FindingsDoNotFit a = absurd a
  few_pairs ListingDoesNotFit a = absurd a
  few_pairs NoCharacter a = absurd a

  pub pair_case : (o : Result (Option ℕ) Refusal) → PairAs (program_in c' l) (length p) x y o → PairedUnwiped f l x y c p o c' (room_after p o)
  pair_case (Err r) a =
      let few = few_pairs r (told (Err r) a) in
      rw (few.0, zeros_for c c' (keeps k.wrote)) (no_room e few.1)
  pair_case (Ok (Some w)) a = rw (copied f l font m cut marked later number_lem has_room k) (leaves w e (told (Ok (Some w)) a).1 (told (Ok (Some w)) a).2)
  pair_case (Ok None) a = rw (copied f l font m cut marked later number_lem has_room k) (loops e (told (Ok None) a).1 (told (Ok None) a).2)
