-- Sizes of buffers that always suffice: with them a verdict is refused only where the file itself is.
use Prim.Native.Nat.{ℕ, zero, suc, ◌+◌, ◌-◌, ◌*◌, ◌/◌, ◌%◌, ◌≤◌}
use native.Mathlib.Nat.{suc-mul}
use native.Mathlib.Omega.{arith}
use mathlib.Core.Path.{◌≡◌, refl, subst}
use mathlib.Core.Bool.{Bool, true, false}
use mathlib.Core.List.{List}
use lib.Dec.{ltb}
use lib.ListN.{length, length-append}
use borrow.Author.Tests.{ltb-false, le-ltb}
use Rattle.lent.specs.Answer.{first}
use Rattle.lent.specs.Fold.{iterate}
use Rattle.lent.specs.Write.{Text, none, when, each, flat}
use Rattle.tfm.specs.Sizes.{chars, layout_number, number_of}
use Rattle.tfm.specs.Subfiles.{count_of, table_of}
use Rattle.tfm.specs.declared.Layout.{Layout}
use Rattle.tfm.proofs.Accepted.{fails, passed, accepted}
use Rattle.program.specs.Marks.{marks_of}
use Rattle.mend.specs.Holds.{length_table, table_number, lowest, firsts, seconds}
use Rattle.mend.specs.Findings.{half, record_of, found, found_at, found_from, found_on, found_after, found_tags, findings}
use Rattle.settle.specs.Settle.{Step, stop, give, left, right, both}
use Rattle.gather.specs.Answers.{has, count_to, count}
use Rattle.judge.proofs.Cases.{or_right}
use Rattle.judge.specs.Judge.{Verdict, answer, judge_number, mended_program, Loop, no_loop, loop_at, loop_text, records, Judged, refused, too_few, too_long, judged}

abbrev bytes : Text → ℕ
bytes t = length (flat t)

-- a loop: of n turns that each write at most b bytes, and of one turn more
each_le : (n b : ℕ) (g : ℕ → Text) → ((i : ℕ) → bytes (g i) ≤ b) → bytes (each n g) ≤ n * b
unfolding flat iterate
each_le zero b g h = omega arith
each_le (suc n) b g h = rw (length-append, suc-mul n b) (omega (arith, each_le n b g h, h n))

each_suc : (n : ℕ) (g : ℕ → Text) → bytes (each (suc n) g) ≡ bytes (each n g) + bytes (g n)
unfolding flat iterate
each_suc n g = length-append (flat (each n g)) (flat (g n))

each_zero : (g : ℕ → Text) → bytes (each 0 g) ≡ 0
unfolding flat iterate
each_zero g = refl

-- a record has seven bytes
record_length : (t a b : ℕ) → bytes (record_of t a b) ≡ 7
unfolding record_of half flat
record_length t a b = refl

when_le : (b : Bool) (t : Text) → bytes t ≡ 7 → bytes (when b t none) ≤ 7
unfolding flat
when_le true t e = omega (arith, e)
when_le false t e = omega arith

-- 9 was passed: no code is over 255
last_code_lem : (f : List ℕ) (l : Layout) → number_of f l 0 ≡ 0 → l.ec ≤ 255
unfolding number_of layout_number
last_code_lem f l e1 =
    let e7 = passed _ _ _ (passed _ _ _ (passed _ _ _ (passed _ _ _ (passed _ _ _ (passed _ _ _ e1))))) in
    let e9 = passed _ _ _ (passed _ _ _ e7) in
    ltb-false _ _ (or_right (ltb (l.ec + 1) l.bc) (ltb 255 l.ec) (fails _ _ _ e9))

module _ (f : List ℕ) (l : Layout) where
  abbrev infos : List ℕ
  infos = table_of f l 1

  abbrev steps : List ℕ
  steps = table_of f l 6

  abbrev marks : List ℕ
  marks = marks_of infos steps l

  -- the findings of one tag, and those of them with one first number
  abbrev tag : ℕ → Text
  tag = found_on f infos steps marks l

  abbrev at : ℕ → ℕ → Text
  at = found_at f infos steps marks l

  at_le : (t a k : ℕ) → seconds l t a ≡ k → bytes (at t a) ≤ k * 7
  unfolding found_at found
  at_le t a k e =
      subst (λ (n : ℕ). bytes (at t a) ≤ n * 7) e
      (each_le (seconds l t a) 7 _ (λ (b : ℕ). when_le _ (record_of t a b) (record_length t a b)))

  tag_le : (t n k : ℕ) → firsts l t ≡ n → ((a : ℕ) → seconds l t a ≡ k) → bytes (tag t) ≤ n * (k * 7)
  unfolding found_on
  tag_le t n k e h =
      subst (λ (m : ℕ). bytes (tag t) ≤ m * (k * 7)) e
      (each_le (firsts l t) (k * 7) _ (λ (i : ℕ). at_le t _ k (h _)))

  -- the entries of five tables
  tag_9 : bytes (tag 9) ≤ (l.nw + l.nh + l.nd + l.ni + l.nk) * 7
  unfolding found_on firsts lowest seconds table_number length_table first count_of
  tag_9 =
      let g = found_from f infos steps marks l 9 in
      omega (arith, each_zero g, each_suc 0 g, each_suc 1 g, each_suc 2 g, each_suc 3 g, each_suc 4 g, at_le 9 0 l.nw refl, at_le 9 1 l.nh refl, at_le 9 2 l.nd refl, at_le 9 3 l.ni refl, at_le 9 4 l.nk refl)

  junk_le : bytes (findings f l 1 1) ≤ 7
  unfolding found_tags firsts seconds
  junk_le =
      let g = found_after f infos steps marks l 1 in
      omega (
        arith,
        each_zero g,
        each_suc 0 g,
        tag_le 1 1 1 refl (λ (a : ℕ). refl),
      )

  header_le : bytes (findings f l 2 4) ≤ 1141
  unfolding found_tags firsts seconds
  header_le =
      let g = found_after f infos steps marks l 2 in
      omega (
        arith,
        each_zero g,
        each_suc 0 g,
        each_suc 1 g,
        each_suc 2 g,
        each_suc 3 g,
        tag_le 2 2 1 refl (λ (a : ℕ). refl),
        tag_le 3 2 40 refl (λ (a : ℕ). refl),
        tag_le 4 2 40 refl (λ (a : ℕ). refl),
        tag_le 5 1 1 refl (λ (a : ℕ). refl),
      )

  remark_le : bytes (findings f l 6 1) ≤ 7
  unfolding found_tags firsts seconds
  remark_le =
      let g = found_after f infos steps marks l 6 in
      omega (
        arith,
        each_zero g,
        each_suc 0 g,
        tag_le 6 1 1 refl (λ (a : ℕ). refl),
      )

  tables_le : bytes (findings f l 7 11) ≤ 7 * (l.np + 5 + l.nw + l.nh + l.nd + l.ni + l.nk + chars l + 6 * l.nl)
  unfolding found_tags firsts seconds
  tables_le =
      let g = found_after f infos steps marks l 7 in
      omega (
        arith,
        each_zero g,
        each_suc 0 g,
        each_suc 1 g,
        each_suc 2 g,
        each_suc 3 g,
        each_suc 4 g,
        each_suc 5 g,
        each_suc 6 g,
        each_suc 7 g,
        each_suc 8 g,
        each_suc 9 g,
        each_suc 10 g,
        tag_le 7 (l.np - 1) 1 refl (λ (a : ℕ). refl),
        tag_le 8 4 1 refl (λ (a : ℕ). refl),
        tag_9,
        tag_le 10 1 1 refl (λ (a : ℕ). refl),
        tag_le 11 (chars l) 1 refl (λ (a : ℕ). refl),
        tag_le 12 l.nl 1 refl (λ (a : ℕ). refl),
        tag_le 13 l.nl 1 refl (λ (a : ℕ). refl),
        tag_le 14 l.nl 1 refl (λ (a : ℕ). refl),
        tag_le 15 l.nl 1 refl (λ (a : ℕ). refl),
        tag_le 16 l.nl 1 refl (λ (a : ℕ). refl),
        tag_le 17 l.nl 1 refl (λ (a : ℕ). refl),
      )

  characters_le : bytes (findings f l 19 5) ≤ 7 * (4 * l.ne + 7 * chars l)
  unfolding found_tags firsts seconds
  characters_le =
      let g = found_after f infos steps marks l 19 in
      omega (
        arith,
        each_zero g,
        each_suc 0 g,
        each_suc 1 g,
        each_suc 2 g,
        each_suc 3 g,
        each_suc 4 g,
        tag_le 19 l.ne 4 refl (λ (a : ℕ). refl),
        tag_le 20 (chars l) 4 refl (λ (a : ℕ). refl),
        tag_le 21 (chars l) 1 refl (λ (a : ℕ). refl),
        tag_le 22 (chars l) 1 refl (λ (a : ℕ). refl),
        tag_le 23 (chars l) 1 refl (λ (a : ℕ). refl),
      )

  loop_le : (loop : Loop) → bytes (loop_text loop) ≤ 7
  unfolding flat
  loop_le no_loop = omega arith
  loop_le (loop_at x y) = omega (arith, record_length 18 x y)

  -- six findings of seven bytes for each word of the file, and for 108 words more
  pub findings_le : (loop : Loop) → number_of f l 0 ≡ 0 → length (records f l loop) ≤ 42 * (l.lf + 108)
  unfolding records flat
  findings_le loop e =
      let sum = (accepted f l 0 e).sum in
      let codes = last_code_lem f l e in
      simp length-append (omega (arith, sum, codes, junk_le, header_le, remark_le, tables_le, loop_le loop, characters_le))

-- there are 257 left codes and 256 right codes
has_le : (s : Step) → has s ≤ 1
unfolding has
has_le stop = omega arith
has_le (give z) = omega arith
has_le (left z) = omega arith
has_le (right z) = omega arith
has_le (both z) = omega arith

count_to_le : (S : ℕ → ℕ → Step) (n : ℕ) → count_to S n ≤ n
unfolding count_to
count_to_le S zero = omega arith
count_to_le S (suc n) = omega (arith, count_to_le S n, has_le (S (n / 256) (n % 256)))

pub pairs_le : (S : ℕ → ℕ → Step) → count S ≤ 65792
pairs_le S = count_to_le S 65792

accepts : (f : List ℕ) (l : Layout) (c : List ℕ) → 4 * l.lf ≤ length c → number_of f l 0 ≡ 0 → judge_number f l c ≡ 0
unfolding judge_number first
accepts f l c copy e = rw (le-ltb (length c) (4 * l.lf) copy) e

module _ {f : List ℕ} {l : Layout} {c g p : List ℕ} where
  -- a file that is accepted is judged
  pub never_short : {n k : ℕ} {verdict : Verdict} {c' g' p' : List ℕ}
      → 4 * l.lf ≤ length c
      → 42 * (l.lf + 108) ≤ length g
      → 65792 ≤ length p
      → number_of f l 0 ≡ 0
      → Judged f l c g p (answer n verdict k) c' g' p'
      → n ≡ 0
  never_short copy findings pairs e (refused h) = absurd (h (accepts f l c copy e))
  never_short copy findings pairs e (too_few h few) = absurd (omega (arith, pairs, few, pairs_le (mended_program f l)))
  never_short copy findings pairs e (too_long loop h room is long) =
      absurd (omega (arith, findings, long, findings_le f l loop e))
  never_short copy findings pairs e (judged loop h room is fits) = refl
