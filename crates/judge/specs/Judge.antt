-- What the inspection of a file answers: the numbers 1 to 15, the verdict with the findings and the mended copy, and the outcome of one pair.
use Rattle.std.specs.Prelude.{ℕ, ◌*◌, ◌<◌, ◌≤◌, ◌≡◌, Bool, cond, ◌||◌, List, ◌++◌, ltb, length, drop, replicate, Result, Ok, Err, Option, Some, None}
use Rattle.lent.specs.Answer.{first}
use Rattle.lent.specs.Write.{Text, none, ◌▹◌, flat}
use Rattle.tfm.specs.Sizes.{number_of}
use Rattle.tfm.specs.Subfiles.{table_of}
use Rattle.tfm.specs.declared.Layout.{Layout}
use Rattle.mend.specs.Findings.{record_of, findings, any_mend}
use Rattle.mend.specs.Copy.{mended}
use Rattle.settle.specs.Settle.{Step, Settles, Loops}
use Rattle.gather.specs.Steps.{program_steps}
use Rattle.gather.specs.Answers.{count, SmallestLoop}
use Rattle.tfm.specs.Refusal.{number}
use Rattle.tfm.specs.declared.refusal.Refusal.{Refusal}
use Rattle.judge.specs.declared.verdicts.Judgement.{Judgement}
use Rattle.judge.specs.declared.verdicts.Verdict.{Verdict as Given}
use Rattle.judge.specs.declared.verdicts.Verdict.TheVariants.{Clean, Mended, Looping}

-- 01's number, verdict and length of the findings, and the outcome of a pair; a refusal brings its number, every other number 0 and no verdict or outcome
pub data Verdict : Type 0 where
  no_verdict : Verdict
  clean : Verdict
  mended_so : Verdict
  looping : Verdict

pub data Answer : Type 0 where
  answer : ℕ → Verdict → ℕ → Answer

abbrev pub verdict_in : Given → Verdict
verdict_in Clean = clean
verdict_in Mended = mended_so
verdict_in Looping = looping

abbrev pub answer_of : Result Judgement Refusal → Answer
answer_of (Ok judgement) = answer 0 (verdict_in judgement.verdict) judgement.findings
answer_of (Err refusal) = answer (number refusal) no_verdict 0

pub data Outcome : Type 0 where
  no_outcome : Outcome
  code : ℕ → Outcome
  never : Outcome

pub data PairSays : Type 0 where
  says : ℕ → Outcome → PairSays

abbrev pub pair_says : Result (Option ℕ) Refusal → PairSays
pair_says (Ok (Some w)) = says 0 (code w)
pair_says (Ok None) = says 0 never
pair_says (Err refusal) = says (number refusal) no_outcome

-- 13: the copy buffer c is shorter than 4·lf
abbrev pub too_short : Layout → List ℕ → ℕ
too_short l c = first (ltb (length c) (4 * l.lf)) 13 0

-- the numbers of the verdict up to 13
unfoldable pub judge_number : List ℕ → Layout → List ℕ → ℕ
judge_number f l c = number_of f l (too_short l c)

-- the program that a copy holds
unfoldable pub program_in : List ℕ → Layout → ℕ → ℕ → Step
program_in copy l = program_steps (table_of copy l 1) (table_of copy l 6) l

-- the mended program, which the mended copy holds
unfoldable pub mended_program : List ℕ → Layout → ℕ → ℕ → Step
mended_program f l = program_in (mended f l) l

-- finding 18: the smallest pair whose rewriting never ends, or none
pub data Loop : Type 0 where
  no_loop : Loop
  loop_at : ℕ → ℕ → Loop

abbrev pub LoopIs : (ℕ → ℕ → Step) → Loop → Type 0
LoopIs S no_loop = (x y : ℕ) → y < 256 → (w : ℕ) × Settles S x y w
LoopIs S (loop_at x y) = SmallestLoop S x y

abbrev pub loop_text : Loop → Text
loop_text no_loop = none
loop_text (loop_at x y) = record_of 18 x y

-- all findings, in ascending order of tag
abbrev pub all_findings : List ℕ → Layout → Loop → Text
all_findings f l loop =
    findings f l 1 1 ▹ findings f l 2 4 ▹ findings f l 6 1 ▹ findings f l 7 11 ▹ loop_text loop ▹ findings f l 19 5

unfoldable pub records : List ℕ → Layout → Loop → List ℕ
records f l loop = flat (all_findings f l loop)

-- looping if 18 is there; else mended if anything but 1 and 6 is; else clean
abbrev pub verdict_of : Bool → Loop → Verdict
verdict_of mends no_loop = cond mends mended_so clean
verdict_of mends (loop_at x y) = looping

abbrev pub zeros : List ℕ → List ℕ
zeros buffer = replicate (length buffer) 0

-- The verdict on the file f of the sizes l, with the buffers c for the copy, g for the findings and p for the pairs lent, and what they hold after.
pub data Judged (f : List ℕ) (l : Layout) (c g p : List ℕ) : Answer → List ℕ → List ℕ → List ℕ → Type 0 where
  -- 1 to 13 leave every buffer as found
  refused : (judge_number f l c ≡ 0 → ⊥) → Judged f l c g p (answer (judge_number f l c) no_verdict 0) c g p
  -- 14: the pair room has fewer entries than the mended program has distinct pairs
  too_few : judge_number f l c ≡ 0 → length p < count (mended_program f l) → Judged f l c g p (answer 14 no_verdict 0) (zeros c) (zeros g) (zeros p)
  -- 15: the findings need more bytes than are lent
  too_long : (loop : Loop)
      → judge_number f l c ≡ 0
      → count (mended_program f l) ≤ length p
      → LoopIs (mended_program f l) loop
      → length g < length (records f l loop)
      → Judged f l c g p (answer 15 no_verdict 0) (zeros c) (zeros g) (zeros p)
  -- the copy begins with the 4·lf mended bytes, the findings with theirs, bytes after those keep their values, the pair room is all zeros
  judged : (loop : Loop)
      → judge_number f l c ≡ 0
      → count (mended_program f l) ≤ length p
      → LoopIs (mended_program f l) loop
      → length (records f l loop) ≤ length g
      → Judged f l c g p
      (answer 0 (verdict_of (any_mend f l) loop) (length (records f l loop)))
      (mended f l ++ drop (4 * l.lf) c)
      (records f l loop ++ drop (length (records f l loop)) g)
      (zeros p)

-- the numbers of the pair outcome up to 13: 17, for a left code over 256 or a right code over 255, is tested before 13
unfoldable pub pair_number : List ℕ → Layout → ℕ → ℕ → List ℕ → ℕ
pair_number f l x y c = number_of f l (first (ltb 256 x || ltb 255 y) 17 (too_short l c))

-- The outcome of the pair of x and y.
pub data Paired (f : List ℕ) (l : Layout) (x y : ℕ) (c p : List ℕ) : PairSays → List ℕ → List ℕ → Type 0 where
  unasked : (pair_number f l x y c ≡ 0 → ⊥) → Paired f l x y c p (says (pair_number f l x y c) no_outcome) c p
  no_room : pair_number f l x y c ≡ 0 → length p < count (mended_program f l) → Paired f l x y c p (says 14 no_outcome) (zeros c) (zeros p)
  leaves : (w : ℕ)
      → pair_number f l x y c ≡ 0
      → count (mended_program f l) ≤ length p
      → Settles (mended_program f l) x y w
      → Paired f l x y c p (says 0 (code w)) (mended f l ++ drop (4 * l.lf) c) (zeros p)
  loops : pair_number f l x y c ≡ 0
      → count (mended_program f l) ≤ length p
      → Loops (mended_program f l) x y
      → Paired f l x y c p (says 0 never) (mended f l ++ drop (4 * l.lf) c) (zeros p)
