-- The contracts of the functions that the operations are made of. The tables are cut and the steps are marked once.
use Rattle.std.specs.Prelude.{ℕ, ◌≤◌, ◌≡◌, Bool, List, ltb, length, Result, Ok, Err, Option, Some, None}
use Rattle.lent.specs.Write.{Text, ◌▹◌, flat, pen, Wrote}
use Rattle.lent.specs.Pens.{Written}
use Rattle.lent.specs.declared.Pen.{Pen}
use Rattle.tfm.specs.Refusal.{number}
use Rattle.tfm.specs.declared.Font.{Font}
use Rattle.tfm.specs.declared.Layout.{Layout}
use Rattle.tfm.specs.declared.refusal.Refusal.{Refusal}
use Rattle.mend.specs.Findings.{found_tags}
use Rattle.mend.specs.Copy.{mended_text}
use Rattle.gather.specs.declared.Pair.{Pair}
use Rattle.judge.specs.Judge.{answer, answer_of, says, pair_says, no_verdict, no_outcome, zeros, Loop, no_loop, loop_at, loop_text, Judged, Paired}
use Rattle.judge.specs.declared.verdicts.Judgement.{Judgement}

-- the loop that was found
abbrev pub loop_of : Option Pair → Loop
loop_of (Some pair) = loop_at pair.left pair.right
loop_of None = no_loop

-- of a file, its tables and the marks of its steps
module _ (f : List ℕ) (font : Font) (m : List ℕ) where
  -- the mended file is written from the start of c
  pub record Copied (c c' : List ℕ) : Type 0 where
    pub place : ℕ
    pub wrote : Wrote (pen c 0) (mended_text f font.infos.now font.steps.now m font.layout) (pen c' place)

  -- the findings of n tags
  abbrev pub tags : ℕ → ℕ → Text
  tags = found_tags f font.infos.now font.steps.now m font.layout

  abbrev pub all_tags : Loop → Text
  all_tags loop = tags 1 1 ▹ tags 2 4 ▹ tags 6 1 ▹ tags 7 11 ▹ loop_text loop ▹ tags 19 5

  -- all findings are written, and where they stand at the start and fit it is known whether there is a mend
  pub record ReportedAs (smallest : Option Pair) (p : Pen) (mends : Bool) (q : Pen) : Type 0 where
    pub written : Written p (all_tags (loop_of smallest)) q
    pub known : p.to ≡ 0 → length (flat (all_tags (loop_of smallest))) ≤ length p.out.now → mends ≡ ltb 0 (length (flat (tags 2 4 ▹ tags 7 11 ▹ tags 19 5)))

-- the buffers after 14 and 15 are those of the answer once the copy and the findings are wiped, and after 14 those of a pair once the copy is
abbrev pub JudgedUnwiped : List ℕ → Layout → List ℕ → List ℕ → List ℕ → Result Judgement Refusal → List ℕ → List ℕ → List ℕ → Type 0
JudgedUnwiped f l c g p (Ok judgement) c' g' p' = Judged f l c g p (answer_of (Ok judgement)) c' g' p'
JudgedUnwiped f l c g p (Err refusal) c' g' p' = Judged f l c g p (answer (number refusal) no_verdict 0) (zeros c') (zeros g') p'

abbrev pub PairedUnwiped : List ℕ → Layout → ℕ → ℕ → List ℕ → List ℕ → Result (Option ℕ) Refusal → List ℕ → List ℕ → Type 0
PairedUnwiped f l x y c p (Ok outcome) c' p' = Paired f l x y c p (pair_says (Ok outcome)) c' p'
PairedUnwiped f l x y c p (Err refusal) c' p' = Paired f l x y c p (says (number refusal) no_outcome) (zeros c') p'
