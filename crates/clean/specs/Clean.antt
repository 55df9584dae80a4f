-- What a verdict of clean says of a file: it is accepted, nothing is mended, and every pair settles.
use Rattle.std.specs.Prelude.{ℕ, ◌<◌, ◌≡◌, false, List}
use Rattle.tfm.specs.Sizes.{number_of}
use Rattle.tfm.specs.declared.Layout.{Layout}
use Rattle.settle.specs.Settle.{Settles}
use Rattle.mend.specs.Findings.{any_mend}
use Rattle.judge.specs.Judge.{Verdict, Answer, answer, mended_program}

-- the verdict of an answer
abbrev pub verdict_in : Answer → Verdict
verdict_in (answer n verdict length) = verdict

pub record Clean (f : List ℕ) (l : Layout) : Type 0 where
  -- what is tested after the sizes, as of the copy's room, has passed too
  pub later : ℕ
  pub number : number_of f l later ≡ 0
  pub unmended : any_mend f l ≡ false
  pub settled : (x y : ℕ) → y < 256 → (w : ℕ) × Settles (mended_program f l) x y w
