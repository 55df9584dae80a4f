-- The number of a verdict.
use Rattle.std.specs.Prelude.{ℕ}
use Rattle.judge.specs.declared.verdicts.Verdict.{Verdict}
use Rattle.judge.specs.declared.verdicts.Verdict.TheVariants.{Clean, Mended, Looping}

abbrev pub number : Verdict → ℕ
number Clean = 1
number Mended = 2
number Looping = 3
