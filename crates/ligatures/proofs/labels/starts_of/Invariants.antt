-- The starts of the codes before this one are there.
use Rattle.std.proofs.Common.{◌≡◌, ◌++◌, length, drop, replicate}
use Rattle.lent.specs.Fold.{tabulate}
use Rattle.program.specs.Steps.{program_of}
use Rattle.ligatures.proofs.labels.starts_of.Given as goal

abbrev pub invariant-loop-code : goal.invariant-loop-code
invariant-loop-code l =
    (length l.start-items ≡ 257) × (l.start-items ≡ tabulate (program_of l.font.infos.now l.font.steps.now l.font.layout) l.code ++ drop l.code (replicate 257 0))
