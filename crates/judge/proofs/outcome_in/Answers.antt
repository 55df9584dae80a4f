-- The tables of the copy.
use Rattle.judge.specs.Judge.{program_in}
use Rattle.judge.proofs.outcome_in.Goals as goal

pub returns-clause-pair_as : goal.returns-clause-pair_as
unfolding program_in
returns-clause-pair_as c =
    let font = c.tables_of.ensures in
    rw (← font.infos, ← font.steps, ← font.layout) c.pair_outcome.ensures.pair_as
