-- The tables of the copy.
use Rattle.judge.specs.Judge.{program_in}
use Rattle.judge.proofs.smallest_in.Goals as goal

pub returns-clause-smallest_as : goal.returns-clause-smallest_as
unfolding program_in
returns-clause-smallest_as c =
    let font = c.tables_of.ensures in
    rw (← font.infos, ← font.steps, ← font.layout) c.smallest_loop.ensures.smallest_as
