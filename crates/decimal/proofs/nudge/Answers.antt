-- `nudge` goes by the tests of its definition
use Rattle.lent.proofs.Branches.{branches}
use Rattle.decimal.specs.Text.{nudged}
use Rattle.decimal.proofs.nudge.Goals as goal

pub overflow_add-result : goal.overflow_add-result
unfolding nudged
overflow_add-result c = search branches

pub overflow_sub-result : goal.overflow_sub-result
unfolding nudged
overflow_sub-result c = search branches

pub returns-then-delta-gt-ONE : goal.returns-then-delta-gt-ONE
unfolding nudged
returns-then-delta-gt-ONE c = search branches

pub returns-else-delta-gt-ONE : goal.returns-else-delta-gt-ONE
unfolding nudged
returns-else-delta-gt-ONE c = search branches
