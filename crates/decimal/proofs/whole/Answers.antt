-- `whole` goes by the tests of its definition
use Rattle.lent.proofs.Branches.{branches}
use Rattle.decimal.specs.Text.{whole}
use Rattle.decimal.proofs.whole.Goals as goal

pub negative-requires : goal.negative-requires
unfolding whole
negative-requires c = search branches

pub overflow_sub-result : goal.overflow_sub-result
unfolding whole
overflow_sub-result c = search branches

pub overflow_sub-result-then-word-gt0 : goal.overflow_sub-result-then-word-gt0
unfolding whole
overflow_sub-result-then-word-gt0 c = search branches

pub overflow_sub-result-else-word-gt0 : goal.overflow_sub-result-else-word-gt0
unfolding whole
overflow_sub-result-else-word-gt0 c = search branches

pub returns-then-word-gt0 : goal.returns-then-word-gt0
unfolding whole
returns-then-word-gt0 c = search branches

pub returns-else-word-gt0 : goal.returns-else-word-gt0
unfolding whole
returns-else-word-gt0 c = search branches

pub returns-else-negative : goal.returns-else-negative
unfolding whole
returns-else-negative c = search branches
