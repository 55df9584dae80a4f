-- `rest` goes by the tests of its definition
use Rattle.lent.proofs.Branches.{branches}
use Rattle.decimal.specs.Text.{rest}
use Rattle.decimal.proofs.rest.Goals as goal

pub negative-requires : goal.negative-requires
unfolding rest
negative-requires c = search branches

pub overflow_sub-result : goal.overflow_sub-result
unfolding rest
overflow_sub-result c = search branches

pub returns-then-f-gt0 : goal.returns-then-f-gt0
unfolding rest
returns-then-f-gt0 c = search branches

pub returns-else-f-gt0 : goal.returns-else-f-gt0
unfolding rest
returns-else-f-gt0 c = search branches

pub returns-else-negative : goal.returns-else-negative
unfolding rest
returns-else-negative c = search branches
