-- Its head, what is inside, and its end.
use Rattle.items.proofs.Laws.{a_group}
use Rattle.header.proofs.parameters.put_group.Goals as goal

pub returns : goal.returns
returns c = search a_group
