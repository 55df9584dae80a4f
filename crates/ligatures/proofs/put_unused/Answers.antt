-- Its head, what is inside, and its end.
use Rattle.items.proofs.Laws.{a_group}
use Rattle.ligatures.specs.Ligatures.{unused}
use Rattle.ligatures.proofs.put_unused.Goals as goal

pub returns : goal.returns
unfolding unused
returns c = search a_group
