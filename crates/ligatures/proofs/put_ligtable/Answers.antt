-- Each arm of the branch prints its arm of `choose`.
use Rattle.items.proofs.Laws.{choices}
use Rattle.ligatures.specs.Ligatures.{ligtable}
use Rattle.ligatures.proofs.put_ligtable.Goals as goal

pub returns-then-program-ne0 : goal.returns-then-program-ne0
unfolding ligtable
returns-then-program-ne0 c = search choices depth 9

pub returns-else-program-ne0 : goal.returns-else-program-ne0
unfolding ligtable
returns-else-program-ne0 c = search choices depth 9
