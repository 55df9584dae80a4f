-- Each arm of the branch prints its arm of `choose`.
use Rattle.items.proofs.Laws.{choices}
use Rattle.header.specs.Parameters.{fontdimen}
use Rattle.header.proofs.parameters.put_fontdimen.Goals as goal

pub returns-then-font-ne0 : goal.returns-then-font-ne0
unfolding fontdimen
returns-then-font-ne0 c = search choices depth 9

pub returns-else-font-ne0 : goal.returns-else-font-ne0
unfolding fontdimen
returns-else-font-ne0 c = search choices depth 9
