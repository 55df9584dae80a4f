-- Its head, what is inside, and its end.
use Rattle.items.proofs.Laws.{a_group}
use Rattle.ligatures.specs.Ligatures.{program_comment}
use Rattle.ligatures.proofs.put_comment.Goals as goal

pub returns : goal.returns
unfolding program_comment
returns c = search a_group
