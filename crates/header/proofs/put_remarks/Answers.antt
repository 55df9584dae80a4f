-- The calls, one after the other.
use Rattle.items.proofs.Laws.{after}
use Rattle.header.specs.Header.{remarks}
use Rattle.header.proofs.put_remarks.Goals as goal

pub returns : goal.returns
unfolding remarks
returns c = search after
