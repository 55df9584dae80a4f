-- The calls, one after the other.
use Rattle.items.proofs.Laws.{after}
use Rattle.header.specs.Header.{header_items}
use Rattle.header.proofs.put_header.Goals as goal

pub returns : goal.returns
unfolding header_items
returns c = search after
