-- The calls, one after the other.
use Rattle.items.proofs.Laws.{after}
use Rattle.listing.proofs.put_characters_then.Goals as goal

pub returns : goal.returns
returns c = search after
