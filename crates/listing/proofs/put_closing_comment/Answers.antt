-- By the test.
use Rattle.items.proofs.Laws.{no_item, item_then, item_else}
use Rattle.listing.specs.Listing.{closing_comment}
use Rattle.listing.proofs.put_closing_comment.Goals as goal

pub returns-then-mended : goal.returns-then-mended
unfolding closing_comment
returns-then-mended c = item_then c.if-mended.true c.put_leaf.ensures

pub returns-else-mended : goal.returns-else-mended
unfolding closing_comment
returns-else-mended c = item_else c.if-mended.false no_item
