-- The code that is shown.
use Rattle.listing.specs.Characters.{piece_item}
use Rattle.listing.proofs.characters.Setting.put_piece.Goals as goal

pub returns : goal.returns
unfolding piece_item
returns c = rw (← c.shown-code.ensures) c.put_leaf.ensures
