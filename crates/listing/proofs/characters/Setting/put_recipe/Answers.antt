-- The calls, one after the other.
use Rattle.items.proofs.Laws.{after}
use Rattle.listing.specs.Characters.{recipe_items}
use Rattle.listing.proofs.characters.Setting.put_recipe.Goals as goal

pub returns : goal.returns
unfolding recipe_items
returns c =
    rw (← c.byte_of.ensures, ← c.byte_of-2.ensures, ← c.byte_of-3.ensures, ← c.byte_of-4.ensures)
    (after c.put_piece.ensures (after c.put_optional-3.ensures (after c.put_optional-2.ensures c.put_optional.ensures)))
