-- The group round the recipe.
use Rattle.items.proofs.Laws.{a_group}
use Rattle.listing.specs.Characters.{varchar}
use Rattle.listing.proofs.characters.Setting.put_varchar.Goals as goal

pub returns : goal.returns
unfolding varchar
returns c = search a_group
