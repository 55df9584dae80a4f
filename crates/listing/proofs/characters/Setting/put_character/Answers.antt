-- By what stands in the font for the code.
use Rattle.std.proofs.Common.{sym, ◌∙◌}
use Rattle.items.proofs.Laws.{no_item, item_then, item_else}
use Rattle.listing.proofs.Found.{there, not_there}
use Rattle.listing.specs.Characters.{character_item}
use Rattle.listing.proofs.characters.Setting.put_character.Goals as goal

pub returns-in-Present : goal.returns-in-Present
unfolding character_item
returns-in-Present c =
    let found = there _ _ _ _ (sym c.look_up.ensures ∙ c.in-Present.is) in
    rw (← found.1) (item_then found.0 c.put_present.ensures)

pub returns-in_default : goal.returns-in_default
unfolding character_item
returns-in_default c = item_else (not_there _ _ _ (sym c.look_up.ensures ∙ c.in_default.is)) no_item
