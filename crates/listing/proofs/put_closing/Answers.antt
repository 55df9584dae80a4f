-- By the verdict.
use Rattle.listing.specs.Settings.{closing_of}
use Rattle.listing.proofs.put_closing.Goals as goal

pub returns-in-Clean : goal.returns-in-Clean
unfolding closing_of
returns-in-Clean c = rw c.in-Clean.is c.put_characters_then.ensures

pub returns-in-Mended : goal.returns-in-Mended
unfolding closing_of
returns-in-Mended c = rw c.in-Mended.is c.put_characters_then-in-Mended.ensures

pub returns-in-Looping : goal.returns-in-Looping
unfolding closing_of
returns-in-Looping c = rw c.in-Looping.is c.put_leaf.ensures
