-- The characters of the codes before this one are printed.
use Rattle.items.specs.Items.{loop, Printed}
use Rattle.listing.specs.Settings.{character_of}
use Rattle.listing.proofs.characters.Setting.put_characters.Given as goal

abbrev pub invariant-loop-char : goal.invariant-loop-char
invariant-loop-char l = Printed l.initial.pen 0 (loop l.char (character_of l.self)) l.pen
