-- Each arm of the branch prints its arm of `choose`.
use Rattle.items.proofs.Laws.{choices}
use Rattle.header.specs.Header.{flag_item}
use Rattle.header.proofs.put_flag.Goals as goal

pub returns-then-font-byte_of : goal.returns-then-font-byte_of
unfolding flag_item
returns-then-font-byte_of c = rw (← c.byte_of.ensures) (search choices depth 9)

pub returns-else-font-byte_of : goal.returns-else-font-byte_of
unfolding flag_item
returns-else-font-byte_of c = rw (← c.byte_of.ensures) (search choices depth 9)
