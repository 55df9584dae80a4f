-- `put_sign` goes by the test of its definition.
use Rattle.std.proofs.Common.{sym, ◌∙◌}
use Rattle.lent.proofs.Pens.{no_byte, bytes_after_one}
use Rattle.decimal.proofs.put_sign.Goals as goal

pub returns-then-negative : goal.returns-then-negative
returns-then-negative c = rw (sym c.negative.ensures ∙ c.if-negative.true) (bytes_after_one no_byte c.put.ensures)

pub returns-else-negative : goal.returns-else-negative
returns-else-negative c = rw (sym c.negative.ensures ∙ c.if-negative.false) no_byte
