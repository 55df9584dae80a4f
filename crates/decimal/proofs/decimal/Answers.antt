-- The text alone, over zeros.
use Rattle.std.proofs.Common.{rules}
use Rattle.decimal.proofs.Filled.{text_alone}
use Rattle.decimal.proofs.decimal.Goals as goal

pub returns : goal.returns
returns c = text_alone _ c.new-pen.ensures.start c.put_decimal.ensures (search rules) c.end-len.ensures
