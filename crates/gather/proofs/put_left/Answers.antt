-- The table has the codes of the row, if there are any.
use Rattle.std.proofs.Common.{arith}
use Rattle.gather.proofs.Tops.{row_cells, row_none}
use Rattle.gather.proofs.put_left.Goals as goal

pub returns-then-nl-start : goal.returns-then-nl-start
returns-then-nl-start c = row_none _ _ _ _ (omega (arith, c.program_start-start.ensures, c.from-nl.ensures))

pub returns : goal.returns
returns c = row_cells _ _ _ _ _ c.program_start-start.ensures (rw c.from-nl.ensures at c.walk.ensures) c.put_row.ensures
