-- The turns of the loop are those of `each`.
use Rattle.lent.specs.Write.{each}
use Rattle.gather.specs.Entries.{Entered}
use Rattle.gather.specs.Pairs.{codes, row_in}
use Rattle.gather.proofs.put_row.Given as goal

abbrev pub invariant-loop-right : goal.invariant-loop-right
invariant-loop-right l = Entered l.initial.entries (each l.right (row_in l.left (codes l.table))) l.entries
