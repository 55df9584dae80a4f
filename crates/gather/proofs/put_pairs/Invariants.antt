-- The turns of the loop are those of `each`.
use Rattle.lent.specs.Write.{each}
use Rattle.gather.specs.Entries.{Entered}
use Rattle.gather.specs.Fonts.{row_of}
use Rattle.gather.proofs.put_pairs.Given as goal

abbrev pub invariant-loop-left : goal.invariant-loop-left
invariant-loop-left l = Entered l.initial.entries (each l.left (row_of l.font)) l.entries
