-- What the table has and what the program says from step i on are the whole.
use Prim.Native.Nat.{◌-◌}
use Rattle.gather.specs.Pairs.{codes}
use Rattle.gather.proofs.Walks.{On}
use Rattle.gather.proofs.walk.Given as goal

abbrev pub invariant-loop-i : goal.invariant-loop-i
invariant-loop-i l = On l.steps l.nl l.initial.i (codes l.initial.table) (codes l.table) l.i

abbrev pub decreases-loop-i : goal.decreases-loop-i
decreases-loop-i l = l.nl - l.i
