-- The letters before this one are written.
use Rattle.lent.specs.Write.{lit}
use Rattle.lent.specs.Pens.{Written}
use Rattle.header.specs.Header.{letters_from}
use Rattle.header.proofs.put_letters.Given as goal

abbrev pub invariant-loop-i : goal.invariant-loop-i
invariant-loop-i l = Written l.initial.pen (lit (letters_from l.font.header.now l.string 0 l.i)) l.pen
