-- The bytes before this one are written.
use Rattle.std.proofs.Common.{take}
use Rattle.lent.specs.Pens.{Written}
use Rattle.words.specs.Words.{filled}
use Rattle.words.proofs.put_sentence.Given as goal

abbrev pub invariant-loop-b : goal.invariant-loop-b
invariant-loop-b l = Written l.fn.pen (filled l.first l.second (take l.b-index l.sentence)) l.pen
