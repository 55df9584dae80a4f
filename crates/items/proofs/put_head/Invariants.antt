-- The words before this one are written.
use Rattle.std.proofs.Common.{take}
use Rattle.lent.specs.Pens.{Written}
use Rattle.items.specs.Items.{head}
use Rattle.items.specs.Words.{said}
use Rattle.items.proofs.put_head.Given as goal

abbrev pub invariant-loop-word : goal.invariant-loop-word
invariant-loop-word l = Written l.fn.pen (head l.name (said (take l.word-index l.words))) l.pen
