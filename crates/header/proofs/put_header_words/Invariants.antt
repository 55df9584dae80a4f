-- The turns of the loop are those of `loop`.
use Rattle.std.proofs.Common.{◌≤◌}
use Rattle.items.specs.Items.{loop, Printed}
use Rattle.header.specs.Header.{header_word}
use Rattle.header.proofs.put_header_words.Given as goal

abbrev pub invariant-loop-i : goal.invariant-loop-i
invariant-loop-i l = Printed l.initial.pen 0 (loop l.i (header_word l.font.header.now)) l.pen × (l.i ≤ l.n)
