-- The digits go by their definition.
use Rattle.std.proofs.Common.{rules}
use Rattle.ink.proofs.Digits.{no_digit, only_digit, last_digit}
use Rattle.ink.proofs.+put_digits.Goals as goal
use Rattle.ink.proofs.+put_digits.Goals.{then-n-ne0, else-n-ne0}

pub returns-then-places-eq0 : goal.returns-then-places-eq0
returns-then-places-eq0 g t c = no_digit _ _ _ c.if-places-eq0.true

pub returns : goal.returns
returns g t c =
    elim c.if-n-ne0.branch [
      | then-n-ne0 w ↦ last_digit _ _ _ c.if-places-eq0.false w.if-n-ne0.true (rw w.pen-is at c.put.ensures) w.put_digits.ensures
      | else-n-ne0 w ↦ only_digit _ _ _ c.if-places-eq0.false (search rules) (rw w.pen-is at c.put.ensures)
    ]
