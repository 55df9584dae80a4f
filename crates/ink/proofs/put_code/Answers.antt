-- Each arm of the branch writes its arm of `when`.
use Rattle.lent.proofs.Pens.{arm_then, arm_else}
use Rattle.ink.specs.Ink.{code}
use Rattle.ink.proofs.put_code.Goals as goal

pub returns-then-letters-is_alphanumeric : goal.returns-then-letters-is_alphanumeric
unfolding code
returns-then-letters-is_alphanumeric c =
    arm_then (rw (← c.is_alphanumeric.ensures) c.if-letters-is_alphanumeric.true) c.put_letter.ensures

pub returns-else-letters-is_alphanumeric : goal.returns-else-letters-is_alphanumeric
unfolding code
returns-else-letters-is_alphanumeric c =
    arm_else (rw (← c.is_alphanumeric.ensures) c.if-letters-is_alphanumeric.false) c.put_octal.ensures
