-- One letter more.
use Rattle.std.proofs.Common.{◌≡◌, ◌∙◌, arith}
use Rattle.header.specs.Header.{spelled}
use Rattle.header.proofs.Letters.{no_letter, one_letter}
use Rattle.header.proofs.put_letters.Goals as goal

pub loop-i-init : goal.loop-i-init
loop-i-init c = no_letter _ _

pub loop-i-preserved : goal.loop-i-preserved
loop-i-preserved c = one_letter _ _ _ c.put_letter.ensures c.loop-i.invariant

pub returns : goal.returns
unfolding spelled
returns c =
    let e : c.loop-i.i ≡ c.string_byte-i-end.result = omega arith in
    rw (e ∙ c.string_byte-i-end.ensures) at c.loop-i.invariant
