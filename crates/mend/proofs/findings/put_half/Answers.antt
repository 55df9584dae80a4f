-- The two bytes of the number's last sixteen bits are the number's last two.
use Rattle.std.proofs.Common.{arith, ◌≡◌, ◌/◌, ◌%◌}
use Rattle.lent.specs.Write.{run, puts}
use Rattle.mend.specs.Findings.{half}
use Rattle.mend.proofs.findings.put_half.Goals as goal

pub returns : goal.returns
unfolding half run puts
returns c =
    let n = c.args.n in
    let high : n % 65536 / 256 % 256 ≡ n / 256 % 256 = omega arith in
    let low : n % 65536 % 256 ≡ n % 256 = omega arith in
    record { same = c.put_bytes.ensures.same; wrote = record { is = rw (c.to_be_bytes.ensures, high, low) at c.put_bytes.ensures.wrote.is } }
