-- The parts, one after the other.
use Rattle.lent.proofs.Pens.{seq}
use Rattle.judge.proofs.Places.{any_part}
use Rattle.judge.proofs.report.Goals as goal

pub returns : goal.returns
returns c =
    record {
      written = seq c.put_findings-5.ensures (seq c.put_loop.ensures (seq c.put_findings-4.ensures (seq c.put_findings-3.ensures (seq c.put_findings-2.ensures c.put_findings.ensures))));
      known = rw (c.end-junk.ensures, c.end-strings.ensures, c.end-count.ensures, c.end-steps.ensures, c.end-looped.ensures, c.end.ensures)
          (any_part c.put_findings.ensures c.put_findings-2.ensures c.put_findings-3.ensures c.put_findings-4.ensures c.put_loop.ensures c.put_findings-5.ensures);
    }
