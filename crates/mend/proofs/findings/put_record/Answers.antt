-- The calls, one after the other.
use Rattle.lent.proofs.Pens.{seq}
use Rattle.mend.specs.Findings.{record_of}
use Rattle.mend.proofs.findings.put_record.Goals as goal

pub returns : goal.returns
unfolding record_of
returns c = search seq
