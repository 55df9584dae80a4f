-- A leaf under the ligature's name.
use Rattle.ligatures.proofs.Names.{a_ligature}
use Rattle.ligatures.proofs.steps.put_ligature.Goals as goal

pub returns : goal.returns
returns c = a_ligature _ _ _ _ (rw c.ligature_name.ensures at c.put_leaf.ensures)
