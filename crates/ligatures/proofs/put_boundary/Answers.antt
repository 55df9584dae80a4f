-- A leaf where the character is there, and nothing where it is not.
use Rattle.std.proofs.Common.{rules}
use Rattle.ligatures.proofs.Boundary.{one_boundary, no_boundary}
use Rattle.ligatures.proofs.put_boundary.Goals as goal

pub returns-in-Some : goal.returns-in-Some
returns-in-Some c = one_boundary _ _ (search rules) c.in-Some.ensures c.put_leaf.ensures

pub returns-in_default : goal.returns-in_default
returns-in_default c = no_boundary _ _ c.holds_bytes.ensures c.in_default.ensures
