-- Under its name, or its number.
use Rattle.header.proofs.Names.{with_name, with_number}
use Rattle.header.proofs.parameters.put_parameter.Goals as goal

pub returns-in-Some : goal.returns-in-Some
returns-in-Some c = with_name _ _ _ _ c.args.kind c.in-Some.ensures c.put_leaf.ensures

pub returns-in-None : goal.returns-in-None
returns-in-None c = with_number _ _ _ _ c.args.kind c.in-None.ensures c.put_leaf-in-None.ensures
