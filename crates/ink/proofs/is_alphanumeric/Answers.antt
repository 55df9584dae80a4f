-- The library's letters and digits are those between the bounds.
use Rattle.ink.specs.Ink.{alphanumeric, between}
use Rattle.ink.proofs.is_alphanumeric.Goals as goal

pub returns : goal.returns
unfolding alphanumeric between
returns c = cc
