-- The sum of the counts before the subfile.
use Rattle.std.proofs.Common.{arith, rules}
use Rattle.tfm.proofs.Starts.{begins, bounded}
use Rattle.tfm.proofs.start.Goals as goal

pub overflow_add-result : goal.overflow_add-result
overflow_add-result c = let b = bounded c.args.layout _ c.args.k _ _ (search rules) c.counts-counts.ensures c.min.ensures c.total.ensures in search rules

pub returns : goal.returns
returns c =
    let b = bounded c.args.layout _ c.args.k _ _ (search rules) c.counts-counts.ensures c.min.ensures c.total.ensures in
    record { value = begins _ _ _ _ _ c.counts-counts.ensures c.min.ensures c.total.ensures; bound = omega arith }
