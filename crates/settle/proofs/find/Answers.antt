-- The closure gives an entry's key.
use Rattle.std.proofs.Common.{rules}
use Rattle.std.proofs.lemmas.List.Sorted.{answers_always}
use Rattle.settle.specs.Settle.{key_of}
use Rattle.settle.proofs.Found.{found}
use Rattle.settle.proofs.find.Goals as goal

pub returns-clause-found : goal.returns-clause-found
returns-clause-found c =
    let facts = c.binary_search_by_key.ensures in
    rw c.ok.ensures.value (found c.args.room.now c.args.key _ facts.bound (facts.position (λ e. key_of e) (answers_always _ _ _ (λ f a r g called. search rules))))
