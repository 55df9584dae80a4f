-- The entries are a program, or past the end of the room.
use Rattle.std.proofs.Common.{refl, ◌∙◌, ap, replicate, ℕ}
use Rattle.gather.proofs.Tops.{outcomes, over_few}
use Rattle.gather.proofs.settle_room.Goals as goal

pub returns-then-room-n-clause-few : goal.returns-then-room-n-clause-few
returns-then-room-n-clause-few c =
    (refl, over_few _ _ _ c.holds_bytes.ensures c.put_pairs-n.ensures c.if-room-n.true, c.fill.ensures.after (λ y e. e) ∙ ap (λ (n : ℕ). replicate n 0) c.put_pairs-n.auto.room)

pub returns-clause-settled : goal.returns-clause-settled
returns-clause-settled c =
    outcomes _ _ _ c.holds_bytes.ensures c.put_pairs-n.ensures c.if-room-n.false c.settle_pairs.ensures
