-- `lookup` and `settle` call each other: the count of pairs not yet being settled falls. Each return is a lemma of Moves.
use Rattle.std.proofs.Common.{arith}
use Rattle.settle.proofs.States.{is_both}
use Rattle.settle.proofs.Moves.{looked_few, looked_none, looked_held, begun_few, begun_sorted, settle_left, settle_right, settle_first, settle_second}
use Rattle.settle.proofs.+lookup_settle.Goals as goal

pub lookup-returns-in_default : goal.lookup-returns-in_default
lookup-returns-in_default t c =
    looked_none c.args.room.now c.args.x c.args.y c.requires (omega arith) (omega arith) (c.in_default.ensures.found c.requires)

pub lookup-returns-in-Held : goal.lookup-returns-in-Held
lookup-returns-in-Held t c =
    let i = c.in-Some.ensures in
    looked_held c.args.room.now c.args.x c.args.y c.requires (omega arith) (omega arith) i.within (i.found c.requires) c.in-Held.ensures

-- the first pair that the entry k's pair asks for is asked for in the room in which k is marked as being settled
pub settle-lookup-w-requires : goal.settle-lookup-w-requires
settle-lookup-w-requires t c =
    rw c.key_of-3.ensures (omega (arith, begun_few c.args.room.now c.args.k c.requires), begun_sorted c.args.room.now c.args.k c.requires)

pub settle-returns-in-Left : goal.settle-returns-in-Left
settle-returns-in-Left t c =
    settle_left c.args.room.now c.args.k c.requires (cc) (cc) (cc) c.in-Left.ensures c.lookup-w.ensures c.store.ensures

pub settle-lookup-w-requires-in-Right : goal.settle-lookup-w-requires-in-Right
settle-lookup-w-requires-in-Right t c =
    rw c.key_of-3.ensures (omega (arith, begun_few c.args.room.now c.args.k c.requires), begun_sorted c.args.room.now c.args.k c.requires)

pub settle-returns-in-Right : goal.settle-returns-in-Right
settle-returns-in-Right t c =
    settle_right c.args.room.now c.args.k c.requires (cc) (cc) (cc) c.in-Right.ensures c.lookup-w-in-Right.ensures c.store-in-Right.ensures

pub settle-lookup-requires : goal.settle-lookup-requires
settle-lookup-requires t c =
    rw c.key_of-3.ensures (omega (arith, begun_few c.args.room.now c.args.k c.requires), begun_sorted c.args.room.now c.args.k c.requires)

pub settle-returns-in_default-lookup : goal.settle-returns-in_default-lookup
settle-returns-in_default-lookup t c =
    let r = c.requires in
    settle_first c.args.room.now c.args.k r (cc) (cc) (cc) (is_both c.state_of.result c.state_of.ensures r.low r.high c.in_default.not-Left c.in_default.not-Right) c.in_default-lookup.ensures c.store-in_default-lookup.ensures

pub settle-lookup-w-requires-in_default : goal.settle-lookup-w-requires-in_default
settle-lookup-w-requires-in_default t c =
    let l = rw c.key_of-3.ensures at c.lookup.ensures in
    (omega (arith, begun_few c.args.room.now c.args.k c.requires, looked_few l), l.sorted)

pub settle-returns-in-Some : goal.settle-returns-in-Some
settle-returns-in-Some t c =
    let r = c.requires in
    settle_second c.args.room.now c.args.k r (cc) (cc) (cc) (cc) (is_both c.state_of.result c.state_of.ensures r.low r.high c.in_default.not-Left c.in_default.not-Right) (omega arith) c.in-Some.ensures (rw c.from-in_default.ensures at c.lookup-w-in_default.ensures)
    c.store-in_default.ensures
