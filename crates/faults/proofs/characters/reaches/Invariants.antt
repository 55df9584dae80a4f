-- The walk that is left from here is the walk from the start.
use Rattle.std.proofs.Common.{◌≡◌, ◌-◌}
use Rattle.faults.specs.Cycle.{reaches}
use Rattle.faults.specs.Characters.{links, larger}
use Rattle.faults.proofs.characters.reaches.Given as goal

abbrev pub invariant-loop : goal.invariant-loop
invariant-loop l =
    let i = l.font.infos.now in
    let y = l.font.layout in
    reaches (links i y) (larger i y) l.top (256 - l.counter) l.r ≡ reaches (links i y) (larger i y) l.top 256 l.from
