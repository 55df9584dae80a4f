-- The loop of 003 §42: what is still to be written, after what has been, is what was to be written at first.
use Rattle.std.proofs.Common.{◌≡◌, ◌+◌, ◌-◌, ◌*◌, ◌≤◌, ◌<◌}
use Rattle.lent.specs.Write.{puts}
use Rattle.lent.specs.Pens.{place_of}
use Rattle.decimal.specs.Text.{places}
use Rattle.decimal.proofs.put_places.Given as goal

-- `delta ≤ f + 10` holds at first and after each test that fails: so `delta` stays small, with no power of ten in sight
abbrev pub invariant-loop-turn : goal.invariant-loop-turn
invariant-loop-turn l =
    (l.f < 10485760) × (l.delta ≤ l.f + 10)
    × (puts (place_of l.pen) (places (7 - l.turn) l.f l.delta) ≡ puts (place_of l.initial.pen) (places 7 (10 * l.rest + 5) 10))
    × (l.pen.out.ghost_name ≡ l.initial.pen.out.ghost_name)
