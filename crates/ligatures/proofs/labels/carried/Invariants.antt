-- The flags at the starts of the codes before this one are set, and no others.
use Rattle.std.proofs.Common.{◌≡◌, ℕ, ◌<◌, true, false, get_or, replicate}
use Rattle.lent.specs.Fold.{iterate}
use Rattle.ligatures.specs.Labels.{carry}
use Rattle.ligatures.proofs.labels.carried.Given as goal

abbrev pub invariant-loop-c : goal.invariant-loop-c
invariant-loop-c l =
    ((c : ℕ) → c < l.c → get_or l.carries (get_or l.starts c 0) true ≡ true) × (l.carries ≡ iterate (carry l.starts) (replicate 32768 false) l.c)
