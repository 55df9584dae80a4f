-- Finding 22 is what 01 says: the largest code of a cycle of links among existing characters.
use Prim.Native.Nat.{ℕ, ◌≤◌}
use mathlib.Core.Path.{◌≡◌}
use mathlib.Core.Bool.{true}
use mathlib.Core.List.{List}
use Rattle.tfm.specs.declared.Layout.{Layout}
use Rattle.faults.specs.Cycle.{LargestOfCycle}
use Rattle.faults.specs.Characters.{links, larger, ends_cycle}
use Rattle.faults.proofs.Cycles.{cycle_found, cycle_finds}

pub largest : (infos : List ℕ) (l : Layout) (code : ℕ) → ends_cycle infos l code ≡ true → LargestOfCycle (links infos l) (larger infos l) code
unfolding ends_cycle
largest infos l code e = cycle_found (links infos l) (larger infos l) code 256 e

pub found : (infos : List ℕ) (l : Layout) (code : ℕ) → code ≤ 256 → LargestOfCycle (links infos l) (larger infos l) code → ends_cycle infos l code ≡ true
unfolding ends_cycle
found infos l code h c = cycle_finds (links infos l) (larger infos l) code 256 h c
