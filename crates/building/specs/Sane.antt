-- A font in which PLtoTF finds nothing to repair.
use Rattle.std.specs.Prelude.{ℕ, ◌+◌, ◌≤◌, ◌<◌, ◌≡◌, true, false, length, get_or}
use Rattle.font.specs.Font.{Font}
use Rattle.font.specs.Checked.{step_at}
use Rattle.building.specs.Repaired.{step_stays, recipe_stays, closes_cycle}

pub record Sane (F : Font) : Type 0 where
  -- each label stands before a step, and a step that does not stop leads on to one
  pub labels : (c : ℕ) → c ≤ 256 → F.program.tag c ≡ 1 → F.program.remainder c < length F.program.steps
  pub leads : (k : ℕ) → k < length F.program.steps → (step_at F k).skip < 128 → k + 1 + (step_at F k).skip < length F.program.steps
  -- the codes that steps, recipes and links name exist; those of steps may be the boundary character's
  pub steps : (k : ℕ) → k < length F.program.steps → step_stays F (step_at F k) ≡ true
  pub inserts : (k : ℕ) → k < length F.program.steps → (step_at F k).op < 128 → F.characters.present (step_at F k).value ≡ true
  pub recipes : (r : ℕ) → r < length F.program.recipes → recipe_stays F (get_or F.program.recipes r 0) ≡ true
  pub numbers : (c : ℕ) → c < 256 → F.program.tag c ≡ 3 → F.program.remainder c < length F.program.recipes
  pub links : (c : ℕ) → c < 256 → F.program.tag c ≡ 2 → F.characters.present (F.program.remainder c) ≡ true
  -- no cycle of links
  pub acyclic : (c : ℕ) → c < 256 → closes_cycle F c ≡ false
