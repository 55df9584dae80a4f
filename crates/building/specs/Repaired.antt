-- PLtoTF's repairs of what was read (§110 to §126). Loops of ligatures (§125) are no part of it: a program is written as it stands.
use Rattle.std.specs.Prelude.{ℕ, ◌+◌, ◌*◌, Bool, true, cond, ◌&&◌, ◌||◌, List, [], ◌∷◌, map, leb, eqb}
use Rattle.lent.specs.Fold.{iterate}
use Rattle.faults.specs.Cycle.{reaches}
use Rattle.font.specs.Font.{Instruction, Font}
use Rattle.font.specs.Told.{with_program, at, tagged, legitimate}
use Rattle.font.specs.Checked.{word_byte, checked_all}

unfoldable pub every : {A : Type 0} → (A → Bool) → List A → Bool
every p [] = true
every p (a ∷ more) = p a && every p more

module _ (F : Font) where
  -- §126: a code that stays in a step: one that exists, or the boundary character
  unfoldable pub stays : ℕ → Bool
  stays c = F.characters.present c || eqb c F.program.boundary

  unfoldable pub step_stays : Instruction → Bool
  step_stays i = stays i.right && (leb 128 i.op || stays i.value)

  unfoldable pub kept_step : Instruction → Instruction
  kept_step i =
      record { skip = i.skip; right = cond (stays i.right) i.right 0; op = i.op; value = cond (leb 128 i.op || stays i.value) i.value 0 }

  -- and one that stays in a recipe, in which top, middle and bottom may be 0
  unfoldable pub recipe_stays : ℕ → Bool
  recipe_stays w =
      (eqb (word_byte w 0) 0 || F.characters.present (word_byte w 0))
      && (eqb (word_byte w 1) 0 || F.characters.present (word_byte w 1))
      && (eqb (word_byte w 2) 0 || F.characters.present (word_byte w 2))
      && F.characters.present (word_byte w 3)

  unfoldable pub kept_piece : ℕ → ℕ
  kept_piece c = cond (F.characters.present c) c 0

  unfoldable pub kept_recipe : ℕ → ℕ
  kept_recipe w =
      cond (recipe_stays w) w
      (kept_piece (word_byte w 0) * 16777216 + kept_piece (word_byte w 1) * 65536 + kept_piece (word_byte w 2) * 256 + kept_piece (word_byte w 3))

  unfoldable pub all_stay : Bool
  all_stay = every step_stays F.program.steps && every recipe_stays F.program.recipes

-- what only unused steps and recipes name becomes 0, and then code 0 is made to exist
unfoldable pub replaced : Font → Font
replaced F =
    with_program (cond (all_stay F) F (legitimate F 0))
    (record {
      boundary = F.program.boundary;
      tag = F.program.tag;
      remainder = F.program.remainder;
      recipes = map (kept_recipe F) F.program.recipes;
      steps = map (kept_step F) F.program.steps;
      least = F.program.least;
    })

-- §113: the largest code of a cycle of NEXTLARGER loses its tag
unfoldable pub closes_cycle : Font → ℕ → Bool
closes_cycle F c =
    eqb (F.program.tag c) 2 && reaches (λ g. eqb (F.program.tag g) 2) F.program.remainder c 256 (F.program.remainder c)

unfoldable pub uncycled : Font → ℕ → Font
uncycled F c = cond (closes_cycle F c) (tagged F (at F.program.tag c 0) F.program.remainder F.program.recipes) F

-- §110: first each code that a used part names is made to exist
unfoldable pub repaired : Font → Font
repaired F = iterate uncycled (replaced (checked_all F).font) 256
