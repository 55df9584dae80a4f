-- Where there is nothing to repair, nothing is repaired.
use Prim.Native.Nat.{ℕ, zero, suc, ◌+◌, ◌≤◌, ◌<◌}
use native.Mathlib.Decide.{ℕ_discrete}
use native.Mathlib.Omega.{arith}
use mathlib.Core.Path.{◌≡◌, refl, sym, ap, ◌∙◌}
use mathlib.Core.Bool.{Bool, true, false, cond, ◌&&◌, ◌||◌, true≢false, and-eq-true_iff}
use mathlib.Core.List.{List, [], ◌∷◌, ◌++◌, map}
use lib.Dec.{ltb, eqb}
use lib.ListN.{length, get_or}
use borrow.Author.Tests.{lt-ltb, eq-eqb, ne_eqb, ltb-true, eqb-true}
use Rattle.lent.specs.Fold.{iterate}
use Rattle.font.specs.Font.{Instruction, Font}
use Rattle.font.specs.Told.{legitimate}
use Rattle.font.specs.Checked.{word_byte, no_step, step_at, program_words, word_at, among, first_words, words_for, named_in, piece_named, pieces_of, named_by, legitimates, Checking, check_code, check_if, checked_to, checked_all}
use Rattle.building.specs.Repaired.{every, stays, step_stays, kept_step, recipe_stays, kept_recipe, all_stay, replaced, uncycled, repaired}
use Rattle.building.specs.Sane.{Sane}

every_append : {A : Type 0} (p : A → Bool) (s t : List A) → every p s ≡ true → every p t ≡ true → every p (s ++ t) ≡ true
unfolding every
every_append p [] t e d = d
every_append p (a ∷ s) t e d = let h = (and-eq-true_iff (p a) (every p s)).0 e in rw h.0 (every_append p s t h.1 d)

every_both : {A : Type 0} (p : A → Bool) (s t : List A) → every p (s ++ t) ≡ true → (every p s ≡ true) × (every p t ≡ true)
unfolding every
every_both p [] t e = (refl, e)
every_both p (a ∷ s) t e =
    let h = (and-eq-true_iff (p a) (every p (s ++ t))).0 e in
    let k = every_both p s t h.1 in
    (rw h.0 k.0, k.1)

every_at : {A : Type 0} (p : A → Bool) (none : A) (s : List A) → ((k : ℕ) → k < length s → p (get_or s k none) ≡ true) → every p s ≡ true
unfolding every
every_at p none [] h = refl
every_at p none (a ∷ s) h = rw (h 0 (omega arith)) (every_at p none s (λ k b. h (suc k) (omega arith)))

map_same : {A : Type 0} (p : A → Bool) (g : A → A) → ((a : A) → p a ≡ true → g a ≡ a) → (s : List A) → every p s ≡ true → map g s ≡ s
unfolding every
map_same p g h [] e = refl
map_same p g h (a ∷ s) e = let q = (and-eq-true_iff (p a) (every p s)).0 e in rw (h a q.0) (ap (◌∷◌ a) (map_same p g h s q.1))

-- a loop whose turns change nothing
iterate_same : {A : Type 0} (g : A → ℕ → A) (a : A) (n : ℕ) → ((i : ℕ) → i < n → g a i ≡ a) → iterate g a n ≡ a
unfolding iterate
iterate_same g a zero h = refl
iterate_same g a (suc n) h = rw (iterate_same g a n (λ i b. h i (omega arith))) (h n (omega arith))

module _ (F : Font) (s : Sane F) where
  abbrev present : ℕ → Bool
  present = F.characters.present

  legitimate_none : (cs : List ℕ) → every present cs ≡ true → legitimates F cs ≡ F
  unfolding legitimates legitimate every
  legitimate_none [] e = refl
  legitimate_none (c ∷ cs) e = let h = (and-eq-true_iff (present c) (every present cs)).0 e in rw h.0 (legitimate_none cs h.1)

  -- the codes that steps name
  named_step : (i : Instruction) → step_stays F i ≡ true → (i.op < 128 → present i.value ≡ true)
      → every present (cond (eqb i.right F.program.boundary) [] (i.right ∷ []) ++ cond (ltb i.op 128) (i.value ∷ []) []) ≡ true
  unfolding step_stays stays every
  named_step i e h =
      every_append present (cond (eqb i.right F.program.boundary) [] (i.right ∷ [])) (cond (ltb i.op 128) (i.value ∷ []) [])
      (examined (present i.right) refl (eqb i.right F.program.boundary) ((and-eq-true_iff (present i.right || eqb i.right F.program.boundary) _).0 e).0)
      (inserted (ltb i.op 128) refl)
    where
      examined : (p : Bool) → present i.right ≡ p → (b : Bool) → (p || b) ≡ true → every present (cond b [] (i.right ∷ [])) ≡ true
      examined p q true z = refl
      examined true q false z = rw q
      examined false q false z = absurd (true≢false (sym z))

      inserted : (b : Bool) → ltb i.op 128 ≡ b → every present (cond b (i.value ∷ []) []) ≡ true
      inserted true q = rw (h (ltb-true i.op 128 q))
      inserted false q = refl

  named_append : (v w : List Instruction) → every present (named_in F v) ≡ true → every present (named_in F w) ≡ true → every present (named_in F (v ++ w)) ≡ true
  unfolding named_in
  named_append [] w e d = d
  named_append (i ∷ v) w e d =
      let cs = cond (eqb i.right F.program.boundary) [] (i.right ∷ []) ++ cond (ltb i.op 128) (i.value ∷ []) [] in
      let h = every_both present cs (named_in F v) e in
      every_append present cs (named_in F (v ++ w)) h.0 (named_append v w h.1 d)

  named_words : (n i : ℕ) (seen : List ℕ) → i < length F.program.steps → every present (named_in F (first_words F n i seen)) ≡ true
  unfolding first_words word_at named_in every
  named_words zero i seen h = refl
  named_words (suc n) i seen h =
      rw (lt-ltb i (length F.program.steps) h)
      (named_append (cond (among w.right seen) [] (w ∷ [])) (cond (ltb w.skip 128 && ltb (i + 1 + w.skip) (program_words F)) (first_words F n (i + 1 + w.skip) (w.right ∷ seen)) [])
      (here (among w.right seen))
      (further (ltb w.skip 128) refl (ltb (i + 1 + w.skip) (program_words F)) (λ q. named_words n (i + 1 + w.skip) (w.right ∷ seen) (s.leads i h q))))
    where
      w : Instruction
      w = step_at F i

      here : (b : Bool) → every present (named_in F (cond b [] (w ∷ []))) ≡ true
      here true = refl
      here false = every_append present (cond (eqb w.right F.program.boundary) [] (w.right ∷ []) ++ cond (ltb w.op 128) (w.value ∷ []) []) [] (named_step w (s.steps i h) (s.inserts i h)) refl

      further : (a : Bool) → ltb w.skip 128 ≡ a → (b : Bool) → (w.skip < 128 → every present (named_in F (first_words F n (i + 1 + w.skip) (w.right ∷ seen))) ≡ true)
          → every present (named_in F (cond (a && b) (first_words F n (i + 1 + w.skip) (w.right ∷ seen)) [])) ≡ true
      further true q true more = more (ltb-true w.skip 128 q)
      further true q false more = refl
      further false q b more = refl

  named_label : (c : ℕ) → c ≤ 256 → F.program.tag c ≡ 1 → every present (named_in F (words_for F c)) ≡ true
  unfolding words_for
  named_label c h e = named_words (suc (program_words F)) (F.program.remainder c) [] (s.labels c h e)

  -- those of a recipe
  named_piece : (c : ℕ) → (eqb c 0 || present c) ≡ true → every present (piece_named c) ≡ true
  unfolding piece_named every
  named_piece c e = go (eqb c 0) e
    where
      go : (b : Bool) → (b || present c) ≡ true → every present (cond b [] (c ∷ [])) ≡ true
      go true q = refl
      go false q = rw q

  named_pieces : (w : ℕ) → recipe_stays F w ≡ true → every present (pieces_of w) ≡ true
  unfolding recipe_stays pieces_of every
  named_pieces w e =
      let h = four (eqb (word_byte w 0) 0 || present (word_byte w 0)) (eqb (word_byte w 1) 0 || present (word_byte w 1)) (eqb (word_byte w 2) 0 || present (word_byte w 2)) (present (word_byte w 3)) e in
      every_append present (piece_named (word_byte w 0) ++ piece_named (word_byte w 1) ++ piece_named (word_byte w 2)) (word_byte w 3 ∷ [])
      (every_append present (piece_named (word_byte w 0) ++ piece_named (word_byte w 1)) (piece_named (word_byte w 2))
      (every_append present (piece_named (word_byte w 0)) (piece_named (word_byte w 1)) (named_piece (word_byte w 0) h.0) (named_piece (word_byte w 1) h.1)) (named_piece (word_byte w 2) h.2))
      (rw h.3)
    where
      four : (a b c d : Bool) → (a && b && c && d) ≡ true → (a ≡ true) × (b ≡ true) × (c ≡ true) × (d ≡ true)
      four true true true d q = (refl, refl, refl, q)
      four true true false d q = absurd (true≢false (sym q))
      four true false c d q = absurd (true≢false (sym q))
      four false b c d q = absurd (true≢false (sym q))

  -- so each code leads to codes that exist
  named_all : (c : ℕ) → c < 256 → every present (named_by F c) ≡ true
  unfolding named_by every
  named_all c h = elim (ℕ_discrete (F.program.tag c) 1) [
    | yes e ↦ rw (eq-eqb (F.program.tag c) 1 e) (named_label c (omega arith) e)
    | no d ↦ rw (ne_eqb (F.program.tag c) 1 d) (elim (ℕ_discrete (F.program.tag c) 2) [
      | yes e ↦ rw (eq-eqb (F.program.tag c) 2 e, s.links c h e)
      | no d ↦ rw (ne_eqb (F.program.tag c) 2 d) (elim (ℕ_discrete (F.program.tag c) 3) [
        | yes e ↦ rw (eq-eqb (F.program.tag c) 3 e) (named_pieces _ (s.recipes (F.program.remainder c) (s.numbers c h e)))
        | no d ↦ rw (ne_eqb (F.program.tag c) 3 d)
      ])
    ])
  ]

  look_none : (k : Checking) (b : Bool) (c : ℕ) → (b ≡ true → every present (named_by F c) ≡ true) → k.font ≡ F → (check_if b k c).font ≡ F
  unfolding check_if check_code
  look_none k true c h e = ap (λ G. legitimates G (named_by G c)) e ∙ legitimate_none (named_by F c) (h refl)
  look_none k false c h e = e

  looked_none : (n : ℕ) → n ≤ 256 → (checked_to F n).font ≡ F
  unfolding checked_to iterate
  looked_none zero h = refl
  looked_none (suc n) h = look_none (checked_to F n) _ n (λ q. named_all n h) (looked_none n (omega arith))

  all_looked : (checked_all F).font ≡ F
  unfolding checked_all named_by
  all_looked =
      look_none (checked_to F 256) (eqb (F.program.tag 256) 1) 256
      (λ q. rw q (named_label 256 (omega arith) (eqb-true (F.program.tag 256) 1 q)))
      (looked_none 256 (omega arith))

  -- the codes that stand in steps and recipes stay
  step_same : (i : Instruction) → step_stays F i ≡ true → kept_step F i ≡ i
  unfolding step_stays kept_step
  step_same i e = let h = (and-eq-true_iff (stays F i.right) _).0 e in rw (h.0, h.1)

  recipe_same : (w : ℕ) → recipe_stays F w ≡ true → kept_recipe F w ≡ w
  unfolding kept_recipe
  recipe_same w e = rw e

  all_stay_lem : replaced F ≡ F
  unfolding replaced all_stay step_at
  all_stay_lem =
      let a = every_at (step_stays F) no_step F.program.steps s.steps in
      let b = every_at (recipe_stays F) 0 F.program.recipes s.recipes in
      rw (a, b, map_same (step_stays F) (kept_step F) step_same F.program.steps a, map_same (recipe_stays F) (kept_recipe F) recipe_same F.program.recipes b)

  no_cycle : (c : ℕ) → c < 256 → uncycled F c ≡ F
  unfolding uncycled
  no_cycle c h = rw (s.acyclic c h)

  pub nothing_repaired : repaired F ≡ F
  unfolding repaired
  nothing_repaired = ap (λ G. iterate uncycled G 256) (ap replaced all_looked ∙ all_stay_lem) ∙ iterate_same uncycled F 256 no_cycle
