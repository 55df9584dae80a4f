-- The flags of the steps that carry a label: how they are set, and that a step that carries no label has none.
use Rattle.std.proofs.Common.{◌≡◌, refl, sym, ap, ◌∙◌, ℕ, zero, suc, ◌+◌, ◌<◌, Bool, true, false, List, [], ◌∷◌, set, arith}
use native.Mathlib.Decide.{ℕ_discrete}
use lib.ListN.{get_or}
use lib.Seq.{get_or-set_other}
use borrow.Author.Tests.{ne_eqb}
use Rattle.lent.specs.declared.Pen.{Pen}
use Rattle.items.specs.Items.{loop, Printed}
use Rattle.items.proofs.Laws.{after, no_item, item_else, no_round, one_round}
use Rattle.ligatures.specs.Labels.{Carries, label_item, boundary_label, label_items}

set_flag : (flags : List Bool) (i : ℕ) → get_or (set flags i true) i true ≡ true
set_flag [] i = refl
set_flag (b ∷ flags) zero = refl
set_flag (b ∷ flags) (suc i) = set_flag flags i

-- one flag more
pub flag_more : (starts : List ℕ) (flags : List Bool) (n : ℕ) → ((c : ℕ) → c < n → get_or flags (get_or starts c 0) true ≡ true) → (c : ℕ) → c < n + 1
    → get_or (set flags (get_or starts n 0) true) (get_or starts c 0) true ≡ true
flag_more starts flags n h c lt =
    elim (ℕ_discrete (get_or starts n 0) (get_or starts c 0)) [
      | yes e ↦ rw e (set_flag flags (get_or starts c 0))
      | no e ↦ get_or-set_other flags (get_or starts n 0) (get_or starts c 0) true true (λ w. e (sym w)) ∙ h c (below c lt e)
    ]
  where
    below : (c : ℕ) → c < n + 1 → (get_or starts n 0 ≡ get_or starts c 0 → ⊥) → c < n
    below c lt e =
        elim (ℕ_discrete n c) [
          | yes w ↦ absurd (e (ap (λ x. get_or starts x 0) w))
          | no w ↦ omega arith
        ]

module _ (letters : Bool) (starts : List ℕ) (i : ℕ) {p : Pen} where
  no_labels_of : (n : ℕ) → ((c : ℕ) → c < n → get_or starts c 0 ≡ i → ⊥) → Printed p 1 (loop n (label_item letters starts i)) p
  unfolding label_item
  no_labels_of zero none = no_round
  no_labels_of (suc n) none =
      let e : suc n ≡ n + 1 = omega arith in
      rw e (one_round (item_else (ne_eqb _ _ (none n (omega arith))) no_item) (no_labels_of n (λ c lt. none c (omega arith))))

  pub no_labels : (flags : List Bool) → Carries starts flags → get_or flags i true ≡ false → Printed p 1 (label_items letters starts i) p
  unfolding label_items boundary_label
  no_labels flags all e =
      after (no_labels_of 256 (λ c lt. none c (omega arith))) (item_else (ne_eqb _ _ (none 256 (omega arith))) no_item)
    where
      none : (c : ℕ) → c < 257 → get_or starts c 0 ≡ i → ⊥
      none c lt w = let set : get_or flags i true ≡ true = ap (λ x. get_or flags x true) (sym w) ∙ all.each c lt in cc
