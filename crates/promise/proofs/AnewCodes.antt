-- The file read back has none of the findings 19 to 23: its characters and recipes need no mend.
use Prim.Native.Nat.{ℕ, zero, suc, ◌≤◌, ◌<◌}
use native.Mathlib.Decide.{ℕ_discrete}
use native.Mathlib.Omega.{arith}
use mathlib.Core.Path.{◌≡◌, refl, sym, ap, ◌∙◌}
use mathlib.Core.Bool.{Bool, true, false, ◌&&◌, ◌||◌, not, and-eq-true_iff, and-false}
use mathlib.Core.List.{List}
use lib.Dec.{leb, ltb, eqb}
use lib.ListN.{get_or}
use borrow.Author.Tests.{lt-leb, ne_eqb, eqb-true}
use Rattle.tfm.specs.Subfiles.{table_of}
use Rattle.tfm.specs.Characters.{byte_of, exists_in}
use Rattle.tfm.specs.declared.Layout.{Layout}
use Rattle.faults.specs.Cycle.{reaches}
use Rattle.faults.specs.Characters.{piece_missing, index_of, size_of, bad_index, link_missing, links, larger, ends_cycle, bad_recipe}
use Rattle.font.specs.Font.{Font}
use Rattle.building.specs.Pick.{rank}
use Rattle.building.specs.Written.{sizes_for, written}
use Rattle.building.proofs.Picks.{length_picked}
use Rattle.building.proofs.Accepts.{Fits}
use Rattle.font.specs.Read.{flagged}
use Rattle.stated.specs.Listed.{info_for, has_recipe, listed_plain, listed_of}
use Rattle.stated.proofs.Live.{Clear}
use Rattle.promise.proofs.Listing.{At, at, unrank}
use Rattle.promise.proofs.Tags.{in_range_lem, recipe_of}
use Rattle.promise.proofs.Keeps.{same_exists, indices_in, same_tag, same_link, number_is, recipe_in, same_recipe}

-- two ways of linking that agree reach the same
pub reaches_same : (L L' : ℕ → Bool) (g g' : ℕ → ℕ) → ((r : ℕ) → L' r ≡ L r) → ((r : ℕ) → L r ≡ true → g' r ≡ g r) → (top n r : ℕ) → reaches L' g' top n r ≡ reaches L g top n r
unfolding reaches
reaches_same L L' g g' e h top zero r = refl
reaches_same L L' g g' e h top (suc n) r = rw (e r) (go (L r) refl (λ x. reaches_same L L' g g' e h top n x))
  where
    go : (b : Bool) → L r ≡ b → ((x : ℕ) → reaches L' g' top n x ≡ reaches L g top n x)
        → eqb r top || ltb r top && b && reaches L' g' top n (g' r) ≡ eqb r top || ltb r top && b && reaches L g top n (g r)
    go true q ih = rw (h r q, ih (g r))
    go false q ih = rw (and-false (ltb r top))

module _ (f : List ℕ) (l : Layout) (c : Clear f l) (t : Fits (listed_of f l)) where
  abbrev F : Font
  F = listed_of f l

  abbrev g : List ℕ
  g = written (listed_of f l)

  abbrev k : Layout
  k = sizes_for (listed_of f l)

  -- a code that does not exist has none of them
  absent : (x : ℕ) (b : Bool) → exists_in (table_of f l 1) l x ≡ false → exists_in (table_of g k 1) k x && b ≡ false
  absent x b e = rw (same_exists f l c t x, e)

  -- 20: indices are in their tables
  pub anew_20 : (x n : ℕ) → n < 4 → bad_index (table_of g k 1) k x n ≡ false
  unfolding bad_index
  anew_20 x n h = go (exists_in (table_of f l 1) l x) refl
    where
      go : (b : Bool) → exists_in (table_of f l 1) l x ≡ b → exists_in (table_of g k 1) k x && leb (size_of k n) (index_of (info_for (table_of g k) k x) n) ≡ false
      go true e = rw (lt-leb (size_of k n) (index_of (info_for (table_of g k) k x) n) (indices_in f l c t x e n h), and-false)
      go false e = absent x _ e

  -- 23: recipe numbers are below ne
  pub anew_23 : (x : ℕ) → bad_recipe (table_of g k 1) k x ≡ false
  unfolding bad_recipe
  anew_23 x = go (exists_in (table_of f l 1) l x) refl (ℕ_discrete (info_for (table_of f l) l x).tag 3)
    where
      go : (b : Bool) → exists_in (table_of f l 1) l x ≡ b → Dec ((info_for (table_of f l) l x).tag ≡ 3)
          → exists_in (table_of g k 1) k x && eqb (info_for (table_of g k) k x).tag 3 && leb k.ne (info_for (table_of g k) k x).remainder ≡ false
      go true e (yes q) = rw (lt-leb k.ne (info_for (table_of g k) k x).remainder (recipe_in f l c t x e q), and-false)
      go true e (no q) = rw (same_tag f l c t x e, ne_eqb (info_for (table_of f l) l x).tag 3 q, and-false)
      go false e d = rw (same_exists f l c t x, e)

  -- links are the file's
  same_links : (x : ℕ) → links (table_of g k 1) k x ≡ links (table_of f l 1) l x
  unfolding links
  same_links x = go (exists_in (table_of f l 1) l x) refl (ℕ_discrete (info_for (table_of f l) l x).tag 2)
    where
      go : (b : Bool) → exists_in (table_of f l 1) l x ≡ b → Dec ((info_for (table_of f l) l x).tag ≡ 2)
          → exists_in (table_of g k 1) k x && eqb (info_for (table_of g k) k x).tag 2 && exists_in (table_of g k 1) k (info_for (table_of g k) k x).remainder
          ≡ exists_in (table_of f l 1) l x && eqb (info_for (table_of f l) l x).tag 2 && exists_in (table_of f l 1) l (info_for (table_of f l) l x).remainder
      go true e (yes q) = rw (same_exists f l c t x, same_tag f l c t x e, same_link f l c t x e q, same_exists f l c t (info_for (table_of f l) l x).remainder)
      go true e (no q) = rw (same_tag f l c t x e, ne_eqb (info_for (table_of f l) l x).tag 2 q, and-false (exists_in (table_of g k 1) k x), and-false (exists_in (table_of f l 1) l x))
      go false e d = rw (same_exists f l c t x, e)

  linked : (x : ℕ) → links (table_of f l 1) l x ≡ true → (exists_in (table_of f l 1) l x ≡ true) × ((info_for (table_of f l) l x).tag ≡ 2)
  unfolding links
  linked x e =
      let a = ((and-eq-true_iff (exists_in (table_of f l 1) l x && eqb (info_for (table_of f l) l x).tag 2) _).0 e).0 in
      let b = (and-eq-true_iff (exists_in (table_of f l 1) l x) _).0 a in
      (b.0, eqb-true _ 2 b.1)

  same_larger : (x : ℕ) → links (table_of f l 1) l x ≡ true → larger (table_of g k 1) k x ≡ larger (table_of f l 1) l x
  unfolding larger
  same_larger x e = let h = linked x e in same_link f l c t x h.0 h.1

  -- 22: so they have the same cycles
  same_cycle : (x : ℕ) → ends_cycle (table_of g k 1) k x ≡ ends_cycle (table_of f l 1) l x
  unfolding ends_cycle
  same_cycle x = rw (same_links x) (go (links (table_of f l 1) l x) refl)
    where
      go : (b : Bool) → links (table_of f l 1) l x ≡ b
          → b && reaches (links (table_of g k 1) k) (larger (table_of g k 1) k) x 256 (larger (table_of g k 1) k x)
          ≡ b && reaches (links (table_of f l 1) l) (larger (table_of f l 1) l) x 256 (larger (table_of f l 1) l x)
      go true e = rw (same_larger x e) (reaches_same (links (table_of f l 1) l) (links (table_of g k 1) k) (larger (table_of f l 1) l) (larger (table_of g k 1) k) same_links same_larger x 256 (larger (table_of f l 1) l x))
      go false e = refl

  no_cycle : (x : ℕ) → links (table_of f l 1) l x ≡ false → ends_cycle (table_of f l 1) l x ≡ false
  unfolding ends_cycle
  no_cycle x e = rw e

  module _ (old : (x : ℕ) → l.bc ≤ x → x ≤ l.ec → ends_cycle (table_of f l 1) l x ≡ false) where
    pub anew_22 : (x : ℕ) → ends_cycle (table_of g k 1) k x ≡ false
    anew_22 x = same_cycle x ∙ go (links (table_of f l 1) l x) refl
      where
        go : (b : Bool) → links (table_of f l 1) l x ≡ b → ends_cycle (table_of f l 1) l x ≡ false
        go true e = let h = in_range_lem f l c x (linked x e).0 in old x h.0 h.1
        go false e = no_cycle x e

  -- 21: and lead to characters that exist
  module _ (old : (x : ℕ) → l.bc ≤ x → x ≤ l.ec → link_missing (table_of f l 1) l x ≡ false) where
    pub anew_21 : (x : ℕ) → link_missing (table_of g k 1) k x ≡ false
    unfolding link_missing
    anew_21 x = go (exists_in (table_of f l 1) l x) refl (ℕ_discrete (info_for (table_of f l) l x).tag 2)
      where
        go : (b : Bool) → exists_in (table_of f l 1) l x ≡ b → Dec ((info_for (table_of f l) l x).tag ≡ 2)
            → exists_in (table_of g k 1) k x && eqb (info_for (table_of g k) k x).tag 2 && not (exists_in (table_of g k 1) k (info_for (table_of g k) k x).remainder) ≡ false
        go true e (yes q) =
            let h = in_range_lem f l c x e in
            rw (same_exists f l c t x, same_tag f l c t x e, same_link f l c t x e q, same_exists f l c t (info_for (table_of f l) l x).remainder) (old x h.0 h.1)
        go true e (no q) = rw (same_tag f l c t x e, ne_eqb (info_for (table_of f l) l x).tag 2 q, and-false)
        go false e d = rw (same_exists f l c t x, e)

  -- 19: the pieces of a recipe exist
  module _ (bytes : (n : ℕ) → get_or f n 0 < 256) (old : (r n : ℕ) → r < l.ne → n < 4 → piece_missing (table_of f l 1) (table_of f l 8) l r n ≡ false)
      (numbers : (x : ℕ) → has_recipe (table_of f l) l x ≡ true → (info_for (table_of f l) l x).remainder < l.ne) where
    piece_new : (x n : ℕ) → has_recipe (table_of f l) l x ≡ true → n < 4 → piece_missing (table_of g k 1) (table_of g k 8) k (rank (has_recipe (table_of f l) l) x) n ≡ false
    unfolding piece_missing
    piece_new x n e h =
        let q = recipe_of f l c x e in
        let i : (info_for (table_of g k) k x).remainder ≡ rank (has_recipe (table_of f l) l) x = number_is f l c t x q.0 q.1 in
        let b = ap (λ (r : ℕ). byte_of (table_of g k 8) r n) (sym i) ∙ same_recipe f l c t x q.0 q.1 bytes n h in
        rw (b, same_exists f l c t (byte_of (table_of f l 8) (info_for (table_of f l) l x).remainder n)) (old (info_for (table_of f l) l x).remainder n (numbers x e) h)

    count_new : k.ne ≡ rank (has_recipe (table_of f l) l) 256
    unfolding sizes_for listed_of flagged listed_plain
    count_new = length_picked (has_recipe (table_of f l) l) _ 256

    pub anew_19 : (r n : ℕ) → r < k.ne → n < 4 → piece_missing (table_of g k 1) (table_of g k 8) k r n ≡ false
    anew_19 r n h q = go (unrank (has_recipe (table_of f l) l) 256 r (omega (arith, count_new)))
      where
        go : {i : ℕ} → At (has_recipe (table_of f l) l) 256 i → piece_missing (table_of g k 1) (table_of g k 8) k i n ≡ false
        go (at x a e) = piece_new x n e q
