-- A char_info word that kept its tag keeps it when the copy is mended again: a tag taken elsewhere only removes a link.
use Prim.Native.Nat.{ℕ, zero, suc, ◌+◌, ◌-◌, ◌/◌, ◌%◌, ◌<◌}
use native.Mathlib.Omega.{arith}
use mathlib.Core.Path.{◌≡◌, refl, sym, ◌∙◌}
use mathlib.Core.Bool.{Bool, true, false, ◌&&◌, ◌||◌, true≢false, false≢true}
use mathlib.Core.List.{List}
use lib.Dec.{ltb, eqb}
use lib.ListN.{get_or}
use borrow.Author.Tests.{eqb-true}
use Rattle.lent.specs.Answer.{first}
use Rattle.tfm.specs.Characters.{byte_of, info_of, untagged, exists_in}
use Rattle.tfm.specs.declared.Layout.{Layout}
use Rattle.program.specs.Steps.{redirected}
use Rattle.faults.specs.Cycle.{reaches}
use Rattle.faults.specs.Steps.{bad_label, bad_start}
use Rattle.faults.specs.Characters.{link_missing, links, larger, ends_cycle, bad_recipe}
use Rattle.mend.specs.Copy.{loses_tag, mended_info}
use Rattle.mend.proofs.Twice.{untag_again, place_again}

-- what the mends of char_info did: infos' is of the copy
pub record Retagged (infos s infos' : List ℕ) (l : Layout) : Type 0 where
  pub exists : (code : ℕ) → exists_in infos' l code ≡ exists_in infos l code
  pub remainder : (k : ℕ) → byte_of infos' k 3 ≡ byte_of infos k 3
  pub tags : (k : ℕ) → byte_of infos' k 2 ≡ first (loses_tag infos s l (l.bc + k)) (untagged (byte_of infos k 2)) (byte_of infos k 2)

-- tests of which two hold only if two others do
weaker : (d a b b' c c' : Bool) → (b' ≡ true → b ≡ true) → (c' ≡ true → c ≡ true) → d || a && b' && c' ≡ true → d || a && b && c ≡ true
weaker true a b b' c c' p q e = refl
weaker false true b true c true p q e = rw (p refl, q refl)
weaker false true b true c false p q e = absurd (false≢true e)
weaker false true b false c c' p q e = absurd (false≢true e)
weaker false false b b' c c' p q e = absurd (false≢true e)

-- what an alternative says when it fails
neither : (a b : Bool) → a || b ≡ false → (a ≡ false) × (b ≡ false)
neither true b e = absurd (true≢false e)
neither false b e = (refl, e)

-- a walk over fewer links comes no further
walk_less : (link link' : ℕ → Bool) (next next' : ℕ → ℕ) (top : ℕ) → ((c : ℕ) → link' c ≡ true → link c ≡ true) → ((c : ℕ) → next' c ≡ next c)
    → (n r : ℕ) → reaches link' next' top n r ≡ true → reaches link next top n r ≡ true
unfolding reaches
walk_less link link' next next' top p q zero r e = e
walk_less link link' next next' top p q (suc n) r e =
    weaker (eqb r top) (ltb r top) _ _ _ _ (p r) (λ h. walk_less link link' next next' top p q n (next r) (rw (q r) at h)) e

module _ (infos s infos' : List ℕ) (l : Layout) (c : Retagged infos s infos' l) where
  -- the tag of word k: kept, or 0
  pub same_tag : (k : ℕ) → loses_tag infos s l (l.bc + k) ≡ false → (info_of infos' k).tag ≡ (info_of infos k).tag
  unfolding info_of first
  same_tag k q = rw (c.tags k, q)

  pub lost_tag : (k : ℕ) → loses_tag infos s l (l.bc + k) ≡ true → (info_of infos' k).tag ≡ 0
  unfolding info_of first
  lost_tag k q = rw (c.tags k, q) (omega arith)

  -- so a tag of the copy is one of the file
  older_tag : (k t : ℕ) → 0 < t → eqb (info_of infos' k).tag t ≡ true → eqb (info_of infos k).tag t ≡ true
  unfolding info_of first
  older_tag k t p = rw (c.tags k) (go (loses_tag infos s l (l.bc + k)))
    where
      go : (b : Bool) → eqb (first b (untagged (byte_of infos k 2)) (byte_of infos k 2) % 4) t ≡ true → eqb (byte_of infos k 2 % 4) t ≡ true
      go true e = absurd (omega (arith, eqb-true))
      go false e = e

  -- no mend changes a remainder
  pub same_remainder : (k : ℕ) → (info_of infos' k).remainder ≡ (info_of infos k).remainder
  unfolding info_of
  same_remainder k = c.remainder k

  same_larger : (code : ℕ) → larger infos' l code ≡ larger infos l code
  unfolding larger
  same_larger code = same_remainder (code - l.bc)

  -- a link of the copy is one of the file
  older_link : (code : ℕ) → links infos' l code ≡ true → links infos l code ≡ true
  unfolding links
  older_link code =
      rw (c.exists code, same_remainder (code - l.bc), c.exists (info_of infos (code - l.bc)).remainder)
      (weaker false (exists_in infos l code) _ _ _ _ (older_tag (code - l.bc) 2 (omega arith)) (λ h. h))

  -- and so is a cycle
  older_cycle : (code : ℕ) → ends_cycle infos' l code ≡ true → ends_cycle infos l code ≡ true
  unfolding ends_cycle
  older_cycle code =
      let walk = walk_less (links infos l) _ (larger infos l) _ code older_link same_larger 256 (larger infos l code) in
      rw (same_larger code) (weaker false true _ _ _ _ (older_link code) walk)

  -- word k kept its tag; programs start where they did
  module _ (s' : List ℕ) (starts : (n : ℕ) → redirected s' l n ≡ redirected s l n) (k : ℕ) (q : loses_tag infos s l (l.bc + k) ≡ false) where
    abbrev code : ℕ
    code = l.bc + k

    word : code - l.bc ≡ k
    word = omega arith

    -- 11, 21 and 23 of its code are as they were, and 22 has not come
    same_start : bad_start infos' s' l code ≡ bad_start infos s l code
    unfolding bad_start bad_label
    same_start = rw (word, same_tag k q, same_remainder k, starts (info_of infos k).remainder)

    same_link : link_missing infos' l code ≡ link_missing infos l code
    unfolding link_missing
    same_link = rw (word, c.exists code, same_tag k q, same_remainder k, c.exists (info_of infos k).remainder)

    same_recipe : bad_recipe infos' l code ≡ bad_recipe infos l code
    unfolding bad_recipe
    same_recipe = rw (word, c.exists code, same_tag k q, same_remainder k)

    no_cycle : ends_cycle infos l code ≡ false → ends_cycle infos' l code ≡ false
    no_cycle p = go (ends_cycle infos' l code) refl
      where
        go : (b : Bool) → ends_cycle infos' l code ≡ b → ends_cycle infos' l code ≡ false
        go true x = absurd (true≢false (sym (older_cycle code x) ∙ p))
        go false x = x

    -- so it keeps its tag again
    tag_stays : loses_tag infos' s' l code ≡ false
    unfolding loses_tag
    tag_stays =
        let a = bad_start infos s l code in
        let b = link_missing infos l code in
        let (p, recipe) = neither (a || b || ends_cycle infos l code) (bad_recipe infos l code) q in
        let (o, cycle) = neither (a || b) (ends_cycle infos l code) p in
        rw (same_start, same_link, o, no_cycle cycle, same_recipe, recipe)

  -- what is made of a byte of infos' is it
  pub info_again : (s' : List ℕ) → ((n : ℕ) → redirected s' l n ≡ redirected s l n)
      → (i : ℕ) → get_or infos' i 0 ≡ mended_info infos s l i → mended_info infos' s' l i ≡ mended_info infos s l i
  unfolding mended_info
  info_again s' starts i at = place_again (eqb (i % 4) 2) _ _ _ _ _ at (λ _ e. untag_again _ _ _ _ e (tag_stays s' starts (i / 4))) (λ e. e)
