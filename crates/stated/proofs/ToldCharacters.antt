-- What the characters of a listing make of a font.
use Prim.Native.Nat.{ℕ, zero, suc, ◌+◌, ◌-◌, ◌*◌, ◌/◌, ◌<◌}
use native.Mathlib.Omega.{arith}
use mathlib.Core.Path.{◌≡◌, refl, ap, ◌∙◌}
use mathlib.Core.Bool.{Bool, true, false, cond, ◌&&◌, not}
use mathlib.Core.List.{List, [], ◌∷◌, ◌++◌}
use lib.Dec.{leb, ltb, eqb}
use lib.ListN.{length}
use borrow.Author.Tests.{eq-eqb}
use Rattle.lent.specs.Fold.{iterate}
use Rattle.tfm.specs.Characters.{byte_of, info_of, exists_in}
use Rattle.tfm.specs.Lengths.{word_of}
use Rattle.tfm.specs.declared.Layout.{Layout}
use Rattle.tfm.specs.declared.CharInfo.{CharInfo}
use Rattle.listing.specs.Characters.{shown}
use Rattle.font.specs.Font.{Font}
use Rattle.reading.specs.Heads.{width, height, depth, italic, larger, described}
use Rattle.reading.specs.Read.{tells}
use Rattle.stated.specs.Stated.{in_turn, width_stated, length_stated, lengths_stated, piece_stated, recipe_stated, tag_stated, character_stated}
use Rattle.font.specs.Told.{widened, heightened, deepened, slanted, tagged, at, length_joined, pieced, legitimate, told}
use Rattle.stated.proofs.ToldLoops.{in_turn_lem, and_then}
use Rattle.stated.proofs.ToldHeader.{draft}

-- a length is listed, and joins its table where it is not 0
abbrev pub is_listed : List ℕ → ℕ → Bool
is_listed t i = not (eqb i 0) && ltb i (length t / 4)

abbrev pub joins : List ℕ → ℕ → Bool
joins t i = is_listed t i && not (eqb (word_of t i) 0)

join_is : (b z : Bool) (ws : List ℕ) (w : ℕ) → cond b (cond z ws (ws ++ (w ∷ []))) ws ≡ cond (b && not z) (ws ++ (w ∷ [])) ws
join_is true true ws w = refl
join_is true false ws w = refl
join_is false z ws w = refl

height_told : (F : Font) (a : Bool) (t : List ℕ) (c i : ℕ) → tells told (draft F a) (length_stated (height c) t i)
    ≡ draft (heightened F (cond (is_listed t i) (at F.characters.height c (word_of t i)) F.characters.height) (cond (joins t i) (F.characters.heights ++ (word_of t i ∷ [])) F.characters.heights)) a
unfolding tells told heightened length_stated length_joined
height_told F a t c i = go (is_listed t i) ∙ ap (λ ws. draft (heightened F (cond (is_listed t i) (at F.characters.height c (word_of t i)) F.characters.height) ws) a) (join_is (is_listed t i) (eqb (word_of t i) 0) F.characters.heights (word_of t i))
  where
    go : (b : Bool) → tells told (draft F a) (cond b (height c (word_of t i) ∷ []) []) ≡ draft (heightened F (cond b (at F.characters.height c (word_of t i)) F.characters.height) (cond b (length_joined F.characters.heights (word_of t i)) F.characters.heights)) a
    go true = refl
    go false = refl

depth_told : (F : Font) (a : Bool) (t : List ℕ) (c i : ℕ) → tells told (draft F a) (length_stated (depth c) t i)
    ≡ draft (deepened F (cond (is_listed t i) (at F.characters.depth c (word_of t i)) F.characters.depth) (cond (joins t i) (F.characters.depths ++ (word_of t i ∷ [])) F.characters.depths)) a
unfolding tells told deepened length_stated length_joined
depth_told F a t c i = go (is_listed t i) ∙ ap (λ ws. draft (deepened F (cond (is_listed t i) (at F.characters.depth c (word_of t i)) F.characters.depth) ws) a) (join_is (is_listed t i) (eqb (word_of t i) 0) F.characters.depths (word_of t i))
  where
    go : (b : Bool) → tells told (draft F a) (cond b (depth c (word_of t i) ∷ []) []) ≡ draft (deepened F (cond b (at F.characters.depth c (word_of t i)) F.characters.depth) (cond b (length_joined F.characters.depths (word_of t i)) F.characters.depths)) a
    go true = refl
    go false = refl

italic_told : (F : Font) (a : Bool) (t : List ℕ) (c i : ℕ) → tells told (draft F a) (length_stated (italic c) t i)
    ≡ draft (slanted F (cond (is_listed t i) (at F.characters.italic c (word_of t i)) F.characters.italic) (cond (joins t i) (F.characters.italics ++ (word_of t i ∷ [])) F.characters.italics)) a
unfolding tells told slanted length_stated length_joined
italic_told F a t c i = go (is_listed t i) ∙ ap (λ ws. draft (slanted F (cond (is_listed t i) (at F.characters.italic c (word_of t i)) F.characters.italic) ws) a) (join_is (is_listed t i) (eqb (word_of t i) 0) F.characters.italics (word_of t i))
  where
    go : (b : Bool) → tells told (draft F a) (cond b (italic c (word_of t i) ∷ []) []) ≡ draft (slanted F (cond b (at F.characters.italic c (word_of t i)) F.characters.italic) (cond b (length_joined F.characters.italics (word_of t i)) F.characters.italics)) a
    go true = refl
    go false = refl

-- a link or a recipe
unfoldable pub word_stated : List ℕ → List ℕ → Layout → ℕ → ℕ → ℕ
word_stated infos recipes l c r =
    piece_stated infos l c (byte_of recipes r 0) * 16777216 + piece_stated infos l c (byte_of recipes r 1) * 65536 + piece_stated infos l c (byte_of recipes r 2) * 256 + shown infos l c (byte_of recipes r 3)

tag_told : (F : Font) (a : Bool) (infos recipes : List ℕ) (l : Layout) (c : ℕ) (info : CharInfo) → info.tag < 4 → tells told (draft F a) (tag_stated infos recipes l c info)
    ≡ draft (tagged F (cond (leb 2 info.tag) (at F.program.tag c info.tag) F.program.tag)
    (cond (leb 2 info.tag) (at F.program.remainder c (cond (eqb info.tag 3) (length F.program.recipes) info.remainder)) F.program.remainder)
    (cond (eqb info.tag 3) (F.program.recipes ++ (word_stated infos recipes l c info.remainder ∷ [])) F.program.recipes)) a
unfolding tells told tagged pieced tag_stated recipe_stated word_stated
tag_told F a infos recipes l c info h = go info.tag h
  where
    d : ℕ
    d = info.remainder

    go : (n : ℕ) → n < 4 → tells told (draft F a) (cond (eqb n 1) [] (cond (eqb n 2) (larger c d ∷ []) (cond (eqb n 3) (recipe_stated infos recipes l c d ∷ []) [])))
        ≡ draft (tagged F (cond (leb 2 n) (at F.program.tag c n) F.program.tag) (cond (leb 2 n) (at F.program.remainder c (cond (eqb n 3) (length F.program.recipes) d)) F.program.remainder) (cond (eqb n 3) (F.program.recipes ++ (word_stated infos recipes l c d ∷ [])) F.program.recipes)) a
    go zero h = refl
    go (suc zero) h = refl
    go (suc (suc zero)) h = refl
    go (suc (suc (suc zero))) h = refl
    go (suc (suc (suc (suc n)))) h = absurd (omega arith)

-- its width was told, so its end adds nothing
described_told : (F : Font) (a : Bool) (c : ℕ) → F.characters.present c ≡ true → tells told (draft F a) (described c ∷ []) ≡ draft F a
unfolding tells told legitimate
described_told F a c e = rw e

width_told : (F : Font) (a : Bool) (c w : ℕ) → tells told (draft F a) (width c w ∷ []) ≡ draft (widened F (at F.characters.present c true) (at F.characters.width c w) (F.characters.widths ++ (w ∷ []))) a
unfolding tells told
width_told F a c w = refl

at_self : (g : ℕ → Bool) (c : ℕ) → at g c true c ≡ true
unfolding at
at_self g c = rw (eq-eqb c c refl)

-- what is made of the characters
abbrev pub pictured : Font → (ℕ → Bool) → (ℕ → ℕ) → List ℕ → (ℕ → ℕ) → List ℕ → (ℕ → ℕ) → List ℕ → (ℕ → ℕ) → List ℕ → (ℕ → ℕ) → (ℕ → ℕ) → List ℕ → Font
pictured F p w ws h hs d ds i is t r rs = tagged (slanted (deepened (heightened (widened F p w ws) h hs) d ds) i is) t r rs

module _ (infos widths heights depths italics recipes : List ℕ) (l : Layout) where
  abbrev info_at : ℕ → CharInfo
  info_at c = info_of infos (c - l.bc)

  abbrev known : ℕ → Bool
  known c = exists_in infos l c

  -- one that exists
  one_told : (F : Font) (a : Bool) (c : ℕ) (info : CharInfo) → info.tag < 4
      → tells told (draft F a) (lengths_stated widths heights depths italics c info ++ tag_stated infos recipes l c info ++ (described c ∷ []))
      ≡ draft (pictured F (at F.characters.present c true) (at F.characters.width c (width_stated widths info.width)) (F.characters.widths ++ (width_stated widths info.width ∷ []))
      (cond (is_listed heights info.height) (at F.characters.height c (word_of heights info.height)) F.characters.height) (cond (joins heights info.height) (F.characters.heights ++ (word_of heights info.height ∷ [])) F.characters.heights)
      (cond (is_listed depths info.depth) (at F.characters.depth c (word_of depths info.depth)) F.characters.depth) (cond (joins depths info.depth) (F.characters.depths ++ (word_of depths info.depth ∷ [])) F.characters.depths)
      (cond (is_listed italics info.italic) (at F.characters.italic c (word_of italics info.italic)) F.characters.italic) (cond (joins italics info.italic) (F.characters.italics ++ (word_of italics info.italic ∷ [])) F.characters.italics)
      (cond (leb 2 info.tag) (at F.program.tag c info.tag) F.program.tag)
      (cond (leb 2 info.tag) (at F.program.remainder c (cond (eqb info.tag 3) (length F.program.recipes) info.remainder)) F.program.remainder)
      (cond (eqb info.tag 3) (F.program.recipes ++ (word_stated infos recipes l c info.remainder ∷ [])) F.program.recipes)) a
  unfolding widened heightened deepened slanted tagged lengths_stated
  one_told F a c info b =
      and_then told (draft F a) _ (described c ∷ [])
      (and_then told (draft F a) _ (tag_stated infos recipes l c info)
      (and_then told (draft F a) _ (length_stated (italic c) italics info.italic)
      (and_then told (draft F a) _ (length_stated (depth c) depths info.depth)
      (and_then told (draft F a) (width c (width_stated widths info.width) ∷ []) (length_stated (height c) heights info.height)
      (width_told F a c (width_stated widths info.width))
      (height_told _ a heights c info.height))
      (depth_told _ a depths c info.depth))
      (italic_told _ a italics c info.italic))
      (tag_told _ a infos recipes l c info b))
      (described_told _ a c (at_self F.characters.present c))

  -- what a loop over the codes makes: of a function, where the test holds; of a list, by one more
  abbrev pub storing : {A : Type 0} → (ℕ → Bool) → (ℕ → A) → (ℕ → A) → ℕ → ℕ → A
  storing p v g n = iterate (λ h c. cond (p c) (at h c (v c)) h) g n

  abbrev pub growing : (ℕ → Bool) → (ℕ → ℕ) → List ℕ → ℕ → List ℕ
  growing p v ws n = iterate (λ ws c. cond (p c) (ws ++ (v c ∷ [])) ws) ws n

  abbrev pub width_at : ℕ → ℕ
  width_at c = width_stated widths (info_at c).width

  abbrev pub height_at : ℕ → ℕ
  height_at c = word_of heights (info_at c).height

  abbrev pub depth_at : ℕ → ℕ
  depth_at c = word_of depths (info_at c).depth

  abbrev pub italic_at : ℕ → ℕ
  italic_at c = word_of italics (info_at c).italic

  abbrev pub recipe_at : ℕ → ℕ
  recipe_at c = word_stated infos recipes l c (info_at c).remainder

  abbrev pub pieces : ℕ → Bool
  pieces c = known c && eqb (info_at c).tag 3

  abbrev pub remainder_at : List ℕ → ℕ → ℕ
  remainder_at rs c = cond (eqb (info_at c).tag 3) (length (growing pieces recipe_at rs c)) (info_at c).remainder

  -- the font after the codes below n
  abbrev pub picture : Font → ℕ → Font
  picture F n =
      pictured F
      (storing known (λ c. true) F.characters.present n) (storing known width_at F.characters.width n) (growing known width_at F.characters.widths n)
      (storing (λ c. known c && is_listed heights (info_at c).height) height_at F.characters.height n) (growing (λ c. known c && joins heights (info_at c).height) height_at F.characters.heights n)
      (storing (λ c. known c && is_listed depths (info_at c).depth) depth_at F.characters.depth n) (growing (λ c. known c && joins depths (info_at c).depth) depth_at F.characters.depths n)
      (storing (λ c. known c && is_listed italics (info_at c).italic) italic_at F.characters.italic n) (growing (λ c. known c && joins italics (info_at c).italic) italic_at F.characters.italics n)
      (storing (λ c. known c && leb 2 (info_at c).tag) (λ c. (info_at c).tag) F.program.tag n)
      (storing (λ c. known c && leb 2 (info_at c).tag) (remainder_at F.program.recipes) F.program.remainder n)
      (growing pieces recipe_at F.program.recipes n)

  pub characters_told : (F : Font) (a : Bool) (n : ℕ) → ((c : ℕ) → (info_at c).tag < 4)
      → tells told (draft F a) (in_turn n (character_stated infos widths heights depths italics recipes l)) ≡ draft (picture F n) a
  unfolding iterate widened heightened deepened slanted tagged character_stated tells
  characters_told F a n b =
      in_turn_lem told (λ i. draft (picture F i) a) (character_stated infos widths heights depths italics recipes l) n (λ c h. go c (known c))
    where
      go : (c : ℕ) (e : Bool) → tells told (draft (picture F c) a) (cond e (lengths_stated widths heights depths italics c (info_at c) ++ tag_stated infos recipes l c (info_at c) ++ (described c ∷ [])) [])
          ≡ draft (pictured F
          (cond e (at (picture F c).characters.present c true) (picture F c).characters.present) (cond e (at (picture F c).characters.width c (width_at c)) (picture F c).characters.width) (cond e ((picture F c).characters.widths ++ (width_at c ∷ [])) (picture F c).characters.widths)
          (cond (e && is_listed heights (info_at c).height) (at (picture F c).characters.height c (height_at c)) (picture F c).characters.height) (cond (e && joins heights (info_at c).height) ((picture F c).characters.heights ++ (height_at c ∷ [])) (picture F c).characters.heights)
          (cond (e && is_listed depths (info_at c).depth) (at (picture F c).characters.depth c (depth_at c)) (picture F c).characters.depth) (cond (e && joins depths (info_at c).depth) ((picture F c).characters.depths ++ (depth_at c ∷ [])) (picture F c).characters.depths)
          (cond (e && is_listed italics (info_at c).italic) (at (picture F c).characters.italic c (italic_at c)) (picture F c).characters.italic) (cond (e && joins italics (info_at c).italic) ((picture F c).characters.italics ++ (italic_at c ∷ [])) (picture F c).characters.italics)
          (cond (e && leb 2 (info_at c).tag) (at (picture F c).program.tag c (info_at c).tag) (picture F c).program.tag)
          (cond (e && leb 2 (info_at c).tag) (at (picture F c).program.remainder c (remainder_at F.program.recipes c)) (picture F c).program.remainder)
          (cond (e && eqb (info_at c).tag 3) ((picture F c).program.recipes ++ (recipe_at c ∷ [])) (picture F c).program.recipes)) a
      go c true = one_told (picture F c) a c (info_at c) (b c)
      go c false = refl
