-- What the header, the parameters and the boundary character of a listing make of a font.
use Prim.Native.Nat.{ℕ, ◌+◌, ◌-◌, ◌≤◌}
use native.Mathlib.Omega.{arith}
use mathlib.Core.Path.{◌≡◌, refl, ap, ◌∙◌}
use mathlib.Core.Bool.{Bool, true, false, cond}
use mathlib.Core.List.{List, [], ◌∷◌, ◌++◌}
use lib.Dec.{leb, eqb}
use lib.ListN.{length, take}
use lib.Seq.{take_all}
use borrow.Author.Tests.{lt-leb, leb-false}
use Rattle.lent.specs.Fold.{tabulate}
use Rattle.tfm.specs.Characters.{byte_of}
use Rattle.tfm.specs.Lengths.{word_of}
use Rattle.tfm.specs.declared.Layout.{Layout}
use Rattle.header.specs.Header.{spelled}
use Rattle.font.specs.Font.{Font}
use Rattle.forest.specs.Forest.{past}
use Rattle.reading.specs.Heads.{check_sum, design_size, scheme, family, face, header_word, parameter, boundary}
use Rattle.reading.specs.Read.{tells}
use Rattle.reading.proofs.Tells.{tells_append}
use Rattle.stated.specs.Stated.{in_turn, further_stated, family_stated, strings_stated, design_stated, header_stated, parameters_stated, boundary_stated}
use Rattle.font.specs.Told.{Draft, blank, headed, measured, edged, placed, told, unspecified}
use Rattle.stated.proofs.ToldLoops.{in_turn_lem, placed_table}

-- a draft of a font
abbrev pub draft : Font → Bool → Draft
draft F a = record { font = F; armed = a }

abbrev with_further : Font → List ℕ → Font
with_further F ws = headed F F.header.check_sum F.header.checked F.header.design_size F.header.scheme F.header.family F.header.face ws

further_told : (F : Font) (a : Bool) (g : ℕ → ℕ) (n : ℕ) → F.header.further ≡ [] → tells told (draft F a) (in_turn n (λ i. header_word (i + 18) (g i) ∷ [])) ≡ draft (with_further F (tabulate g n)) a
unfolding tells told headed tabulate
further_told F a g n e =
    ap (λ ws. tells told (draft (with_further F ws) a) (in_turn n (λ i. header_word (i + 18) (g i) ∷ []))) e
    ∙ in_turn_lem told (λ i. draft (with_further F (tabulate g i)) a) (λ i. header_word (i + 18) (g i) ∷ []) n
    (λ i h. let z : i + 18 - 18 ≡ i = omega arith in ap (λ ws. draft (with_further F ws) a) (ap (λ j. placed (tabulate g i) j (g i)) z ∙ placed_table g i))

pub parameters_told : (F : Font) (a : Bool) (params : List ℕ) (n : ℕ) → F.parameters ≡ [] → tells told (draft F a) (parameters_stated params n) ≡ draft (measured F (tabulate (word_of params) n)) a
unfolding tells told measured parameters_stated tabulate
parameters_told F a params n e =
    ap (λ ws. tells told (draft (measured F ws) a) (in_turn n (λ i. parameter (i + 1) (word_of params i) ∷ []))) e
    ∙ in_turn_lem told (λ i. draft (measured F (tabulate (word_of params) i)) a) (λ i. parameter (i + 1) (word_of params i) ∷ []) n
    (λ i h. let z : i + 1 - 1 ≡ i = omega arith in ap (λ ws. draft (measured F ws) a) (ap (λ j. placed (tabulate (word_of params) i) j (word_of params i)) z ∙ placed_table (word_of params) i))

pub boundary_told : (F : Font) (a : Bool) (s : List ℕ) → tells told (draft F a) (boundary_stated s) ≡ draft (edged F (cond (eqb (byte_of s 0 0) 255) (byte_of s 0 1) F.program.boundary)) a
unfolding tells told edged boundary_stated
boundary_told F a s = go (eqb (byte_of s 0 0) 255)
  where
    go : (b : Bool) → tells told (draft F a) (cond b (boundary (byte_of s 0 1) ∷ []) []) ≡ draft (edged F (cond b (byte_of s 0 1) F.program.boundary)) a
    go true = refl
    go false = refl

-- a string that its room holds
past_short : (s : List ℕ) (n : ℕ) → length s ≤ n → length (past s) ≤ n
unfolding past
past_short [] n h = h
past_short (b ∷ s) n h = go (eqb b 32) (past_short s n (omega arith))
  where
    go : (t : Bool) → length (past s) ≤ n → length {A = ℕ} (elim t [ true ↦ past s | false ↦ b ∷ s ]) ≤ n
    go true k = k
    go false k = h

kept : (s : List ℕ) (n : ℕ) → length s ≤ n → take n (past s) ≡ past s
kept s n h = take_all n (past s) (past_short s n h)

module _ (h : List ℕ) (l : Layout) (short₀ : leb 12 l.lh ≡ true → length (spelled h 0) ≤ 39) (short₁ : leb 17 l.lh ≡ true → length (spelled h 1) ≤ 19) where
  words : ℕ → ℕ
  words i = word_of h (i + 18)

  -- the strings, the face and the words from 18 on, as the listing has them
  abbrev lettered : List ℕ → List ℕ → Font
  lettered first second = headed blank 0 false 10485760 first second (cond (leb 18 l.lh) (byte_of h 17 3) 0) (tabulate words (l.lh - 18))

  further_all : (second : List ℕ) → tells told (draft (headed blank 0 false 10485760 unspecified second 0 []) false) (further_stated h l) ≡ draft (lettered unspecified second) false
  unfolding tells told headed blank further_stated tabulate words
  further_all second = go (leb 18 l.lh) refl
    where
      go : (b : Bool) → leb 18 l.lh ≡ b
          → tells told (draft (headed blank 0 false 10485760 unspecified second 0 []) false) (cond b (face (byte_of h 17 3) ∷ in_turn (l.lh - 18) (λ i. header_word (i + 18) (word_of h (i + 18)) ∷ [])) [])
          ≡ draft (headed blank 0 false 10485760 unspecified second (cond b (byte_of h 17 3) 0) (tabulate words (l.lh - 18))) false
      go true e = further_told (headed blank 0 false 10485760 unspecified second (byte_of h 17 3) []) false words (l.lh - 18) refl
      go false e = let z : l.lh - 18 ≡ 0 = omega (arith, leb-false 18 l.lh e) in rw z

  family_all : tells told (draft blank false) (family_stated h l) ≡ draft (lettered unspecified (cond (leb 17 l.lh) (past (spelled h 1)) unspecified)) false
  unfolding tells told headed blank family_stated tabulate
  family_all = go (leb 17 l.lh) refl
    where
      go : (b : Bool) → leb 17 l.lh ≡ b → tells told (draft blank false) (cond b (family (past (spelled h 1)) ∷ further_stated h l) []) ≡ draft (lettered unspecified (cond b (past (spelled h 1)) unspecified)) false
      go true e =
          ap (λ s. tells told (draft (headed blank 0 false 10485760 unspecified s 0 []) false) (further_stated h l)) (kept (spelled h 1) 19 (short₁ e))
          ∙ further_all (past (spelled h 1))
      go false e =
          let k = leb-false 17 l.lh e in
          let z : l.lh - 18 ≡ 0 = omega arith in
          rw (lt-leb 18 l.lh (omega arith), z)

  strings_all : tells told (draft blank false) (strings_stated h l)
      ≡ draft (lettered (cond (leb 12 l.lh) (past (spelled h 0)) unspecified) (cond (leb 17 l.lh) (past (spelled h 1)) unspecified)) false
  unfolding tells told headed blank strings_stated tabulate
  strings_all = go (leb 12 l.lh) refl
    where
      go : (b : Bool) → leb 12 l.lh ≡ b → tells told (draft blank false) (cond b (family_stated h l ++ (scheme (past (spelled h 0)) ∷ [])) [])
          ≡ draft (lettered (cond b (past (spelled h 0)) unspecified) (cond (leb 17 l.lh) (past (spelled h 1)) unspecified)) false
      go true e = tells_append told (draft blank false) (family_stated h l) (scheme (past (spelled h 0)) ∷ []) ∙ rw (family_all, kept (spelled h 0) 39 (short₀ e))
      go false e =
          let k = leb-false 12 l.lh e in
          let z : l.lh - 18 ≡ 0 = omega arith in
          rw (lt-leb 17 l.lh (omega arith), lt-leb 18 l.lh (omega arith), z)

  pub header_told : tells told (draft blank false) (header_stated h l)
      ≡ draft (headed blank (word_of h 0) true (design_stated h) (cond (leb 12 l.lh) (past (spelled h 0)) unspecified) (cond (leb 17 l.lh) (past (spelled h 1)) unspecified)
      (cond (leb 18 l.lh) (byte_of h 17 3) 0) (tabulate (λ i. word_of h (i + 18)) (l.lh - 18))) false
  unfolding tells told headed header_stated words
  header_told = tells_append told (draft blank false) (strings_stated h l) (design_size (design_stated h) ∷ check_sum (word_of h 0) ∷ []) ∙ rw strings_all
