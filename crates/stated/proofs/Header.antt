-- The header of a listing tells its strings, its face, its words, the design size and the check sum.
use Prim.Native.Nat.{ℕ, zero, suc, ◌+◌, ◌≤◌, ◌<◌}
use native.Mathlib.Decide.{dec_lt}
use native.Mathlib.Omega.{arith}
use mathlib.Core.Path.{◌≡◌, refl, ap, ◌∙◌}
use mathlib.Core.Bool.{Bool, true, false}
use mathlib.Core.List.{List, [], ◌∷◌, ◌++◌, append_assoc, append-nil}
use mathlib.Core.Logic.{inl, inr}
use lib.Dec.{leb, eqb}
use borrow.Author.Tests.{le-leb, ne_eqb, ltb-true}
use Rattle.lent.specs.Write.{codes, flat}
use Rattle.ink.specs.Ink.{digits, number, between, alphanumeric}
use Rattle.faults.specs.Header.{upper}
use Rattle.tfm.specs.Characters.{byte_of}
use Rattle.tfm.specs.Lengths.{word_of}
use Rattle.tfm.specs.declared.Layout.{Layout}
use Rattle.items.specs.Items.{raw, dec, word_text}
use Rattle.header.specs.Header.{spelled, face_text, scheme_item, family_item, face_item, header_word, rest_items, family_items, string_items, design_item, remarks, check_item, flag_item, header_items}
use Rattle.forest.specs.Forest.{past, in_name, name_at, name_of, same, is_comment}
use Rattle.forest.specs.Plain.{word_bytes}
use Rattle.forest.proofs.Quiet.{is_quiet, quiet, quiet_words, calm}
use Rattle.reading.specs.Values.{took, code_in, code_at, code_of, face_in, face_of, place_in, ranged, real_in, real_at, signs_in, point_in, digits_in, digit_of, parts, signed, printable, capitals, bounded}
use Rattle.reading.specs.Heads.{Statement, check_sum, design_size, scheme, family, face, header_word as header_word_said, top, within, enters, any, states, spells, flag_at, numbers_word, at_top, entry_in, has_list}
use Rattle.reading.proofs.Reals.{Bounded}
use Rattle.reading.proofs.Tells.{in_full, is_name, name_calm, known, words_stop, none_left, Tells, tells_as, tells_none, tells_then, tells_choose, tells_either, tells_loop, tells_leaf, tells_remark, tells_real, tells_word, tells_octal, tells_numbered_word}
use Rattle.stated.specs.Stated.{in_turn, further_stated, family_stated, strings_stated, design_stated, header_stated}

-- a string as it is listed: each letter can be printed, is no parenthesis and is no small one
pub data Spelt : List ℕ → Type 0 where
  no_letter : Spelt []
  letter : {b : ℕ} {s : List ℕ} → 32 ≤ b → b ≤ 126 → (b ≡ 40 → ⊥) → (b ≡ 41 → ⊥) → upper b ≡ b → Spelt s → Spelt (b ∷ s)

spelt_past : {s : List ℕ} → Spelt s → Spelt (past s)
unfolding past
spelt_past no_letter = no_letter
spelt_past (letter {b = b} {s = s} x y z w u h) = go (eqb b 32) (spelt_past h)
  where
    go : (t : Bool) → Spelt (past s) → Spelt (elim t [ true ↦ past s | false ↦ b ∷ s ])
    go true k = k
    go false k = letter x y z w u h

spelt_printable : {s : List ℕ} → Spelt s → printable s ≡ true
unfolding printable between
spelt_printable no_letter = refl
spelt_printable (letter {b = b} x y z w u h) = rw (le-leb 32 b x, le-leb b 126 y) (spelt_printable h)

spelt_capitals : {s : List ℕ} → Spelt s → capitals s ≡ s
unfolding capitals
spelt_capitals no_letter = refl
spelt_capitals (letter {b = b} x y z w u h) = rw (u, spelt_capitals h)

spelt_quiet : {s : List ℕ} → Spelt s → quiet s ≡ true
unfolding quiet is_quiet
spelt_quiet no_letter = refl
spelt_quiet (letter {b = b} x y z w u h) = rw (ne_eqb b 40 z, ne_eqb b 41 w, ne_eqb b 10 (omega arith), ne_eqb b 13 (omega arith)) (spelt_quiet h)

-- what is read of it
string_back : (say : List ℕ → Statement) (s : List ℕ) → Spelt s → spells say (word_bytes (raw s ∷ [])) ≡ enters (within top) (say (past s) ∷ []) true
unfolding spells word_bytes word_text flat past
string_back say s h = rw (append-nil s, spelt_printable (spelt_past h), spelt_capitals (spelt_past h))

-- the eighteen faces
face_back : (k : ℕ) → k < 18 → code_in 0 255 (word_bytes (raw (face_text k) ∷ [])) ≡ took k true (word_bytes [])
unfolding code_in code_at code_of face_in face_of place_in ranged word_bytes word_text flat face_text past upper bounded
face_back zero h = refl
face_back (suc zero) h = refl
face_back (suc (suc zero)) h = refl
face_back (suc (suc (suc zero))) h = refl
face_back (suc (suc (suc (suc zero)))) h = refl
face_back (suc (suc (suc (suc (suc zero))))) h = refl
face_back (suc (suc (suc (suc (suc (suc zero)))))) h = refl
face_back (suc (suc (suc (suc (suc (suc (suc zero))))))) h = refl
face_back (suc (suc (suc (suc (suc (suc (suc (suc zero)))))))) h = refl
face_back (suc (suc (suc (suc (suc (suc (suc (suc (suc zero))))))))) h = refl
face_back (suc (suc (suc (suc (suc (suc (suc (suc (suc (suc zero)))))))))) h = refl
face_back (suc (suc (suc (suc (suc (suc (suc (suc (suc (suc (suc zero))))))))))) h = refl
face_back (suc (suc (suc (suc (suc (suc (suc (suc (suc (suc (suc (suc zero)))))))))))) h = refl
face_back (suc (suc (suc (suc (suc (suc (suc (suc (suc (suc (suc (suc (suc zero))))))))))))) h = refl
face_back (suc (suc (suc (suc (suc (suc (suc (suc (suc (suc (suc (suc (suc (suc zero)))))))))))))) h = refl
face_back (suc (suc (suc (suc (suc (suc (suc (suc (suc (suc (suc (suc (suc (suc (suc zero))))))))))))))) h = refl
face_back (suc (suc (suc (suc (suc (suc (suc (suc (suc (suc (suc (suc (suc (suc (suc (suc zero)))))))))))))))) h = refl
face_back (suc (suc (suc (suc (suc (suc (suc (suc (suc (suc (suc (suc (suc (suc (suc (suc (suc zero))))))))))))))))) h = refl
face_back (suc (suc (suc (suc (suc (suc (suc (suc (suc (suc (suc (suc (suc (suc (suc (suc (suc (suc k)))))))))))))))))) h = absurd (omega arith)

face_quiet : (k : ℕ) → k < 18 → quiet_words (raw (face_text k) ∷ []) ≡ true
unfolding quiet_words quiet is_quiet face_text
face_quiet zero h = refl
face_quiet (suc zero) h = refl
face_quiet (suc (suc zero)) h = refl
face_quiet (suc (suc (suc zero))) h = refl
face_quiet (suc (suc (suc (suc zero)))) h = refl
face_quiet (suc (suc (suc (suc (suc zero))))) h = refl
face_quiet (suc (suc (suc (suc (suc (suc zero)))))) h = refl
face_quiet (suc (suc (suc (suc (suc (suc (suc zero))))))) h = refl
face_quiet (suc (suc (suc (suc (suc (suc (suc (suc zero)))))))) h = refl
face_quiet (suc (suc (suc (suc (suc (suc (suc (suc (suc zero))))))))) h = refl
face_quiet (suc (suc (suc (suc (suc (suc (suc (suc (suc (suc zero)))))))))) h = refl
face_quiet (suc (suc (suc (suc (suc (suc (suc (suc (suc (suc (suc zero))))))))))) h = refl
face_quiet (suc (suc (suc (suc (suc (suc (suc (suc (suc (suc (suc (suc zero)))))))))))) h = refl
face_quiet (suc (suc (suc (suc (suc (suc (suc (suc (suc (suc (suc (suc (suc zero))))))))))))) h = refl
face_quiet (suc (suc (suc (suc (suc (suc (suc (suc (suc (suc (suc (suc (suc (suc zero)))))))))))))) h = refl
face_quiet (suc (suc (suc (suc (suc (suc (suc (suc (suc (suc (suc (suc (suc (suc (suc zero))))))))))))))) h = refl
face_quiet (suc (suc (suc (suc (suc (suc (suc (suc (suc (suc (suc (suc (suc (suc (suc (suc zero)))))))))))))))) h = refl
face_quiet (suc (suc (suc (suc (suc (suc (suc (suc (suc (suc (suc (suc (suc (suc (suc (suc (suc zero))))))))))))))))) h = refl
face_quiet (suc (suc (suc (suc (suc (suc (suc (suc (suc (suc (suc (suc (suc (suc (suc (suc (suc (suc k)))))))))))))))))) h = absurd (omega arith)

-- D 10
ten_back : real_in 2147483648 (word_bytes (dec 10 ∷ [])) ≡ took 10485760 true (word_bytes [])
unfolding real_in real_at signs_in point_in digits_in digit_of parts signed past word_bytes word_text flat number digits upper between bounded
ten_back = refl

pub any_word : (w : ℕ) → w < 4294967296 → Bounded 2147483648 w
any_word w h = elim (dec_lt w 2147483648) [ yes l ↦ inl l | no l ↦ inr (omega arith) ]

module _ {A : Type 0} (tell : A → Statement → A) where
  one_scheme : (h : List ℕ) → Spelt (spelled h 0) → Tells tell top (scheme_item h) (scheme (past (spelled h 0)) ∷ []) top
  unfolding scheme_item entry_in at_top same is_name in_full in_name alphanumeric between upper quiet_words
  one_scheme h p =
      tells_leaf tell (name_calm (codes "CODINGSCHEME") (raw (spelled h 0) ∷ []) refl (rw (spelt_quiet p)))
      (known top (codes "CODINGSCHEME") (word_bytes (raw (spelled h 0) ∷ [])) refl (words_stop (raw (spelled h 0) ∷ [])) ∙ string_back scheme (spelled h 0) p)

  one_family : (h : List ℕ) → Spelt (spelled h 1) → Tells tell top (family_item h) (family (past (spelled h 1)) ∷ []) top
  unfolding family_item entry_in at_top same is_name in_full in_name alphanumeric between upper quiet_words
  one_family h p =
      tells_leaf tell (name_calm (codes "FAMILY") (raw (spelled h 1) ∷ []) refl (rw (spelt_quiet p)))
      (known top (codes "FAMILY") (word_bytes (raw (spelled h 1) ∷ [])) refl (words_stop (raw (spelled h 1) ∷ [])) ∙ string_back family (spelled h 1) p)

  one_face : (k : ℕ) → k < 256 → Tells tell top (face_item k) (face k ∷ []) top
  unfolding face_item entry_in at_top same is_name in_full in_name alphanumeric between upper states
  one_face k h =
      tells_either tell
      (λ e.
      let l = ltb-true k 18 e in
      tells_leaf tell (name_calm (codes "FACE") (raw (face_text k) ∷ []) refl (face_quiet k l))
      (known top (codes "FACE") (word_bytes (raw (face_text k) ∷ [])) refl (words_stop (raw (face_text k) ∷ []))
      ∙ rw (face_back k l) (none_left (within top) (face k ∷ []) true)))
      (λ e. tells_octal tell refl face 0 255 k (λ s. refl) (omega arith) (omega arith) (omega arith))

  one_word : (h : List ℕ) (i : ℕ) → i + 18 ≤ 32767 → word_of h (i + 18) < 4294967296 → Tells tell top (header_word h i) (header_word_said (i + 18) (word_of h (i + 18)) ∷ []) top
  unfolding header_word entry_in at_top numbers_word same is_name in_full in_name alphanumeric between upper
  one_word h i b w = tells_numbered_word tell refl header_word_said 18 32767 (i + 18) (word_of h (i + 18)) (λ s. refl) (omega arith) b (omega arith) w

  one_design : (h : List ℕ) → word_of h 1 < 4294967296 → Tells tell top (design_item h) (design_size (design_stated h) ∷ []) top
  unfolding design_item design_stated entry_in at_top same is_name in_full in_name alphanumeric between upper states any quiet_words
  one_design h w =
      tells_either tell
      (λ e. tells_as tell {ss = design_size 10485760 ∷ []} (rw e)
      (tells_leaf tell (name_calm (codes "DESIGNSIZE") (dec 10 ∷ []) refl refl)
      (known top (codes "DESIGNSIZE") (word_bytes (dec 10 ∷ [])) refl (words_stop (dec 10 ∷ [])) ∙ rw ten_back (none_left (within top) (design_size 10485760 ∷ []) true))))
      (λ e. tells_as tell (rw e) (tells_real tell refl design_size any (word_of h 1) (λ s. refl) w (omega arith) (any_word (word_of h 1) w)))

  two_remarks : Tells tell top remarks [] top
  unfolding remarks has_list is_comment name_of name_at past in_name alphanumeric between upper same calm quiet quiet_words is_quiet word_bytes
  two_remarks = tells_then tell (tells_remark tell refl refl refl) (tells_remark tell refl refl refl)

  one_check : (h : List ℕ) → word_of h 0 < 4294967296 → Tells tell top (check_item h) (check_sum (word_of h 0) ∷ []) top
  unfolding check_item entry_in at_top same is_name in_full in_name alphanumeric between upper
  one_check h w = tells_word tell refl check_sum (word_of h 0) (λ s. refl) w

  one_flag : (h : List ℕ) (l : Layout) → Tells tell top (flag_item h l) [] top
  unfolding flag_item entry_in at_top flag_at printable same is_name in_full in_name alphanumeric between upper quiet_words is_quiet quiet past word_bytes word_text flat
  one_flag h l =
      tells_either tell
      (λ e. tells_leaf tell (name_calm (codes "SEVENBITSAFEFLAG") (raw (codes "TRUE") ∷ []) refl refl)
      (known top (codes "SEVENBITSAFEFLAG") (word_bytes (raw (codes "TRUE") ∷ [])) refl (words_stop (raw (codes "TRUE") ∷ []))))
      (λ e. tells_none tell)

  module _ (h : List ℕ) (l : Layout) (long : l.lh ≤ 32767) (bytes : (i j : ℕ) → byte_of h i j < 256) (words : (i : ℕ) → word_of h i < 4294967296)
      (first : leb 12 l.lh ≡ true → Spelt (spelled h 0)) (second : leb 17 l.lh ≡ true → Spelt (spelled h 1)) where
    strings : Tells tell top (string_items h l) (strings_stated h l) top
    unfolding string_items family_items rest_items strings_stated family_stated further_stated in_turn
    strings =
        tells_choose tell
        (λ e. tells_then tell
        (tells_choose tell
        (λ e. tells_then tell (one_family h (second e))
        (tells_choose tell
        (λ e. tells_then tell (one_face (byte_of h 17 3) (bytes 17 3)) (tells_loop tell (λ i b. one_word h i (omega arith) (words (i + 18)))))
        (λ e. tells_none tell)))
        (λ e. tells_none tell))
        (one_scheme h (first e)))
        (λ e. tells_none tell)

    pub whole_header : Tells tell top (header_items h l) (header_stated h l) top
    unfolding header_items header_stated
    whole_header =
        tells_as tell (append-nil _ ∙ ap (λ ss. ss ++ (check_sum (word_of h 0) ∷ [])) (append-nil (strings_stated h l ++ (design_size (design_stated h) ∷ []))) ∙ append_assoc (strings_stated h l) (design_size (design_stated h) ∷ []) (check_sum (word_of h 0) ∷ []))
        (tells_then tell (tells_then tell (tells_then tell (tells_then tell strings (one_design h (words 1))) two_remarks) (one_check h (words 0))) (one_flag h l))
