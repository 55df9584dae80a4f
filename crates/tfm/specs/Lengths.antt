-- The eye lengths of a character.
use Rattle.std.specs.Prelude.{ℕ, ◌+◌, ◌*◌, ◌/◌, Bool, false, ◌&&◌, not, cond, List, ltb, eqb, pos, Float, length, Result, Ok, Err}
use Rattle.std.specs.Float.{fin, binary64}
use Rattle.std.specs.Float.Ieee.{div, of_int}
use Rattle.std.proofs.Common.{to_z}
use Rattle.std.specs.Int.{w32}
use Rattle.lent.specs.Answer.{first, on_accept}
use Rattle.tfm.specs.Sizes.{layout_of, number_of}
use Rattle.tfm.specs.Subfiles.{table_of}
use Rattle.tfm.specs.Characters.{byte_of, look_up}
use Rattle.tfm.specs.declared.Layout.{Layout}
use Rattle.tfm.specs.declared.CharInfo.{CharInfo}
use Rattle.tfm.specs.declared.Lookup.{Lookup}
use Rattle.tfm.specs.declared.Lookup.TheVariants.{Present, Missing}
use Rattle.tfm.specs.declared.EyeLengths.{EyeLengths}
use Rattle.tfm.specs.declared.Font.{Font}
use Rattle.tfm.specs.declared.refusal.Refusal.{Refusal}
use Rattle.tfm.specs.Refusal.{number}

-- word i of a table, high byte first
unfoldable pub word_of : List ℕ → ℕ → ℕ
word_of t i = byte_of t i 0 * 16777216 + byte_of t i 1 * 65536 + byte_of t i 2 * 256 + byte_of t i 3

-- finding 9: its first byte is other than 0 or 255
unfoldable pub too_big : List ℕ → ℕ → Bool
too_big t i = not (eqb (byte_of t i 0) 0) && not (eqb (byte_of t i 0) 255)

-- an index beyond its table is read as entry 0
unfoldable pub index_in : List ℕ → ℕ → ℕ
index_in t i = cond (ltb i (length t / 4)) i 0

-- a word that finding 9 would clear counts as 0
unfoldable pub entry_of : List ℕ → ℕ → ℕ
entry_of t i = cond (too_big t (index_in t i)) 0 (word_of t (index_in t i))

-- the signed word over 1,048,576, which is 2 ^ 20
unfoldable pub eye_of : ℕ → Float
eye_of w = div binary64 (of_int binary64 (to_z w32 w)) (fin false 1 (pos 20))

unfoldable pub lengths_of : List ℕ → Layout → CharInfo → EyeLengths
lengths_of f l info =
    record {
      width = eye_of (entry_of (table_of f l 2) info.width);
      height = eye_of (entry_of (table_of f l 3) info.height);
      depth = eye_of (entry_of (table_of f l 4) info.depth);
      italic = eye_of (entry_of (table_of f l 5) info.italic);
    }

-- those of a font that is cut already
unfoldable pub lengths_in : Font → CharInfo → EyeLengths
lengths_in font info =
    record {
      width = eye_of (entry_of font.widths.now info.width);
      height = eye_of (entry_of font.heights.now info.height);
      depth = eye_of (entry_of font.depths.now info.depth);
      italic = eye_of (entry_of font.italics.now info.italic);
    }

-- an answer: its number, and the four lengths
pub record EyeAnswer : Type 0 where
  pub number : ℕ
  pub lengths : EyeLengths

-- a refusal brings its number, with every float 0
abbrev pub no_lengths : ℕ → EyeAnswer
no_lengths n =
    record {
      number = n;
      lengths = record { width = fin false 0 (pos 0); height = fin false 0 (pos 0); depth = fin false 0 (pos 0); italic = fin false 0 (pos 0) };
    }

unfoldable pub lengths_for : List ℕ → Layout → Lookup → EyeAnswer
lengths_for f l (Present info) = record { number = 0; lengths = lengths_of f l info }
lengths_for f l Missing = no_lengths 18

-- what `eye_lengths` answers, as a number and lengths
abbrev pub answered : Result EyeLengths Refusal → EyeAnswer
answered (Ok lengths) = record { number = 0; lengths = lengths }
answered (Err refusal) = no_lengths (number refusal)

abbrev pub eye_number : List ℕ → ℕ → ℕ
eye_number f code = number_of f (layout_of f) (first (ltb 255 code) 17 0)

unfoldable pub eye_answer : List ℕ → ℕ → EyeAnswer
eye_answer f code =
    on_accept (eye_number f code)
    (lengths_for f (layout_of f) (look_up (table_of f (layout_of f) 1) (layout_of f) code))
    (no_lengths (eye_number f code))
