-- The header as items: 003 §48 to §57. h is the table header.
use Rattle.std.specs.Prelude.{ℕ, zero, suc, ◌+◌, ◌-◌, ◌/◌, ◌%◌, Bool, true, false, cond, ◌&&◌, List, [], ◌∷◌, ◌++◌, leb, ltb, get_or}
use Rattle.lent.specs.Write.{codes}
use Rattle.tfm.specs.Characters.{byte_of}
use Rattle.tfm.specs.Lengths.{word_of}
use Rattle.tfm.specs.declared.Layout.{Layout}
use Rattle.faults.specs.Header.{string_byte, bad_design_size, upper, math_symbols, math_extension}
use Rattle.items.specs.Items.{raw, oct, dec, real, Items, empty, leaf, ◌▸◌, choose, loop}
use Rattle.header.specs.declared.Kind.{Kind}
use Rattle.header.specs.declared.Kind.TheVariants.{Vanilla, MathSymbols, MathExtension}

-- §53: the kind of font, by its coding scheme
unfoldable pub kind_of : List ℕ → Layout → Kind
kind_of h l = cond (math_symbols h l) MathSymbols (cond (math_extension h l) MathExtension Vanilla)

-- §38: letters and digits stand for themselves in a vanilla font
unfoldable pub letters_in : Kind → Bool
letters_in Vanilla = true
letters_in MathSymbols = false
letters_in MathExtension = false

-- §35: a string, in upper case; k letters from letter i on
abbrev pub letter_of : List ℕ → ℕ → ℕ → ℕ
letter_of h string i = upper (string_byte h string (i + 1))

unfoldable pub letters_from : List ℕ → ℕ → ℕ → ℕ → List ℕ
letters_from h string i zero = []
letters_from h string i (suc k) = letter_of h string i ∷ letters_from h string (i + 1) k

unfoldable pub spelled : List ℕ → ℕ → List ℕ
spelled h string = letters_from h string 0 (string_byte h string 0)

-- §54, §55
unfoldable pub scheme_item : List ℕ → Items
scheme_item h = leaf (codes "CODINGSCHEME") (raw (spelled h 0) ∷ [])

unfoldable pub family_item : List ℕ → Items
family_item h = leaf (codes "FAMILY") (raw (spelled h 1) ∷ [])

-- §39: weight, slope and expansion of a face
unfoldable pub face_text : ℕ → List ℕ
face_text face =
    codes "F "
    ++ (get_or (codes "MBL") (face / 2 % 3) 0 ∷ get_or (codes "RI") (face % 2) 0 ∷ get_or (codes "RCE") (face / 2 / 3) 0 ∷ [])

unfoldable pub face_item : ℕ → Items
face_item face =
    choose (ltb face 18) (leaf (codes "FACE") (raw (face_text face) ∷ [])) (leaf (codes "FACE") (oct face ∷ []))

-- §56: the face, and the words of the header from 18 on
unfoldable pub header_word : List ℕ → ℕ → Items
header_word h i = leaf (codes "HEADER") (dec (i + 18) ∷ oct (word_of h (i + 18)) ∷ [])

unfoldable pub rest_items : List ℕ → Layout → Items
rest_items h l =
    choose (leb 18 l.lh) (face_item (byte_of h 17 3) ▸ loop (l.lh - 18) (header_word h)) empty

unfoldable pub family_items : List ℕ → Layout → Items
family_items h l = choose (leb 17 l.lh) (family_item h ▸ rest_items h l) empty

unfoldable pub string_items : List ℕ → Layout → Items
string_items h l = choose (leb 12 l.lh) (family_items h l ▸ scheme_item h) empty

-- §51: a design size that finding 5 names is 10 points
unfoldable pub design_item : List ℕ → Items
design_item h =
    choose (bad_design_size h) (leaf (codes "DESIGNSIZE") (dec 10 ∷ [])) (leaf (codes "DESIGNSIZE") (real (word_of h 1) ∷ []))

unfoldable pub remarks : Items
remarks =
    leaf (codes "COMMENT DESIGNSIZE IS IN POINTS") []
    ▸ leaf (codes "COMMENT OTHER SIZES ARE MULTIPLES OF DESIGNSIZE") []

-- §49
unfoldable pub check_item : List ℕ → Items
check_item h = leaf (codes "CHECKSUM") (oct (word_of h 0) ∷ [])

-- §57
unfoldable pub flag_item : List ℕ → Layout → Items
flag_item h l =
    choose (ltb 17 l.lh && ltb 127 (byte_of h 17 0)) (leaf (codes "SEVENBITSAFEFLAG") (raw (codes "TRUE") ∷ [])) empty

-- §48: the header
unfoldable pub header_items : List ℕ → Layout → Items
header_items h l = string_items h l ▸ design_item h ▸ remarks ▸ check_item h ▸ flag_item h l
