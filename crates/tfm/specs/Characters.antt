-- The characters of a file: a char_info word, which codes exist, and what stands for a code.
use Rattle.std.specs.Prelude.{ℕ, ◌+◌, ◌-◌, ◌*◌, ◌/◌, ◌%◌, Bool, true, false, ◌&&◌, not, List, leb, eqb, get_or}
use Rattle.tfm.specs.declared.Layout.{Layout}
use Rattle.tfm.specs.declared.CharInfo.{CharInfo}
use Rattle.tfm.specs.declared.Lookup.{Lookup}
use Rattle.tfm.specs.declared.Lookup.TheVariants.{Present, Missing}

-- byte j of word i of a table
unfoldable pub byte_of : List ℕ → ℕ → ℕ → ℕ
byte_of t i j = get_or t (4 * i + j) 0

-- word i of char_info: byte 0 width index; byte 1 height index (high 4 bits) and depth index (low 4); byte 2 italic index (high 6) and tag (low 2); byte 3 remainder
unfoldable pub info_of : List ℕ → ℕ → CharInfo
info_of infos i =
    record {
      width = byte_of infos i 0;
      height = byte_of infos i 1 / 16;
      depth = byte_of infos i 1 % 16;
      italic = byte_of infos i 2 / 4;
      tag = byte_of infos i 2 % 4;
      remainder = byte_of infos i 3;
    }

-- byte 2 with the tag set to 0
abbrev pub untagged : ℕ → ℕ
untagged b = b - b % 4

-- the code lies in bc..ec
unfoldable pub in_range : Layout → ℕ → Bool
in_range l code = leb l.bc code && leb code l.ec

-- a character exists if it lies in bc..ec and its width index is not 0
unfoldable pub exists_in : List ℕ → Layout → ℕ → Bool
exists_in infos l code = in_range l code && not (eqb (byte_of infos (code - l.bc) 0) 0)

abbrev pub present : Bool → CharInfo → Lookup
present true info = Present info
present false info = Missing

unfoldable pub look_up : List ℕ → Layout → ℕ → Lookup
look_up infos l code = present (exists_in infos l code) (info_of infos (code - l.bc))
