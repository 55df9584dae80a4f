-- Findings 19 to 23: recipes and characters. infos is the table char_info.
use Rattle.std.specs.Prelude.{ℕ, ◌-◌, Bool, ◌&&◌, ◌||◌, not, List, [], ◌∷◌, leb, eqb, get_or}
use Rattle.tfm.specs.Characters.{byte_of, info_of, exists_in}
use Rattle.tfm.specs.declared.Layout.{Layout}
use Rattle.tfm.specs.declared.CharInfo.{CharInfo}
use Rattle.faults.specs.Cycle.{reaches}

-- 19: piece n of recipe r is missing: top, middle and bottom unless 0, the repeater always
unfoldable pub piece_missing : List ℕ → List ℕ → Layout → ℕ → ℕ → Bool
piece_missing infos recipes l r n =
    (not (eqb (byte_of recipes r n) 0) || eqb n 3) && not (exists_in infos l (byte_of recipes r n))

-- the info of a code
abbrev pub info_for : List ℕ → Layout → ℕ → CharInfo
info_for infos l code = info_of infos (code - l.bc)

-- a character's index in table t, 0 to 3, and the table's size
unfoldable pub index_of : CharInfo → ℕ → ℕ
index_of info t = get_or (info.width ∷ info.height ∷ info.depth ∷ info.italic ∷ []) t 0

unfoldable pub size_of : Layout → ℕ → ℕ
size_of l t = get_or (l.nw ∷ l.nh ∷ l.nd ∷ l.ni ∷ []) t 0

-- 20: index of a character outside table t
unfoldable pub bad_index : List ℕ → Layout → ℕ → ℕ → Bool
bad_index infos l code t = exists_in infos l code && leb (size_of l t) (index_of (info_for infos l code) t)

-- 21: next larger missing
unfoldable pub link_missing : List ℕ → Layout → ℕ → Bool
link_missing infos l code =
    exists_in infos l code && eqb (info_for infos l code).tag 2 && not (exists_in infos l (info_for infos l code).remainder)

-- a link among existing characters, and where it leads
unfoldable pub links : List ℕ → Layout → ℕ → Bool
links infos l code =
    exists_in infos l code && eqb (info_for infos l code).tag 2 && exists_in infos l (info_for infos l code).remainder

unfoldable pub larger : List ℕ → Layout → ℕ → ℕ
larger infos l code = (info_for infos l code).remainder

-- 22: the code is the largest of a cycle of links among existing characters. (`largest` of proofs/Largest.antt: this walk finds exactly those.)
unfoldable pub ends_cycle : List ℕ → Layout → ℕ → Bool
ends_cycle infos l code = links infos l code && reaches (links infos l) (larger infos l) code 256 (larger infos l code)

-- 23: recipe number not below ne
unfoldable pub bad_recipe : List ℕ → Layout → ℕ → Bool
bad_recipe infos l code =
    exists_in infos l code && eqb (info_for infos l code).tag 3 && leb l.ne (info_for infos l code).remainder
