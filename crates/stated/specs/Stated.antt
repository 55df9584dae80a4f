-- What the listing of a copy states, in its order: the statements that reading it tells.
use Rattle.std.specs.Prelude.{ℕ, ◌+◌, ◌-◌, ◌/◌, cond, ◌&&◌, ◌||◌, not, List, [], ◌∷◌, ◌++◌, leb, ltb, eqb, length, get_or}
use Rattle.lent.specs.Fold.{iterate}
use Rattle.tfm.specs.Characters.{byte_of, info_of, exists_in}
use Rattle.tfm.specs.Lengths.{word_of}
use Rattle.tfm.specs.Subfiles.{table_of}
use Rattle.tfm.specs.declared.Layout.{Layout}
use Rattle.tfm.specs.declared.CharInfo.{CharInfo}
use Rattle.program.specs.Steps.{address_of}
use Rattle.program.specs.Marks.{marks_of}
use Rattle.faults.specs.Header.{bad_design_size}
use Rattle.mend.specs.Copy.{mended}
use Rattle.header.specs.Header.{spelled}
use Rattle.ligatures.specs.Labels.{starts_of}
use Rattle.ligatures.specs.Ligatures.{skipped}
use Rattle.listing.specs.Characters.{shown}
use Rattle.forest.specs.Forest.{past}
use Rattle.reading.specs.Heads as H
use Rattle.reading.specs.Heads.{Statement}

-- what g 0 to g (n - 1) state in turn
unfoldable pub in_turn : ℕ → (ℕ → List Statement) → List Statement
in_turn n g = iterate (λ ss i. ss ++ g i) [] n

-- The header h. A string loses the blanks at its front; a design size that finding 5 names is listed as 10 points.
unfoldable pub further_stated : List ℕ → Layout → List Statement
further_stated h l =
    cond (leb 18 l.lh) (H.face (byte_of h 17 3) ∷ in_turn (l.lh - 18) (λ i. H.header_word (i + 18) (word_of h (i + 18)) ∷ [])) []

unfoldable pub family_stated : List ℕ → Layout → List Statement
family_stated h l = cond (leb 17 l.lh) (H.family (past (spelled h 1)) ∷ further_stated h l) []

unfoldable pub strings_stated : List ℕ → Layout → List Statement
strings_stated h l = cond (leb 12 l.lh) (family_stated h l ++ (H.scheme (past (spelled h 0)) ∷ [])) []

unfoldable pub design_stated : List ℕ → ℕ
design_stated h = cond (bad_design_size h) 10485760 (word_of h 1)

unfoldable pub header_stated : List ℕ → Layout → List Statement
header_stated h l = strings_stated h l ++ (H.design_size (design_stated h) ∷ H.check_sum (word_of h 0) ∷ [])

unfoldable pub parameters_stated : List ℕ → ℕ → List Statement
parameters_stated params n = in_turn n (λ i. H.parameter (i + 1) (word_of params i) ∷ [])

-- the ligature program s, its kerns, the marks m of its steps and the starts of the programs
unfoldable pub boundary_stated : List ℕ → List Statement
boundary_stated s = cond (eqb (byte_of s 0 0) 255) (H.boundary (byte_of s 0 1) ∷ []) []

unfoldable pub label_stated : List ℕ → ℕ → ℕ → List Statement
label_stated starts i c = cond (eqb (get_or starts c 0) i) (H.label c ∷ []) []

unfoldable pub labels_stated : List ℕ → ℕ → List Statement
labels_stated starts i = label_stated starts i 256 ++ in_turn 256 (label_stated starts i)

-- a kern beyond the table is 0, and a ligature's code that 003 does not know is listed as LIG
unfoldable pub kern_stated : List ℕ → ℕ → ℕ
kern_stated kerns r = cond (ltb r (length kerns / 4)) (word_of kerns r) 0

unfoldable pub code_stated : ℕ → ℕ
code_stated op =
    cond (eqb op 1 || eqb op 2 || eqb op 3 || eqb op 5 || eqb op 6 || eqb op 7 || eqb op 11) op 0

unfoldable pub step_stated : List ℕ → List ℕ → ℕ → List Statement
step_stated s kerns i =
    cond (ltb 128 (byte_of s i 0)) []
    (cond (leb 128 (byte_of s i 2)) (H.kern (byte_of s i 1) (kern_stated kerns (address_of s i - 32768)) ∷ [])
    (H.ligature (code_stated (byte_of s i 2)) (byte_of s i 1) (byte_of s i 3) ∷ []))

unfoldable pub tail_stated : List ℕ → ℕ → ℕ → List Statement
tail_stated m i skip = cond (eqb skip 0) [] (cond (leb 128 skip) (H.stop ∷ []) (H.skip (skipped m i skip) ∷ []))

-- the accessible steps
unfoldable pub program_stated : List ℕ → List ℕ → List ℕ → List ℕ → ℕ → List Statement
program_stated s kerns m starts nl =
    cond (eqb nl 0) []
    (H.begins ∷ in_turn nl (λ i. cond (eqb (get_or m i 0) 2) (labels_stated starts i ++ step_stated s kerns i ++ tail_stated m i (byte_of s i 0)) []))

-- a character: a width beyond its table is left bare and counts as 0; a height, depth or italic of index 0 or beyond its table is left out
unfoldable pub width_stated : List ℕ → ℕ → ℕ
width_stated t i = cond (ltb i (length t / 4)) (word_of t i) 0

unfoldable pub length_stated : (ℕ → Statement) → List ℕ → ℕ → List Statement
length_stated say t i = cond (not (eqb i 0) && ltb i (length t / 4)) (say (word_of t i) ∷ []) []

unfoldable pub lengths_stated : List ℕ → List ℕ → List ℕ → List ℕ → ℕ → CharInfo → List Statement
lengths_stated widths heights depths italics c info =
    (H.width c (width_stated widths info.width) ∷ [])
    ++ length_stated (H.height c) heights info.height
    ++ length_stated (H.depth c) depths info.depth
    ++ length_stated (H.italic c) italics info.italic

unfoldable pub piece_stated : List ℕ → Layout → ℕ → ℕ → ℕ
piece_stated infos l c piece = cond (eqb piece 0) 0 (shown infos l c piece)

unfoldable pub recipe_stated : List ℕ → List ℕ → Layout → ℕ → ℕ → Statement
recipe_stated infos recipes l c r =
    H.recipe c
    (piece_stated infos l c (byte_of recipes r 0))
    (piece_stated infos l c (byte_of recipes r 1))
    (piece_stated infos l c (byte_of recipes r 2))
    (shown infos l c (byte_of recipes r 3))

unfoldable pub tag_stated : List ℕ → List ℕ → Layout → ℕ → CharInfo → List Statement
tag_stated infos recipes l c info =
    cond (eqb info.tag 1) []
    (cond (eqb info.tag 2) (H.larger c info.remainder ∷ [])
    (cond (eqb info.tag 3) (recipe_stated infos recipes l c info.remainder ∷ [])
    []))

unfoldable pub character_stated : List ℕ → List ℕ → List ℕ → List ℕ → List ℕ → List ℕ → Layout → ℕ → List Statement
character_stated infos widths heights depths italics recipes l c =
    cond (exists_in infos l c)
    (lengths_stated widths heights depths italics c (info_of infos (c - l.bc)) ++ tag_stated infos recipes l c (info_of infos (c - l.bc)) ++ (H.described c ∷ []))
    []

unfoldable pub characters_stated : List ℕ → Layout → List Statement
characters_stated c l =
    in_turn 256 (character_stated (table_of c l 1) (table_of c l 2) (table_of c l 3) (table_of c l 4) (table_of c l 5) (table_of c l 8) l)

-- the whole listing of a copy c; m are the marks of the file's steps
unfoldable pub stated : List ℕ → Layout → List ℕ → List Statement
stated c l m =
    header_stated (table_of c l 0) l
    ++ parameters_stated (table_of c l 9) l.np
    ++ boundary_stated (table_of c l 6)
    ++ program_stated (table_of c l 6) (table_of c l 7) m (starts_of (table_of c l 1) (table_of c l 6) l) l.nl
    ++ characters_stated c l

-- and of a file
abbrev pub stated_of : List ℕ → Layout → List Statement
stated_of f l = stated (mended f l) l (marks_of (table_of f l 1) (table_of f l 6) l)
