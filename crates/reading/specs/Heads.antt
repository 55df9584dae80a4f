-- What a head says in its place: PLtoTF §47, §82 to §106.
use Rattle.std.specs.Prelude.{ℕ, ◌-◌, Bool, true, false, cond, ◌&&◌, ◌||◌, List, [], ◌∷◌, eqb}
use Rattle.lent.specs.Write.{codes}
use Rattle.faults.specs.Header.{upper}
use Rattle.forest.specs.Forest.{past, name_of, rest_of, same}
use Rattle.reading.specs.Values.{Took, took, wrong, code_in, word_in, real_at, real_in, printable, capitals}

-- what a property list states, one thing after another
pub data Statement : Type 0 where
  check_sum : ℕ → Statement
  design_size : ℕ → Statement
  scheme : List ℕ → Statement
  family : List ℕ → Statement
  face : ℕ → Statement
  -- the word with this number
  header_word : ℕ → ℕ → Statement
  parameter : ℕ → ℕ → Statement
  boundary : ℕ → Statement
  -- a table of ligatures begins
  begins : Statement
  -- a program starts here: of a code, or of the left boundary, 256
  label : ℕ → Statement
  -- a step for a code: a kern's word; a ligature's kind, and then its code and the one inserted
  kern : ℕ → ℕ → Statement
  ligature : ℕ → ℕ → ℕ → Statement
  -- the step before ends, or skips so many
  stop : Statement
  skip : ℕ → Statement
  -- of a character: its words, the next larger, its recipe; and the end of what is said of it
  width : ℕ → ℕ → Statement
  height : ℕ → ℕ → Statement
  depth : ℕ → ℕ → Statement
  italic : ℕ → ℕ → Statement
  larger : ℕ → ℕ → Statement
  recipe : ℕ → ℕ → ℕ → ℕ → ℕ → Statement
  described : ℕ → Statement

-- where a head stands
pub data Place : Type 0 where
  top : Place
  fontdimen : Place
  ligtable : Place
  character : ℕ → Place
  -- the character, and its top, middle, bottom and repeater so far
  varchar : ℕ → ℕ → ℕ → ℕ → ℕ → Place
  -- in a property of this place that has no list
  within : Place → Place

-- a head that is known: where it leads, what it states, and whether its numbers are in their ranges
pub data Entry : Type 0 where
  enters : Place → List Statement → Bool → Entry
  unknown : Entry

unfoldable pub all_blank : List ℕ → Bool
all_blank [] = true
all_blank (c ∷ s) = eqb c 32 && all_blank s

-- nothing may follow the last value
unfoldable pub closed : Place → List Statement → Bool → List ℕ → Entry
closed p ss fits s = cond (all_blank s) (enters p ss fits) unknown

unfoldable pub leads : Took → (ℕ → Bool → List ℕ → Entry) → Entry
leads (took n fits s) next = next n fits s
leads wrong next = unknown

-- a property whose last value it is: it states something
unfoldable pub states : Place → (ℕ → Statement) → Bool → Took → Entry
states p say fits (took n also s) = closed (within p) (say n ∷ []) (fits && also) s
states p say fits wrong = unknown

-- a group, or a piece of a recipe: it leads elsewhere
unfoldable pub leads_on : (ℕ → Place) → Took → Entry
leads_on p (took n fits s) = closed (p n) [] fits s
leads_on p wrong = unknown

-- a string
unfoldable pub spells : (List ℕ → Statement) → List ℕ → Entry
spells say s = cond (printable (past s)) (enters (within top) (say (capitals (past s)) ∷ []) true) unknown

-- §90: TRUE or FALSE, by its first letter; it is computed and not taken over
unfoldable pub flag_at : List ℕ → Entry
flag_at [] = unknown
flag_at (c ∷ s) =
    cond (eqb (upper c) 84 || eqb (upper c) 70) (cond (printable s) (enters (within top) [] true) unknown) unknown

unfoldable pub any : ℕ
any = 2147483648

unfoldable pub small : ℕ
small = 16777216

unfoldable pub numbers_word : List ℕ → Entry
numbers_word s = leads (code_in 18 32767 s) (λ i fits more. states top (header_word i) fits (word_in more))

unfoldable pub at_top : List ℕ → List ℕ → Entry
at_top name s =
    cond (same name (codes "CHECKSUM")) (states top check_sum true (word_in s))
    (cond (same name (codes "DESIGNSIZE")) (states top design_size true (real_in any s))
    (cond (same name (codes "CODINGSCHEME")) (spells scheme s)
    (cond (same name (codes "FAMILY")) (spells family s)
    (cond (same name (codes "FACE")) (states top face true (code_in 0 255 s))
    (cond (same name (codes "SEVENBITSAFEFLAG")) (flag_at (past s))
    (cond (same name (codes "HEADER")) (numbers_word s)
    (cond (same name (codes "BOUNDARYCHAR")) (states top boundary true (code_in 0 255 s))
    (cond (same name (codes "FONTDIMEN")) (closed fontdimen [] true s)
    (cond (same name (codes "LIGTABLE")) (closed ligtable (begins ∷ []) true s)
    (cond (same name (codes "CHARACTER")) (leads_on character (code_in 0 255 s))
    unknown))))))))))

-- §47: a table of names and their numbers; 0 is none
pub data Names : Type 0 where
  none : Names
  name : List ℕ → ℕ → Names → Names

unfoldable pub number_in : Names → List ℕ → ℕ
number_in none s = 0
number_in (name n k more) s = elim (same s n) [ true ↦ k | false ↦ number_in more s ]

unfoldable pub parameter_names : Names
parameter_names =
    name (codes "SLANT") 1 (name (codes "SPACE") 2 (name (codes "STRETCH") 3 (name (codes "SHRINK") 4
    (name (codes "XHEIGHT") 5 (name (codes "QUAD") 6 (name (codes "EXTRASPACE") 7
    (name (codes "NUM1") 8 (name (codes "NUM2") 9 (name (codes "NUM3") 10 (name (codes "DENOM1") 11 (name (codes "DENOM2") 12
    (name (codes "SUP1") 13 (name (codes "SUP2") 14 (name (codes "SUP3") 15 (name (codes "SUB1") 16 (name (codes "SUB2") 17
    (name (codes "SUPDROP") 18 (name (codes "SUBDROP") 19 (name (codes "DELIM1") 20 (name (codes "DELIM2") 21 (name (codes "AXISHEIGHT") 22
    (name (codes "DEFAULTRULETHICKNESS") 8 (name (codes "BIGOPSPACING1") 9 (name (codes "BIGOPSPACING2") 10
    (name (codes "BIGOPSPACING3") 11 (name (codes "BIGOPSPACING4") 12 (name (codes "BIGOPSPACING5") 13
    none)))))))))))))))))))))))))))

-- the slant may be any word
unfoldable pub bound_of : ℕ → ℕ
bound_of i = cond (eqb i 1) any small

unfoldable pub parameter_of : ℕ → Bool → List ℕ → Entry
parameter_of i fits s = states fontdimen (parameter i) fits (real_in (bound_of i) s)

unfoldable pub in_fontdimen : List ℕ → List ℕ → Entry
in_fontdimen n s =
    cond (same n (codes "PARAMETER")) (leads (code_in 1 32767 s) parameter_of)
    (cond (eqb (number_in parameter_names n) 0) unknown (parameter_of (number_in parameter_names n) true s))

-- §95: the kinds of ligatures, one more than their codes
unfoldable pub ligature_names : Names
ligature_names =
    name (codes "LIG") 1 (name (codes "LIG/") 2 (name (codes "/LIG") 3 (name (codes "/LIG/") 4
    (name (codes "LIG/>") 6 (name (codes "/LIG>") 7 (name (codes "/LIG/>") 8 (name (codes "/LIG/>>") 12
    none)))))))

unfoldable pub label_at : List ℕ → Entry
label_at [] = unknown
label_at (c ∷ s) =
    cond (eqb (upper c) 66) (cond (printable s) (enters (within ligtable) (label 256 ∷ []) true) unknown)
    (states ligtable label true (code_in 0 255 (c ∷ s)))

unfoldable pub kern_in : List ℕ → Entry
kern_in s = leads (code_in 0 255 s) (λ y fits more. states ligtable (kern y) fits (real_in small more))

unfoldable pub ligature_in : ℕ → List ℕ → Entry
ligature_in op s = leads (code_in 0 255 s) (λ y fits more. states ligtable (ligature op y) fits (code_in 0 255 more))

unfoldable pub before : ℕ → ℕ
before n = n - 1

unfoldable pub in_ligtable : List ℕ → List ℕ → Entry
in_ligtable n s =
    cond (same n (codes "LABEL")) (label_at (past s))
    (cond (same n (codes "STOP")) (closed (within ligtable) (stop ∷ []) true s)
    (cond (same n (codes "SKIP")) (states ligtable skip true (code_in 0 127 s))
    (cond (same n (codes "KRN")) (kern_in s)
    (cond (eqb (number_in ligature_names n) 0) unknown (ligature_in (before (number_in ligature_names n)) s)))))

-- §104: a width. Where the file's index is outside its table the listing leaves it bare, and it is 0.
unfoldable pub width_at : ℕ → List ℕ → Entry
width_at c [] = enters (within (character c)) (width c 0 ∷ []) true
width_at c (t ∷ s) = states (character c) (width c) true (real_at small (t ∷ s))

unfoldable pub in_character : ℕ → List ℕ → List ℕ → Entry
in_character c n s =
    cond (same n (codes "CHARWD")) (width_at c (past s))
    (cond (same n (codes "CHARHT")) (states (character c) (height c) true (real_in small s))
    (cond (same n (codes "CHARDP")) (states (character c) (depth c) true (real_in small s))
    (cond (same n (codes "CHARIC")) (states (character c) (italic c) true (real_in small s))
    (cond (same n (codes "NEXTLARGER")) (states (character c) (larger c) true (code_in 0 255 s))
    (cond (same n (codes "VARCHAR")) (closed (varchar c 0 0 0 0) [] true s)
    unknown)))))

unfoldable pub in_varchar : ℕ → ℕ → ℕ → ℕ → ℕ → List ℕ → List ℕ → Entry
in_varchar c t m b r n s =
    cond (same n (codes "TOP")) (leads_on (λ x. within (varchar c x m b r)) (code_in 0 255 s))
    (cond (same n (codes "MID")) (leads_on (λ x. within (varchar c t x b r)) (code_in 0 255 s))
    (cond (same n (codes "BOT")) (leads_on (λ x. within (varchar c t m x r)) (code_in 0 255 s))
    (cond (same n (codes "REP")) (leads_on (λ x. within (varchar c t m b x)) (code_in 0 255 s))
    unknown)))

unfoldable pub entry_in : Place → List ℕ → List ℕ → Entry
entry_in top n s = at_top n s
entry_in fontdimen n s = in_fontdimen n s
entry_in ligtable n s = in_ligtable n s
entry_in (character c) n s = in_character c n s
entry_in (varchar c t m b r) n s = in_varchar c t m b r n s
entry_in (within p) n s = unknown

-- §33: a comment may stand in every list
unfoldable pub has_list : Place → Bool
has_list top = true
has_list fontdimen = true
has_list ligtable = true
has_list (character c) = true
has_list (varchar c t m b r) = true
has_list (within p) = false

unfoldable pub entry_of : Place → List ℕ → Entry
entry_of p h =
    cond (has_list p && same (name_of h) (codes "COMMENT")) (enters (within p) [] true) (entry_in p (name_of h) (rest_of h))
