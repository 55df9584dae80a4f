-- PLtoTF's first look at what was read (§110 to §122): each code that another leads to is made to exist, and it is seen whether some code below 128 leads to one from 128 on.
use Rattle.std.specs.Prelude.{ℕ, zero, suc, ◌+◌, ◌/◌, ◌%◌, max, Bool, false, cond, ◌&&◌, ◌||◌, List, [], ◌∷◌, ◌++◌, leb, ltb, eqb, length, get_or}
use Rattle.lent.specs.Fold.{iterate}
use Rattle.font.specs.Font.{Instruction, Font}
use Rattle.font.specs.Told.{legitimate}

-- byte j of a word
unfoldable pub word_byte : ℕ → ℕ → ℕ
word_byte w j =
    cond (eqb j 0) (w / 16777216) (cond (eqb j 1) (w / 65536 % 256) (cond (eqb j 2) (w / 256 % 256) (w % 256)))

abbrev pub no_step : Instruction
no_step = record { skip = 0; right = 0; op = 0; value = 0 }

unfoldable pub step_at : Font → ℕ → Instruction
step_at F k = get_or F.program.steps k no_step

-- §116: the left boundary has a word of its own after the steps, and there are as many words as labels and skips ask for. A program without steps has none.
unfoldable pub has_left : Font → ℕ
has_left F = cond (eqb (F.program.tag 256) 1) 1 0

unfoldable pub program_words : Font → ℕ
program_words F =
    cond (eqb (length F.program.steps) 0) 0 (max (length F.program.steps + has_left F) F.program.least)

-- Word i of the program as it is looked at. One after the steps stops, and is taken for a ligature of code 0 to code 0; so is the word that is looked at where there is none.
unfoldable pub word_at : Font → ℕ → Instruction
word_at F i =
    cond (ltb i (length F.program.steps)) (step_at F i)
    (record { skip = 255; right = 0; op = 0; value = 0 })

unfoldable pub among : ℕ → List ℕ → Bool
among c [] = false
among c (d ∷ ds) = eqb c d || among c ds

-- §120, §122: the words that a program from word i on comes to, but for those whose right code was seen before; at most n are looked at
unfoldable pub first_words : Font → ℕ → ℕ → List ℕ → List Instruction
first_words F zero i seen = []
first_words F (suc n) i seen =
    cond (among (word_at F i).right seen) [] (word_at F i ∷ [])
    ++ cond (ltb (word_at F i).skip 128 && ltb (i + 1 + (word_at F i).skip) (program_words F))
    (first_words F n (i + 1 + (word_at F i).skip) ((word_at F i).right ∷ seen)) []

unfoldable pub words_for : Font → ℕ → List Instruction
words_for F c = first_words F (suc (program_words F)) (F.program.remainder c) []

-- §120: the codes that such a word names: its right code, unless it is the boundary character, and what a ligature inserts
unfoldable pub named_in : Font → List Instruction → List ℕ
named_in F [] = []
named_in F (w ∷ ws) =
    cond (eqb w.right F.program.boundary) [] (w.right ∷ []) ++ cond (ltb w.op 128) (w.value ∷ []) [] ++ named_in F ws

-- §112: the pieces of a recipe, of which the first three may be absent
unfoldable pub piece_named : ℕ → List ℕ
piece_named c = cond (eqb c 0) [] (c ∷ [])

unfoldable pub pieces_of : ℕ → List ℕ
pieces_of w = piece_named (word_byte w 0) ++ piece_named (word_byte w 1) ++ piece_named (word_byte w 2) ++ (word_byte w 3 ∷ [])

-- §111: the codes that code c leads to
unfoldable pub named_by : Font → ℕ → List ℕ
named_by F c =
    cond (eqb (F.program.tag c) 1) (named_in F (words_for F c))
    (cond (eqb (F.program.tag c) 2) (F.program.remainder c ∷ [])
    (cond (eqb (F.program.tag c) 3) (pieces_of (get_or F.program.recipes (F.program.remainder c) 0))
    []))

unfoldable pub legitimates : Font → List ℕ → Font
legitimates F [] = F
legitimates F (c ∷ cs) = legitimates (legitimate F c) cs

-- §120: a ligature for a code below 128, or for the boundary character, that inserts one from 128 on
unfoldable pub inserts_over : Font → List Instruction → Bool
inserts_over F [] = false
inserts_over F (w ∷ ws) =
    ltb w.op 128 && leb 128 w.value && (ltb w.right 128 || eqb w.right F.program.boundary) || inserts_over F ws

unfoldable pub any_over : List ℕ → Bool
any_over [] = false
any_over (c ∷ cs) = leb 128 c || any_over cs

-- code c, below 128 or the left boundary, leads to one from 128 on
unfoldable pub leads_over : Font → ℕ → Bool
leads_over F c =
    (ltb c 128 || eqb c 256) && cond (eqb (F.program.tag c) 1) (inserts_over F (words_for F c)) (any_over (named_by F c))

-- §110: the codes that exist by then are looked at in their order, and last the left boundary
pub record Checking : Type 0 where
  pub font : Font
  pub over : Bool

unfoldable pub check_code : Checking → ℕ → Checking
check_code k c = record { font = legitimates k.font (named_by k.font c); over = k.over || leads_over k.font c }

unfoldable pub check_if : Bool → Checking → ℕ → Checking
check_if b k c = cond b (check_code k c) k

unfoldable pub checked_to : Font → ℕ → Checking
checked_to F n = iterate (λ k c. check_if (k.font.characters.present c) k c) (record { font = F; over = false }) n

unfoldable pub checked_all : Font → Checking
checked_all F = check_if (eqb (F.program.tag 256) 1) (checked_to F 256) 256
