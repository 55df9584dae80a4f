-- The ligature program as items: 003 §69 and §71 to §77, and the part of it that a character's comment shows, §83.
-- s and kerns are the tables lig_kern and kern, m the marks of the steps, starts the starts of the programs.
use Rattle.std.specs.Prelude.{ℕ, zero, suc, ◌+◌, ◌-◌, ◌/◌, Bool, cond, List, [], ◌∷◌, leb, ltb, eqb, length, get_or}
use Rattle.lent.specs.Fold.{iterate}
use Rattle.lent.specs.Write.{codes}
use Rattle.tfm.specs.Characters.{byte_of}
use Rattle.tfm.specs.Lengths.{word_of}
use Rattle.program.specs.Steps.{address_of, next_of}
use Rattle.items.specs.Items.{raw, code, dec, real, Items, empty, leaf, group, ◌▸◌, choose, loop, jumps}
use Rattle.ligatures.specs.Labels.{label_items}

-- §69: the right boundary character
unfoldable pub boundary_item : Bool → List ℕ → Items
boundary_item letters s =
    choose (eqb (byte_of s 0 0) 255) (leaf (codes "BOUNDARYCHAR") (code letters (byte_of s 0 1) ∷ [])) empty

-- §76: a kern with the character y, by entry r of the kerns; beyond the table it is 0.0
unfoldable pub kern_item : Bool → List ℕ → ℕ → ℕ → Items
kern_item letters kerns y r =
    choose (ltb r (length kerns / 4))
    (leaf (codes "KRN") (code letters y ∷ real (word_of kerns r) ∷ []))
    (leaf (codes "KRN") (code letters y ∷ raw (codes "R 0.0") ∷ []))

-- §77: a ligature's name, by its code
abbrev pub ligature_name : ℕ → List ℕ
ligature_name op =
    cond (eqb op 1) (codes "LIG/")
    (cond (eqb op 2) (codes "/LIG")
    (cond (eqb op 3) (codes "/LIG/")
    (cond (eqb op 5) (codes "LIG/>")
    (cond (eqb op 6) (codes "/LIG>")
    (cond (eqb op 7) (codes "/LIG/>")
    (cond (eqb op 11) (codes "/LIG/>>")
    (codes "LIG")))))))

-- §77: a ligature of code op, with the character y, that inserts z
unfoldable pub ligature_item : Bool → ℕ → ℕ → ℕ → Items
ligature_item letters op y z =
    choose (eqb op 1) (leaf (codes "LIG/") (code letters y ∷ code letters z ∷ []))
    (choose (eqb op 2) (leaf (codes "/LIG") (code letters y ∷ code letters z ∷ []))
    (choose (eqb op 3) (leaf (codes "/LIG/") (code letters y ∷ code letters z ∷ []))
    (choose (eqb op 5) (leaf (codes "LIG/>") (code letters y ∷ code letters z ∷ []))
    (choose (eqb op 6) (leaf (codes "/LIG>") (code letters y ∷ code letters z ∷ []))
    (choose (eqb op 7) (leaf (codes "/LIG/>") (code letters y ∷ code letters z ∷ []))
    (choose (eqb op 11) (leaf (codes "/LIG/>>") (code letters y ∷ code letters z ∷ []))
    (leaf (codes "LIG") (code letters y ∷ code letters z ∷ []))))))))

-- §74: step i, of which one that is over 128 says nothing
unfoldable pub step_item : Bool → List ℕ → List ℕ → ℕ → Items
step_item letters s kerns i =
    choose (ltb 128 (byte_of s i 0)) empty
    (choose (leb 128 (byte_of s i 2))
    (kern_item letters kerns (byte_of s i 1) (address_of s i - 32768))
    (ligature_item letters (byte_of s i 2) (byte_of s i 1) (byte_of s i 3)))

-- §75: the accessible steps among the n after step i
abbrev pub count_step : List ℕ → ℕ → ℕ → ℕ → ℕ
count_step m i n j = cond (eqb (get_or m (i + 1 + j) 0) 2) (n + 1) n

unfoldable pub skipped : List ℕ → ℕ → ℕ → ℕ
skipped m i n = iterate (count_step m i) 0 n

-- §74, §75: what follows step i, whose first byte is skip
unfoldable pub tail_item : List ℕ → ℕ → ℕ → Items
tail_item m i skip =
    choose (eqb skip 0) empty
    (choose (leb 128 skip) (leaf (codes "STOP") []) (leaf (codes "SKIP") (dec (skipped m i skip) ∷ [])))

-- §71, §73: the n steps from i on are unused, but for those that are passed through
module _ (letters : Bool) (s kerns m : List ℕ) where
  abbrev pub unused_at : ℕ → Items
  unused_at k = choose (eqb (get_or m k 0) 1) empty (step_item letters s kerns k)

  unfoldable pub unused_step : ℕ → ℕ → Items
  unused_step i j = choose (eqb (get_or m (i + j) 0) 1) empty (step_item letters s kerns (i + j))

  unfoldable pub unused : ℕ → ℕ → Items
  unused i n = group (codes "COMMENT THIS PART OF THE PROGRAM IS NEVER USED!") [] (loop n (unused_step i))

module _ (letters : Bool) (s kerns m starts : List ℕ) where
  -- §71: an accessible step
  unfoldable pub accessible_item : ℕ → Items
  accessible_item i =
      label_items letters starts i ▸ step_item letters s kerns i ▸ tail_item m i (byte_of s i 0)

  -- what stands at step i, by its mark: the steps up to e, unused; nothing; the step
  unfoldable pub piece : ℕ → ℕ → Items
  piece i e =
      choose (eqb (get_or m i 0) 0) (unused letters s kerns m i (e - i))
      (choose (eqb (get_or m i 0) 1) empty (accessible_item i))

-- the first accessible step from i on, of the k that are left
unfoldable pub run_end : List ℕ → ℕ → ℕ → ℕ
run_end m zero i = i
run_end m (suc k) i = cond (eqb (get_or m i 0) 2) i (run_end m k (i + 1))

-- where a piece ends that starts at step i
unfoldable pub piece_end : List ℕ → ℕ → ℕ → ℕ
piece_end m nl i = cond (eqb (get_or m i 0) 0) (run_end m (nl - (i + 1)) (i + 1)) (i + 1)

module _ (letters : Bool) (s kerns m starts : List ℕ) (nl : ℕ) where
  abbrev pub piece_at : ℕ → Items
  piece_at i = piece letters s kerns m starts i (piece_end m nl i)

  -- §71: the steps, piece by piece
  abbrev pub pieces : Items
  pieces = jumps piece_at (piece_end m nl) nl nl 0

  -- §66: the table
  unfoldable pub ligtable : Items
  ligtable = choose (eqb nl 0) empty (group (codes "LIGTABLE") [] pieces)

-- §83: the step after step i
unfoldable pub following : List ℕ → ℕ → ℕ → ℕ
following s nl i = cond (leb 128 (byte_of s i 0)) nl (next_of s i)

module _ (letters : Bool) (s kerns : List ℕ) (nl : ℕ) where
  -- the program from step i on
  abbrev pub program_from : ℕ → Items
  program_from i = jumps (step_item letters s kerns) (following s nl) nl nl i

  unfoldable pub program_comment : ℕ → Items
  program_comment i = group (codes "COMMENT") [] (program_from i)
