-- The parameters as items: 003 §58 to §61. i is a parameter's number, from 1 on, and w its word.
use Rattle.std.specs.Prelude.{ℕ, ◌+◌, cond, List, [], ◌∷◌, Option, Some, None, leb, eqb}
use Rattle.lent.specs.Write.{codes}
use Rattle.tfm.specs.Lengths.{word_of}
use Rattle.items.specs.Items.{dec, real, Items, empty, leaf, group, choose, loop}
use Rattle.header.specs.declared.Kind.{Kind}
use Rattle.header.specs.declared.Kind.TheVariants.{Vanilla, MathSymbols, MathExtension}

-- §61: the names that all fonts have
unfoldable pub common_item : ℕ → ℕ → Items
common_item i w =
    choose (eqb i 1) (leaf (codes "SLANT") (real w ∷ []))
    (choose (eqb i 2) (leaf (codes "SPACE") (real w ∷ []))
    (choose (eqb i 3) (leaf (codes "STRETCH") (real w ∷ []))
    (choose (eqb i 4) (leaf (codes "SHRINK") (real w ∷ []))
    (choose (eqb i 5) (leaf (codes "XHEIGHT") (real w ∷ []))
    (choose (eqb i 6) (leaf (codes "QUAD") (real w ∷ []))
    (leaf (codes "EXTRASPACE") (real w ∷ [])))))))

unfoldable pub numbered_item : ℕ → ℕ → Items
numbered_item i w = leaf (codes "PARAMETER") (dec i ∷ real w ∷ [])

-- those of a math symbols font, from 8 on: of fractions, of scripts, and of delimiters and the axis
unfoldable pub fraction_item : ℕ → ℕ → Items
fraction_item i w =
    choose (eqb i 8) (leaf (codes "NUM1") (real w ∷ []))
    (choose (eqb i 9) (leaf (codes "NUM2") (real w ∷ []))
    (choose (eqb i 10) (leaf (codes "NUM3") (real w ∷ []))
    (choose (eqb i 11) (leaf (codes "DENOM1") (real w ∷ []))
    (leaf (codes "DENOM2") (real w ∷ [])))))

unfoldable pub script_item : ℕ → ℕ → Items
script_item i w =
    choose (eqb i 13) (leaf (codes "SUP1") (real w ∷ []))
    (choose (eqb i 14) (leaf (codes "SUP2") (real w ∷ []))
    (choose (eqb i 15) (leaf (codes "SUP3") (real w ∷ []))
    (choose (eqb i 16) (leaf (codes "SUB1") (real w ∷ []))
    (choose (eqb i 17) (leaf (codes "SUB2") (real w ∷ []))
    (choose (eqb i 18) (leaf (codes "SUPDROP") (real w ∷ []))
    (leaf (codes "SUBDROP") (real w ∷ [])))))))

unfoldable pub delimiter_item : ℕ → ℕ → Items
delimiter_item i w =
    choose (eqb i 20) (leaf (codes "DELIM1") (real w ∷ []))
    (choose (eqb i 21) (leaf (codes "DELIM2") (real w ∷ []))
    (choose (eqb i 22) (leaf (codes "AXISHEIGHT") (real w ∷ []))
    (numbered_item i w)))

unfoldable pub symbols_item : ℕ → ℕ → Items
symbols_item i w =
    choose (leb i 12) (fraction_item i w) (choose (leb i 19) (script_item i w) (delimiter_item i w))

-- and of a math extension font
unfoldable pub extension_item : ℕ → ℕ → Items
extension_item i w =
    choose (eqb i 8) (leaf (codes "DEFAULTRULETHICKNESS") (real w ∷ []))
    (choose (eqb i 9) (leaf (codes "BIGOPSPACING1") (real w ∷ []))
    (choose (eqb i 10) (leaf (codes "BIGOPSPACING2") (real w ∷ []))
    (choose (eqb i 11) (leaf (codes "BIGOPSPACING3") (real w ∷ []))
    (choose (eqb i 12) (leaf (codes "BIGOPSPACING4") (real w ∷ []))
    (choose (eqb i 13) (leaf (codes "BIGOPSPACING5") (real w ∷ []))
    (numbered_item i w))))))

unfoldable pub further_item : Kind → ℕ → ℕ → Items
further_item Vanilla i w = numbered_item i w
further_item MathSymbols i w = symbols_item i w
further_item MathExtension i w = extension_item i w

-- §60
unfoldable pub parameter_item : Kind → ℕ → ℕ → Items
parameter_item kind i w = choose (leb i 7) (common_item i w) (further_item kind i w)

abbrev pub parameter_at : Kind → List ℕ → ℕ → Items
parameter_at kind params i = parameter_item kind (i + 1) (word_of params i)

-- §58: the n parameters
unfoldable pub fontdimen : Kind → List ℕ → ℕ → Items
fontdimen kind params n =
    choose (eqb n 0) empty (group (codes "FONTDIMEN") [] (loop n (parameter_at kind params)))

-- the names alone
abbrev pub common_name : ℕ → List ℕ
common_name i =
    cond (eqb i 1) (codes "SLANT")
    (cond (eqb i 2) (codes "SPACE")
    (cond (eqb i 3) (codes "STRETCH")
    (cond (eqb i 4) (codes "SHRINK")
    (cond (eqb i 5) (codes "XHEIGHT")
    (cond (eqb i 6) (codes "QUAD")
    (codes "EXTRASPACE"))))))

abbrev pub fraction_name : ℕ → List ℕ
fraction_name i =
    cond (eqb i 8) (codes "NUM1")
    (cond (eqb i 9) (codes "NUM2")
    (cond (eqb i 10) (codes "NUM3")
    (cond (eqb i 11) (codes "DENOM1")
    (codes "DENOM2"))))

abbrev pub script_name : ℕ → List ℕ
script_name i =
    cond (eqb i 13) (codes "SUP1")
    (cond (eqb i 14) (codes "SUP2")
    (cond (eqb i 15) (codes "SUP3")
    (cond (eqb i 16) (codes "SUB1")
    (cond (eqb i 17) (codes "SUB2")
    (cond (eqb i 18) (codes "SUPDROP")
    (codes "SUBDROP"))))))

abbrev pub delimiter_name : ℕ → Option (List ℕ)
delimiter_name i =
    cond (eqb i 20) (Some (codes "DELIM1"))
    (cond (eqb i 21) (Some (codes "DELIM2"))
    (cond (eqb i 22) (Some (codes "AXISHEIGHT"))
    None))

abbrev pub symbols_name : ℕ → Option (List ℕ)
symbols_name i = cond (leb i 12) (Some (fraction_name i)) (cond (leb i 19) (Some (script_name i)) (delimiter_name i))

abbrev pub extension_name : ℕ → Option (List ℕ)
extension_name i =
    cond (eqb i 8) (Some (codes "DEFAULTRULETHICKNESS"))
    (cond (eqb i 9) (Some (codes "BIGOPSPACING1"))
    (cond (eqb i 10) (Some (codes "BIGOPSPACING2"))
    (cond (eqb i 11) (Some (codes "BIGOPSPACING3"))
    (cond (eqb i 12) (Some (codes "BIGOPSPACING4"))
    (cond (eqb i 13) (Some (codes "BIGOPSPACING5"))
    None)))))

unfoldable pub further_name : Kind → ℕ → Option (List ℕ)
further_name Vanilla i = None
further_name MathSymbols i = symbols_name i
further_name MathExtension i = extension_name i

unfoldable pub name_of : Kind → ℕ → Option (List ℕ)
name_of kind i = cond (leb i 7) (Some (common_name i)) (further_name kind i)
