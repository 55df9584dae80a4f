-- The twelve sizes of a file, and the numbers 1 to 12 of an answer. A byte past the end of the file reads as 0.
use Rattle.std.specs.Prelude.{ℕ, ◌+◌, ◌-◌, ◌*◌, ◌/◌, Bool, ◌||◌, not, List, [], ◌∷◌, ltb, eqb, length, get_or, replicate}
use Rattle.lent.specs.Answer.{first, on_accept}
use Rattle.tfm.specs.declared.Layout.{Layout}
use Rattle.tfm.specs.declared.TwelveSizes.{TwelveSizes}

-- size k, two bytes, high byte first
unfoldable pub size_at : List ℕ → ℕ → ℕ
size_at f k = get_or f (2 * k) 0 * 256 + get_or f (2 * k + 1) 0

unfoldable pub layout_of : List ℕ → Layout
layout_of f =
    record {
      lf = size_at f 0;
      lh = size_at f 1;
      bc = size_at f 2;
      ec = size_at f 3;
      nw = size_at f 4;
      nh = size_at f 5;
      nd = size_at f 6;
      ni = size_at f 7;
      nl = size_at f 8;
      nk = size_at f 9;
      ne = size_at f 10;
      np = size_at f 11;
    }

-- ec-bc+1
abbrev pub chars : Layout → ℕ
chars l = l.ec + 1 - l.bc

-- 6+lh+(ec-bc+1)+nw+nh+nd+ni+nl+nk+ne+np
abbrev pub words : Layout → ℕ
words l = 6 + l.lh + chars l + l.nw + l.nh + l.nd + l.ni + l.nl + l.nk + l.ne + l.np

-- the first byte of a size exceeds 127
abbrev pub over : ℕ → Bool
over size = ltb 127 (size / 256)

-- another size than lf has a first byte over 127
abbrev pub any_over : Layout → Bool
any_over l =
    over l.lh || over l.bc || over l.ec || over l.nw || over l.nh || over l.nd || over l.ni || over l.nl || over l.nk || over l.ne || over l.np

-- nw, nh, nd or ni is 0
abbrev pub any_empty : Layout → Bool
any_empty l = eqb l.nw 0 || eqb l.nh 0 || eqb l.nd 0 || eqb l.ni 0

-- the numbers 7 to 12 in the order in which they are tested, and then what the later tests give
unfoldable pub layout_number : Layout → ℕ → ℕ
layout_number l later =
    first (any_over l) 7
    (first (ltb l.lh 2) 8
    (first (ltb (l.ec + 1) l.bc || ltb 255 l.ec) 9
    (first (any_empty l) 10
    (first (ltb 256 l.ne) 11
    (first (not (eqb l.lf (words l))) 12 later)))))

-- the numbers 1 to 12
unfoldable pub number_of : List ℕ → Layout → ℕ → ℕ
number_of f l later =
    first (eqb (length f) 0) 1
    (first (ltb 127 (get_or f 0 0)) 2
    (first (eqb (length f) 1) 3
    (first (eqb l.lf 0) 4
    (first (ltb (length f) (4 * l.lf)) 5
    (first (ltb l.lf 6) 6 (layout_number l later))))))

-- the sizes in file order
unfoldable pub size_list : Layout → List ℕ
size_list l =
    l.lf ∷ l.lh ∷ l.bc ∷ l.ec ∷ l.nw ∷ l.nh ∷ l.nd ∷ l.ni ∷ l.nl ∷ l.nk ∷ l.ne ∷ l.np ∷ []

-- what `sizes` answers
abbrev pub sizes_number : List ℕ → ℕ
sizes_number f = number_of f (layout_of f) 0

unfoldable pub sizes_answer : List ℕ → TwelveSizes
sizes_answer f =
    record { number = sizes_number f; sizes = on_accept (sizes_number f) (size_list (layout_of f)) (replicate 12 0) }
