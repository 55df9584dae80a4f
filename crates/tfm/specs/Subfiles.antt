-- The ten subfiles of a file: where each begins, how many words it has, and its bytes.
use Rattle.std.specs.Prelude.{◌≡◌, ℕ, ◌+◌, ◌*◌, List, [], ◌∷◌, ltb, get_or, take, drop}
use Rattle.lent.specs.Answer.{first, on_accept}
use Rattle.lent.specs.Fold.{iterate}
use Rattle.tfm.specs.Sizes.{layout_of, chars, number_of}
use Rattle.tfm.specs.declared.Layout.{Layout}
use Rattle.tfm.specs.declared.Font.{Font}

-- the words of header, char_info, width, height, depth, italic, lig_kern, kern, exten, param
abbrev pub counts : Layout → List ℕ
counts l = l.lh ∷ chars l ∷ l.nw ∷ l.nh ∷ l.nd ∷ l.ni ∷ l.nl ∷ l.nk ∷ l.ne ∷ l.np ∷ []

unfoldable pub count_of : Layout → ℕ → ℕ
count_of l k = get_or (counts l) k 0

-- the word at which subfile k begins: after the six words of the sizes, one subfile after another
unfoldable pub start_of : Layout → ℕ → ℕ
start_of l k = iterate (λ at i. at + count_of l i) 6 k

unfoldable pub table_of : List ℕ → Layout → ℕ → List ℕ
table_of f l k = take (4 * count_of l k) (drop (4 * start_of l k) f)

-- a font has the sizes l and the ten subfiles of the file f
pub record FontOf (f : List ℕ) (l : Layout) (font : Font) : Type 0 where
  pub layout : font.layout ≡ l
  pub header : font.header.now ≡ table_of f l 0
  pub infos : font.infos.now ≡ table_of f l 1
  pub widths : font.widths.now ≡ table_of f l 2
  pub heights : font.heights.now ≡ table_of f l 3
  pub depths : font.depths.now ≡ table_of f l 4
  pub italics : font.italics.now ≡ table_of f l 5
  pub steps : font.steps.now ≡ table_of f l 6
  pub kerns : font.kerns.now ≡ table_of f l 7
  pub recipes : font.recipes.now ≡ table_of f l 8
  pub params : font.params.now ≡ table_of f l 9

-- what `subfile` answers: its number, and where its bytes lie and what they are
unfoldable pub subfile_number : List ℕ → ℕ → ℕ
subfile_number f k = number_of f (layout_of f) (first (ltb 9 k) 17 0)

unfoldable pub subfile_start : List ℕ → ℕ → ℕ
subfile_start f k = on_accept (subfile_number f k) (4 * start_of (layout_of f) k) 0

unfoldable pub subfile_of : List ℕ → ℕ → List ℕ
subfile_of f k = on_accept (subfile_number f k) (table_of f (layout_of f) k) []
