-- Which findings are there. A finding has a tag t and two numbers, the first a and the second b.
-- f is the file, infos and s are its tables char_info and lig_kern, m the marks of the steps, and d the table that the tag looks at.
use Rattle.std.specs.Prelude.{◌≡◌, ℕ, ◌+◌, ◌-◌, ◌*◌, Bool, false, cond, ◌&&◌, ◌||◌, List, leb, ltb, eqb, length}
use Rattle.lent.specs.Answer.{first}
use Rattle.tfm.specs.Sizes.{chars}
use Rattle.tfm.specs.Subfiles.{count_of, table_of}
use Rattle.tfm.specs.Lengths.{too_big}
use Rattle.tfm.specs.declared.Layout.{Layout}
use Rattle.tfm.specs.declared.Font.{Font}
use Rattle.faults.specs.Header.{string_too_long, parenthesis, nonstandard, bad_design_size, unusual_count, bad_parameter, not_zero}
use Rattle.faults.specs.Steps.{bad_boundary, bad_start, skips_too_far, bad_address, step_for_missing, ligature_to_missing, bad_kern, odd_code}
use Rattle.faults.specs.Characters.{piece_missing, bad_index, link_missing, ends_cycle, bad_recipe}

-- the table a of width, height, depth, italic and kern, and the subfile that a tag looks at: the parameters, one of those tables, the recipes, and else the header
unfoldable pub length_table : ℕ → ℕ
length_table a = cond (ltb a 4) (a + 2) 7

unfoldable pub table_number : ℕ → ℕ → ℕ
table_number t a =
    first (eqb t 7) 9
    (first (eqb t 8 || eqb t 9) (length_table a)
    (first (eqb t 19) 8 0))

-- 1: junk at the end
unfoldable pub junk : List ℕ → Layout → Bool
junk f l = ltb (4 * l.lf) (length f)

unfoldable pub holds_of : List ℕ → List ℕ → List ℕ → List ℕ → List ℕ → Layout → ℕ → ℕ → ℕ → Bool
holds_of f infos s m d l t a b =
    cond (eqb t 1) (junk f l)
    (cond (eqb t 2) (string_too_long d l a)
    (cond (eqb t 3) (parenthesis d l a b)
    (cond (eqb t 4) (nonstandard d l a b)
    (cond (eqb t 5) (bad_design_size d)
    (cond (eqb t 6) (unusual_count d l)
    (cond (eqb t 7) (bad_parameter d a)
    (cond (eqb t 8) (not_zero d)
    (cond (eqb t 9) (too_big d b)
    (cond (eqb t 10) (bad_boundary s l)
    (cond (eqb t 11) (bad_start infos s l a)
    (cond (eqb t 12) (skips_too_far s m l a)
    (cond (eqb t 13) (bad_address s m l a)
    (cond (eqb t 14) (step_for_missing infos s m l a)
    (cond (eqb t 15) (ligature_to_missing infos s m l a)
    (cond (eqb t 16) (bad_kern s m l a)
    (cond (eqb t 17) (odd_code s m a)
    (cond (eqb t 19) (piece_missing infos d l a b)
    (cond (eqb t 20) (bad_index infos l a b)
    (cond (eqb t 21) (link_missing infos l a)
    (cond (eqb t 22) (ends_cycle infos l a)
    (cond (eqb t 23) (bad_recipe infos l a)
    false)))))))))))))))))))))

-- The numbers that are looked at: the first from `lowest` on, `firsts` of them; the second from 0 on, `seconds` of them.
-- 6 has the count np, parameters count from 1 and the first is not looked at, codes go from bc to ec
unfoldable pub lowest : Layout → ℕ → ℕ
lowest l t = cond (eqb t 6) l.np (cond (eqb t 7) 2 (cond (eqb t 11 || leb 20 t) l.bc 0))

unfoldable pub firsts : Layout → ℕ → ℕ
firsts l t =
    cond (eqb t 1 || eqb t 5 || eqb t 6 || eqb t 10) 1
    (cond (eqb t 2 || eqb t 3 || eqb t 4) 2
    (cond (eqb t 7) (l.np - 1)
    (cond (eqb t 8) 4
    (cond (eqb t 9) 5
    (cond (leb 12 t && leb t 17) l.nl
    (cond (eqb t 19) l.ne
    (cond (eqb t 11 || leb 20 t && leb t 23) (chars l)
    0)))))))

unfoldable pub seconds : Layout → ℕ → ℕ → ℕ
seconds l t a =
    cond (eqb t 3 || eqb t 4) 40
    (cond (eqb t 9) (count_of l (table_number t a))
    (cond (eqb t 19 || eqb t 20) 4
    1))

-- the tables of a font are those of the file f, but for char_info and lig_kern, which may be any
pub record OwnTables (f : List ℕ) (font : Font) : Type 0 where
  pub header : font.header.now ≡ table_of f font.layout 0
  pub widths : font.widths.now ≡ table_of f font.layout 2
  pub heights : font.heights.now ≡ table_of f font.layout 3
  pub depths : font.depths.now ≡ table_of f font.layout 4
  pub italics : font.italics.now ≡ table_of f font.layout 5
  pub kerns : font.kerns.now ≡ table_of f font.layout 7
  pub recipes : font.recipes.now ≡ table_of f font.layout 8
  pub params : font.params.now ≡ table_of f font.layout 9
