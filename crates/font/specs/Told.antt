-- What a font becomes as statements are told, one after another: PLtoTF §70 to §106. A font under way is a draft.
use Rattle.std.specs.Prelude.{ℕ, ◌+◌, ◌-◌, ◌*◌, max, Bool, true, false, cond, List, [], ◌∷◌, ◌++◌, ltb, eqb, length, take, set, replicate}
use Rattle.lent.specs.Write.{codes}
use Rattle.reading.specs.Heads.{Statement, check_sum, design_size, scheme, family, face, header_word, parameter, boundary, begins, label, kern, ligature, stop, skip, width, height, depth, italic, larger, recipe, described}
use Rattle.font.specs.Font.{FontHeader, Characters, Instruction, Program, Font}

-- armed: what was told last is a step, which STOP or SKIP may follow
pub record Draft : Type 0 where
  pub font : Font
  pub armed : Bool

abbrev pub unspecified : List ℕ
unspecified = codes "UNSPECIFIED"

-- §70, §74: at first
unfoldable pub blank : Font
blank =
    record {
      header = record { check_sum = 0; checked = false; design_size = 10485760; scheme = unspecified; family = unspecified; face = 0; further = [] };
      parameters = [];
      characters =
          record {
            present = λ c. false;
            width = λ c. 0;
            height = λ c. 0;
            depth = λ c. 0;
            italic = λ c. 0;
            widths = [];
            heights = [];
            depths = [];
            italics = [];
          };
      program = record { boundary = 256; tag = λ c. 0; remainder = λ c. 0; recipes = []; steps = []; least = 0 };
      unsafe = false;
    }

-- a font with a part of it anew
abbrev pub with_header : Font → FontHeader → Font
with_header F h = record { header = h; parameters = F.parameters; characters = F.characters; program = F.program; unsafe = F.unsafe }

abbrev pub with_characters : Font → Characters → Font
with_characters F k = record { header = F.header; parameters = F.parameters; characters = k; program = F.program; unsafe = F.unsafe }

abbrev pub with_program : Font → Program → Font
with_program F p = record { header = F.header; parameters = F.parameters; characters = F.characters; program = p; unsafe = F.unsafe }

-- and with some of its fields anew
unfoldable pub headed : Font → ℕ → Bool → ℕ → List ℕ → List ℕ → ℕ → List ℕ → Font
headed F sum given size first second third more =
    with_header F (record { check_sum = sum; checked = given; design_size = size; scheme = first; family = second; face = third; further = more })

unfoldable pub measured : Font → List ℕ → Font
measured F ws = record { header = F.header; parameters = ws; characters = F.characters; program = F.program; unsafe = F.unsafe }

unfoldable pub edged : Font → ℕ → Font
edged F c =
    with_program F
    (record { boundary = c; tag = F.program.tag; remainder = F.program.remainder; recipes = F.program.recipes; steps = F.program.steps; least = F.program.least })

unfoldable pub tagged : Font → (ℕ → ℕ) → (ℕ → ℕ) → List ℕ → Font
tagged F t r ws =
    with_program F
    (record { boundary = F.program.boundary; tag = t; remainder = r; recipes = ws; steps = F.program.steps; least = F.program.least })

unfoldable pub programmed : Font → (ℕ → ℕ) → (ℕ → ℕ) → List Instruction → ℕ → Font
programmed F t r is n =
    with_program F
    (record { boundary = F.program.boundary; tag = t; remainder = r; recipes = F.program.recipes; steps = is; least = n })

unfoldable pub widened : Font → (ℕ → Bool) → (ℕ → ℕ) → List ℕ → Font
widened F p g ws =
    with_characters F
    (record {
      present = p;
      width = g;
      height = F.characters.height;
      depth = F.characters.depth;
      italic = F.characters.italic;
      widths = ws;
      heights = F.characters.heights;
      depths = F.characters.depths;
      italics = F.characters.italics;
    })

unfoldable pub heightened : Font → (ℕ → ℕ) → List ℕ → Font
heightened F g ws =
    with_characters F
    (record {
      present = F.characters.present;
      width = F.characters.width;
      height = g;
      depth = F.characters.depth;
      italic = F.characters.italic;
      widths = F.characters.widths;
      heights = ws;
      depths = F.characters.depths;
      italics = F.characters.italics;
    })

unfoldable pub deepened : Font → (ℕ → ℕ) → List ℕ → Font
deepened F g ws =
    with_characters F
    (record {
      present = F.characters.present;
      width = F.characters.width;
      height = F.characters.height;
      depth = g;
      italic = F.characters.italic;
      widths = F.characters.widths;
      heights = F.characters.heights;
      depths = ws;
      italics = F.characters.italics;
    })

unfoldable pub slanted : Font → (ℕ → ℕ) → List ℕ → Font
slanted F g ws =
    with_characters F
    (record {
      present = F.characters.present;
      width = F.characters.width;
      height = F.characters.height;
      depth = F.characters.depth;
      italic = g;
      widths = F.characters.widths;
      heights = F.characters.heights;
      depths = F.characters.depths;
      italics = ws;
    })

-- word i of a list, which grows by zeros
unfoldable pub placed : List ℕ → ℕ → ℕ → List ℕ
placed ws i w = cond (ltb i (length ws)) (set ws i w) (ws ++ (replicate (i - length ws) 0 ++ (w ∷ [])))

-- what holds of code c, as of now
unfoldable pub at : {A : Type 0} → (ℕ → A) → ℕ → A → ℕ → A
at g c v x = cond (eqb x c) v (g x)

-- §75: a length of 0 joins no table but that of widths
unfoldable pub length_joined : List ℕ → ℕ → List ℕ
length_joined ws w = cond (eqb w 0) ws (ws ++ (w ∷ []))

-- §97: a label stands before the next step
unfoldable pub labelled : Font → ℕ → Font
labelled F c =
    programmed F (at F.program.tag c 1) (at F.program.remainder c (length F.program.steps)) F.program.steps
    (max F.program.least (length F.program.steps + 1))

-- §100, §102
unfoldable pub stepped : Font → Instruction → Draft
stepped F i =
    record { font = programmed F F.program.tag F.program.remainder (F.program.steps ++ (i ∷ [])) F.program.least; armed = true }

-- the last step's skip
unfoldable pub skips : List Instruction → ℕ → List Instruction
skips [] n = []
skips (i ∷ []) n = record { skip = n; right = i.right; op = i.op; value = i.value } ∷ []
skips (i ∷ j ∷ is) n = i ∷ skips (j ∷ is) n

-- §98, §99: STOP and SKIP say nothing unless a step is before them
unfoldable pub ended : Draft → ℕ → ℕ → Draft
ended D n words =
    record {
      font =
          programmed D.font D.font.program.tag D.font.program.remainder
          (cond D.armed (skips D.font.program.steps n) D.font.program.steps) (cond D.armed words D.font.program.least);
      armed = false;
    }

abbrev pub header : Font → (ℕ → Bool → ℕ → List ℕ → List ℕ → ℕ → List ℕ → Font) → Font
header F next =
    next F.header.check_sum F.header.checked F.header.design_size F.header.scheme F.header.family F.header.face F.header.further

-- §103: a character without CHARWD has the width 0
unfoldable pub legitimate : Font → ℕ → Font
legitimate F c =
    cond (F.characters.present c) F
    (widened F (at F.characters.present c true) (at F.characters.width c 0) (F.characters.widths ++ (0 ∷ [])))

-- §96, §105: the tag of a code, the last one stands
unfoldable pub pieced : Font → ℕ → ℕ → Font
pieced F c w =
    tagged F (at F.program.tag c 3) (at F.program.remainder c (length F.program.recipes)) (F.program.recipes ++ (w ∷ []))

-- §87: of a string, as much is kept as its room holds
unfoldable pub told : Draft → Statement → Draft
told D (check_sum w) = record { font = header D.font (λ a b c d e f g. headed D.font w true c d e f g); armed = D.armed }
told D (design_size w) = record { font = header D.font (λ a b c d e f g. headed D.font a b w d e f g); armed = D.armed }
told D (scheme s) = record { font = header D.font (λ a b c d e f g. headed D.font a b c (take 39 s) e f g); armed = D.armed }
told D (family s) = record { font = header D.font (λ a b c d e f g. headed D.font a b c d (take 19 s) f g); armed = D.armed }
told D (face n) = record { font = header D.font (λ a b c d e f g. headed D.font a b c d e n g); armed = D.armed }
told D (header_word i w) = record { font = header D.font (λ a b c d e f g. headed D.font a b c d e f (placed g (i - 18) w)); armed = D.armed }
told D (parameter i w) = record { font = measured D.font (placed D.font.parameters (i - 1) w); armed = D.armed }
told D (boundary c) = record { font = edged D.font c; armed = D.armed }
told D begins = record { font = D.font; armed = false }
told D (label c) = record { font = labelled D.font c; armed = false }
told D (kern y w) = stepped D.font (record { skip = 0; right = y; op = 128; value = w })
told D (ligature op y z) = stepped D.font (record { skip = 0; right = y; op = op; value = z })
told D stop = ended D 128 D.font.program.least
told D (skip n) = ended D n (max D.font.program.least (length D.font.program.steps + n + 1))
told D (width c w) =
    record { font = widened D.font (at D.font.characters.present c true) (at D.font.characters.width c w) (D.font.characters.widths ++ (w ∷ [])); armed = D.armed }
told D (height c w) =
    record { font = heightened D.font (at D.font.characters.height c w) (length_joined D.font.characters.heights w); armed = D.armed }
told D (depth c w) = record { font = deepened D.font (at D.font.characters.depth c w) (length_joined D.font.characters.depths w); armed = D.armed }
told D (italic c w) = record { font = slanted D.font (at D.font.characters.italic c w) (length_joined D.font.characters.italics w); armed = D.armed }
told D (larger c d) =
    record { font = tagged D.font (at D.font.program.tag c 2) (at D.font.program.remainder c d) D.font.program.recipes; armed = D.armed }
told D (recipe c t m b r) = record { font = pieced D.font c (t * 16777216 + m * 65536 + b * 256 + r); armed = D.armed }
told D (described c) = record { font = legitimate D.font c; armed = D.armed }
