-- Fonts are the same if their parts are, and these if their fields are: functions by what they give.
use Prim.Native.Nat.{ℕ}
use mathlib.Core.Path.{◌≡◌}
use Rattle.font.specs.Font.{Characters, Program, Font}

pub same_characters : (K M : Characters) → ((x : ℕ) → K.present x ≡ M.present x) → ((x : ℕ) → K.width x ≡ M.width x)
    → ((x : ℕ) → K.height x ≡ M.height x) → ((x : ℕ) → K.depth x ≡ M.depth x) → ((x : ℕ) → K.italic x ≡ M.italic x)
    → K.widths ≡ M.widths → K.heights ≡ M.heights → K.depths ≡ M.depths → K.italics ≡ M.italics → K ≡ M
same_characters K M p w h d i ws hs ds is =
    λ z. record {
      present = λ x. p x z;
      width = λ x. w x z;
      height = λ x. h x z;
      depth = λ x. d x z;
      italic = λ x. i x z;
      widths = ws z;
      heights = hs z;
      depths = ds z;
      italics = is z;
    }

pub same_program : (P Q : Program) → P.boundary ≡ Q.boundary → ((x : ℕ) → P.tag x ≡ Q.tag x) → ((x : ℕ) → P.remainder x ≡ Q.remainder x)
    → P.recipes ≡ Q.recipes → P.steps ≡ Q.steps → P.least ≡ Q.least → P ≡ Q
same_program P Q b t r ws is n =
    λ z. record { boundary = b z; tag = λ x. t x z; remainder = λ x. r x z; recipes = ws z; steps = is z; least = n z }

pub same_font : (F G : Font) → F.header ≡ G.header → F.parameters ≡ G.parameters → F.characters ≡ G.characters → F.program ≡ G.program
    → F.unsafe ≡ G.unsafe → F ≡ G
same_font F G h p c q u = λ z. record { header = h z; parameters = p z; characters = c z; program = q z; unsafe = u z }
