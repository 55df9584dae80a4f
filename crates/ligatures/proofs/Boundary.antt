-- The right boundary character as an Option: printed where it is there, and nothing where it is not.
use Rattle.std.proofs.Common.{◌≡◌, refl, ℕ, ◌+◌, ◌*◌, ◌<◌, Bool, true, false, cond, List, [], ◌∷◌, eqb, get_or, arith}
use Rattle.lent.specs.declared.Pen.{Pen}
use Rattle.lent.specs.Write.{codes}
use Rattle.tfm.specs.Characters.{byte_of}
use Rattle.program.specs.Steps.{boundary_char}
use Rattle.items.specs.Items.{Items, code, empty, leaf, choose, Printed}
use Rattle.items.proofs.Laws.{no_item, item_then, item_else}
use Rattle.ligatures.specs.Ligatures.{boundary_item}

one_of : (f : ℕ → Items) (b : Bool) (x c : ℕ) {p q : Pen} → c < 256 → c ≡ cond b x 256 → Printed p 0 (f c) q → Printed p 0 (choose b (f x) empty) q
one_of f true x c lt e h = item_then refl (rw (← e) h)
one_of f false x c lt e h = absurd (omega (arith, e))

none_of : (b : Bool) (x : ℕ) → x < 256 → 256 ≡ cond b x 256 → b ≡ false
none_of true x lt e = absurd (omega (arith, e))
none_of false x lt e = refl

pub one_boundary : (letters : Bool) (s : List ℕ) {c : ℕ} {p q : Pen} → c < 256 → c ≡ boundary_char s
    → Printed p 0 (leaf (codes "BOUNDARYCHAR") (code letters c ∷ [])) q → Printed p 0 (boundary_item letters s) q
unfolding boundary_char boundary_item
one_boundary letters s lt e =
    one_of (λ k. leaf (codes "BOUNDARYCHAR") (code letters k ∷ [])) (eqb (byte_of s 0 0) 255) (byte_of s 0 1) _ lt e

pub no_boundary : (letters : Bool) (s : List ℕ) {p : Pen} → ((k : ℕ) → get_or s k 0 < 256) → 256 ≡ boundary_char s → Printed p 0 (boundary_item letters s) p
unfolding boundary_char boundary_item byte_of
no_boundary letters s bytes e = item_else (none_of _ _ (bytes (4 * 0 + 1)) e) no_item
