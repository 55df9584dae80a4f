-- A ligature is a leaf under its name.
use Rattle.std.proofs.Common.{refl, ℕ, Bool, true, false, cond, List, [], ◌∷◌, eqb}
use Rattle.lent.specs.declared.Pen.{Pen}
use Rattle.items.specs.Items.{Word, Items, code, leaf, choose, Printed}
use Rattle.items.proofs.Laws.{item_then, item_else}
use Rattle.ligatures.specs.Ligatures.{ligature_name, ligature_item}

-- a leaf under one of two names is one of two leaves
by_name : {p q : Pen} {v : ℕ} {m n : List ℕ} {ws : List Word} {t : Items} (b : Bool) → (Printed p v (leaf n ws) q → Printed p v t q)
    → Printed p v (leaf (cond b m n) ws) q → Printed p v (choose b (leaf m ws) t) q
by_name true f h = item_then refl h
by_name false f h = item_else refl (f h)

pub a_ligature : (letters : Bool) (op y z : ℕ) {p q : Pen} {v : ℕ} → Printed p v (leaf (ligature_name op) (code letters y ∷ code letters z ∷ [])) q
    → Printed p v (ligature_item letters op y z) q
unfolding ligature_item
a_ligature letters op y z =
    by_name (eqb op 1)
    (by_name (eqb op 2) (by_name (eqb op 3) (by_name (eqb op 5) (by_name (eqb op 6) (by_name (eqb op 7) (by_name (eqb op 11) (λ h. h)))))))
