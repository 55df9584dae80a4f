-- Tables of distinct words: those of dimensions in ascending order, those of kerns in the order of their first use.
use Rattle.std.specs.Prelude.{ℕ, suc, ◌+◌, ◌%◌, Bool, cond, List, [], ◌∷◌, ◌++◌, ltb, eqb, leb, length}
use Rattle.font.specs.Font.{Instruction}

-- the place of a word in a list, or the list's length
unfoldable pub place : List ℕ → ℕ → ℕ
place [] w = 0
place (v ∷ vs) w = cond (eqb v w) 0 (suc (place vs w))

-- §75: a word is put in its place, unless it is there already
unfoldable pub insert : (ℕ → ℕ → Bool) → List ℕ → ℕ → List ℕ
insert before [] w = w ∷ []
insert before (v ∷ vs) w = cond (eqb v w) (v ∷ vs) (cond (before w v) (w ∷ v ∷ vs) (v ∷ insert before vs w))

-- the distinct words of a list, in an order
unfoldable pub distinct : (ℕ → ℕ → Bool) → List ℕ → List ℕ
distinct before [] = []
distinct before (w ∷ ws) = insert before (distinct before ws) w

-- words are signed: the negative ones, from 2 ^ 31 on, come first
unfoldable pub signed_less : ℕ → ℕ → Bool
signed_less v w = ltb ((v + 2147483648) % 4294967296) ((w + 2147483648) % 4294967296)

abbrev pub greater : ℕ → ℕ → Bool
greater v w = ltb w v

-- §102: a kern's word joins the table unless it is there
unfoldable pub kern_joined : List ℕ → ℕ → List ℕ
kern_joined ks w = cond (ltb (place ks w) (length ks)) ks (ks ++ (w ∷ []))

unfoldable pub kerns_from : List ℕ → List Instruction → List ℕ
kerns_from ks [] = ks
kerns_from ks (i ∷ is) = kerns_from (cond (leb 128 i.op) (kern_joined ks i.value) ks) is
