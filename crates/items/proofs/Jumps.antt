-- The laws of a loop that jumps: what is left to print, part by part.
use Prim.Native.Nat.{ℕ, zero, suc, ◌+◌, ◌≤◌, ◌<◌}
use native.Mathlib.Omega.{arith}
use mathlib.Core.Path.{◌≡◌}
use mathlib.Core.Bool.{Bool, true, false}
use lib.ListN.{length}
use borrow.Author.Tests.{lt-ltb, le-ltb}
use Rattle.lent.specs.declared.Pen.{Pen}
use Rattle.items.specs.Items.{Items, empty, ◌▸◌, choose, jumps, Printed}
use Rattle.items.proofs.Laws.{after, no_item, item_then, item_else, stuck}

-- whatever writes what is left, t from p, has written the whole, T from p₀
pub record Left (p₀ : Pen) (v : ℕ) (T : Items) (p : Pen) (t : Items) : Type 0 where
  pub goes : (q : Pen) → Printed p v t q → Printed p₀ v T q

left_all : {p : Pen} {v : ℕ} {T : Items} → Left p v T p T
left_all = record { goes = λ q h. h }

-- one part more
left_more : {p₀ p q : Pen} {v : ℕ} {T a t u : Items} {b : Bool} → Left p₀ v T p (choose b (a ▸ t) u) → b ≡ true → Printed p v a q → Left p₀ v T q t
left_more w e h = record { goes = λ s g. w.goes s (item_then e (after g h)) }

left_none : {p₀ p : Pen} {v : ℕ} {T t : Items} {b : Bool} → Left p₀ v T p (choose b t empty) → b ≡ false → Printed p₀ v T p
left_none {p = p} w e = w.goes p (item_else e no_item)

left_done : {p₀ p : Pen} {v : ℕ} {T : Items} → Left p₀ v T p empty → Printed p₀ v T p
left_done {p = p} w = w.goes p no_item

-- of the parts from i₀ on, those from i on are left
module _ (part : ℕ → Items) (next : ℕ → ℕ) (n v i₀ : ℕ) (p₀ : Pen) where
  pub record Rest (p : Pen) (i : ℕ) : Type 0 where
    pub fuel : ℕ
    pub enough : n ≤ i + fuel
    pub left : Left p₀ v (jumps part next n n i₀) p (jumps part next n fuel i)

  pub rest_all : Rest p₀ i₀
  rest_all = record { fuel = n; enough = omega arith; left = left_all }

  -- one part more, from which it goes forwards
  pub rest_more : {p q : Pen} {i e : ℕ} → Rest p i → i < n → e ≡ next i → i < e → Printed p v (part i) q → Rest q e
  unfolding jumps
  rest_more {p} {q} {i} {e} r h d f g = go r.fuel r.enough r.left
    where
      go : (k : ℕ) → n ≤ i + k → Left p₀ v (jumps part next n n i₀) p (jumps part next n k i) → Rest q e
      go zero b w = absurd (omega arith)
      go (suc k) b w = record { fuel = k; enough = omega arith; left = rw d (left_more w (lt-ltb i n h) g) }

  pub rest_none : {p : Pen} {i : ℕ} → Rest p i → n ≤ i → Printed p₀ v (jumps part next n n i₀) p
  unfolding jumps
  rest_none {p} {i} r h = go r.fuel r.left
    where
      go : (k : ℕ) → Left p₀ v (jumps part next n n i₀) p (jumps part next n k i) → Printed p₀ v (jumps part next n n i₀) p
      go zero w = left_done w
      go (suc k) w = left_none w (le-ltb i n h)

  -- what did not fit stays so
  pub rest_stuck : {p : Pen} {i : ℕ} → Rest p i → p.to ≡ length p.out.now + 1 → Printed p₀ v (jumps part next n n i₀) p
  rest_stuck r e = r.left.goes _ (stuck e)
