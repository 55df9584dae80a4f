-- One ligature program follows another: its steps stand elsewhere, but from each live step it does the same for every right code.
use Prim.Native.Nat.{ℕ, zero, suc, ◌+◌, ◌<◌, ◌≤◌}
use native.Mathlib.Omega.{arith}
use native.Mathlib.Decide.{dec_lt}
use mathlib.Core.Path.{◌≡◌, refl}
use mathlib.Core.Bool.{Bool, true, false, cond}
use mathlib.Core.List.{List}
use borrow.Author.Tests.{lt-ltb, le-ltb}
use Rattle.tfm.specs.Characters.{byte_of}
use Rattle.program.specs.Steps.{next_of}
use Rattle.settle.specs.Settle.{Step}
use Rattle.gather.specs.Steps.{hit, next, step_from, step_for, act_of, act_at}
use Rattle.gather.proofs.Walks.{past, same_steps}

-- what step i of the program s does
abbrev pub doing : List ℕ → ℕ → Step
doing s i = act_of (byte_of s i 2) (byte_of s i 1) (byte_of s i 3)

-- the live steps of s, of which there are nl, stand in s' at other places, and go on there to the same steps
pub record Follows (s s' : List ℕ) (nl nl' : ℕ) (live : ℕ → Bool) (at : ℕ → ℕ) : Type 0 where
  pub below : (i : ℕ) → live i ≡ true → i < nl
  pub there : (i : ℕ) → live i ≡ true → at i < nl'
  pub hits : (i y : ℕ) → live i ≡ true → hit s' (at i) y ≡ hit s i y
  pub acts : (i : ℕ) → live i ≡ true → doing s' (at i) ≡ doing s i
  pub ends : (i : ℕ) → live i ≡ true → 128 ≤ byte_of s i 0 → 128 ≤ byte_of s' (at i) 0
  pub goes : (i : ℕ) → live i ≡ true → byte_of s i 0 < 128 → byte_of s' (at i) 0 < 128
  pub lives : (i : ℕ) → live i ≡ true → byte_of s i 0 < 128 → live (next_of s i) ≡ true
  pub leads : (i : ℕ) → live i ≡ true → byte_of s i 0 < 128 → next_of s' (at i) ≡ at (next_of s i)

module _ {s s' : List ℕ} {nl nl' : ℕ} {live : ℕ → Bool} {at : ℕ → ℕ} (F : Follows s s' nl nl' live at) (y : ℕ) where
  -- both walks find a step, at places that answer, or both find none
  pub data Found : ℕ → ℕ → Type 0 where
    none : Found nl nl'
    some : (j : ℕ) → live j ≡ true → hit s j y ≡ true → Found j (at j)

  next_on : (t : List ℕ) (n i : ℕ) → byte_of t i 0 < 128 → next_of t i < n → next t n i ≡ next_of t i
  unfolding next
  next_on t n i b h = rw (lt-ltb (byte_of t i 0) 128 b) (omega arith)

  next_end : (t : List ℕ) (n i : ℕ) → 128 ≤ byte_of t i 0 → next t n i ≡ n
  unfolding next
  next_end t n i b = rw (le-ltb (byte_of t i 0) 128 b)

  no_more : (t : List ℕ) (n f i : ℕ) → 128 ≤ byte_of t i 0 → step_from t n f (next t n i) y ≡ n
  no_more t n f i b = rw (next_end t n i b) (past t n f n y (omega arith))

  found : (f i : ℕ) → live i ≡ true → Found (step_from s nl f i y) (step_from s' nl' f (at i) y)
  unfolding step_from
  found zero i v = none
  found (suc f) i v =
      rw (lt-ltb i nl (F.below i v), lt-ltb (at i) nl' (F.there i v), F.hits i y v) (go (found f) (hit s i y) refl)
    where
      Later : Type 0
      Later = (k : ℕ) → live k ≡ true → Found (step_from s nl f k y) (step_from s' nl' f (at k) y)

      more : Later → Dec (byte_of s i 0 < 128) → Found (step_from s nl f (next s nl i) y) (step_from s' nl' f (next s' nl' (at i)) y)
      more later (yes b) =
          let w = F.lives i v b in
          let e = next_on s nl i b (F.below (next_of s i) w) in
          let q : next_of s' (at i) < nl' = rw (F.leads i v b) (F.there (next_of s i) w) in
          let e' = next_on s' nl' (at i) (F.goes i v b) q in
          rw (e, e', F.leads i v b) (later (next_of s i) w)
      more later (no b) = rw (no_more s nl f i (omega arith), no_more s' nl' f (at i) (F.ends i v (omega arith))) none

      go : Later → (b : Bool) → hit s i y ≡ b → Found (cond b i (step_from s nl f (next s nl i) y)) (cond b (at i) (step_from s' nl' f (next s' nl' (at i)) y))
      go later true q = some i v q
      go later false q = more later (dec_lt (byte_of s i 0) 128)

  same_found : {j j' : ℕ} → Found j j' → act_at s' nl' j' ≡ act_at s nl j
  unfolding act_at
  same_found none = rw (le-ltb nl nl (omega arith), le-ltb nl' nl' (omega arith))
  same_found (some j v h) = rw (lt-ltb j nl (F.below j v), lt-ltb (at j) nl' (F.there j v)) (F.acts j v)

  pub both_find : (i : ℕ) → live i ≡ true → Found (step_for s nl i y) (step_for s' nl' (at i) y)
  both_find i v =
      rw (same_steps s nl nl (nl + nl') i y (omega arith) (omega arith), same_steps s' nl' nl' (nl + nl') (at i) y (omega arith) (omega arith))
      (found (nl + nl') i v)

  -- from a live step both programs do the same
  pub same_act : (i : ℕ) → live i ≡ true → act_at s' nl' (step_for s' nl' (at i) y) ≡ act_at s nl (step_for s nl i y)
  same_act i v = same_found (both_find i v)
