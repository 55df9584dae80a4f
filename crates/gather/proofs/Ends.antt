-- What the outcomes in a room say of each pair of its program, and that two programs settle alike which agree at right codes.
use Prim.Native.Nat.{ℕ, zero, suc, ◌+◌, ◌*◌, ◌<◌, ◌≤◌}
use native.Mathlib.Omega.{arith}
use native.Mathlib.Decide.{ℕ_discrete}
use mathlib.Core.Path.{◌≡◌, sym, ap, ◌∙◌, subst}
use mathlib.Core.Logic.{◌⊎◌, inl, inr, ⊎_elim}
use mathlib.Core.Bool.{Bool, true, false}
use mathlib.Core.List.{List, [], ◌∷◌}
use lib.Dec.{eqb}
use lib.ListN.{length, get_or}
use Rattle.settle.specs.Settle.{Step, stop, give, left, right, both, Settles, none, done, on_left, on_right, on_both, Loops, classed, pick, step_in, step_of, key_of, left_of, right_of, st_of, val_of, Program, Settled}
use Rattle.gather.proofs.Lists.{step_nowhere}

-- a step's new right code is a byte
abbrev Byte : Step → Type 0
Byte stop = Unit {0}
Byte (give z) = Unit {0}
Byte (left z) = Unit {0}
Byte (right z) = z < 256
Byte (both z) = z < 256

byte_class : (t z : ℕ) → z < 256 → Byte (classed t z)
unfolding classed
byte_class zero z h = tt
byte_class (suc zero) z h = tt
byte_class (suc (suc zero)) z h = h
byte_class (suc (suc (suc zero))) z h = h
byte_class (suc (suc (suc (suc t)))) z h = tt

byte_in_lem : (es : List ℕ) (k : ℕ) → Byte (step_in es k)
unfolding step_in
byte_in_lem [] k = tt
byte_in_lem (e ∷ es) k = on (eqb (key_of e) k) (byte_in_lem es k)
  where
    on : (b : Bool) → Byte (step_in es k) → Byte (pick b (classed (st_of e) (val_of e)) (step_in es k))
    on true h = byte_class (st_of e) (val_of e) (omega arith)
    on false h = h

-- A room reads the key 256 * x + y, so that it says a file's program at bytes y only; from a byte, settling asks for no other right code
pub record Agree (S T : ℕ → ℕ → Step) : Type 0 where
  pub same : (x y : ℕ) → y < 256 → S x y ≡ T x y
  pub byte : (x y : ℕ) → y < 256 → Byte (S x y)

agree_back : {S T : ℕ → ℕ → Step} → Agree S T → Agree T S
agree_back a = record { same = λ x y h. sym (a.same x y h); byte = λ x y h. subst Byte (a.same x y h) (a.byte x y h) }

pub agree_in : (P : List ℕ) {T : ℕ → ℕ → Step} → ((x y : ℕ) → y < 256 → step_of P x y ≡ T x y) → Agree (step_of P) T
unfolding step_of
agree_in P f = record { same = f; byte = λ x y h. byte_in_lem P (x * 256 + y) }

pub agrees : {S T : ℕ → ℕ → Step} → Agree S T → {x y w : ℕ} → y < 256 → Settles S x y w → Settles T x y w
agrees a h (none {x} {y} e) = none (sym (a.same x y h) ∙ e)
agrees a h (done {x} {y} e) = done (sym (a.same x y h) ∙ e)
agrees a h (on_left {x} {y} e d) = on_left (sym (a.same x y h) ∙ e) (agrees a h d)
agrees a h (on_right {x} {y} e d) = on_right (sym (a.same x y h) ∙ e) (agrees a (subst Byte e (a.byte x y h)) d)
agrees a h (on_both {x} {y} e d f) = on_both (sym (a.same x y h) ∙ e) (agrees a (subst Byte e (a.byte x y h)) d) (agrees a h f)

pub agrees_loops : {S T : ℕ → ℕ → Step} → Agree S T → {x y : ℕ} → y < 256 → Loops S x y → Loops T x y
agrees_loops a h o w d = o w (agrees (agree_back a) h d)

-- a key has an entry or has none
among : (P : List ℕ) (k : ℕ) → ((i : ℕ) × (i < length P) × (key_of (get_or P i 0) ≡ k)) ⊎ ((i : ℕ) → i < length P → key_of (get_or P i 0) ≡ k → ⊥)
among [] k = inr (λ i h e. omega arith)
among (e ∷ es) k = elim (ℕ_discrete (key_of e) k) [
  | yes q ↦ inl (0, omega arith, q)
  | no q ↦ ⊎_elim (λ o. inl (suc o.0, omega (arith, o.1), o.2)) (λ f. inr (on q f)) (among es k)
]
  where
    on : (key_of e ≡ k → ⊥) → ((i : ℕ) → i < length es → key_of (get_or es i 0) ≡ k → ⊥) → (i : ℕ) → i < suc (length es) → key_of (get_or (e ∷ es) i 0) ≡ k → ⊥
    on q f zero h r = q r
    on q f (suc i) h r = f i (omega arith) r

-- the entries stand in order
pub in_order : {P : List ℕ} → Program P → (i j : ℕ) → i < length P → j ≤ i → key_of (get_or P j 0) ≤ key_of (get_or P i 0)
in_order {P} p i j h l = elim (ℕ_discrete j i) [
  | yes e ↦ omega (arith, ap (λ (t : ℕ). key_of (get_or P t 0)) e)
  | no n ↦ omega (arith, p.sorted j i (omega arith) h)
]

-- the room b has the outcomes of P
module _ {P b : List ℕ} (s : Settled P b) where
  pub same_key : (i : ℕ) → i < length P → key_of (get_or b i 0) ≡ key_of (get_or P i 0)
  same_key i h = ⊎_elim (λ o. omega (arith, o.1, o.3)) (λ o. omega (arith, o.1)) (s.entry i h)

  module _ (x y i : ℕ) (small : y < 256) (h : i < length P) (key : key_of (get_or P i 0) ≡ x * 256 + y) where
    at_pair : (Q : ℕ → ℕ → Type 0) → Q (left_of (get_or P i 0)) (right_of (get_or P i 0)) → Q x y
    at_pair Q q =
        let l : left_of (get_or P i 0) ≡ x = omega arith in
        let r : right_of (get_or P i 0) ≡ y = omega arith in
        subst (λ (v : ℕ). Q x v) r (subst (λ (u : ℕ). Q u (right_of (get_or P i 0))) l q)

    -- an entry of another state than 5 settles
    settles_at : (st_of (get_or b i 0) ≡ 5 → ⊥) → (w : ℕ) × Settles (step_of P) x y w
    settles_at n = ⊎_elim
        (λ o. (o.0, at_pair (λ u v. Settles (step_of P) u v o.0) o.2))
        (λ o. absurd (n (omega (arith, o.1))))
        (s.entry i h)

    -- an entry of state 5 loops
    pub loops_at : st_of (get_or b i 0) ≡ 5 → Loops (step_of P) x y
    loops_at e = ⊎_elim (λ o. absurd (omega (arith, o.1, o.3))) (λ o. at_pair (λ u v. Loops (step_of P) u v) o.0) (s.entry i h)

  -- a pair settles unless it has an entry of state 5
  pub settles_unless : (x y : ℕ) → y < 256 → ((i : ℕ) → i < length P → key_of (get_or P i 0) ≡ x * 256 + y → st_of (get_or b i 0) ≡ 5 → ⊥) → (w : ℕ) × Settles (step_of P) x y w
  unfolding step_of
  settles_unless x y h f = ⊎_elim
      (λ j. settles_at x y j.0 h j.1 j.2 (f j.0 j.1 j.2))
      (λ g. (y, none (step_nowhere P (x * 256 + y) g)))
      (among P (x * 256 + y))
