-- Statements told in turn, and what a loop makes of a function and of a list.
use Prim.Native.Nat.{ℕ, zero, suc, ◌-◌, ◌<◌}
use native.Mathlib.Decide.{ℕ_discrete, dec_lt}
use native.Mathlib.Omega.{arith}
use mathlib.Core.Path.{◌≡◌, refl, ap, ◌∙◌}
use mathlib.Core.Bool.{and-false, Bool, true, false, cond, ◌&&◌}
use mathlib.Core.List.{List, [], ◌∷◌, ◌++◌}
use lib.Dec.{ltb}
use lib.ListN.{length}
use borrow.Author.Tests.{lt-ltb, le-ltb, eq-eqb, ne_eqb}
use Rattle.lent.specs.Fold.{iterate, tabulate}
use Rattle.lent.proofs.Lists.{length_tabulate}
use Rattle.building.specs.Pick.{picked}
use Rattle.reading.specs.Heads.{Statement}
use Rattle.reading.specs.Read.{tells}
use Rattle.reading.proofs.Tells.{tells_append}
use Rattle.stated.specs.Stated.{in_turn}
use Rattle.font.specs.Told.{placed, at}

-- a state after each turn, and so after all
pub in_turn_lem : {A : Type 0} (tell : A → Statement → A) (S : ℕ → A) (g : ℕ → List Statement) (n : ℕ) → ((i : ℕ) → i < n → tells tell (S i) (g i) ≡ S (suc i)) → tells tell (S 0) (in_turn n g) ≡ S n
unfolding in_turn iterate tells
in_turn_lem tell S g zero h = refl
in_turn_lem tell S g (suc n) h =
    tells_append tell (S 0) (iterate (λ ss i. ss ++ g i) [] n) (g n)
    ∙ ap (λ a. tells tell a (g n)) (in_turn_lem tell S g n (λ i b. h i (omega arith)))
    ∙ h n (omega arith)

-- a word after the last
pub placed_next : (ws : List ℕ) (i w : ℕ) → length ws ≡ i → placed ws i w ≡ ws ++ (w ∷ [])
unfolding placed
placed_next ws i w e = let z : i - length ws ≡ 0 = omega arith in rw (le-ltb i (length ws) (omega arith), z)

pub placed_table : (g : ℕ → ℕ) (n : ℕ) → placed (tabulate g n) n (g n) ≡ tabulate g (suc n)
unfolding tabulate
placed_table g n = placed_next (tabulate g n) n (g n) (length_tabulate g n)

-- below n, and not n, is below n + 1
pub next : (x n : ℕ) → (x ≡ n → ⊥) → ltb x n ≡ ltb x (suc n)
next x n q = elim (dec_lt x n) [ yes h ↦ rw (lt-ltb x n h, lt-ltb x (suc n) (omega arith)) | no h ↦ rw (le-ltb x n (omega arith), le-ltb x (suc n) (omega arith)) ]

-- what a loop that stores under a test holds of x
pub at_loop : {A : Type 0} (p : ℕ → Bool) (v : ℕ → A) (g : ℕ → A) (n x : ℕ) → iterate (λ h c. cond (p c) (at h c (v c)) h) g n x ≡ cond (ltb x n && p x) (v x) (g x)
unfolding iterate at
at_loop p v g zero x = rw (le-ltb x 0 (omega arith))
at_loop {A} p v g (suc n) x = go (p n) refl (at_loop p v g n x)
  where
    h : ℕ → A
    h = iterate (λ h c. cond (p c) (at h c (v c)) h) g n

    go : (b : Bool) → p n ≡ b → h x ≡ cond (ltb x n && p x) (v x) (g x) → cond b (at h n (v n)) h x ≡ cond (ltb x (suc n) && p x) (v x) (g x)
    go true e i =
        elim (ℕ_discrete x n) [
          | yes q ↦ rw (eq-eqb x n q, lt-ltb x (suc n) (omega arith), ap p q ∙ e, q)
          | no q ↦ rw (ne_eqb x n q) (i ∙ rw (next x n q))
        ]
    go false e i =
        elim (ℕ_discrete x n) [
          | yes q ↦ i ∙ rw (ap p q ∙ e, and-false (ltb x n), and-false (ltb x (suc n)))
          | no q ↦ i ∙ rw (next x n q)
        ]

-- and of a list that grows under a test
pub grow_loop : {A : Type 0} (p q : ℕ → Bool) (g : ℕ → A) (n : ℕ) → ((i : ℕ) → i < n → p i ≡ q i) → iterate (λ xs i. cond (p i) (xs ++ (g i ∷ [])) xs) [] n ≡ picked q g n
unfolding iterate picked
grow_loop p q g zero e = refl
grow_loop p q g (suc n) e = rw (e n (omega arith), grow_loop p q g n (λ i h. e i (omega arith)))

-- one list of statements after another
pub and_then : {A : Type 0} (tell : A → Statement → A) (a : A) {b c : A} (ss us : List Statement) → tells tell a ss ≡ b → tells tell b us ≡ c → tells tell a (ss ++ us) ≡ c
and_then tell a ss us x y = tells_append tell a ss us ∙ ap (λ z. tells tell z us) x ∙ y
