-- Cycles of links: from some codes a link leads on to another code.
use Rattle.std.specs.Prelude.{ℕ, zero, suc, ◌<◌, ◌≡◌, Bool, true, ◌&&◌, ◌||◌, ltb, eqb}

-- from here the links lead to the top, through codes below it
pub data Leads (links : ℕ → Bool) (larger : ℕ → ℕ) (top : ℕ) : ℕ → Type 0 where
  there : Leads links larger top top
  on : {r : ℕ} → r < top → links r ≡ true → Leads links larger top (larger r) → Leads links larger top r

-- c is the largest code of a cycle of links
pub record LargestOfCycle (links : ℕ → Bool) (larger : ℕ → ℕ) (c : ℕ) : Type 0 where
  pub linked : links c ≡ true
  pub back : Leads links larger c (larger c)

-- the walk that finds it, of at most n links: it goes on from codes below the top that link
abbrev pub goes : (ℕ → Bool) → ℕ → ℕ → Bool
goes links top r = ltb r top && links r

unfoldable pub reaches : (ℕ → Bool) → (ℕ → ℕ) → ℕ → ℕ → ℕ → Bool
reaches links larger top zero r = eqb r top
reaches links larger top (suc n) r = eqb r top || goes links top r && reaches links larger top n (larger r)
