-- Branches that follow a definition's tests: `search branches` turns each test into the fact that the branch has.
use Prim.Native.Nat.{ℕ}
use mathlib.Core.Path.{◌≡◌}
use mathlib.Core.Bool.{Bool}
use lib.Dec.{ltb}
use borrow.Author.Rules.{rules}
use borrow.Author.Tests.{lt-ltb, le-ltb, le-leb, lt-leb}

-- a test that a callee made, and of whose answer r the branch knows the value v
pub told : (a b : ℕ) (r v : Bool) → r ≡ ltb a b → r ≡ v → ltb a b ≡ v
told a b r v e h = cc

pub ruleset branches = (rules, told, lt-ltb, le-ltb, le-leb, lt-leb)
