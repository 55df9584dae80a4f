-- The same reading byte by byte, with no tree: what the loop of the code follows.
use Rattle.std.specs.Prelude.{ℕ, zero, suc, Bool, true, false, cond, List, [], ◌∷◌}
use Rattle.forest.specs.Forest.{Mark, blank, line, left, right, other, mark_of, onto, is_comment}
use Rattle.reading.specs.Heads.{Statement}
use Rattle.reading.specs.Read.{Reading, Response, refuses, enter, leave, concluded}

-- how far a text is read: what was made, how many groups are open, and in a head also whether a line starts and its bytes, the last first
pub data Going (A : Type 0) : Type 0 where
  between : Reading A → ℕ → Going A
  heading : Reading A → ℕ → Bool → List ℕ → Going A
  skipping : Reading A → ℕ → ℕ → Going A
  bad : Going A

module _ {A : Type 0} (tell : A → Statement → A) where
  abbrev pub passed : Reading A → List ℕ → Reading A
  passed r h = leave tell (enter tell r h)

  unfoldable pub go : Going A → Mark → ℕ → Going A
  go (between r d) blank b = between r d
  go (between r d) line b = between r d
  go (between r d) left b = heading r d false []
  go (between r zero) right b = bad
  go (between r (suc d)) right b = between (leave tell r) d
  go (between r d) other b = bad
  go (heading r d starts h) blank b = heading r d starts (cond starts h (b ∷ h))
  go (heading r d starts h) line b = heading r d true (cond starts h (32 ∷ h))
  go (heading r d starts h) other b = heading r d false (b ∷ h)
  go (heading r d starts h) left b =
      cond (is_comment (onto h [])) (skipping (passed r (onto h [])) d 1) (heading (enter tell r (onto h [])) (suc d) false [])
  go (heading r d starts h) right b = between (passed r (onto h [])) d
  go (skipping r d n) left b = skipping r d (suc n)
  go (skipping r d zero) right b = between r d
  go (skipping r d (suc n)) right b = skipping r d n
  go (skipping r d n) blank b = skipping r d n
  go (skipping r d n) line b = skipping r d n
  go (skipping r d n) other b = skipping r d n
  go bad k b = bad

  unfoldable pub goes : Going A → List ℕ → Going A
  goes g [] = g
  goes g (b ∷ s) = goes (go g (mark_of b) b) s

  unfoldable pub ended : Going A → Response A
  ended (between r zero) = concluded tell r
  ended (between r (suc d)) = refuses 19
  ended (heading r d starts h) = refuses 19
  ended (skipping r d n) = refuses 19
  ended bad = refuses 19
