-- A part of a lent slice, in its own place.
use Rattle.std.specs.Prelude.{ℕ, ◌+◌, min, ◌≡◌, List, length}
use Rattle.std.specs.Borrow.{Bor}

-- r holds `bytes`, and lies where s does, `from` bytes on or at the end of s
pub record PartOf (s : Bor (List ℕ)) (from : ℕ) (bytes : List ℕ) (r : Bor (List ℕ)) : Type 0 where
  pub holds : r.now ≡ bytes
  pub block : r.ref_ptr.0 ≡ s.ref_ptr.0
  pub place : r.ref_ptr.1 ≡ s.ref_ptr.1 + min from (length s.now)
