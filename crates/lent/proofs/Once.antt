-- Determinacy: a contract that is an equation leaves one answer, and a part of a slice one place and one content.
use Prim.Native.Nat.{ℕ}
use mathlib.Core.Path.{◌≡◌, sym, ◌∙◌}
use mathlib.Core.List.{List}
use denote.Ref.{Bor}
use Rattle.lent.specs.Part.{PartOf}

pub once : {A : Type 0} {meaning r s : A} → r ≡ meaning → s ≡ meaning → r ≡ s
once p q = p ∙ sym q

-- two references to the same bytes, in the same place
pub record Same (r s : Bor (List ℕ)) : Type 0 where
  pub bytes : r.now ≡ s.now
  pub block : r.ref_ptr.0 ≡ s.ref_ptr.0
  pub place : r.ref_ptr.1 ≡ s.ref_ptr.1

pub part_once : {file r s : Bor (List ℕ)} {from : ℕ} {bytes : List ℕ} → PartOf file from bytes r → PartOf file from bytes s → Same r s
part_once p q =
    record { bytes = once p.holds q.holds; block = once p.block q.block; place = once p.place q.place }
