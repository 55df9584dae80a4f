-- Whatever the text, the file that is built of it is accepted.
use Prim.Native.Nat.{ℕ}
use mathlib.Core.Path.{◌≡◌, refl, sym, ap, ◌∙◌, subst}
use mathlib.Core.Bool.{Bool, true, false, true≢false}
use mathlib.Core.List.{List, []}
use Rattle.tfm.specs.Sizes.{layout_of, number_of}
use Rattle.reading.specs.Read.{Response, accepts, refuses}
use Rattle.font.specs.Font.{Font}
use Rattle.font.specs.Read.{read_font}
use Rattle.building.specs.Written.{too_much, written}
use Rattle.building.specs.Repaired.{repaired}
use Rattle.building.specs.Build.{file_for, file_of, build}
use Rattle.building.proofs.Accepts.{fits, written_accepted}

-- what an answer holds, and whether it is a file
abbrev pub file_in : Response (List ℕ) → List ℕ
file_in (accepts g) = g
file_in (refuses n) = []

abbrev pub is_file : Response (List ℕ) → Bool
is_file (accepts g) = true
is_file (refuses n) = false

-- a file is written only where 21 does not refuse
pub record Filed (F : Font) (g : List ℕ) : Type 0 where
  pub few : too_much F ≡ false
  pub same : written F ≡ g

pub filed : (F : Font) (g : List ℕ) → file_for F ≡ accepts g → Filed F g
unfolding file_for
filed F g e = go (too_much F) refl
  where
    go : (b : Bool) → too_much F ≡ b → Filed F g
    go true q = absurd (true≢false (sym (ap is_file e) ∙ rw q))
    go false q = record { few = q; same = sym (rw q) ∙ ap file_in e }

pub build_accepted : (text g : List ℕ) → build text ≡ accepts g → number_of g (layout_of g) 0 ≡ 0
unfolding build file_of
build_accepted text g e = go (read_font text) e
  where
    go : (a : Response Font) → file_of a ≡ accepts g → number_of g (layout_of g) 0 ≡ 0
    go (accepts F) q =
        let h = filed (repaired F) g q in
        subst (λ (x : List ℕ). number_of x (layout_of x) 0 ≡ 0) h.same (written_accepted (repaired F) (fits (repaired F) h.few))
    go (refuses n) q = absurd (true≢false (sym (ap is_file q)))
