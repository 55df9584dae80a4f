-- A sentence, byte by byte.
use Rattle.std.proofs.Common.{◌≡◌, refl, sym, ap, subst, ◌∙◌, ℕ, ◌+◌, ◌<◌, List, [], ◌∷◌, ◌++◌, length, take}
use lib.ListN.{get_or}
use Rattle.std.proofs.lemmas.List.{take_more}
use Rattle.lent.specs.Write.{Pen as Place, run}
use Rattle.lent.specs.Pens.{Written, place_of}
use Rattle.lent.specs.declared.Pen.{Pen}
use Rattle.words.specs.Words.{spelled, filled}

module _ (first second : ℕ) where
  with_last : (p : Place) (s : List ℕ) (b : ℕ) → run p (filled first second (s ++ b ∷ [])) ≡ run (run p (filled first second s)) (spelled first second b)
  unfolding run filled
  with_last p [] b = refl
  with_last p (x ∷ s) b = with_last (run p (spelled first second x)) s b

  pub nothing : {p : Pen} → Written p (filled first second []) p
  unfolding run filled
  nothing = record { same = refl; wrote = record { is = refl } }

  -- one byte more
  pub byte_more : (s : List ℕ) {p q r : Pen} {i : ℕ} → Written q (spelled first second (get_or s i 0)) r → Written p (filled first second (take i s)) q
      → i < length s → Written p (filled first second (take (i + 1) s)) r
  byte_more s {p} {q} {r} {i} e h l =
      subst (λ t. Written p (filled first second t) r) (sym (take_more s i 0 l))
      (record {
        same = e.same ∙ h.same;
        wrote = record { is = e.wrote.is ∙ ap (λ x. run x (spelled first second (get_or s i 0))) h.wrote.is ∙ sym (with_last (place_of p) (take i s) (get_or s i 0)) };
      })
