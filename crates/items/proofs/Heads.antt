-- A head's words, written one after the other.
use Rattle.std.proofs.Common.{ℕ, ◌+◌, ◌<◌, ◌≡◌, refl, sym, subst, ◌∙◌, ap, List, [], ◌∷◌, ◌++◌, length, take}
use lib.ListN.{get_or}
use Rattle.std.proofs.lemmas.List.{take_more}
use Rattle.lent.specs.Write.{Text, ◌▹◌}
use Rattle.lent.specs.Pens.{Written}
use Rattle.lent.specs.declared.Pen.{Pen}
use Rattle.lent.proofs.Pens.{seq}
use Rattle.items.specs.Items.{with_words, word_text}
use Rattle.items.specs.Words.{said, said_as}
use Rattle.items.specs.declared.words.Word.{Word}

with_last : (t : Text) (ws : List Word) (w : Word) → with_words t (said (ws ++ w ∷ [])) ≡ (with_words t (said ws) ▹ word_text (said_as w))
with_last t [] w = refl
with_last t (v ∷ ws) w = with_last (t ▹ word_text (said_as v)) ws w

-- one word more
pub word_more : (t : Text) (ws : List Word) (w : Word) {p q s : Pen} {i : ℕ} → Written q (word_text (said_as (get_or ws i w))) s
    → Written p (with_words t (said (take i ws))) q → i < length ws → Written p (with_words t (said (take (i + 1) ws))) s
word_more t ws w {p} {q} {s} {i} e h l =
    subst (λ x. Written p x s) (sym (ap (λ l. with_words t (said l)) (take_more ws i w l) ∙ with_last t (take i ws) (get_or ws i w))) (seq e h)
