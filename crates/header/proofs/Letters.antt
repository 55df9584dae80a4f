-- A string, letter by letter.
use Rattle.std.proofs.Common.{◌≡◌, ap, subst, sym, ◌∙◌, ℕ, zero, suc, ◌+◌, List, [], ◌∷◌, ◌++◌, arith}
use Rattle.lent.specs.Write.{byte, lit}
use Rattle.lent.specs.Pens.{Written}
use Rattle.lent.specs.declared.Pen.{Pen}
use Rattle.lent.proofs.Pens.{no_byte, one_byte}
use Rattle.header.specs.Header.{letter_of, letters_from}

module _ (h : List ℕ) (string : ℕ) where
  letters_more : (i k : ℕ) → letters_from h string i (suc k) ≡ letters_from h string i k ++ letter_of h string (i + k) ∷ []
  unfolding letters_from
  letters_more i zero = let e : i + 0 ≡ i = omega arith in rw e
  letters_more i (suc k) =
      let e : i + suc k ≡ i + 1 + k = omega arith in
      rw e (ap (λ l. letter_of h string i ∷ l) (letters_more (i + 1) k))

  pub no_letter : {p : Pen} → Written p (lit (letters_from h string 0 0)) p
  unfolding letters_from
  no_letter = no_byte

  pub one_letter : (i : ℕ) {p q r : Pen} → Written q (byte (letter_of h string i)) r → Written p (lit (letters_from h string 0 i)) q
      → Written p (lit (letters_from h string 0 (i + 1))) r
  one_letter i {p} {q} {r} e g =
      let n : suc i ≡ i + 1 = omega arith in
      let z : 0 + i ≡ i = omega arith in
      let more : letters_from h string 0 (i + 1) ≡ letters_from h string 0 i ++ letter_of h string i ∷ [] =
      subst (λ k. letters_from h string 0 k ≡ letters_from h string 0 i ++ letter_of h string i ∷ []) n (letters_more 0 i ∙ ap (λ k. letters_from h string 0 i ++ letter_of h string k ∷ []) z) in
      subst (λ l. Written p (lit l) r) (sym more) (one_byte e g)
