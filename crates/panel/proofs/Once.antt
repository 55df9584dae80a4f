-- Determinacy: C is told one number, one array and one content of each buffer.
use Prim.Native.Nat.{ℕ}
use mathlib.Core.Path.{◌≡◌, sym, ap, ◌∙◌}
use mathlib.Core.List.{List}
use Rattle.judge.proofs.Once.{once_judged, once_paired}
use Rattle.listing.proofs.Once.{once_listed}
use Rattle.panel.specs.Panel.{number_in, numbers_in, list_number, list_numbers, pair_number, pair_numbers, VerdictTold, ListingTold, PairTold}

-- two numbers or arrays that are read off one answer
told : {A B : Type 0} (read : A → B) {a b : A} {x y : B} → a ≡ b → x ≡ read a → y ≡ read b → x ≡ y
told read e h k = h ∙ ap read e ∙ sym k

module _ {f c g p : List ℕ} {r s : ℕ} {a b c' c'' g' g'' p' p'' : List ℕ} where
  pub once_verdict_told : VerdictTold f c g p r a c' g' p' → VerdictTold f c g p s b c'' g'' p'' → (r ≡ s) × (a ≡ b) × (c' ≡ c'') × (g' ≡ g'') × (p' ≡ p'')
  once_verdict_told h k =
      let o = once_judged h.judged k.judged in
      (told number_in o.0 h.number k.number, told numbers_in o.0 h.numbers k.numbers, o.1, o.2, o.3)

  pub once_listing_told : {o o' o'' : List ℕ} → ListingTold f c g p o r a c' g' p' o' → ListingTold f c g p o s b c'' g'' p'' o'' → (r ≡ s) × (a ≡ b) × (c' ≡ c'') × (g' ≡ g'') × (p' ≡ p'') × (o' ≡ o'')
  once_listing_told h k =
      let o = once_listed h.listed k.listed in
      (told list_number o.0 h.number k.number, told list_numbers o.0 h.numbers k.numbers, o.1, o.2, o.3, o.4)

module _ {f : List ℕ} {x y : ℕ} {c p : List ℕ} {r s : ℕ} {a b c' c'' p' p'' : List ℕ} where
  pub once_pair_told : PairTold f x y c p r a c' p' → PairTold f x y c p s b c'' p'' → (r ≡ s) × (a ≡ b) × (c' ≡ c'') × (p' ≡ p'')
  once_pair_told h k =
      let o = once_paired h.paired k.paired in
      (told pair_number o.0 h.number k.number, told pair_numbers o.0 h.numbers k.numbers, o.1, o.2)
