-- Determinacy: a file and the lent buffers leave one answer, and one content of each buffer.
use Prim.Native.Nat.{ℕ, ◌<◌, ◌≤◌}
use native.Mathlib.Omega.{arith}
use mathlib.Core.Path.{◌≡◌, refl, ap}
use mathlib.Core.List.{List}
use lib.ListN.{length}
use Rattle.tfm.specs.declared.Layout.{Layout}
use Rattle.judge.specs.Judge.{Answer, answer, Judged}
use Rattle.judge.proofs.Once.{once_judged}
use Rattle.listing.proofs.Cases.{number, verdict}
use Rattle.listing.specs.Listing.{listing_text, Says, ListedAs, refused, too_long, listed}

abbrev findings : Answer → ℕ
findings (answer n v k) = k

module _ {f : List ℕ} {l : Layout} {c g p : List ℕ} where
  same : {a b : Answer} {c' c'' g' g'' p' p'' : List ℕ} → Judged f l c g p a c' g' p' → Judged f l c g p b c'' g'' p'' → a ≡ b
  same h k = (once_judged h k).0

  -- one verdict has one listing, which fits or does not
  both : {A : Type 0} (o : List ℕ) {a b : Answer} {c' c'' g' g'' p' p'' : List ℕ} → Judged f l c g p a c' g' p' → Judged f l c g p b c'' g'' p''
      → length o < length (listing_text f l (verdict a)) → length (listing_text f l (verdict b)) ≤ length o → A
  both o h k i j =
      let e = ap (λ (x : Answer). length (listing_text f l (verdict x))) (same h k) in absurd (omega (arith, e, i, j))

  pub once_listed : {o : List ℕ} {a b : Says} {c' c'' g' g'' p' p'' o' o'' : List ℕ}
      → ListedAs f l c g p o a c' g' p' o' → ListedAs f l c g p o b c'' g'' p'' o'' → (a ≡ b) × (c' ≡ c'') × (g' ≡ g'') × (p' ≡ p'') × (o' ≡ o'')
  once_listed (refused n h) (refused m k) =
      let s = once_judged h k in
      let e = ap number s.0 in
      rw e ((refl, s.1, s.2, s.3, refl))
  once_listed (refused n h) (too_long k j) = absurd (n (ap number (same h k)))
  once_listed (refused n h) (listed k j) = absurd (n (ap number (same h k)))
  once_listed (too_long h i) (refused m k) = absurd (m (ap number (same k h)))
  once_listed (too_long h i) (too_long k j) = (refl, refl, refl, refl, refl)
  once_listed {o} (too_long h i) (listed k j) = both o h k i j
  once_listed (listed h i) (refused m k) = absurd (m (ap number (same k h)))
  once_listed {o} (listed h i) (too_long k j) = both o k h j i
  once_listed (listed h i) (listed k j) =
      let s = once_judged h k in
      let e = ap verdict s.0 in
      let d = ap findings s.0 in
      rw (e, d) ((refl, s.1, s.2, s.3, refl))
