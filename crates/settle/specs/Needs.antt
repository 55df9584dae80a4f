-- Which pair needs which: the theory of Settles.
use Rattle.std.specs.Prelude.{◌≡◌, refl, ℕ, zero, suc, ◌+◌, ◌<◌}
use Rattle.std.proofs.Common.{sym, subst, arith}
use Rattle.settle.specs.Settle.{Step, stop, give, left, right, both, Settles, none, done, on_left, on_right, on_both, Loops}

-- the size of a derivation
pub size : {S : ℕ → ℕ → Step} {x y w : ℕ} → Settles S x y w → ℕ
size (none e) = 0
size (done e) = 0
size (on_left e d) = suc (size d)
size (on_right e d) = suc (size d)
size (on_both e d f) = suc (size d + size f)

-- every derivation for the pair (a, b) holds a smaller one for (x, y)
pub record Needs (S : ℕ → ℕ → Step) (a b x y : ℕ) : Type 0 where
  pub code : (w : ℕ) → Settles S a b w → ℕ
  pub deeper : (w : ℕ) (d : Settles S a b w) → Settles S x y (code w d)
  pub less : (w : ℕ) (d : Settles S a b w) → size (deeper w d) < size d

-- what a derivation of size m is made of, by the step at its pair
abbrev Parts : (ℕ → ℕ → Step) → ℕ → ℕ → ℕ → ℕ → Step → Type 0
Parts S x y w m stop = w ≡ y
Parts S x y w m (give z) = w ≡ z
Parts S x y w m (left z) = (d : Settles S z y w) × (size d < m)
Parts S x y w m (right z) = (d : Settles S x z w) × (size d < m)
Parts S x y w m (both z) = (v : ℕ) × (d : Settles S x z v) × (f : Settles S v y w) × (size d < m) × (size f < m)

parts : {S : ℕ → ℕ → Step} {x y w : ℕ} (d : Settles S x y w) → Parts S x y w (size d) (S x y)
unfolding size
parts (none e) = rw e refl
parts (done e) = rw e refl
parts (on_left e d) = rw e (d, omega arith)
parts (on_right e d) = rw e (d, omega arith)
parts (on_both {v = v} e d f) = rw e (v, d, f, omega arith, omega arith)

-- a pair settles to one code
pub det : {S : ℕ → ℕ → Step} {x y w v : ℕ} → Settles S x y w → Settles S x y v → w ≡ v
det (none e) g = sym (rw e at (parts g))
det (done e) g = sym (rw e at (parts g))
det {v = u} (on_left e d) g = det {v = u} d (rw e at (parts g)).0
det {v = u} (on_right e d) g = det {v = u} d (rw e at (parts g)).0
det {S} {v = u} (on_both {y = y} {v = v} e d f) g =
    let p = rw e at (parts g) in
    det {v = u} f (subst (λ (t : ℕ). Settles S t y u) (sym (det {v = p.0} d p.1)) p.2)

module _ {S : ℕ → ℕ → Step} where
  pub needs_trans : {a b x y p q : ℕ} → Needs S a b x y → Needs S x y p q → Needs S a b p q
  needs_trans n m = record {
    code = λ w d. m.code (n.code w d) (n.deeper w d);
    deeper = λ w d. m.deeper (n.code w d) (n.deeper w d);
    less = λ w d. omega (arith, n.less w d, m.less (n.code w d) (n.deeper w d));
  }

  pub needs_left : {x y z : ℕ} → S x y ≡ left z → Needs S x y z y
  needs_left e = record { code = λ w d. w; deeper = λ w d. (rw e at (parts d)).0; less = λ w d. (rw e at (parts d)).1 }

  pub needs_right : {x y z : ℕ} → S x y ≡ right z → Needs S x y x z
  needs_right e = record { code = λ w d. w; deeper = λ w d. (rw e at (parts d)).0; less = λ w d. (rw e at (parts d)).1 }

  pub needs_first : {x y z : ℕ} → S x y ≡ both z → Needs S x y x z
  needs_first e = record { code = λ w d. (rw e at (parts d)).0; deeper = λ w d. (rw e at (parts d)).1; less = λ w d. (rw e at (parts d)).3 }

  -- the second pair is known once the first has settled
  pub needs_second : {x y z v : ℕ} → S x y ≡ both z → Settles S x z v → Needs S x y v y
  needs_second {x} {y} {z} {v} e g = record { code = λ w d. w; deeper = λ w d. (second w d).0; less = λ w d. (second w d).1 }
    where
      second : (w : ℕ) (d : Settles S x y w) → (f : Settles S v y w) × (size f < size d)
      second w d =
          let p = rw e at (parts d) in
          subst (λ (t : ℕ). (f : Settles S t y w) × (size f < size d)) (det p.1 g) (p.2, p.4)

  -- a pair that needs itself never settles: its derivations would go down for ever
  pub needs_itself : {x y : ℕ} → Needs S x y x y → Loops S x y
  needs_itself {x} {y} n w d = go (suc (size d)) w d (omega arith)
    where
      go : (m w : ℕ) (d : Settles S x y w) → size d < m → ⊥
      go zero w d h = omega arith
      go (suc m) w d h = go m (n.code w d) (n.deeper w d) (omega (arith, n.less w d))

  -- a pair that needs one that never settles never settles
  pub needs_loops : {a b x y : ℕ} → Needs S a b x y → Loops S x y → Loops S a b
  needs_loops n l w d = l (n.code w d) (n.deeper w d)
