-- Tables of distinct words: what went in is found, and reads back as it was.
use Prim.Native.Nat.{ℕ, zero, suc, ◌+◌, ◌≤◌, ◌<◌, max}
use native.Mathlib.Nat.{not-suc-le-zero}
use native.Mathlib.Decide.{dec_lt}
use native.Mathlib.Omega.{arith}
use mathlib.Core.Path.{◌≡◌, refl, sym, ap, ◌∙◌, subst}
use mathlib.Core.Bool.{Bool, true, false, cond}
use mathlib.Core.Logic.{◌⊎◌, inl, inr, ⊎_elim}
use mathlib.Core.List.{List, [], ◌∷◌, ◌++◌}
use lib.Dec.{ltb, eqb}
use lib.ListN.{length, get_or}
use borrow.Author.Tests.{eq-eqb, eqb-true, eqb-false, ltb-true, ltb-false}
use Rattle.building.specs.Pick.{picked}
use Rattle.building.specs.Values.{place, insert, distinct, greater}
use Rattle.building.specs.Written.{moved_from}

-- w is in a list
pub data In (w : ℕ) : List ℕ → Type 0 where
  head : {v : ℕ} {vs : List ℕ} → v ≡ w → In w (v ∷ vs)
  tail : {v : ℕ} {vs : List ℕ} → In w vs → In w (v ∷ vs)

-- it has a place there, and stands at it
pub in_place : {w : ℕ} {vs : List ℕ} → In w vs → place vs w < length vs
unfolding place
in_place {w} (head {v} {vs} e) = rw (eq-eqb v w e) (omega arith)
in_place {w} (tail {v} {vs} i) = go (eqb v w) (in_place i)
  where
    go : (b : Bool) → place vs w < length vs → cond b 0 (suc (place vs w)) < suc (length vs)
    go true h = omega arith
    go false h = omega arith

pub at_its_place : (vs : List ℕ) (w d : ℕ) → place vs w < length vs → get_or vs (place vs w) d ≡ w
unfolding place
at_its_place [] w d h = absurd (not-suc-le-zero h)
at_its_place (v ∷ vs) w d h = go (eqb v w) refl (at_its_place vs w d) h
  where
    go : (b : Bool) → eqb v w ≡ b → (place vs w < length vs → get_or vs (place vs w) d ≡ w) → cond b 0 (suc (place vs w)) < suc (length vs) → get_or (v ∷ vs) (cond b 0 (suc (place vs w))) d ≡ w
    go true e ih k = eqb-true v w e
    go false e ih k = ih (omega arith)

pub reads_back : {w : ℕ} {vs : List ℕ} → In w vs → (d : ℕ) → get_or vs (place vs w) d ≡ w
reads_back {w} {vs} i d = at_its_place vs w d (in_place i)

-- what is joined to a list, and what was in it, is in it
pub in_front : {w : ℕ} (vs us : List ℕ) → In w vs → In w (vs ++ us)
in_front {w = w} [] us x' = elim x' [ ]
in_front (v ∷ vs) us (head e) = head e
in_front (v ∷ vs) us (tail i) = tail (in_front vs us i)

pub in_last : (w : ℕ) (vs : List ℕ) → In w (vs ++ (w ∷ []))
in_last w [] = head refl
in_last w (v ∷ vs) = tail (in_last w vs)

pub in_picked : (p : ℕ → Bool) (g : ℕ → ℕ) (n i : ℕ) → p i ≡ true → i < n → In (g i) (picked p g n)
unfolding picked
in_picked p g zero i h k = absurd (not-suc-le-zero k)
in_picked p g (suc n) i h k = elim (dec_lt i n) [
  | yes b ↦ go (p n) (in_picked p g n i h b)
  | no b ↦ let e : i ≡ n = omega arith in
      let q : p n ≡ true = ap p (sym e) ∙ h in
      rw (e, q) (in_last (g n) (picked p g n))
]
  where
    go : (b : Bool) → In (g i) (picked p g n) → In (g i) (cond b (picked p g n ++ (g n ∷ [])) (picked p g n))
    go true m = in_front _ _ m
    go false m = m

module _ (before : ℕ → ℕ → Bool) where
  in_insert : (vs : List ℕ) (w : ℕ) → In w (insert before vs w)
  unfolding insert
  in_insert [] w = head refl
  in_insert (v ∷ vs) w = go (in_insert vs w) (eqb v w) refl (before w v)
    where
      go : In w (insert before vs w) → (b : Bool) → eqb v w ≡ b → (c : Bool) → In w (cond b (v ∷ vs) (cond c (w ∷ v ∷ vs) (v ∷ insert before vs w)))
      go ih true e c = head (eqb-true v w e)
      go ih false e true = head refl
      go ih false e false = tail ih

  in_insert_old : (vs : List ℕ) (w u : ℕ) → In u vs → In u (insert before vs w)
  unfolding insert
  in_insert_old [] w u i = elim i [ ]
  in_insert_old (v ∷ vs) w u i = go (in_insert_old vs w u) (eqb v w) (before w v) i
    where
      on : (In u vs → In u (insert before vs w)) → In u (v ∷ vs) → In u (v ∷ insert before vs w)
      on ih (head e) = head e
      on ih (tail j) = tail (ih j)

      go : (In u vs → In u (insert before vs w)) → (b c : Bool) → In u (v ∷ vs) → In u (cond b (v ∷ vs) (cond c (w ∷ v ∷ vs) (v ∷ insert before vs w)))
      go ih true c j = j
      go ih false true j = tail j
      go ih false false j = on ih j

  -- a table has each word that went in
  pub in_distinct : {w : ℕ} {ws : List ℕ} → In w ws → In w (distinct before ws)
  unfolding distinct
  in_distinct {w} (head {v} {vs} e) = subst (λ (u : ℕ). In u (insert before (distinct before vs) v)) e (in_insert (distinct before vs) v)
  in_distinct {w} (tail {v} {vs} i) = in_insert_old (distinct before vs) v w (in_distinct i)

  length_insert : (vs : List ℕ) (w : ℕ) → length (insert before vs w) ≤ suc (length vs)
  unfolding insert
  length_insert [] w = omega arith
  length_insert (v ∷ vs) w = go (eqb v w) (before w v) (length_insert vs w)
    where
      go : (b c : Bool) → length (insert before vs w) ≤ suc (length vs) → length (cond b (v ∷ vs) (cond c (w ∷ v ∷ vs) (v ∷ insert before vs w))) ≤ suc (suc (length vs))
      go true c h = omega arith
      go false true h = omega arith
      go false false h = omega arith

  -- and no more than went in
  pub length_distinct : (ws : List ℕ) → length (distinct before ws) ≤ length ws
  unfolding distinct
  length_distinct [] = omega arith
  length_distinct (w ∷ ws) = omega (arith, length_insert (distinct before ws) w, length_distinct ws)

  -- nothing else is in it
  out_insert : (vs : List ℕ) (w u : ℕ) → In u (insert before vs w) → (u ≡ w) ⊎ In u vs
  unfolding insert
  out_insert [] w u i = inl (only i)
    where
      only : In u (w ∷ []) → u ≡ w
      only (head e) = sym e
      only (tail j) = absurd (not-suc-le-zero (in_place j))
  out_insert (v ∷ vs) w u i = go (out_insert vs w u) (eqb v w) (before w v) i
    where
      first : In u (w ∷ v ∷ vs) → (u ≡ w) ⊎ In u (v ∷ vs)
      first (head e) = inl (sym e)
      first (tail j) = inr j

      on : (In u (insert before vs w) → (u ≡ w) ⊎ In u vs) → In u (v ∷ insert before vs w) → (u ≡ w) ⊎ In u (v ∷ vs)
      on ih (head e) = inr (head e)
      on ih (tail j) = ⊎_elim (λ e. inl e) (λ k. inr (tail k)) (ih j)

      go : (In u (insert before vs w) → (u ≡ w) ⊎ In u vs) → (b c : Bool) → In u (cond b (v ∷ vs) (cond c (w ∷ v ∷ vs) (v ∷ insert before vs w))) → (u ≡ w) ⊎ In u (v ∷ vs)
      go ih true c j = inr j
      go ih false true j = first j
      go ih false false j = on ih j

-- a list falls: each word is at least as large as those after it
pub data Falls : List ℕ → Type 0 where
  none : Falls []
  more : {d : ℕ} {ds : List ℕ} → ((v : ℕ) → In v ds → v ≤ d) → Falls ds → Falls (d ∷ ds)

insert_falls : {vs : List ℕ} (w : ℕ) → Falls vs → Falls (insert greater vs w)
unfolding insert
insert_falls w none = more (λ v i. absurd (not-suc-le-zero (in_place i))) none
insert_falls w (more {d} {ds} h f) = go (insert_falls w f) (eqb d w) (ltb d w) refl
  where
    under : ltb d w ≡ true → (v : ℕ) → In v (d ∷ ds) → v ≤ w
    under e v (head q) = omega (arith, ltb-true d w e)
    under e v (tail i) = omega (arith, ltb-true d w e, h v i)

    over : ltb d w ≡ false → (v : ℕ) → In v (insert greater ds w) → v ≤ d
    over e v i = ⊎_elim (λ (q : v ≡ w). omega (arith, ltb-false d w e)) (λ (j : In v ds). h v j) (out_insert greater ds w v i)

    go : Falls (insert greater ds w) → (b c : Bool) → ltb d w ≡ c → Falls (cond b (d ∷ ds) (cond c (w ∷ d ∷ ds) (d ∷ insert greater ds w)))
    go ih true c e = more h f
    go ih false true e = more (under e) (more h f)
    go ih false false e = more (over e) ih

pub distinct_falls : (ws : List ℕ) → Falls (distinct greater ws)
unfolding distinct
distinct_falls [] = none
distinct_falls (w ∷ ws) = insert_falls w (distinct_falls ws)

-- §141: a start gets a word, or it lies below 256 with the words before it
moved_from_lem : (e : ℕ) (ds : List ℕ) (n : ℕ) → n ≤ moved_from e ds n
unfolding moved_from
moved_from_lem e [] n = omega arith
moved_from_lem e (d ∷ ds) n = go (ltb (d + max n e) 256) (moved_from_lem e ds (suc n))
  where
    go : (b : Bool) → suc n ≤ moved_from e ds (suc n) → n ≤ cond b n (moved_from e ds (suc n))
    go true h = omega arith
    go false h = omega arith

pub moved_most : (e : ℕ) (ds : List ℕ) (n : ℕ) → moved_from e ds n ≤ n + length ds
unfolding moved_from
moved_most e [] n = omega arith
moved_most e (d ∷ ds) n = go (ltb (d + max n e) 256) (moved_most e ds (suc n))
  where
    go : (b : Bool) → moved_from e ds (suc n) ≤ suc n + length ds → cond b n (moved_from e ds (suc n)) ≤ n + suc (length ds)
    go true h = omega arith
    go false h = omega arith

pub moved_or_near : (e : ℕ) {ds : List ℕ} (n r : ℕ) → Falls ds → In r ds → (n + place ds r < moved_from e ds n) ⊎ (r + max (moved_from e ds n) e < 256)
unfolding moved_from place
moved_or_near e n r none i = elim i [ ]
moved_or_near e n r (more {d} {ds} h f) i = go (moved_or_near e (suc n) r f) (ltb (d + max n e) 256) refl i
  where
    last : In r (d ∷ ds) → r ≤ d
    last (head q) = omega arith
    last (tail j) = h r j

    there : (eqb d r ≡ false) → In r (d ∷ ds) → In r ds
    there q (head e) = absurd (eqb-false d r q e)
    there q (tail j) = j

    Later : Type 0
    Later = In r ds → (suc n + place ds r < moved_from e ds (suc n)) ⊎ (r + max (moved_from e ds (suc n)) e < 256)

    on : Later → (b : Bool) → eqb d r ≡ b → In r (d ∷ ds) → (n + cond b 0 (suc (place ds r)) < moved_from e ds (suc n)) ⊎ (r + max (moved_from e ds (suc n)) e < 256)
    on ih true q j = inl (omega (arith, moved_from_lem e ds (suc n)))
    on ih false q j = ⊎_elim (λ (k : suc n + place ds r < moved_from e ds (suc n)). inl (omega arith)) (λ k. inr k) (ih (there q j))

    go : Later → (b : Bool) → ltb (d + max n e) 256 ≡ b → In r (d ∷ ds)
        → (n + cond (eqb d r) 0 (suc (place ds r)) < cond b n (moved_from e ds (suc n))) ⊎ (r + max (cond b n (moved_from e ds (suc n))) e < 256)
    go ih true q j = inr (omega (arith, ltb-true (d + max n e) 256 q, last j))
    go ih false q j = on ih (eqb d r) refl j

-- what a table has went in
pub out_distinct : (before : ℕ → ℕ → Bool) (ws : List ℕ) (u : ℕ) → In u (distinct before ws) → In u ws
unfolding distinct
out_distinct before [] u i = i
out_distinct before (w ∷ ws) u i =
    ⊎_elim (λ (e : u ≡ w). head (sym e)) (λ (j : In u (distinct before ws)). tail (out_distinct before ws u j)) (out_insert before (distinct before ws) w u i)

pub at_index : (vs : List ℕ) (i d : ℕ) → i < length vs → In (get_or vs i d) vs
at_index [] i d h = absurd (not-suc-le-zero h)
at_index (v ∷ vs) zero d h = head refl
at_index (v ∷ vs) (suc i) d h = tail (at_index vs i d (omega arith))

-- what was picked is g of one that passes
pub data From (p : ℕ → Bool) (g : ℕ → ℕ) (n : ℕ) : ℕ → Type 0 where
  from : (i : ℕ) → i < n → p i ≡ true → From p g n (g i)

pub append_out : {w : ℕ} (vs us : List ℕ) → In w (vs ++ us) → In w vs ⊎ In w us
append_out [] us i = inr i
append_out (v ∷ vs) us (head e) = inl (head e)
append_out (v ∷ vs) us (tail i) = ⊎_elim (λ j. inl (tail j)) (λ j. inr j) (append_out vs us i)

pub only_one : {w v : ℕ} → In w (v ∷ []) → v ≡ w
only_one (head e) = e
only_one (tail i) = absurd (not-suc-le-zero (in_place i))

pub out_picked : (p : ℕ → Bool) (g : ℕ → ℕ) (n u : ℕ) → In u (picked p g n) → From p g n u
unfolding picked
out_picked p g zero u i = absurd (not-suc-le-zero (in_place i))
out_picked p g (suc n) u i = go (p n) refl i (out_picked p g n u)
  where
    later : {v : ℕ} → From p g n v → From p g (suc n) v
    later (from j h e) = from j (omega arith) e

    go : (b : Bool) → p n ≡ b → In u (cond b (picked p g n ++ (g n ∷ [])) (picked p g n)) → (In u (picked p g n) → From p g n u) → From p g (suc n) u
    go true e j ih = ⊎_elim (λ (k : In u (picked p g n)). later (ih k)) (λ (k : In u (g n ∷ [])). subst (From p g (suc n)) (only_one k) (from n (omega arith) e)) (append_out (picked p g n) (g n ∷ []) j)
    go false e j ih = later (ih j)
