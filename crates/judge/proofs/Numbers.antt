-- What the tests of an operation make of its number, and its answer of what it wipes.
use Rattle.std.proofs.Common.{ℕ, ◌*◌, ◌<◌, ◌≤◌, ◌≡◌, sym, ◌∙◌, true, false, ◌||◌, List, length, ltb, Result, Ok, Err, Option, is_err, true≢false, arith}
use borrow.Author.Tests.{lt-ltb, le-ltb}
use Rattle.lent.specs.Answer.{first}
use Rattle.tfm.specs.Refusal.{number}
use Rattle.tfm.specs.Sizes.{number_of}
use Rattle.tfm.specs.declared.Layout.{Layout}
use Rattle.tfm.specs.declared.refusal.Refusal.{Refusal}
use Rattle.tfm.proofs.Refusals.{accepted_later, refusal_later, number_positive}
use Rattle.judge.specs.Judge.{answer, answer_of, no_verdict, says, pair_says, no_outcome, zeros, too_short, judge_number, pair_number, Judged, refused, Paired, unasked}
use Rattle.judge.specs.Inside.{JudgedUnwiped, PairedUnwiped}
use Rattle.judge.specs.declared.verdicts.Judgement.{Judgement}

-- none of 1 to 13, and none of 1 to 12, 17 and 13
module _ (f : List ℕ) (l : Layout) (c : List ℕ) where
  pub go_on : number_of f l 0 ≡ 0 → 4 * l.lf ≤ length c → judge_number f l c ≡ 0
  unfolding judge_number first
  go_on e h = accepted_later f l _ e ∙ rw (le-ltb (length c) (4 * l.lf) h)

module _ (f : List ℕ) (l : Layout) (x y : ℕ) (c : List ℕ) where
  pub pair_goes_on : number_of f l 0 ≡ 0 → ltb 256 x || ltb 255 y ≡ false → 4 * l.lf ≤ length c → pair_number f l x y c ≡ 0
  unfolding pair_number first
  pair_goes_on e h k = accepted_later f l _ e ∙ rw (h, le-ltb (length c) (4 * l.lf) k)

module _ (f : List ℕ) (l : Layout) (c g p : List ℕ) where
  -- 1 to 12
  pub refused_case : (r : Refusal) → number r ≡ number_of f l 0 → Judged f l c g p (answer (number r) no_verdict 0) c g p
  unfolding judge_number
  refused_case r e =
      let found = refusal_later f l (too_short l c) r e in
      rw found (refused (λ z. omega (arith, number_positive r, found, z)))

  -- 13
  short : number_of f l 0 ≡ 0 → length c < 4 * l.lf → judge_number f l c ≡ 13
  unfolding judge_number first
  short e h = accepted_later f l _ e ∙ rw (lt-ltb (length c) (4 * l.lf) h)

  pub short_case : number_of f l 0 ≡ 0 → length c < 4 * l.lf → Judged f l c g p (answer 13 no_verdict 0) c g p
  short_case e h = rw (sym (short e h)) (refused (λ z. omega (arith, short e h, z)))

  pub wiped : (r : Result Judgement Refusal) (c' g' : List ℕ) {p' c'' g'' : List ℕ} → is_err r ≡ true → c'' ≡ zeros c' → g'' ≡ zeros g'
      → JudgedUnwiped f l c g p r c' g' p' → Judged f l c g p (answer_of r) c'' g'' p'
  wiped (Ok j) c' g' e a b h = absurd (true≢false (sym e))
  wiped (Err r) c' g' e a b h = rw (a, b) h

  pub as_it_is : (r : Result Judgement Refusal) {c' g' p' : List ℕ} → is_err r ≡ false
      → JudgedUnwiped f l c g p r c' g' p' → Judged f l c g p (answer_of r) c' g' p'
  as_it_is (Ok j) e h = h
  as_it_is (Err r) e h = absurd (true≢false e)

module _ (f : List ℕ) (l : Layout) (x y : ℕ) (c p : List ℕ) where
  pub unasked_case : (r : Refusal) → number r ≡ number_of f l 0 → Paired f l x y c p (says (number r) no_outcome) c p
  unfolding pair_number
  unasked_case r e =
      let found = refusal_later f l (first (ltb 256 x || ltb 255 y) 17 (too_short l c)) r e in
      rw found (unasked (λ z. omega (arith, number_positive r, found, z)))

  asked_wrong : number_of f l 0 ≡ 0 → ltb 256 x || ltb 255 y ≡ true → pair_number f l x y c ≡ 17
  unfolding pair_number first
  asked_wrong e h = accepted_later f l _ e ∙ rw h

  -- 17
  pub range_case : number_of f l 0 ≡ 0 → ltb 256 x || ltb 255 y ≡ true → Paired f l x y c p (says 17 no_outcome) c p
  range_case e h = rw (sym (asked_wrong e h)) (unasked (λ z. omega (arith, asked_wrong e h, z)))

  lacks : number_of f l 0 ≡ 0 → ltb 256 x || ltb 255 y ≡ false → length c < 4 * l.lf → pair_number f l x y c ≡ 13
  unfolding pair_number first
  lacks e h k = accepted_later f l _ e ∙ rw (h, lt-ltb (length c) (4 * l.lf) k)

  -- 13
  pub short_pair_case : number_of f l 0 ≡ 0 → ltb 256 x || ltb 255 y ≡ false → length c < 4 * l.lf → Paired f l x y c p (says 13 no_outcome) c p
  short_pair_case e h k = rw (sym (lacks e h k)) (unasked (λ z. omega (arith, lacks e h k, z)))

  pub pair_wiped : (r : Result (Option ℕ) Refusal) (c' : List ℕ) {p' c'' : List ℕ} → is_err r ≡ true → c'' ≡ zeros c'
      → PairedUnwiped f l x y c p r c' p' → Paired f l x y c p (pair_says r) c'' p'
  pair_wiped (Ok o) c' e a h = absurd (true≢false (sym e))
  pair_wiped (Err r) c' e a h = rw a h

  pub pair_as_it_is : (r : Result (Option ℕ) Refusal) {c' p' : List ℕ} → is_err r ≡ false
      → PairedUnwiped f l x y c p r c' p' → Paired f l x y c p (pair_says r) c' p'
  pair_as_it_is (Ok o) e h = h
  pair_as_it_is (Err r) e h = absurd (true≢false e)
