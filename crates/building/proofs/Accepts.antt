-- A file that 21 does not refuse is accepted.
use Prim.Native.Nat.{ℕ, ◌+◌, ◌*◌, ◌/◌, ◌≤◌, ◌<◌}
use native.Mathlib.Decide.{ℕ_discrete}
use native.Mathlib.Omega.{arith}
use mathlib.Core.Path.{◌≡◌, refl}
use mathlib.Core.Bool.{Bool, true, false, ◌||◌, true≢false}
use mathlib.Core.List.{List}
use lib.Dec.{ltb}
use lib.ListN.{length, get_or}
use borrow.Author.Tests.{le-ltb, eq-eqb, ne_eqb, ltb-false}
use Rattle.lent.specs.Answer.{first}
use Rattle.tfm.specs.Sizes.{layout_of, size_list, words, layout_number, number_of}
use Rattle.tfm.specs.declared.Layout.{Layout}
use Rattle.font.specs.Font.{Font}
use Rattle.building.specs.Pick.{bound}
use Rattle.building.specs.Written.{first_code, last_code, ordered, sizes_for, size_byte, written, too_much}
use Rattle.building.proofs.Picks.{bound_le, least_bound}
use Rattle.building.proofs.Laid.{size_byte_lem, written_length, layout_back}

-- what the tests 1 to 12 ask
pub record Sound (f : List ℕ) (l : Layout) : Type 0 where
  pub long : length f ≡ 4 * l.lf
  pub high : get_or f 0 0 ≡ l.lf / 256
  pub most : l.lf ≤ 32767
  pub sum : l.lf ≡ words l
  pub head : 2 ≤ l.lh
  pub order : l.bc ≤ l.ec + 1
  pub last : l.ec ≤ 255
  pub nw : 0 < l.nw
  pub nh : 0 < l.nh
  pub nd : 0 < l.nd
  pub ni : 0 < l.ni
  pub ne : l.ne ≤ 256

pub sound_accepted : (f : List ℕ) (l : Layout) → Sound f l → number_of f l 0 ≡ 0
unfolding number_of layout_number first
sound_accepted f l s =
    let long = s.long in
    let most = s.most in
    let sum = s.sum in
    let head = s.head in
    let order = s.order in
    let last = s.last in
    rw (
      ne_eqb (length f) 0 (omega arith),
      le-ltb 127 (get_or f 0 0) (omega (arith, s.high)),
      ne_eqb (length f) 1 (omega arith),
      ne_eqb l.lf 0 (omega arith),
      le-ltb (length f) (4 * l.lf) (omega arith),
      le-ltb l.lf 6 (omega arith),
      le-ltb 127 (l.lh / 256) (omega arith),
      le-ltb 127 (l.bc / 256) (omega arith),
      le-ltb 127 (l.ec / 256) (omega arith),
      le-ltb 127 (l.nw / 256) (omega arith),
      le-ltb 127 (l.nh / 256) (omega arith),
      le-ltb 127 (l.nd / 256) (omega arith),
      le-ltb 127 (l.ni / 256) (omega arith),
      le-ltb 127 (l.nl / 256) (omega arith),
      le-ltb 127 (l.nk / 256) (omega arith),
      le-ltb 127 (l.ne / 256) (omega arith),
      le-ltb 127 (l.np / 256) (omega arith),
      le-ltb l.lh 2 head,
      le-ltb (l.ec + 1) l.bc order,
      le-ltb 255 l.ec last,
      ne_eqb l.nw 0 (omega (arith, s.nw)),
      ne_eqb l.nh 0 (omega (arith, s.nh)),
      ne_eqb l.nd 0 (omega (arith, s.nd)),
      ne_eqb l.ni 0 (omega (arith, s.ni)),
      le-ltb 256 l.ne s.ne,
      eq-eqb l.lf (words l) sum,
    )

-- what 21 leaves
pub record Fits (F : Font) : Type 0 where
  pub widths : length (ordered F.characters.widths) ≤ 255
  pub heights : length (ordered F.characters.heights) ≤ 15
  pub depths : length (ordered F.characters.depths) ≤ 15
  pub italics : length (ordered F.characters.italics) ≤ 63
  pub recipes : length F.program.recipes ≤ 256
  pub words : (sizes_for F).lf ≤ 32767

-- none of six tests holds
none_of : (a b c d e g : Bool) → a || b || c || d || e || g ≡ false
    → (a ≡ false) × (b ≡ false) × (c ≡ false) × (d ≡ false) × (e ≡ false) × (g ≡ false)
none_of true b c d e g q = absurd (true≢false q)
none_of false true c d e g q = absurd (true≢false q)
none_of false false true d e g q = absurd (true≢false q)
none_of false false false true e g q = absurd (true≢false q)
none_of false false false false true g q = absurd (true≢false q)
none_of false false false false false g q = (refl, refl, refl, refl, refl, q)

pub fits : (F : Font) → too_much F ≡ false → Fits F
unfolding too_much
fits F e =
    let n = none_of (ltb 255 (length (ordered F.characters.widths))) (ltb 15 (length (ordered F.characters.heights))) (ltb 15 (length (ordered F.characters.depths))) (ltb 63 (length (ordered F.characters.italics))) (ltb 256 (length F.program.recipes)) (ltb 32767 (sizes_for F).lf) e in
    record {
      widths = ltb-false _ _ n.0;
      heights = ltb-false _ _ n.1;
      depths = ltb-false _ _ n.2;
      italics = ltb-false _ _ n.3;
      recipes = ltb-false _ _ n.4;
      words = ltb-false _ _ n.5;
    }

-- bc and ec
pub codes_order : (F : Font) → first_code F ≤ last_code F + 1
unfolding first_code last_code
codes_order F = elim (ℕ_discrete (bound F.characters.present 256) 0) [
  | yes e ↦ rw e (omega arith)
  | no e ↦ rw (ne_eqb (bound F.characters.present 256) 0 e) (omega (arith, least_bound F.characters.present 256 e))
]

pub last_byte : (F : Font) → last_code F ≤ 255
unfolding last_code
last_byte F = omega (arith, bound_le F.characters.present 256)

pub written_sound : (F : Font) → Fits F → Sound (written F) (sizes_for F)
unfolding sizes_for size_byte size_list
written_sound F t = record {
  long = written_length F;
  high = size_byte_lem F 0 (omega arith);
  most = t.words;
  sum = refl;
  head = omega arith;
  order = codes_order F;
  last = last_byte F;
  nw = omega arith;
  nh = omega arith;
  nd = omega arith;
  ni = omega arith;
  ne = t.recipes;
}

-- the file is accepted, by its own sizes
pub written_accepted : (F : Font) → Fits F → number_of (written F) (layout_of (written F)) 0 ≡ 0
written_accepted F t = rw (layout_back F) (sound_accepted (written F) (sizes_for F) (written_sound F t))
