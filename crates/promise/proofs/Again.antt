-- THE FILE READ BACK IS READ BACK THE SAME: what is built of the listing of a clean file, listed and built again, is that file.
use Prim.Native.Nat.{ℕ, ◌+◌, ◌-◌, ◌≤◌, ◌<◌}
use native.Mathlib.Decide.{dec_le, dec_lt}
use native.Mathlib.Omega.{arith}
use mathlib.Core.Path.{◌≡◌, sym, ap, ◌∙◌, subst}
use mathlib.Core.Bool.{Bool, true, false, true≢false}
use mathlib.Core.List.{List}
use lib.ListN.{length, get_or}
use borrow.Author.Tests.{lt-ltb, le-leb, eq-eqb}
use Rattle.promise.proofs.Tags.{present_is}
use Rattle.tfm.specs.Sizes.{layout_of}
use Rattle.tfm.specs.Subfiles.{table_of}
use Rattle.tfm.specs.Characters.{byte_of}
use Rattle.tfm.specs.declared.Layout.{Layout}
use Rattle.program.specs.Steps.{program_of}
use Rattle.judge.specs.Judge.{clean}
use Rattle.ligatures.specs.Ligatures.{skipped}
use Rattle.reading.specs.Read.{accepts}
use Rattle.font.specs.Font.{Font}
use Rattle.font.specs.Read.{read_font}
use Rattle.building.specs.Pick.{rank}
use Rattle.building.specs.Written.{first_code, last_code, in_file, front, sizes_for, written, too_much}
use Rattle.building.specs.Build.{file_for, file_of, build}
use Rattle.building.proofs.Accepted.{filed}
use Rattle.building.proofs.Laid.{layout_back}
use Rattle.building.proofs.Accepts.{Fits, fits, last_byte, sound_accepted, written_sound}
use Rattle.building.proofs.Chars.{Whole, from_first, to_last}
use Rattle.building.proofs.Runs.{Runs, skip_back}
use Rattle.clean.specs.Met.{Met, start, onward, NoneOver, marks_in}
use Rattle.clean.specs.Clean.{Clean}
use Rattle.clean.proofs.Marks.{sound}
use Rattle.stated.specs.Formats.{text_in}
use Rattle.stated.specs.Listed.{live, start_for, listed_of}
use Rattle.stated.proofs.Live.{Clear, clear}
use Rattle.stated.proofs.FontBack.{font_back_by}
use Rattle.promise.specs.Promise.{Between}
use Rattle.promise.proofs.Listing.{runs, whole, tag_label}
use Rattle.promise.proofs.CleanAgain.{clean_again}
use Rattle.promise.proofs.Numbers.{bytes_back}
use Rattle.promise.proofs.Sanely.{unrepaired}
use Rattle.promise.proofs.Promised.{build_is}
use Rattle.promise.proofs.AgainLists.{skipped_all}
use Rattle.promise.proofs.AgainMarks.{Accessible, accessible, place_of, count_of_lem}
use Rattle.promise.proofs.AgainFont.{Plain, listed_again}
use Rattle.promise.proofs.AgainPlain.{plain}

met_below : {infos s : List ℕ} {l : Layout} {i : ℕ} → Met infos s l i → i < l.nl
met_below (start x n h) = h
met_below (onward m b h) = h

-- in the file that is written of a font, the accessible steps are the font's: none is over 128, and each leads on to another
module _ (F : Font) (w : Whole F) (r : Runs F) (t : Fits F) (a : Accessible F w r t) where
  abbrev s : List ℕ
  s = table_of (written F) (sizes_for F) 6

  abbrev m : List ℕ
  m = marks_in (written F) (sizes_for F)

  last : (sizes_for F).ec ≤ 255
  unfolding sizes_for
  last = last_byte F

  here : {i : ℕ} → i < (sizes_for F).nl → get_or m i 0 ≡ 2 → live (sizes_for F) m i ≡ true
  unfolding live
  here {i} h e = rw (lt-ltb i (sizes_for F).nl h, eq-eqb (get_or m i 0) 2 e)

  within : (i : ℕ) → get_or m i 0 ≡ 2 → (front F ≤ i) × (i < front F + length F.program.steps)
  within i e = elim (dec_le (front F) i) [
    | yes p ↦ elim (dec_lt i (front F + length F.program.steps)) [ yes q ↦ (p, q) | no q ↦ absurd (out (λ x y. q y)) ]
    | no p ↦ absurd (out (λ x y. p x))
  ]
    where
      out : (front F ≤ i → i < front F + length F.program.steps → ⊥) → ⊥
      out h = true≢false (sym (here (met_below (sound (table_of (written F) (sizes_for F) 1) s (sizes_for F) last i e)) e) ∙ a.outside i h)

  low : (i : ℕ) → get_or m i 0 ≡ 2 → byte_of s i 0 ≤ 128
  low i e =
      let z = within i e in
      let q : front F + (i - front F) ≡ i = omega arith in
      let n : i - front F < length F.program.steps = omega arith in
      let y = rw q at (skip_back F r (i - front F) n) in
      omega (arith, r.skips (i - front F) n)

  on : (i : ℕ) → i < (sizes_for F).nl → get_or m i 0 ≡ 2 → byte_of s i 0 < 128
      → rank (live (sizes_for F) m) i + 1 + skipped m i (byte_of s i 0) < rank (live (sizes_for F) m) (sizes_for F).nl
  on i h e b =
      let z = within i e in
      let q : front F + (i - front F) ≡ i = omega arith in
      let n : i - front F < length F.program.steps = omega arith in
      let y = rw q at (skip_back F r (i - front F) n) in
      let d = r.leads (i - front F) n (omega arith) in
      let u : rank (live (sizes_for F) m) i ≡ i - front F = rw q at (place_of F w r t a (i - front F) (omega arith)) in
      let v = skipped_all m i (byte_of s i 0) (λ j x. a.inside (i + 1 + j) (omega arith) (omega arith)) in
      omega (arith, count_of_lem F w r t a)

-- f is a clean file whose programs meet no step over 128, and each code with a program lies between two that exist
module _ (f : List ℕ) (l : Layout) (h : Clean f l) (over : NoneOver (table_of f l 1) (table_of f l 6) l) (bytes : (n : ℕ) → get_or f n 0 < 256)
    (between : (c : ℕ) → c < 256 → program_of (table_of f l 1) (table_of f l 6) l c < l.nl → Between f l c) where
  abbrev F : Font
  F = listed_of f l

  c : Clear f l
  c = clear f l h.later h.number h.unmended over

  in_file_lem : (x : ℕ) → x < 256 → F.program.tag x ≡ 1 → in_file F x ≡ true
  unfolding in_file start_for
  in_file_lem x q e =
      let b = between x q (tag_label f l c x e) in
      rw (le-leb (first_code F) x (omega (arith, b.from_lower, from_first F (whole f l c) b.lower (present_is f l c b.lower ∙ b.lower_exists))), le-leb x (last_code F) (omega (arith, b.to_upper, to_last F (whole f l c) b.upper (present_is f l c b.upper ∙ b.upper_exists))))

  module _ (much : too_much (listed_of f l) ≡ false) where
    t : Fits F
    t = fits F much

    p : Plain F
    p = plain f l c t h.unmended bytes in_file_lem

    -- the listing of the file that is written of it is read as the same font
    read_again : (letters : Bool) → read_font (text_in letters (written F) (sizes_for F) clean) ≡ accepts F
    read_again letters =
        let a = accessible F (whole f l c) (runs f l c) t p.labels p.reached in
        font_back_by (written F) (sizes_for F) 0 (sound_accepted _ _ (written_sound F t)) (clean_again f l h.later h.number h.unmended over bytes much)
        (low F (whole f l c) (runs f l c) t a) (on F (whole f l c) (runs f l c) t a) (bytes_back f l h.later h.number h.unmended over bytes much) letters
        ∙ ap accepts (listed_again F (whole f l c) (runs f l c) t p)

    built_again : (letters : Bool) → build (text_in letters (written F) (layout_of (written F)) clean) ≡ accepts (written F)
    unfolding build file_of file_for
    built_again letters =
        rw (layout_back F)
        (ap file_of (read_again letters) ∙ ap file_for (unrepaired f l c h.unmended bytes) ∙ rw much)

  -- THE SAME FILE, whatever the formats of the two listings
  pub again : (letters anew : Bool) (g : List ℕ) → build (text_in letters f l clean) ≡ accepts g → build (text_in anew g (layout_of g) clean) ≡ accepts g
  again letters anew g e =
      let w = filed (listed_of f l) g (sym (build_is f l h.later h.number h.unmended over bytes letters) ∙ e) in
      subst (λ (x : List ℕ). build (text_in anew x (layout_of x) clean) ≡ accepts x) w.same (built_again w.few anew)
