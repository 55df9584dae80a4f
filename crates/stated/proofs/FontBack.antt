-- THE READ-BACK of a font: the listing of a clean file whose programs meet no step over 128, read, is the font that the file holds.
use Prim.Native.Nat.{ℕ, zero, suc, ◌+◌, ◌-◌, ◌/◌, ◌≤◌, ◌<◌}
use native.Mathlib.Omega.{arith}
use mathlib.Core.Path.{◌≡◌, refl, sym, ap, ◌∙◌}
use mathlib.Core.Bool.{Bool, true, false, cond, ◌&&◌, ◌||◌, not, true≢false, and-eq-true_iff}
use mathlib.Core.List.{List}
use lib.Dec.{leb, ltb, eqb}
use lib.ListN.{length, get_or}
use borrow.Author.Tests.{lt-ltb, le-leb, ne_eqb, eqb-true, leb-true, leb-false}
use Rattle.lent.proofs.Bools.{neither}
use Rattle.tfm.specs.Sizes.{number_of}
use Rattle.tfm.specs.Subfiles.{count_of, table_of}
use Rattle.tfm.specs.Characters.{byte_of, in_range, exists_in}
use Rattle.tfm.specs.Lengths.{word_of}
use Rattle.tfm.specs.declared.Layout.{Layout}
use Rattle.tfm.proofs.Accepted.{whole}
use Rattle.program.specs.Steps.{address_of, next_of}
use Rattle.faults.specs.Header.{string_room, is_read, string_byte, string_too_long}
use Rattle.header.specs.Header.{letters_from, spelled}
use Rattle.faults.specs.Steps.{looked, is_step, is_ligature, bad_kern, odd_code}
use Rattle.faults.specs.Characters.{piece_missing, bad_recipe}
use Rattle.mend.specs.Findings.{any_mend}
use Rattle.mend.specs.Copy.{mended}
use Rattle.judge.specs.Judge.{clean}
use Rattle.ligatures.specs.Ligatures.{skipped}
use Rattle.listing.specs.Characters.{shown}
use Rattle.stated.specs.Formats.{text_in}
use Rattle.stated.specs.Listed.{live, listed_here, info_for, has_recipe, listed_of}
use Rattle.clean.specs.Met.{NoneOver, marks_in}
use Rattle.clean.proofs.Marks.{sound}
use Rattle.clean.proofs.Small.{last_code_lem}
use Rattle.clean.proofs.Absent.{no_2, no_5, no_16, no_17, no_19, no_23}
use Rattle.clean.proofs.Own.{own_table}
use Rattle.reading.specs.Read.{accepts, tells}
use Rattle.stated.specs.Stated.{code_stated, piece_stated, characters_stated, stated}
use Rattle.stated.proofs.Back.{read_back}
use Rattle.stated.proofs.Live.{clear, is_live, next_below, next_live, next_place}
use Rattle.font.specs.Told.{blank, told}
use Rattle.font.specs.Read.{worded, flagged, font_of, read_font}
use Rattle.building.specs.Pick.{rank}
use Rattle.building.proofs.Picks.{rank_below}
use Rattle.stated.proofs.ToldHeader.{draft}
use Rattle.stated.proofs.ToldCharacters.{word_stated}
use Rattle.stated.proofs.ToldFont.{Tidy, listed_told}

-- a code that finding 17 lets be is listed as it is
code_listed : (op : ℕ) → eqb op 4 ≡ false → (ltb 7 op && not (eqb op 11)) ≡ false → code_stated op ≡ op
unfolding code_stated
code_listed zero e d = refl
code_listed (suc zero) e d = refl
code_listed (suc (suc zero)) e d = refl
code_listed (suc (suc (suc zero))) e d = refl
code_listed (suc (suc (suc (suc zero)))) e d = absurd (true≢false e)
code_listed (suc (suc (suc (suc (suc zero))))) e d = refl
code_listed (suc (suc (suc (suc (suc (suc zero)))))) e d = refl
code_listed (suc (suc (suc (suc (suc (suc (suc zero))))))) e d = refl
code_listed (suc (suc (suc (suc (suc (suc (suc (suc n)))))))) e d = large (suc (suc (suc (suc (suc (suc (suc (suc n)))))))) (omega arith) d
  where
    large : (op : ℕ) → 7 < op → (ltb 7 op && not (eqb op 11)) ≡ false → cond (eqb op 1 || eqb op 2 || eqb op 3 || eqb op 5 || eqb op 6 || eqb op 7 || eqb op 11) op 0 ≡ op
    large op h d = go (eqb op 11) refl (rw (lt-ltb 7 op h) at d)
      where
        go : (b : Bool) → eqb op 11 ≡ b → not b ≡ false → cond (eqb op 1 || eqb op 2 || eqb op 3 || eqb op 5 || eqb op 6 || eqb op 7 || eqb op 11) op 0 ≡ op
        go true q z = rw (eqb-true op 11 q)
        go false q z = absurd (true≢false z)

-- a string has as many letters as are asked for
pub letters_length : (h : List ℕ) (string i k : ℕ) → length (letters_from h string i k) ≡ k
unfolding letters_from
letters_length h string i zero = refl
letters_length h string i (suc k) = omega (arith, letters_length h string (i + 1) k)

-- the number of a recipe is below ne
pub recipe_number : (f : List ℕ) (l : Layout) → any_mend f l ≡ false → (x : ℕ) → has_recipe (table_of f l) l x ≡ true → (info_for (table_of f l) l x).remainder < l.ne
unfolding has_recipe listed_here bad_recipe exists_in in_range
recipe_number f l unmended x h =
    let a = (and-eq-true_iff (exists_in (table_of f l 1) l x) (eqb (info_for (table_of f l) l x).tag 3)).0 h in
    let b = (and-eq-true_iff (in_range l x) _).0 a.0 in
    let r = (and-eq-true_iff (leb l.bc x) (leb x l.ec)).0 b.0 in
    leb-false l.ne (info_for (table_of f l) l x).remainder (rw (a.0, a.1) at (no_23 f l unmended x (leb-true l.bc x r.0) (leb-true x l.ec r.1)))

-- a clean file whose accessible steps are none over 128, and lead on to accessible ones
module _ (f : List ℕ) (l : Layout) (later : ℕ) (e : number_of f l later ≡ 0) (unmended : any_mend f l ≡ false)
    (low_step : (i : ℕ) → get_or (marks_in f l) i 0 ≡ 2 → byte_of (table_of f l 6) i 0 ≤ 128)
    (goes_on : (i : ℕ) → i < l.nl → get_or (marks_in f l) i 0 ≡ 2 → byte_of (table_of f l 6) i 0 < 128
    → rank (live l (marks_in f l)) i + 1 + skipped (marks_in f l) i (byte_of (table_of f l 6) i 0) < rank (live l (marks_in f l)) l.nl) where
  step_looked : (i : ℕ) → get_or (marks_in f l) i 0 ≡ 2 → is_step (table_of f l 6) (marks_in f l) i ≡ true
  unfolding is_step looked
  step_looked i q = rw (ne_eqb (get_or (marks_in f l) i 0) 1 (omega arith), le-leb (byte_of (table_of f l 6) i 0) 128 (low_step i q))

  kern_in_lem : (i : ℕ) → i < l.nl → get_or (marks_in f l) i 0 ≡ 2 → leb 128 (byte_of (table_of f l 6) i 2) ≡ true → address_of (table_of f l 6) i - 32768 < length (table_of f l 7) / 4
  unfolding bad_kern count_of
  kern_in_lem i h q k =
      let w = whole f l later 7 e (omega arith) in
      let b = leb-false l.nk (address_of (table_of f l 6) i - 32768) (rw (step_looked i q, k) at (no_16 f l unmended i h)) in
      omega arith

  code_known : (i : ℕ) → i < l.nl → get_or (marks_in f l) i 0 ≡ 2 → leb 128 (byte_of (table_of f l 6) i 2) ≡ false → code_stated (byte_of (table_of f l 6) i 2) ≡ byte_of (table_of f l 6) i 2
  unfolding odd_code is_ligature
  code_known i h q k =
      let b : ltb (byte_of (table_of f l 6) i 2) 128 ≡ true = lt-ltb (byte_of (table_of f l 6) i 2) 128 (leb-false 128 (byte_of (table_of f l 6) i 2) k) in
      let z = neither (eqb (byte_of (table_of f l 6) i 2) 4) (ltb 7 (byte_of (table_of f l 6) i 2) && not (eqb (byte_of (table_of f l 6) i 2) 11)) (rw (step_looked i q, b) at (no_17 f l unmended i h)) in
      code_listed (byte_of (table_of f l 6) i 2) z.0 z.1

  -- the pieces of a recipe exist, and are listed as they are
  piece_is : (x b : ℕ) → ((not (eqb b 0) || false) && not (exists_in (table_of f l 1) l b)) ≡ false → piece_stated (table_of f l 1) l x b ≡ b
  unfolding piece_stated
  piece_is x b h = go (eqb b 0) refl (exists_in (table_of f l 1) l b) h
    where
      go : (z : Bool) → eqb b 0 ≡ z → (y : Bool) → ((not z || false) && not y) ≡ false → cond z 0 (cond y b x) ≡ b
      go true q y h = sym (eqb-true b 0 q)
      go false q true h = refl
      go false q false h = absurd (true≢false h)

  repeater_is : (x b : ℕ) → ((not (eqb b 0) || true) && not (exists_in (table_of f l 1) l b)) ≡ false → shown (table_of f l 1) l x b ≡ b
  repeater_is x b h = go (eqb b 0) (exists_in (table_of f l 1) l b) h
    where
      go : (z y : Bool) → ((not z || true) && not y) ≡ false → cond y b x ≡ b
      go z true h = refl
      go true false h = absurd (true≢false h)
      go false false h = absurd (true≢false h)

  recipe_whole : (x : ℕ) → has_recipe (table_of f l) l x ≡ true → word_stated (table_of f l 1) (table_of f l 8) l x (info_for (table_of f l) l x).remainder ≡ word_of (table_of f l 8) (info_for (table_of f l) l x).remainder
  unfolding word_stated word_of piece_missing
  recipe_whole x h =
      let n = recipe_number f l unmended x h in
      let r = (info_for (table_of f l) l x).remainder in
      rw (piece_is x (byte_of (table_of f l 8) r 0) (no_19 f l unmended r 0 n (omega arith)), piece_is x (byte_of (table_of f l 8) r 1) (no_19 f l unmended r 1 n (omega arith)), piece_is x (byte_of (table_of f l 8) r 2) (no_19 f l unmended r 2 n (omega arith)), repeater_is x (byte_of (table_of f l 8) r 3) (no_19 f l unmended r 3 n (omega arith)))

  -- a string is no longer than its length byte says, which finding 2 lets be
  string_short : (string : ℕ) → string < 2 → is_read l string ≡ true → length (spelled (table_of f l 0) string) < string_room string
  unfolding spelled string_too_long
  string_short string b r =
      let z = leb-false (string_room string) (string_byte (table_of f l 0) string 0) (rw r at (no_2 f l unmended string b)) in
      omega (arith, letters_length (table_of f l 0) string 0 (string_byte (table_of f l 0) string 0))

  first_short : leb 12 l.lh ≡ true → length (spelled (table_of f l 0) 0) ≤ 39
  unfolding is_read string_room
  first_short r = omega (arith, string_short 0 (omega arith) r)

  second_short : leb 17 l.lh ≡ true → length (spelled (table_of f l 0) 1) ≤ 19
  unfolding is_read string_room
  second_short r = omega (arith, string_short 1 (omega arith) r)

  tidy : Tidy f l (marks_in f l)
  tidy = record {
    few = last_code_lem f l later e;
    first_short = first_short;
    second_short = second_short;
    design = no_5 f l unmended;
    plain = λ i h q. record { low = low_step i q; kern_in_lem = kern_in_lem i h q; code_known = code_known i h q };
    skips = goes_on;
    whole = recipe_whole;
  }

  -- the copy of a clean file is the file, and so is what its listing states
  stated_own : stated (mended f l) l (marks_in f l) ≡ stated f l (marks_in f l)
  unfolding stated characters_stated
  stated_own =
      let own = own_table f l unmended later e in
      rw (own 0 (omega arith), own 1 (omega arith), own 2 (omega arith), own 3 (omega arith), own 4 (omega arith), own 5 (omega arith), own 6 (omega arith), own 7 (omega arith), own 8 (omega arith), own 9 (omega arith))

  -- its listing, read, is accepted, and is the font that the file holds
  pub font_back_by : ((i : ℕ) → get_or f i 0 < 256) → (letters : Bool) → read_font (text_in letters f l clean) ≡ accepts (listed_of f l)
  unfolding read_font listed_of
  font_back_by bytes letters =
      ap font_of (read_back f l later e bytes letters told (draft blank false))
      ∙ ap accepts (ap (λ ss. flagged (worded (tells told (draft blank false) ss).font)) stated_own ∙ listed_told f l (marks_in f l) tidy)

-- and so of one whose programs meet no step over 128
pub font_back : (f : List ℕ) (l : Layout) (later : ℕ) → number_of f l later ≡ 0 → any_mend f l ≡ false → NoneOver (table_of f l 1) (table_of f l 6) l
    → ((i : ℕ) → get_or f i 0 < 256) → (letters : Bool) → read_font (text_in letters f l clean) ≡ accepts (listed_of f l)
font_back f l later e unmended none bytes letters =
    let c = clear f l later e unmended none in
    font_back_by f l later e unmended (λ i q. none i (sound (table_of f l 1) (table_of f l 6) l c.most i q))
    (λ i h q b.
    let v = is_live f l c i h q in
    let n = next_below f l c i v b in
    omega (arith, next_place f l c i v b, rank_below (live l (marks_in f l)) (next_of (table_of f l 6) i) l.nl (next_live f l c i v b) n))
    bytes letters
