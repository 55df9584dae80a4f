-- The characters read back: the same codes exist, and each has its own lengths, tag and remainder.
use Prim.Native.Nat.{ℕ, suc, ◌+◌, ◌-◌, ◌≤◌, ◌<◌}
use native.Mathlib.Decide.{ℕ_discrete, dec_le}
use native.Mathlib.Omega.{arith}
use mathlib.Core.Path.{◌≡◌, refl, sym, ◌∙◌}
use mathlib.Core.Bool.{Bool, true, false, and-false}
use mathlib.Core.List.{List, ◌∷◌}
use lib.ListN.{length, get_or}
use borrow.Author.Tests.{le-ltb, le-leb, lt-leb, eq-eqb, ne_eqb}
use Rattle.tfm.specs.Subfiles.{count_of, table_of}
use Rattle.tfm.specs.Characters.{byte_of, info_of, in_range, exists_in}
use Rattle.tfm.specs.Lengths.{word_of}
use Rattle.tfm.specs.declared.Layout.{Layout}
use Rattle.font.specs.Font.{Font}
use Rattle.building.specs.Pick.{bound}
use Rattle.building.specs.Values.{place}
use Rattle.font.specs.Checked.{word_byte}
use Rattle.building.specs.Written.{table, first_code, last_code, ordered, width_index, length_index, new_remainder, info_byte, byte_in, sizes_for, part_for, written, kerns, header_byte}
use Rattle.building.specs.Values.{signed_less}
use Rattle.building.proofs.Picks.{least_le, bound_gt}
use Rattle.building.proofs.Places.{In, in_place, reads_back, in_distinct}
use Rattle.building.proofs.Laid.{byte_back, part_back, table_word, word_back}
use Rattle.building.proofs.Accepts.{Fits}

-- a font's characters are whole: codes are bytes, each length is in its table, and a tag is one of four
pub record Whole (F : Font) : Type 0 where
  pub small : (c : ℕ) → F.characters.present c ≡ true → c < 256
  pub widths : (c : ℕ) → F.characters.present c ≡ true → In (F.characters.width c) F.characters.widths
  pub heights : (c : ℕ) → (F.characters.height c ≡ 0 → ⊥) → In (F.characters.height c) F.characters.heights
  pub depths : (c : ℕ) → (F.characters.depth c ≡ 0 → ⊥) → In (F.characters.depth c) F.characters.depths
  pub italics : (c : ℕ) → (F.characters.italic c ≡ 0 → ⊥) → In (F.characters.italic c) F.characters.italics
  pub tags : (c : ℕ) → F.program.tag c < 4

-- entry length_index of a dimension table
module _ (ws : List ℕ) (w : ℕ) (i : (w ≡ 0 → ⊥) → In w ws) where
  pub index_in_lem : length_index ws w ≤ length (ordered ws)
  unfolding length_index
  index_in_lem = elim (ℕ_discrete w 0) [
    | yes e ↦ rw (eq-eqb w 0 e) (omega arith)
    | no e ↦ rw (ne_eqb w 0 e) (in_place (in_distinct signed_less (i e)))
  ]

  pub index_reads : get_or (0 ∷ ordered ws) (length_index ws w) 0 ≡ w
  unfolding length_index
  index_reads = elim (ℕ_discrete w 0) [
    | yes e ↦ rw (eq-eqb w 0 e) (sym e)
    | no e ↦ rw (ne_eqb w 0 e) (reads_back (in_distinct signed_less (i e)) 0)
  ]

-- entry i of a dimension table, and of the kerns, the recipes and the parameters
entry_word : (F : Font) (k : ℕ) → k ≤ 9 → (ws : List ℕ) → part_for F k ≡ table (λ i j. word_byte (get_or (0 ∷ ordered ws) i 0) j) (suc (length (ordered ws)))
    → (i : ℕ) → i ≤ length (ordered ws) → word_of (table_of (written F) (sizes_for F) k) i ≡ get_or (0 ∷ ordered ws) i 0
entry_word F k h ws e i n = rw (part_back F k h, e) (table_word (λ i. get_or (0 ∷ ordered ws) i 0) (suc (length (ordered ws))) i (omega arith))

list_word : (F : Font) (k : ℕ) → k ≤ 9 → (ws : List ℕ) → part_for F k ≡ table (λ i j. word_byte (get_or ws i 0) j) (length ws)
    → (i : ℕ) → i < length ws → word_of (table_of (written F) (sizes_for F) k) i ≡ get_or ws i 0
list_word F k h ws e i n = rw (part_back F k h, e) (table_word (λ i. get_or ws i 0) (length ws) i n)

pub kern_back : (F : Font) (i : ℕ) → i < length (kerns F) → word_of (table_of (written F) (sizes_for F) 7) i ≡ get_or (kerns F) i 0
unfolding part_for byte_in count_of sizes_for
kern_back F = list_word F 7 (omega arith) (kerns F) refl

pub recipe_back : (F : Font) (i : ℕ) → i < length F.program.recipes → word_of (table_of (written F) (sizes_for F) 8) i ≡ get_or F.program.recipes i 0
unfolding part_for byte_in count_of sizes_for
recipe_back F = list_word F 8 (omega arith) F.program.recipes refl

pub parameter_back : (F : Font) (i : ℕ) → i < length F.parameters → word_of (table_of (written F) (sizes_for F) 9) i ≡ get_or F.parameters i 0
unfolding part_for byte_in count_of sizes_for
parameter_back F = list_word F 9 (omega arith) F.parameters refl

pub recipe_byte : (F : Font) (i j : ℕ) → i < length F.program.recipes → j < 4 → byte_of (table_of (written F) (sizes_for F) 8) i j ≡ word_byte (get_or F.program.recipes i 0) j
unfolding byte_in count_of sizes_for
recipe_byte F i j h p = byte_back F 8 i j (omega arith) h p

pub parameter_byte : (F : Font) (i j : ℕ) → i < length F.parameters → j < 4 → byte_of (table_of (written F) (sizes_for F) 9) i j ≡ word_byte (get_or F.parameters i 0) j
unfolding byte_in count_of sizes_for
parameter_byte F i j h p = byte_back F 9 i j (omega arith) h p

pub kern_byte : (F : Font) (i j : ℕ) → i < length (kerns F) → j < 4 → byte_of (table_of (written F) (sizes_for F) 7) i j ≡ word_byte (get_or (kerns F) i 0) j
unfolding byte_in count_of sizes_for
kern_byte F i j h p = byte_back F 7 i j (omega arith) h p

-- byte j of entry i of a dimension table
pub width_byte : (F : Font) (i j : ℕ) → i < (sizes_for F).nw → j < 4 → byte_of (table_of (written F) (sizes_for F) 2) i j ≡ word_byte (get_or (0 ∷ ordered F.characters.widths) i 0) j
unfolding byte_in count_of sizes_for
width_byte F i j h p = byte_back F 2 i j (omega arith) h p

pub height_byte : (F : Font) (i j : ℕ) → i < (sizes_for F).nh → j < 4 → byte_of (table_of (written F) (sizes_for F) 3) i j ≡ word_byte (get_or (0 ∷ ordered F.characters.heights) i 0) j
unfolding byte_in count_of sizes_for
height_byte F i j h p = byte_back F 3 i j (omega arith) h p

pub depth_byte : (F : Font) (i j : ℕ) → i < (sizes_for F).nd → j < 4 → byte_of (table_of (written F) (sizes_for F) 4) i j ≡ word_byte (get_or (0 ∷ ordered F.characters.depths) i 0) j
unfolding byte_in count_of sizes_for
depth_byte F i j h p = byte_back F 4 i j (omega arith) h p

pub italic_byte : (F : Font) (i j : ℕ) → i < (sizes_for F).ni → j < 4 → byte_of (table_of (written F) (sizes_for F) 5) i j ≡ word_byte (get_or (0 ∷ ordered F.characters.italics) i 0) j
unfolding byte_in count_of sizes_for
italic_byte F i j h p = byte_back F 5 i j (omega arith) h p

-- entry 0 of each is zero
pub width_zero : (F : Font) → word_of (table_of (written F) (sizes_for F) 2) 0 ≡ 0
unfolding part_for byte_in count_of sizes_for
width_zero F = entry_word F 2 (omega arith) F.characters.widths refl 0 (omega arith)

pub height_zero : (F : Font) → word_of (table_of (written F) (sizes_for F) 3) 0 ≡ 0
unfolding part_for byte_in count_of sizes_for
height_zero F = entry_word F 3 (omega arith) F.characters.heights refl 0 (omega arith)

pub depth_zero : (F : Font) → word_of (table_of (written F) (sizes_for F) 4) 0 ≡ 0
unfolding part_for byte_in count_of sizes_for
depth_zero F = entry_word F 4 (omega arith) F.characters.depths refl 0 (omega arith)

pub italic_zero : (F : Font) → word_of (table_of (written F) (sizes_for F) 5) 0 ≡ 0
unfolding part_for byte_in count_of sizes_for
italic_zero F = entry_word F 5 (omega arith) F.characters.italics refl 0 (omega arith)

-- byte j of word i of the header
pub header_byte_lem : (F : Font) (i j : ℕ) → i < 18 → j < 4 → byte_of (table_of (written F) (sizes_for F) 0) i j ≡ header_byte F i j
unfolding byte_in count_of sizes_for
header_byte_lem F i j h p = byte_back F 0 i j (omega arith) (omega arith) p

-- the further words of the header
further_byte : (F : Font) (i j : ℕ) → i < length F.header.further → j < 4 → byte_of (table_of (written F) (sizes_for F) 0) (18 + i) j ≡ word_byte (get_or F.header.further i 0) j
unfolding byte_in header_byte count_of sizes_for
further_byte F i j h p =
    let e : 18 + i - 18 ≡ i = omega arith in
    byte_back F 0 (18 + i) j (omega arith) (omega arith) p
    ∙ rw (ne_eqb (18 + i) 0 (omega arith), ne_eqb (18 + i) 1 (omega arith), le-ltb (18 + i) 12 (omega arith), le-ltb (18 + i) 17 (omega arith), ne_eqb (18 + i) 17 (omega arith), e)

pub further_back : (F : Font) (i : ℕ) → i < length F.header.further → word_of (table_of (written F) (sizes_for F) 0) (18 + i) ≡ get_or F.header.further i 0
unfolding word_of
further_back F i h =
    rw (further_byte F i 0 h (omega arith), further_byte F i 1 h (omega arith), further_byte F i 2 h (omega arith), further_byte F i 3 h (omega arith)) (word_back (get_or F.header.further i 0))

pub face_back : (F : Font) → byte_of (table_of (written F) (sizes_for F) 0) 17 3 ≡ F.header.face
unfolding header_byte
face_back F = header_byte_lem F 17 3 (omega arith) (omega arith)

-- the check sum and the design size
pub check_back : (F : Font) → F.header.checked ≡ true → word_of (table_of (written F) (sizes_for F) 0) 0 ≡ F.header.check_sum
unfolding word_of byte_in header_byte count_of sizes_for
check_back F e =
    rw (byte_back F 0 0 0 (omega arith) (omega arith) (omega arith), byte_back F 0 0 1 (omega arith) (omega arith) (omega arith), byte_back F 0 0 2 (omega arith) (omega arith) (omega arith), byte_back F 0 0 3 (omega arith) (omega arith) (omega arith), e)
    (word_back F.header.check_sum)

pub design_back : (F : Font) → word_of (table_of (written F) (sizes_for F) 0) 1 ≡ F.header.design_size
unfolding word_of byte_in header_byte count_of sizes_for
design_back F =
    rw (byte_back F 0 1 0 (omega arith) (omega arith) (omega arith), byte_back F 0 1 1 (omega arith) (omega arith) (omega arith), byte_back F 0 1 2 (omega arith) (omega arith) (omega arith), byte_back F 0 1 3 (omega arith) (omega arith) (omega arith))
    (word_back F.header.design_size)

-- when a code exists
module _ (infos : List ℕ) (l : Layout) (c : ℕ) where
  pub exists_yes : l.bc ≤ c → c ≤ l.ec → (byte_of infos (c - l.bc) 0 ≡ 0 → ⊥) → exists_in infos l c ≡ true
  unfolding exists_in in_range
  exists_yes a b n = rw (le-leb l.bc c a, le-leb c l.ec b, ne_eqb (byte_of infos (c - l.bc) 0) 0 n)

  exists_zero : l.bc ≤ c → c ≤ l.ec → byte_of infos (c - l.bc) 0 ≡ 0 → exists_in infos l c ≡ false
  unfolding exists_in in_range
  exists_zero a b n = rw (le-leb l.bc c a, le-leb c l.ec b, n)

  exists_after : l.ec < c → exists_in infos l c ≡ false
  unfolding exists_in in_range
  exists_after a = rw (lt-leb c l.ec a, and-false)

  exists_before : c < l.bc → exists_in infos l c ≡ false
  unfolding exists_in in_range
  exists_before a = rw (lt-leb l.bc c a)

module _ (F : Font) (w : Whole F) where
  -- an existing code lies in bc..ec
  pub from_first : (c : ℕ) → F.characters.present c ≡ true → first_code F ≤ c
  unfolding first_code
  from_first c p =
      let b = bound_gt F.characters.present 256 c p (w.small c p) in
      rw (ne_eqb (bound F.characters.present 256) 0 (omega arith)) (least_le F.characters.present 256 c p (w.small c p))

  pub to_last : (c : ℕ) → F.characters.present c ≡ true → c ≤ last_code F
  unfolding last_code
  to_last c p = omega (arith, bound_gt F.characters.present 256 c p (w.small c p))

  -- byte j of the info of a code in bc..ec
  pub info_back : (c j : ℕ) → first_code F ≤ c → c ≤ last_code F → j < 4 → byte_of (table_of (written F) (sizes_for F) 1) (c - first_code F) j ≡ info_byte F c j
  unfolding byte_in count_of sizes_for
  info_back c j a b h =
      let e : first_code F + (c - first_code F) ≡ c = omega arith in
      byte_back F 1 (c - first_code F) j (omega arith) (omega arith) h ∙ rw e

  pub width_back : (c : ℕ) → first_code F ≤ c → c ≤ last_code F → byte_of (table_of (written F) (sizes_for F) 1) (c - first_code F) 0 ≡ width_index F c
  unfolding info_byte
  width_back c a b = info_back c 0 a b (omega arith)

  there : (c : ℕ) → F.characters.present c ≡ true → exists_in (table_of (written F) (sizes_for F) 1) (sizes_for F) c ≡ true
  unfolding sizes_for width_index
  there c p =
      let a = from_first c p in
      let b = to_last c p in
      let e : byte_of (table_of (written F) (sizes_for F) 1) (c - first_code F) 0 ≡ suc (place (ordered F.characters.widths) (F.characters.width c)) = width_back c a b ∙ rw p in
      exists_yes (table_of (written F) (sizes_for F) 1) (sizes_for F) c a b (λ z. omega (arith, e))

  absent : (c : ℕ) → F.characters.present c ≡ false → exists_in (table_of (written F) (sizes_for F) 1) (sizes_for F) c ≡ false
  unfolding sizes_for width_index
  absent c p = elim (dec_le (first_code F) c) [
    | yes a ↦ elim (dec_le c (last_code F)) [
      | yes b ↦ exists_zero (table_of (written F) (sizes_for F) 1) (sizes_for F) c a b (width_back c a b ∙ rw p)
      | no b ↦ exists_after (table_of (written F) (sizes_for F) 1) (sizes_for F) c (omega arith)
    ]
    | no a ↦ exists_before (table_of (written F) (sizes_for F) 1) (sizes_for F) c (omega arith)
  ]

  -- the same codes exist
  pub exists_back : (c : ℕ) → exists_in (table_of (written F) (sizes_for F) 1) (sizes_for F) c ≡ F.characters.present c
  exists_back c = go (F.characters.present c) refl
    where
      go : (b : Bool) → F.characters.present c ≡ b → exists_in (table_of (written F) (sizes_for F) 1) (sizes_for F) c ≡ F.characters.present c
      go true p = there c p ∙ sym p
      go false p = absent c p ∙ sym p

  -- the info of a code in bc..ec
  module _ (t : Fits F) (c : ℕ) (a : first_code F ≤ c) (b : c ≤ last_code F) where
    height_index : (info_of (table_of (written F) (sizes_for F) 1) (c - first_code F)).height ≡ length_index F.characters.heights (F.characters.height c)
    unfolding info_of info_byte
    height_index =
        let d = index_in_lem F.characters.depths (F.characters.depth c) (w.depths c) in
        let m = t.depths in
        rw (info_back c 1 a b (omega arith)) (omega arith)

    depth_index : (info_of (table_of (written F) (sizes_for F) 1) (c - first_code F)).depth ≡ length_index F.characters.depths (F.characters.depth c)
    unfolding info_of info_byte
    depth_index =
        let d = index_in_lem F.characters.depths (F.characters.depth c) (w.depths c) in
        let m = t.depths in
        rw (info_back c 1 a b (omega arith)) (omega arith)

    italic_index : (info_of (table_of (written F) (sizes_for F) 1) (c - first_code F)).italic ≡ length_index F.characters.italics (F.characters.italic c)
    unfolding info_of info_byte
    italic_index = let d = w.tags c in rw (info_back c 2 a b (omega arith)) (omega arith)

    pub tag_back : (info_of (table_of (written F) (sizes_for F) 1) (c - first_code F)).tag ≡ F.program.tag c
    unfolding info_of info_byte
    tag_back = let d = w.tags c in rw (info_back c 2 a b (omega arith)) (omega arith)

    pub remainder_back : (info_of (table_of (written F) (sizes_for F) 1) (c - first_code F)).remainder ≡ new_remainder F c
    unfolding info_of info_byte
    remainder_back = info_back c 3 a b (omega arith)

    -- the lengths: an index in its table, and the word there
    pub height_back : word_of (table_of (written F) (sizes_for F) 3) (info_of (table_of (written F) (sizes_for F) 1) (c - first_code F)).height ≡ F.characters.height c
    unfolding part_for byte_in count_of sizes_for
    height_back =
        rw height_index
        (entry_word F 3 (omega arith) F.characters.heights refl _ (index_in_lem _ _ (w.heights c)) ∙ index_reads F.characters.heights (F.characters.height c) (w.heights c))

    pub depth_back : word_of (table_of (written F) (sizes_for F) 4) (info_of (table_of (written F) (sizes_for F) 1) (c - first_code F)).depth ≡ F.characters.depth c
    unfolding part_for byte_in count_of sizes_for
    depth_back =
        rw depth_index
        (entry_word F 4 (omega arith) F.characters.depths refl _ (index_in_lem _ _ (w.depths c)) ∙ index_reads F.characters.depths (F.characters.depth c) (w.depths c))

    pub italic_back : word_of (table_of (written F) (sizes_for F) 5) (info_of (table_of (written F) (sizes_for F) 1) (c - first_code F)).italic ≡ F.characters.italic c
    unfolding part_for byte_in count_of sizes_for
    italic_back =
        rw italic_index
        (entry_word F 5 (omega arith) F.characters.italics refl _ (index_in_lem _ _ (w.italics c)) ∙ index_reads F.characters.italics (F.characters.italic c) (w.italics c))

    pub height_within : (info_of (table_of (written F) (sizes_for F) 1) (c - first_code F)).height < (sizes_for F).nh
    unfolding sizes_for
    height_within = rw height_index (omega (arith, index_in_lem F.characters.heights (F.characters.height c) (w.heights c)))

    pub depth_within : (info_of (table_of (written F) (sizes_for F) 1) (c - first_code F)).depth < (sizes_for F).nd
    unfolding sizes_for
    depth_within = rw depth_index (omega (arith, index_in_lem F.characters.depths (F.characters.depth c) (w.depths c)))

    pub italic_within : (info_of (table_of (written F) (sizes_for F) 1) (c - first_code F)).italic < (sizes_for F).ni
    unfolding sizes_for
    italic_within = rw italic_index (omega (arith, index_in_lem F.characters.italics (F.characters.italic c) (w.italics c)))

  -- the width of an existing character
  module _ (c : ℕ) (p : F.characters.present c ≡ true) where
    width_is : (info_of (table_of (written F) (sizes_for F) 1) (c - first_code F)).width ≡ suc (place (ordered F.characters.widths) (F.characters.width c))
    unfolding info_of width_index
    width_is = width_back c (from_first c p) (to_last c p) ∙ rw p

    width_place : place (ordered F.characters.widths) (F.characters.width c) < length (ordered F.characters.widths)
    width_place = in_place (in_distinct signed_less (w.widths c p))

    pub width_word : word_of (table_of (written F) (sizes_for F) 2) (info_of (table_of (written F) (sizes_for F) 1) (c - first_code F)).width ≡ F.characters.width c
    unfolding part_for byte_in count_of sizes_for
    width_word =
        rw width_is
        (entry_word F 2 (omega arith) F.characters.widths refl (suc (place (ordered F.characters.widths) (F.characters.width c))) width_place
        ∙ reads_back (in_distinct signed_less (w.widths c p)) 0)

    pub width_within : (info_of (table_of (written F) (sizes_for F) 1) (c - first_code F)).width < (sizes_for F).nw
    unfolding sizes_for
    width_within = rw width_is (omega (arith, width_place))
