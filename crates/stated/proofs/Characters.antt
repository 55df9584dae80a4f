-- The characters of a listing tell their lengths, their links and their recipes.
use Prim.Native.Nat.{ℕ, ◌-◌, ◌/◌, ◌≤◌, ◌<◌}
use native.Mathlib.Omega.{arith}
use mathlib.Core.Path.{◌≡◌, refl, sym}
use mathlib.Core.Bool.{Bool, true, false, cond, ◌&&◌, not, true≢false}
use mathlib.Core.List.{List, [], ◌∷◌}
use lib.Dec.{eqb}
use lib.ListN.{length, get_or}
use borrow.Author.Tests.{ltb-true}
use Rattle.lent.specs.Write.{codes, flat}
use Rattle.ink.specs.Ink.{between, alphanumeric}
use Rattle.faults.specs.Header.{upper}
use Rattle.tfm.specs.Characters.{byte_of, info_of, exists_in}
use Rattle.tfm.specs.Lengths.{word_of}
use Rattle.tfm.specs.declared.Layout.{Layout}
use Rattle.tfm.specs.declared.CharInfo.{CharInfo}
use Rattle.items.specs.Items.{Items, word_text}
use Rattle.listing.specs.Characters.{width_item, length_item, length_items, shown, piece_item, optional_item, recipe_items, varchar as varchar_item, tag_item, present_item, character_item}
use Rattle.forest.specs.Forest.{in_name, same, past}
use Rattle.forest.proofs.Quiet.{is_quiet, quiet, quiet_words, calm}
use Rattle.forest.specs.Plain.{word_bytes}
use Rattle.reading.proofs.Digits.{ends}
use Rattle.reading.specs.Values.{code_in, real_in}
use Rattle.reading.specs.Heads.{Statement, width, height, depth, italic, larger, described, Place, top, character, varchar, within, small, states, leads_on, in_character, in_varchar, at_top, entry_in, width_at}
use Rattle.reading.specs.Read.{tells, leaves}
use Rattle.reading.proofs.Reals.{Bounded}
use Rattle.reading.proofs.Tells.{in_full, is_name, Tells, tells_none, tells_then, tells_choose, tells_either, tells_as, tells_leaf, known, tells_real_at, tells_real, tells_code, tells_piece, tells_list, tells_coded}
use Rattle.stated.specs.Stated.{width_stated, length_stated, lengths_stated, piece_stated, recipe_stated, tag_stated, character_stated}
use Rattle.stated.proofs.Program.{one_comment}

-- the words of a table of lengths are in their range
abbrev pub Fits : List ℕ → Type 0
Fits t = (i : ℕ) → i < length t / 4 → (word_of t i < 4294967296) × Bounded small (word_of t i)

small_le : small ≤ 2147483648
unfolding small
small_le = omega arith

right : (a b : Bool) → (a && b) ≡ true → b ≡ true
right true b e = e
right false b e = absurd (true≢false (sym e))

module _ {A : Type 0} (tell : A → Statement → A) where
  tells_at : {p q r : Place} {t : Items} {ss : List Statement} → q ≡ r → Tells tell p t ss q → Tells tell p t ss r
  tells_at e x = rw (← e) x

  one_width : (widths : List ℕ) (c i : ℕ) → Fits widths → Tells tell (character c) (width_item widths i) (width c (width_stated widths i) ∷ []) (character c)
  unfolding width_item width_stated entry_in in_character width_at same is_name in_full in_name alphanumeric between upper real_in past word_bytes word_text flat calm quiet quiet_words is_quiet
  one_width widths c i f =
      tells_either tell
      (λ e. let x = f i (ltb-true i (length widths / 4) e) in tells_as tell (rw e) (tells_real_at tell refl (width c) small (word_of widths i) refl x.0 small_le x.1))
      (λ e. tells_as tell (rw e) (tells_leaf tell refl (known (character c) (codes "CHARWD") [] refl ends)))

  one_length : (n : List ℕ) → is_name n ≡ true → (say : ℕ → Statement) (t : List ℕ) (c i : ℕ) → ((s : List ℕ) → entry_in (character c) n s ≡ states (character c) say true (real_in small s)) → Fits t
      → Tells tell (character c) (length_item n t i) (length_stated say t i) (character c)
  unfolding length_item length_stated
  one_length n q say t c i h f =
      tells_choose tell
      (λ e. let x = f i (ltb-true i (length t / 4) (right (not (eqb i 0)) _ e)) in tells_real tell q say small (word_of t i) h x.0 small_le x.1)
      (λ e. tells_none tell)

  -- a piece of a recipe
  module _ (letters : Bool) (infos : List ℕ) (l : Layout) (c : ℕ) (code-low : c < 256) where
    shown_low : (x : ℕ) → x < 256 → shown infos l c x < 256
    shown_low x h = go (exists_in infos l x)
      where
        go : (b : Bool) → cond b x c < 256
        go true = h
        go false = code-low

    optional : {p : Place} (n : List ℕ) → is_name n ≡ true → (q : ℕ → Place) (x : ℕ) → ((s : List ℕ) → entry_in p n s ≡ leads_on (λ y. within (q y)) (code_in 0 255 s)) → p ≡ q 0 → x < 256
        → Tells tell p (optional_item letters infos l c n x) [] (q (piece_stated infos l c x))
    unfolding optional_item piece_item piece_stated
    optional n e q x i z h =
        tells_either tell
        (λ d. tells_at (rw d z) (tells_none tell))
        (λ d. tells_at (rw d) (tells_piece tell e q letters (shown infos l c x) i (shown_low x h)))

    one_recipe : (recipes : List ℕ) (r : ℕ) → ((i j : ℕ) → byte_of recipes i j < 256)
        → Tells tell (character c) (varchar_item letters infos l c recipes r) (recipe_stated infos recipes l c r ∷ []) (character c)
    unfolding varchar_item recipe_items piece_item recipe_stated leaves tells entry_in in_character in_varchar same is_name in_full in_name alphanumeric between upper
    one_recipe recipes r b =
        let t = piece_stated infos l c (byte_of recipes r 0) in
        let m = piece_stated infos l c (byte_of recipes r 1) in
        let o = piece_stated infos l c (byte_of recipes r 2) in
        tells_list tell refl [] (recipe_stated infos recipes l c r ∷ []) (λ s. refl)
        (tells_then tell (tells_then tell (tells_then tell
        (optional (codes "TOP") refl (λ x. varchar c x 0 0 0) (byte_of recipes r 0) (λ s. refl) refl (b r 0))
        (optional (codes "MID") refl (λ x. varchar c t x 0 0) (byte_of recipes r 1) (λ s. refl) refl (b r 1)))
        (optional (codes "BOT") refl (λ x. varchar c t m x 0) (byte_of recipes r 2) (λ s. refl) refl (b r 2)))
        (tells_piece tell refl (λ x. varchar c t m o x) letters (shown infos l c (byte_of recipes r 3)) (λ s. refl) (shown_low (byte_of recipes r 3) (b r 3))))
        (λ a ok. refl)

  module _ (letters : Bool) (infos widths heights depths italics s kerns recipes : List ℕ) (l : Layout) (starts : List ℕ)
      (info-bytes : (i j : ℕ) → byte_of infos i j < 256) (recipe-bytes : (i j : ℕ) → byte_of recipes i j < 256) (step-bytes : (i j : ℕ) → byte_of s i j < 256)
      (w : Fits widths) (h : Fits heights) (d : Fits depths) (i : Fits italics) (k : Fits kerns) (c : ℕ) (low : c < 256) where
    lengths : (info : CharInfo)
        → Tells tell (character c) (length_items widths heights depths italics info) (lengths_stated widths heights depths italics c info) (character c)
    unfolding length_items lengths_stated entry_in in_character same is_name in_full in_name alphanumeric between upper
    lengths info =
        tells_then tell (tells_then tell (tells_then tell
        (one_width widths c info.width w)
        (one_length (codes "CHARHT") refl (height c) heights c info.height (λ s. refl) h))
        (one_length (codes "CHARDP") refl (depth c) depths c info.depth (λ s. refl) d))
        (one_length (codes "CHARIC") refl (italic c) italics c info.italic (λ s. refl) i)

    tag : (info : CharInfo) → info.remainder < 256
        → Tells tell (character c) (tag_item letters infos s kerns recipes l starts c info) (tag_stated infos recipes l c info) (character c)
    unfolding tag_item tag_stated entry_in in_character same is_name in_full in_name alphanumeric between upper
    tag info b =
        tells_choose tell (λ e. one_comment tell letters s kerns step-bytes k c l.nl (get_or starts c 0))
        (λ e. tells_choose tell (λ e. tells_code tell refl (larger c) letters info.remainder (λ s. refl) b)
        (λ e. tells_choose tell (λ e. one_recipe letters infos l c low recipes info.remainder recipe-bytes) (λ e. tells_none tell)))

    pub one_character : Tells tell top (character_item letters infos widths heights depths italics s kerns recipes l starts c) (character_stated infos widths heights depths italics recipes l c) top
    unfolding character_item present_item character_stated info_of leaves tells entry_in at_top same is_name in_full in_name alphanumeric between upper
    one_character =
        tells_choose tell
        (λ e. tells_coded tell refl (described c ∷ []) character letters c (λ s. refl) low (tells_then tell (lengths _) (tag _ (info-bytes (c - l.bc) 3))) (λ a ok. refl))
        (λ e. tells_none tell)
