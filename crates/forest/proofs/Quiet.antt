-- Items whose heads have no parenthesis and no line end. Only a text that is printed as it is, of a name or a string, could have one.
use Prim.Native.Nat.{ℕ, zero, suc, ◌+◌, ◌*◌, ◌/◌, ◌%◌, ◌≤◌, ◌<◌}
use native.Mathlib.Omega.{arith}
use mathlib.Core.Path.{◌≡◌, refl, sym}
use mathlib.Core.Bool.{Bool, true, false, cond, ◌&&◌, ◌||◌, not, true≢false, and-eq-true_iff}
use mathlib.Core.List.{List, [], ◌∷◌, ◌++◌}
use mathlib.Core.Logic.{◌⊎◌, inl, inr, ⊎_elim}
use lib.Dec.{leb, ltb, eqb}
use borrow.Author.Tests.{ne_eqb, leb-true, ltb-true}
use Rattle.lent.specs.Write.{flat}
use Rattle.ink.specs.Ink.{digits, number, octal, code as char_text, between as inside, alphanumeric}
use Rattle.decimal.specs.Text.{text_of, negative, whole, rest, nudged, places}
use Rattle.items.specs.Items.{Word, raw, code, oct, dec, real, word_text, Items, empty, leaf, group, ◌▸◌, choose, loop, jumps}
use Rattle.forest.specs.Forest.{blank, line, left, right, other, mark_of}
use Rattle.forest.specs.Plain.{word_bytes, head_bytes}

unfoldable pub is_quiet : ℕ → Bool
is_quiet b = not (eqb b 40 || eqb b 41 || eqb b 10 || eqb b 13)

unfoldable pub quiet : List ℕ → Bool
quiet [] = true
quiet (b ∷ s) = is_quiet b && quiet s

unfoldable pub quiet_words : List Word → Bool
quiet_words [] = true
quiet_words (raw s ∷ ws) = quiet s && quiet_words ws
quiet_words (code letters c ∷ ws) = quiet_words ws
quiet_words (oct n ∷ ws) = quiet_words ws
quiet_words (dec n ∷ ws) = quiet_words ws
quiet_words (real w ∷ ws) = quiet_words ws

unfoldable pub calm : List ℕ → List Word → Bool
calm name ws = quiet name && quiet_words ws

pub data Good : Items → Type 0 where
  good_empty : Good empty
  good_leaf : {name : List ℕ} {ws : List Word} → calm name ws ≡ true → Good (leaf name ws)
  good_group : {name : List ℕ} {ws : List Word} {t : Items} → calm name ws ≡ true → Good t → Good (group name ws t)
  good_both : {a b : Items} → Good a → Good b → Good (a ▸ b)
  good_choose : {test : Bool} {a b : Items} → (test ≡ true → Good a) → (test ≡ false → Good b) → Good (choose test a b)
  good_loop : {n : ℕ} {f : ℕ → Items} → ((i : ℕ) → i < n → Good (f i)) → Good (loop n f)

pub good_jumps : (part : ℕ → Items) (next : ℕ → ℕ) (n k i : ℕ) → ((j : ℕ) → j < n → Good (part j)) → Good (jumps part next n k i)
unfolding jumps
good_jumps part next n zero i g = good_empty
good_jumps part next n (suc k) i g = good_choose (λ e. good_both (g i (below i n e)) (good_jumps part next n k (next i) g)) (λ e. good_empty)
  where
    below : (i n : ℕ) → ltb i n ≡ true → i < n
    below i n e = ltb-true i n e

-- of each byte
pub data Quiet : List ℕ → Type 0 where
  over : Quiet []
  gap : {b : ℕ} {s : List ℕ} → mark_of b ≡ blank → Quiet s → Quiet (b ∷ s)
  sign : {b : ℕ} {s : List ℕ} → mark_of b ≡ other → Quiet s → Quiet (b ∷ s)

pub quiet_append : {s t : List ℕ} → Quiet s → Quiet t → Quiet (s ++ t)
quiet_append over v = v
quiet_append (gap e u) v = gap e (quiet_append u v)
quiet_append (sign e u) v = sign e (quiet_append u v)

-- bytes from 42 on are none of the marks
sign_high : (b : ℕ) → 42 ≤ b → mark_of b ≡ other
unfolding mark_of
sign_high b h =
    rw (ne_eqb b 40 (omega arith), ne_eqb b 41 (omega arith), ne_eqb b 32 (omega arith), ne_eqb b 10 (omega arith), ne_eqb b 13 (omega arith))

pub data High : List ℕ → Type 0 where
  none : High []
  up : {b : ℕ} {s : List ℕ} → 42 ≤ b → High s → High (b ∷ s)

pub high_append : {s t : List ℕ} → High s → High t → High (s ++ t)
high_append none v = v
high_append (up h u) v = up h (high_append u v)

pub high_quiet : {s : List ℕ} → High s → Quiet s
high_quiet none = over
high_quiet (up {b = b} h u) = sign (sign_high b h) (high_quiet u)

from48 : (x : ℕ) → 42 ≤ 48 + x
from48 x = omega arith

pub digits_high : (base k n : ℕ) → High (digits base k n)
unfolding digits
digits_high base zero n = none
digits_high base (suc k) n = high_append (go (eqb (n / base) 0) (digits_high base k (n / base))) (up (from48 (n % base)) none)
  where
    go : (b : Bool) → High (digits base k (n / base)) → High (elim b [ true ↦ [] | false ↦ digits base k (n / base) ])
    go true h = none
    go false h = h

places_high : (k f d : ℕ) → High (places k f d)
unfolding places
places_high zero f d = none
places_high (suc k) f d =
    up (from48 (nudged f d / 1048576)) (go (leb (10 * (nudged f d % 1048576)) (d * 10)) (places_high k (10 * (nudged f d % 1048576)) (d * 10)))
  where
    go : (b : Bool) → High (places k (10 * (nudged f d % 1048576)) (d * 10)) → High (elim b [ true ↦ [] | false ↦ places k (10 * (nudged f d % 1048576)) (d * 10) ])
    go true h = none
    go false h = h

forty_five : 42 ≤ 45
forty_five = omega arith

forty_six : 42 ≤ 46
forty_six = omega arith

pub real_high : (w : ℕ) → High (text_of w)
unfolding text_of
real_high w = high_append (high_append (go (negative w)) (digits_high 10 4 (whole w))) (up forty_six (places_high 7 (10 * rest w + 5) 10))
  where
    go : (b : Bool) → High (cond b (45 ∷ []) [])
    go true = up forty_five none
    go false = none

-- a letter or a digit is 48 or more
pub alphanumeric_high : (c : ℕ) → alphanumeric c ≡ true → 42 ≤ c
unfolding alphanumeric inside
alphanumeric_high c e = go (leb 48 c) refl (leb 65 c) refl (leb 97 c) refl e
  where
    go : (x : Bool) → leb 48 c ≡ x → (y : Bool) → leb 65 c ≡ y → (z : Bool) → leb 97 c ≡ z → (x && leb c 57 || y && leb c 90 || z && leb c 122) ≡ true → 42 ≤ c
    go true p y q z r e = omega (arith, leb-true 48 c p)
    go false p true q z r e = omega (arith, leb-true 65 c q)
    go false p false q true r e = omega (arith, leb-true 97 c r)
    go false p false q false r e = absurd (true≢false (sym e))

-- of a name or a string, by the test
quiet_byte : (b : ℕ) → is_quiet b ≡ true → (mark_of b ≡ blank) ⊎ (mark_of b ≡ other)
unfolding is_quiet mark_of
quiet_byte b e = go (eqb b 40) (eqb b 41) (eqb b 32) (eqb b 10) (eqb b 13) e
  where
    go : (p q r s t : Bool) → not (p || q || s || t) ≡ true
        → (cond p left (cond q right (cond r blank (cond (s || t) line other))) ≡ blank) ⊎ (cond p left (cond q right (cond r blank (cond (s || t) line other))) ≡ other)
    go true q r s t e = absurd (true≢false (sym e))
    go false true r s t e = absurd (true≢false (sym e))
    go false false true s t e = inl refl
    go false false false true t e = absurd (true≢false (sym e))
    go false false false false true e = absurd (true≢false (sym e))
    go false false false false false e = inr refl

pub quiet_list : (s : List ℕ) → quiet s ≡ true → Quiet s
unfolding quiet
quiet_list [] e = over
quiet_list (b ∷ s) e =
    let h = (and-eq-true_iff (is_quiet b) (quiet s)).0 e in
    ⊎_elim (λ (q : mark_of b ≡ blank). gap q (quiet_list s h.1)) (λ (q : mark_of b ≡ other). sign q (quiet_list s h.1)) (quiet_byte b h.0)

-- a letter between blanks, before the rest of a word
after_letter : {s : List ℕ} (b : ℕ) → mark_of b ≡ other → High s → Quiet (32 ∷ b ∷ 32 ∷ s)
unfolding mark_of
after_letter b e h = gap refl (sign e (gap refl (high_quiet h)))

word_quiet : (w : Word) (ws : List Word) → quiet_words (w ∷ ws) ≡ true → Quiet (flat (word_text w)) × (quiet_words ws ≡ true)
unfolding word_text flat octal number char_text mark_of quiet_words
word_quiet (raw s) ws e = let h = (and-eq-true_iff (quiet s) (quiet_words ws)).0 e in (gap refl (quiet_list s h.0), h.1)
word_quiet (code letters c) ws e = (go letters (alphanumeric c) (alphanumeric_high c), e)
  where
    go : (x y : Bool) → (y ≡ true → 42 ≤ c) → Quiet (cond (x && y) (32 ∷ 67 ∷ 32 ∷ c ∷ []) (32 ∷ 79 ∷ 32 ∷ digits 8 11 c))
    go true true h = after_letter 67 refl (up (h refl) none)
    go true false h = after_letter 79 refl (digits_high 8 11 c)
    go false y h = after_letter 79 refl (digits_high 8 11 c)
word_quiet (oct n) ws e = (after_letter 79 refl (digits_high 8 11 n), e)
word_quiet (dec n) ws e = (after_letter 68 refl (digits_high 10 11 n), e)
word_quiet (real w) ws e = (after_letter 82 refl (real_high w), e)

words_quiet : (ws : List Word) → quiet_words ws ≡ true → Quiet (word_bytes ws)
unfolding word_bytes
words_quiet [] e = over
words_quiet (w ∷ ws) e = let h = word_quiet w ws e in quiet_append h.0 (words_quiet ws h.1)

pub head_quiet : (name : List ℕ) (ws : List Word) → calm name ws ≡ true → Quiet (head_bytes name ws)
unfolding calm
head_quiet name ws e = let h = (and-eq-true_iff (quiet name) (quiet_words ws)).0 e in quiet_append (quiet_list name h.0) (words_quiet ws h.1)
