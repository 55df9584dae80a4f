-- Room that is enough for every sentence: 160 bytes.
use Prim.Native.Nat.{ℕ, zero, suc, ◌+◌, ◌/◌, ◌≤◌, min}
use native.Mathlib.Omega.{arith}
use mathlib.Core.Path.{◌≡◌, refl}
use mathlib.Core.Bool.{Bool, true, false, cond, false≢true}
use mathlib.Core.List.{List, [], ◌∷◌, ◌++◌}
use lib.Dec.{eqb, leb}
use lib.ListN.{length, length-append, get_or}
use borrow.Author.Tests.{leb-true}
use Rattle.lent.specs.Write.{Text, lit, flat, codes}
use Rattle.ink.specs.Ink.{digits, number, octal}
use Rattle.words.specs.Words.{findings, numbers, verdicts, string_name, table_name, piece_words, code_name, spelled, filled, finding_words, number_words, verdict_words}

abbrev bytes : Text → ℕ
bytes t = length (flat t)

-- the larger of what either arm writes
cond_le : (test : Bool) (t u : Text) (n m : ℕ) → bytes t ≤ n → bytes u ≤ m → bytes (cond test t u) ≤ cond test n m
cond_le true t u n m h k = h
cond_le false t u n m h k = k

either_le : (test : Bool) (t u : Text) (n : ℕ) → bytes t ≤ n → bytes u ≤ n → bytes (cond test t u) ≤ n
either_le true t u n h k = h
either_le false t u n h k = k

digits_more : (last : Bool) (ds : List ℕ) (k d : ℕ) → length ds ≤ k → length (elim last [ true ↦ [] | false ↦ ds ] ++ (d ∷ [])) ≤ suc k
digits_more true ds k d h = omega arith
digits_more false ds k d h = rw length-append (omega (arith, h))

digits_le : (base k n : ℕ) → length (digits base k n) ≤ k
unfolding digits
digits_le base zero n = omega arith
digits_le base (suc k) n = digits_more (eqb (n / base) 0) (digits base k (n / base)) k _ (digits_le base k (n / base))

number_le : (n : ℕ) → bytes (number n) ≤ 11
unfolding number flat
number_le n = digits_le 10 11 n

octal_le : (n : ℕ) → bytes (octal n) ≤ 18
unfolding octal flat
octal_le n = rw length-append (omega (arith, digits_le 8 11 n))

code_le : (n : ℕ) → bytes (code_name n) ≤ 18
unfolding code_name flat
code_le n = either_le (eqb n 256) (lit (codes " the left boundary")) (octal n) 18 (omega arith) (octal_le n)

string_le : (n : ℕ) → bytes (string_name n) ≤ 13
unfolding string_name flat
string_le n = either_le (eqb n 0) (lit (codes "coding scheme")) (lit (codes "font family")) 13 (omega arith) (omega arith)

table_le : (n : ℕ) → bytes (table_name n) ≤ 6
unfolding table_name flat
table_le n =
    either_le (eqb n 0) _ _ 6 (omega arith)
    (either_le (eqb n 1) _ _ 6 (omega arith)
    (either_le (eqb n 2) _ _ 6 (omega arith)
    (either_le (eqb n 3) _ _ 6 (omega arith) (omega arith))))

piece_le : (n : ℕ) → bytes (piece_words n) ≤ 41
unfolding piece_words flat
piece_le n =
    either_le (eqb n 0) _ _ 41 (omega arith)
    (either_le (eqb n 1) _ _ 41 (omega arith)
    (either_le (eqb n 2) _ _ 41 (omega arith) (omega arith)))

-- the most that a byte of a sentence stands for, and a sentence
abbrev most : ℕ → ℕ
most b =
    cond (eqb b 35) 11
    (cond (eqb b 37) 11
    (cond (eqb b 64) 18
    (cond (eqb b 38) 18
    (cond (eqb b 36) 13
    (cond (eqb b 94) 6
    (cond (eqb b 126) 6
    (cond (eqb b 33) 41
    1)))))))

abbrev longest : List ℕ → ℕ
longest [] = 0
longest (b ∷ sentence) = most b + longest sentence

spelled_le : (first second b : ℕ) → bytes (spelled first second b) ≤ most b
unfolding spelled flat
spelled_le first second b =
    cond_le (eqb b 35) _ _ _ _ (number_le first)
    (cond_le (eqb b 37) _ _ _ _ (number_le second)
    (cond_le (eqb b 64) _ _ _ _ (code_le first)
    (cond_le (eqb b 38) _ _ _ _ (code_le second)
    (cond_le (eqb b 36) _ _ _ _ (string_le first)
    (cond_le (eqb b 94) _ _ _ _ (table_le first)
    (cond_le (eqb b 126) _ _ _ _ (table_le second)
    (cond_le (eqb b 33) _ _ _ _ (piece_le second) (omega arith))))))))

filled_le : (first second : ℕ) (s : List ℕ) → bytes (filled first second s) ≤ longest s
unfolding filled flat
filled_le first second [] = omega arith
filled_le first second (b ∷ s) =
    rw length-append (omega (arith, spelled_le first second b, filled_le first second s))

-- no sentence of a table is longer than n
abbrev within : ℕ → List (List ℕ) → Bool
within n [] = true
within n (s ∷ ss) = cond (leb (longest s) n) (within n ss) false

both : (test rest : Bool) → cond test rest false ≡ true → (test ≡ true) × (rest ≡ true)
both true rest h = (refl, h)
both false rest h = absurd (false≢true h)

sentence_le : (n : ℕ) (ss : List (List ℕ)) (k : ℕ) → within n ss ≡ true → longest (get_or ss k []) ≤ n
sentence_le n [] k h = omega arith
sentence_le n (s ∷ ss) zero h = leb-true _ _ (both (leb (longest s) n) (within n ss) h).0
sentence_le n (s ∷ ss) (suc k) h = sentence_le n ss k (both (leb (longest s) n) (within n ss) h).1

pub finding_le : (tag first second : ℕ) → bytes (finding_words tag first second) ≤ 160
unfolding finding_words
finding_le tag first second =
    omega (arith, filled_le first second (get_or findings (min tag 24) []), sentence_le 160 findings (min tag 24) refl)

pub number_words_le : (n : ℕ) → bytes (number_words n) ≤ 160
unfolding number_words
number_words_le n = omega (arith, filled_le 0 0 (get_or numbers (min n 19) []), sentence_le 160 numbers (min n 19) refl)

pub verdict_words_le : (v : ℕ) → bytes (verdict_words v) ≤ 160
unfolding verdict_words
verdict_words_le v = omega (arith, filled_le 0 0 (get_or verdicts (min v 4) []), sentence_le 160 verdicts (min v 4) refl)
