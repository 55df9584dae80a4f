-- Determinacy of the four operations: two answers that meet the contract for one file are the same, floats bit by bit.
use Rattle.std.proofs.Common.{◌≡◌, ap, ℕ, List, Result, Ok, Err, IfOk, arith}
use Rattle.std.specs.Borrow.{Bor}
use Rattle.lent.specs.Part.{PartOf}
use Rattle.lent.proofs.Once.{once, Same, part_once}
use Rattle.tfm.specs.Refusal.{refused}
use Rattle.tfm.specs.Sizes.{sizes_answer}
use Rattle.tfm.specs.Subfiles.{subfile_number, subfile_start, subfile_of}
use Rattle.tfm.specs.Lengths.{EyeAnswer, answered, eye_answer}
use Rattle.tfm.specs.declared.TwelveSizes.{TwelveSizes}
use Rattle.tfm.specs.declared.EyeLengths.{EyeLengths}
use Rattle.tfm.specs.declared.refusal.Refusal.{Refusal}
use Rattle.tfm.proofs.Refusals.{number_once, number_positive}

pub sizes_once : (f : List ℕ) (r s : TwelveSizes) → r ≡ sizes_answer f → s ≡ sizes_answer f → r ≡ s
sizes_once f r s = once

-- two answers of `subfile` for one file have one number
pub subfile_number_once : (f : List ℕ) (k r s : ℕ) → r ≡ subfile_number f k → s ≡ subfile_number f k → r ≡ s
subfile_number_once f k r s = once

-- a part has one place and one content
pub subfile_once : (file r s : Bor (List ℕ)) (k : ℕ)
    → PartOf file (subfile_start file.now k) (subfile_of file.now k) r
    → PartOf file (subfile_start file.now k) (subfile_of file.now k) s
    → Same r s
subfile_once file r s k = part_once

-- and both answers are the same bytes in the same place, or both the same refusal
abbrev pub Alike : Result (Bor (List ℕ)) Refusal → Result (Bor (List ℕ)) Refusal → Type 0
Alike (Ok r) (Ok s) = Same r s
Alike (Err r) (Err s) = r ≡ s
Alike _ _ = ⊥

pub subfile_answer_once : (file : Bor (List ℕ)) (k : ℕ) (r s : Result (Bor (List ℕ)) Refusal)
    → refused r ≡ subfile_number file.now k
    → IfOk r (λ part. PartOf file (subfile_start file.now k) (subfile_of file.now k) part)
    → refused s ≡ subfile_number file.now k
    → IfOk s (λ part. PartOf file (subfile_start file.now k) (subfile_of file.now k) part)
    → Alike r s
subfile_answer_once file k (Ok r) (Ok s) e p d q = subfile_once file r s k p q
subfile_answer_once file k (Ok r) (Err s) e p d q = absurd (omega (arith, number_positive s))
subfile_answer_once file k (Err r) (Ok s) e p d q = absurd (omega (arith, number_positive r))
subfile_answer_once file k (Err r) (Err s) e p d q = number_once r s (once e d)

same_answer : (r s : Result EyeLengths Refusal) → answered r ≡ answered s → r ≡ s
same_answer (Ok r) (Ok s) e = ap Ok (ap (λ (a : EyeAnswer). a.lengths) e)
same_answer (Ok r) (Err s) e = let n = ap (λ (a : EyeAnswer). a.number) e in absurd (omega (arith, number_positive s))
same_answer (Err r) (Ok s) e = let n = ap (λ (a : EyeAnswer). a.number) e in absurd (omega (arith, number_positive r))
same_answer (Err r) (Err s) e = ap Err (number_once r s (ap (λ (a : EyeAnswer). a.number) e))

pub eye_lengths_once : (f : List ℕ) (code : ℕ) (r s : EyeAnswer) → r ≡ eye_answer f code → s ≡ eye_answer f code → r ≡ s
eye_lengths_once f code r s = once

pub eye_answer_once : (f : List ℕ) (code : ℕ) (r s : Result EyeLengths Refusal) → answered r ≡ eye_answer f code → answered s ≡ eye_answer f code → r ≡ s
eye_answer_once f code r s e d = same_answer r s (eye_lengths_once f code (answered r) (answered s) e d)
