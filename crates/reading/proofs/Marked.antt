-- Numbers and the words that they are read as: the ends of the ranges, seven places, signs, and digits of each base.
use mathlib.Core.Path.{◌≡◌, refl}
use mathlib.Core.Bool.{true, false}
use mathlib.Core.List.{[]}
use Rattle.lent.specs.Write.{codes}
use Rattle.ink.specs.Ink.{between}
use Rattle.faults.specs.Header.{upper}
use Rattle.forest.specs.Forest.{past}
use Rattle.reading.specs.Values.{took, wrong, bounded, ranged, digit_of, digits_in, letter_in, place_in, face_of, face_in, code_of, code_at, code_in, word_after, word_at, word_in, signed, parts, places_in, point_in, signs_in, real_at, real_in}
use Rattle.reading.specs.Heads.{any, small}

pub marked :
    -- seven places count, and no tie is left
    (real_in small (codes " R 0.0078125") ≡ took 8192 true [])
    × (real_in small (codes " R 0.00000047683715820312") ≡ took 0 true [])
    × (real_in small (codes " R + - -.5") ≡ took 524288 true [])
    -- the ends of the ranges
    × (real_in small (codes " R -16.0") ≡ took 4278190080 true [])
    × (real_in small (codes " R -16.0000004") ≡ took 4278190080 true [])
    × (real_in small (codes " R 15.9999999") ≡ took 0 false [])
    × (real_in any (codes " D -2048.0") ≡ took 2147483648 true [])
    × (real_in any (codes " R 2048.0") ≡ took 0 false [])
    -- codes and words
    × (code_in 0 255 (codes " c a") ≡ took 97 true [])
    × (code_in 0 255 (codes "D000000000000255") ≡ took 255 true [])
    × (code_in 0 255 (codes " O 400") ≡ took 0 false [])
    × (code_in 0 255 (codes " F BIE") ≡ took 15 true [])
    × (code_in 0 255 (codes " F BOE") ≡ wrong)
    × (word_in (codes " H FFFFFFFF") ≡ took 4294967295 true [])
    × (word_in (codes " O 40000000000") ≡ took 0 false [])
unfolding past between upper bounded ranged digit_of digits_in letter_in place_in face_of face_in code_of code_at code_in word_after word_at word_in signed parts places_in point_in signs_in real_at real_in any small
marked = (refl, refl, refl, refl, refl, refl, refl, refl, refl, refl, refl, refl, refl, refl, refl)
