-- Texts and what is built of them: each answer is computed from the definitions.
use Prim.Native.Nat.{ℕ, ◌/◌, ◌%◌}
use mathlib.Core.Path.{◌≡◌, refl}
use mathlib.Core.List.{List, [], ◌∷◌, ◌++◌}
use lib.ListN.{replicate}
use Rattle.lent.specs.Fold.{iterate, tabulate}
use Rattle.lent.specs.Write.{codes}
use Rattle.ink.specs.Ink.{between, alphanumeric}
use Rattle.tfm.specs.Sizes.{size_list}
use Rattle.tfm.specs.Subfiles.{count_of}
use Rattle.faults.specs.Header.{upper}
use Rattle.faults.specs.Cycle.{reaches}
use Rattle.forest.specs.Forest as Forest
use Rattle.reading.specs.Values as Numbers
use Rattle.reading.specs.Heads as Heads
use Rattle.reading.specs.Read as Reading
use Rattle.font.specs.Told as Told
use Rattle.font.specs.Checked as Checked
use Rattle.font.specs.Read as Fonts
use Rattle.building.specs.Pick as Pick
use Rattle.building.specs.Values as Tables
use Rattle.building.specs.Written as Written
use Rattle.building.specs.Repaired as Repaired
use Rattle.building.specs.Build as Build
use Rattle.reading.specs.Read.{Response, accepts, refuses}
use Rattle.building.specs.Build.{build}

-- the twelve sizes as bytes
abbrev halves : List ℕ → List ℕ
halves [] = []
halves (n ∷ ns) = n / 256 ∷ n % 256 ∷ halves ns

-- a file by its sizes, its check sum, the flag of a seven-bit safe font and what follows the header, which says no more
abbrev file : List ℕ → List ℕ → ℕ → List ℕ → Response (List ℕ)
file sizes sum flag rest =
    accepts
    (halves sizes ++ (sum ++ (0 ∷ 160 ∷ 0 ∷ 0 ∷ 11 ∷ codes "UNSPECIFIED" ++ (replicate 28 0 ++ (11 ∷ codes "UNSPECIFIED" ++ (replicate 8 0 ++ (flag ∷ 0 ∷ 0 ∷ 0 ∷ rest)))))))

-- THE TABLE
pub marked :
    -- an empty text is a font of no characters
    (build (codes "") ≡ file (28 ∷ 18 ∷ 1 ∷ 0 ∷ 1 ∷ 1 ∷ 1 ∷ 1 ∷ 0 ∷ 0 ∷ 0 ∷ 0 ∷ []) (1 ∷ 0 ∷ 1 ∷ 0 ∷ []) 128 (0 ∷ 0 ∷ 0 ∷ 0 ∷ 0 ∷ 0 ∷ 0 ∷ 0 ∷ 0 ∷ 0 ∷ 0 ∷ 0 ∷ 0 ∷ 0 ∷ 0 ∷ 0 ∷ []))
    -- a list that is not closed, and a COMMENT in a property that has no list
    × (build (codes "(CHECKSUM O 1") ≡ refuses 19)
    × (build (codes "(CHECKSUM O 1 (COMMENT x))") ≡ refuses 19)
    -- 20 is a number out of its range, but 19 comes first wherever it stands
    × (build (codes "(CHARACTER D 256)") ≡ refuses 20)
    × (build (codes "(CHARACTER D 256)(X)") ≡ refuses 19)
    -- the ends of the range of a real; seven places count
    × (build (codes "(CHARACTER C A (CHARWD R 15.9999999))") ≡ refuses 20)
    × (build (codes "(CHARACTER C A (CHARWD R -16.0000004)(CHARHT R 0.00000047683715820312)(CHARDP R 0.0000009))") ≡ file (31 ∷ 18 ∷ 65 ∷ 65 ∷ 2 ∷ 1 ∷ 2 ∷ 1 ∷ 0 ∷ 0 ∷ 0 ∷ 0 ∷ []) (210 ∷ 126 ∷ 216 ∷ 182 ∷ []) 128 (1 ∷ 1 ∷ 0 ∷ 0 ∷ 0 ∷ 0 ∷ 0 ∷ 0 ∷ 255 ∷ 0 ∷ 0 ∷ 0 ∷ 0 ∷ 0 ∷ 0 ∷ 0 ∷ 0 ∷ 0 ∷ 0 ∷ 0 ∷ 0 ∷ 0 ∷ 0 ∷ 1 ∷ 0 ∷ 0 ∷ 0 ∷ 0 ∷ []))
    -- a label at the end and a SKIP of 0 ask for words, of a label given twice the first too; code 0 is made for the word that no step gave
    × (build (codes "(CHARACTER O 1)(LIGTABLE (LABEL O 1)(KRN O 1 R 1)(SKIP D 0)(LABEL O 1))") ≡ file (34 ∷ 18 ∷ 0 ∷ 1 ∷ 2 ∷ 1 ∷ 1 ∷ 1 ∷ 2 ∷ 1 ∷ 0 ∷ 0 ∷ []) (67 ∷ 155 ∷ 218 ∷ 212 ∷ []) 128 (1 ∷ 0 ∷ 0 ∷ 0 ∷ 1 ∷ 0 ∷ 1 ∷ 1 ∷ 0 ∷ 0 ∷ 0 ∷ 0 ∷ 0 ∷ 0 ∷ 0 ∷ 0 ∷ 0 ∷ 0 ∷ 0 ∷ 0 ∷ 0 ∷ 0 ∷ 0 ∷ 0 ∷ 0 ∷ 0 ∷ 0 ∷ 0 ∷ 0 ∷ 1 ∷ 128 ∷ 0 ∷ 255 ∷ 0 ∷ 0 ∷ 0 ∷ 0 ∷ 16 ∷ 0 ∷ 0 ∷ []))
    -- a boundary character without a step: one word, at both ends
    × (build (codes "(BOUNDARYCHAR C A)(LIGTABLE)") ≡ file (29 ∷ 18 ∷ 1 ∷ 0 ∷ 1 ∷ 1 ∷ 1 ∷ 1 ∷ 1 ∷ 0 ∷ 0 ∷ 0 ∷ []) (1 ∷ 0 ∷ 1 ∷ 0 ∷ []) 128 (0 ∷ 0 ∷ 0 ∷ 0 ∷ 0 ∷ 0 ∷ 0 ∷ 0 ∷ 0 ∷ 0 ∷ 0 ∷ 0 ∷ 0 ∷ 0 ∷ 0 ∷ 0 ∷ 255 ∷ 65 ∷ 0 ∷ 0 ∷ []))
    -- a cycle of links is broken at its largest code; a code that is only named is made
    × (build (codes "(CHARACTER O 1 (NEXTLARGER O 2))(CHARACTER O 2 (NEXTLARGER O 1))(CHARACTER O 3 (NEXTLARGER O 4))") ≡ file (33 ∷ 18 ∷ 1 ∷ 4 ∷ 2 ∷ 1 ∷ 1 ∷ 1 ∷ 0 ∷ 0 ∷ 0 ∷ 0 ∷ []) (165 ∷ 12 ∷ 68 ∷ 53 ∷ []) 128 (1 ∷ 0 ∷ 2 ∷ 2 ∷ 1 ∷ 0 ∷ 0 ∷ 1 ∷ 1 ∷ 0 ∷ 2 ∷ 4 ∷ 1 ∷ 0 ∷ 0 ∷ 0 ∷ 0 ∷ 0 ∷ 0 ∷ 0 ∷ 0 ∷ 0 ∷ 0 ∷ 0 ∷ 0 ∷ 0 ∷ 0 ∷ 0 ∷ 0 ∷ 0 ∷ 0 ∷ 0 ∷ 0 ∷ 0 ∷ 0 ∷ 0 ∷ []))
    -- code 1 is made by 2, too late for its program to be looked at: the codes of its step become 0, and no code below 128 leads to 200
    × (build (codes "(CHARACTER O 2 (NEXTLARGER O 1))(LIGTABLE (LABEL O 1)(LIG O 3 O 310))") ≡ file (33 ∷ 18 ∷ 0 ∷ 2 ∷ 2 ∷ 1 ∷ 1 ∷ 1 ∷ 1 ∷ 0 ∷ 0 ∷ 0 ∷ []) (8 ∷ 232 ∷ 247 ∷ 167 ∷ []) 128 (1 ∷ 0 ∷ 0 ∷ 0 ∷ 1 ∷ 0 ∷ 1 ∷ 0 ∷ 1 ∷ 0 ∷ 2 ∷ 1 ∷ 0 ∷ 0 ∷ 0 ∷ 0 ∷ 0 ∷ 0 ∷ 0 ∷ 0 ∷ 0 ∷ 0 ∷ 0 ∷ 0 ∷ 0 ∷ 0 ∷ 0 ∷ 0 ∷ 0 ∷ 0 ∷ 0 ∷ 0 ∷ 128 ∷ 0 ∷ 0 ∷ 0 ∷ []))
unfolding iterate tabulate between alphanumeric size_list count_of upper reaches Forest.mark_of Forest.past Forest.in_name Forest.name_at Forest.after_name Forest.name_of Forest.rest_of Forest.same Forest.is_comment Forest.step Forest.feed Forest.parse Numbers.bounded Numbers.ranged Numbers.digit_of Numbers.digits_in Numbers.letter_in Numbers.place_in Numbers.face_of Numbers.face_in Numbers.code_of Numbers.code_at Numbers.code_in Numbers.word_after Numbers.word_at Numbers.word_in Numbers.signed Numbers.parts Numbers.places_in Numbers.point_in Numbers.signs_in Numbers.real_at Numbers.real_in Numbers.printable Numbers.capitals Heads.all_blank Heads.closed Heads.leads Heads.states Heads.leads_on Heads.spells Heads.flag_at Heads.any Heads.small Heads.numbers_word Heads.at_top Heads.number_in Heads.parameter_names Heads.bound_of Heads.parameter_of Heads.in_fontdimen Heads.ligature_names Heads.label_at Heads.kern_in Heads.ligature_in Heads.before Heads.in_ligtable Heads.width_at Heads.in_character Heads.in_varchar Heads.entry_in Heads.has_list Heads.entry_of Reading.tells Reading.entered Reading.enter Reading.leaves Reading.leave Reading.walk Reading.concluded Reading.read_forest Reading.read Told.blank Told.headed Told.measured Told.edged Told.tagged Told.programmed Told.widened Told.heightened Told.deepened Told.slanted Told.placed Told.at Told.length_joined Told.labelled Told.stepped Told.skips Told.ended Told.legitimate Told.pieced Told.told Checked.word_byte Checked.step_at Checked.has_left Checked.program_words Checked.word_at Checked.among Checked.first_words Checked.words_for Checked.named_in Checked.piece_named Checked.pieces_of Checked.named_by Checked.legitimates Checked.inserts_over Checked.any_over Checked.leads_over Checked.check_code Checked.check_if Checked.checked_to Checked.checked_all Fonts.worded Fonts.flagged Fonts.read_font Pick.rank Pick.picked Pick.least Pick.bound Tables.place Tables.insert Tables.distinct Tables.signed_less Tables.kern_joined Tables.kerns_from Written.table Written.first_code Written.last_code Written.in_file Written.width_index Written.length_index Written.starts Written.edge Written.moved_from Written.moved Written.front Written.front_address Written.front_byte Written.step_byte Written.end_address Written.end_byte Written.program_byte Written.new_remainder Written.info_byte Written.letters_byte Written.summand Written.summed Written.computed_sum Written.header_byte Written.byte_in Written.sizes_for Written.too_much Written.size_byte Written.part_for Written.written Repaired.every Repaired.stays Repaired.step_stays Repaired.kept_step Repaired.recipe_stays Repaired.kept_piece Repaired.kept_recipe Repaired.all_stay Repaired.replaced Repaired.closes_cycle Repaired.uncycled Repaired.repaired Build.file_for Build.file_of Build.build
marked = (refl, refl, refl, refl, refl, refl, refl, refl, refl, refl, refl)
