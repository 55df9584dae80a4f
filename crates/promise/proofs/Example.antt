-- A clean file of which the hypotheses of the promise hold, and one that is built otherwise the second time.
use Prim.Native.Nat.{ℕ, zero, suc, ◌+◌, ◌<◌}
use native.Mathlib.Decide.{dec_lt}
use native.Mathlib.Omega.{arith}
use mathlib.Core.Path.{◌≡◌, refl, ap, ◌∙◌}
use mathlib.Core.Bool.{Bool, true, false, ◌&&◌, ◌||◌, and-eq-true_iff}
use mathlib.Core.Logic.{◌⊎◌, inl, inr, ⊎_elim}
use mathlib.Core.List.{List, [], ◌∷◌}
use lib.Dec.{leb, ltb, eqb}
use lib.ListN.{length, get_or, get_or-eq_default}
use borrow.Author.Tests.{eqb-true, leb-true, ltb-true}
use Rattle.lent.specs.Answer.{first}
use Rattle.lent.specs.Fold.{iterate, tabulate}
use Rattle.lent.specs.Write.{put1, puts, run, flat}
use Rattle.tfm.specs.Sizes.{size_at, layout_of, layout_number, number_of, size_list, sizes_answer}
use Rattle.tfm.specs.Subfiles.{count_of, start_of, table_of, subfile_number, subfile_start, subfile_of}
use Rattle.tfm.specs.declared.Layout.{Layout}
use Rattle.tfm.specs.Characters.{byte_of, info_of, in_range, exists_in, look_up}
use Rattle.tfm.specs.Lengths.{word_of, too_big, index_in, entry_of, eye_of, lengths_of, lengths_for, eye_answer}
use Rattle.program.specs.Steps.{address_of, boundary_char, has_boundary, boundary_start, redirects, redirected, next_of, program_of}
use Rattle.program.specs.Marks.{store_if, mark_first, mark_last, mark_label, mark_info, mark_step, marks_from, marks_of}
use Rattle.faults.specs.Header.{string_start, string_room, is_read, string_byte, string_too_long, string_length, in_string, parenthesis, nonstandard, bad_design_size, upper, same_letter, scheme_starts, math_symbols, math_extension, unusual_count, bad_parameter, not_zero}
use Rattle.faults.specs.Steps.{bad_boundary, bad_label, bad_start, skips_too_far, looked, bad_address, is_step, is_ligature, step_for_missing, ligature_to_missing, bad_kern, odd_code}
use Rattle.faults.specs.Cycle.{reaches}
use Rattle.faults.specs.Characters.{piece_missing, index_of, size_of, bad_index, link_missing, links, larger, ends_cycle, bad_recipe}
use Rattle.mend.specs.Holds.{length_table, table_number, junk, holds_of, lowest, firsts, seconds}
use Rattle.mend.specs.Findings.{half, record_of, found, found_at, found_on, found_tags, any_mend}
use Rattle.header.specs.Header.{letters_from, spelled}
use Rattle.building.specs.Pick.{rank, picked, least, bound}
use Rattle.building.specs.Values.{place, insert, distinct, signed_less, kern_joined, kerns_from}
use Rattle.font.specs.Checked.{word_byte, step_at, has_left, program_words, word_at, among, first_words, words_for, named_in, piece_named, pieces_of, named_by, legitimates, inserts_over, any_over, leads_over, check_code, check_if, checked_to, checked_all}
use Rattle.font.specs.Told.{widened, at, legitimate}
use Rattle.font.specs.Read.{flagged}
use Rattle.building.specs.Written.{table, first_code, last_code, in_file, width_index, length_index, starts, edge, moved_from, moved, front, front_address, front_byte, step_byte, end_address, end_byte, program_byte, new_remainder, info_byte, letters_byte, summand, summed, computed_sum, header_byte, byte_in, sizes_for, too_much, size_byte, part_for, written}
use Rattle.forest.specs.Forest.{past}
use Rattle.stated.specs.Listed.{listed_length, live, listed_step, listed_here, listed_width, listed_height, listed_depth, listed_italic, start_for, has_recipe, listed_tag, listed_remainder, listed_plain, listed_of}
use Rattle.stated.specs.Stated.{width_stated}
use Rattle.stated.specs.Formats.{text_in}
use Rattle.building.specs.Build.{file_for, build}
use Rattle.reading.specs.Read.{accepts}
use Rattle.judge.specs.Judge.{clean}
use Rattle.ligatures.specs.Ligatures.{skipped}
use Rattle.clean.specs.Met.{Met, start, onward, NoneOver}
use Rattle.promise.proofs.Promised.{build_is}

-- three characters, five steps with both boundaries, a kern, a link and a recipe
abbrev file : List ℕ
file =
    0 ∷ 45 ∷ 0 ∷ 18 ∷ 0 ∷ 65 ∷ 0 ∷ 67 ∷ 0 ∷ 3 ∷ 0 ∷ 2 ∷ 0 ∷ 2 ∷ 0 ∷ 2 ∷ 0 ∷ 5 ∷ 0 ∷ 1 ∷
    0 ∷ 1 ∷ 0 ∷ 2 ∷ 0 ∷ 5 ∷ 57 ∷ 119 ∷ 0 ∷ 160 ∷ 0 ∷ 0 ∷ 2 ∷ 88 ∷ 89 ∷ 0 ∷ 0 ∷ 0 ∷ 0 ∷ 0 ∷
    0 ∷ 0 ∷ 0 ∷ 0 ∷ 0 ∷ 0 ∷ 0 ∷ 0 ∷ 0 ∷ 0 ∷ 0 ∷ 0 ∷ 0 ∷ 0 ∷ 0 ∷ 0 ∷ 0 ∷ 0 ∷ 0 ∷ 0 ∷
    0 ∷ 0 ∷ 0 ∷ 0 ∷ 0 ∷ 0 ∷ 0 ∷ 0 ∷ 0 ∷ 0 ∷ 0 ∷ 0 ∷ 3 ∷ 65 ∷ 66 ∷ 67 ∷ 0 ∷ 0 ∷ 0 ∷ 0 ∷
    0 ∷ 0 ∷ 0 ∷ 0 ∷ 0 ∷ 0 ∷ 0 ∷ 0 ∷ 0 ∷ 0 ∷ 0 ∷ 0 ∷ 128 ∷ 0 ∷ 0 ∷ 13 ∷ 2 ∷ 16 ∷ 1 ∷ 1 ∷
    1 ∷ 1 ∷ 2 ∷ 67 ∷ 2 ∷ 0 ∷ 7 ∷ 0 ∷ 0 ∷ 0 ∷ 0 ∷ 0 ∷ 0 ∷ 0 ∷ 0 ∷ 0 ∷ 0 ∷ 8 ∷ 0 ∷ 0 ∷
    0 ∷ 0 ∷ 0 ∷ 0 ∷ 0 ∷ 4 ∷ 0 ∷ 0 ∷ 0 ∷ 0 ∷ 0 ∷ 0 ∷ 255 ∷ 254 ∷ 0 ∷ 0 ∷ 0 ∷ 0 ∷ 0 ∷ 0 ∷
    0 ∷ 1 ∷ 0 ∷ 0 ∷ 255 ∷ 66 ∷ 0 ∷ 0 ∷ 1 ∷ 66 ∷ 128 ∷ 0 ∷ 0 ∷ 65 ∷ 0 ∷ 66 ∷ 128 ∷ 65 ∷ 128 ∷ 0 ∷
    255 ∷ 0 ∷ 0 ∷ 1 ∷ 255 ∷ 248 ∷ 0 ∷ 0 ∷ 65 ∷ 0 ∷ 0 ∷ 66 ∷ 0 ∷ 4 ∷ 0 ∷ 0 ∷ 0 ∷ 8 ∷ 0 ∷ 0 ∷
    []

-- its listing read back: the step that no program meets is gone, and the SKIP that passed it counts none
abbrev again : List ℕ
again =
    0 ∷ 44 ∷ 0 ∷ 18 ∷ 0 ∷ 65 ∷ 0 ∷ 67 ∷ 0 ∷ 3 ∷ 0 ∷ 2 ∷ 0 ∷ 2 ∷ 0 ∷ 2 ∷ 0 ∷ 4 ∷ 0 ∷ 1 ∷
    0 ∷ 1 ∷ 0 ∷ 2 ∷ 0 ∷ 5 ∷ 57 ∷ 119 ∷ 0 ∷ 160 ∷ 0 ∷ 0 ∷ 2 ∷ 88 ∷ 89 ∷ 0 ∷ 0 ∷ 0 ∷ 0 ∷ 0 ∷
    0 ∷ 0 ∷ 0 ∷ 0 ∷ 0 ∷ 0 ∷ 0 ∷ 0 ∷ 0 ∷ 0 ∷ 0 ∷ 0 ∷ 0 ∷ 0 ∷ 0 ∷ 0 ∷ 0 ∷ 0 ∷ 0 ∷ 0 ∷
    0 ∷ 0 ∷ 0 ∷ 0 ∷ 0 ∷ 0 ∷ 0 ∷ 0 ∷ 0 ∷ 0 ∷ 0 ∷ 0 ∷ 3 ∷ 65 ∷ 66 ∷ 67 ∷ 0 ∷ 0 ∷ 0 ∷ 0 ∷
    0 ∷ 0 ∷ 0 ∷ 0 ∷ 0 ∷ 0 ∷ 0 ∷ 0 ∷ 0 ∷ 0 ∷ 0 ∷ 0 ∷ 128 ∷ 0 ∷ 0 ∷ 13 ∷ 2 ∷ 16 ∷ 1 ∷ 1 ∷
    1 ∷ 1 ∷ 2 ∷ 67 ∷ 2 ∷ 0 ∷ 7 ∷ 0 ∷ 0 ∷ 0 ∷ 0 ∷ 0 ∷ 0 ∷ 0 ∷ 0 ∷ 0 ∷ 0 ∷ 8 ∷ 0 ∷ 0 ∷
    0 ∷ 0 ∷ 0 ∷ 0 ∷ 0 ∷ 4 ∷ 0 ∷ 0 ∷ 0 ∷ 0 ∷ 0 ∷ 0 ∷ 255 ∷ 254 ∷ 0 ∷ 0 ∷ 0 ∷ 0 ∷ 0 ∷ 0 ∷
    0 ∷ 1 ∷ 0 ∷ 0 ∷ 255 ∷ 66 ∷ 0 ∷ 0 ∷ 0 ∷ 66 ∷ 128 ∷ 0 ∷ 128 ∷ 65 ∷ 128 ∷ 0 ∷ 255 ∷ 0 ∷ 0 ∷ 1 ∷
    255 ∷ 248 ∷ 0 ∷ 0 ∷ 65 ∷ 0 ∷ 0 ∷ 66 ∷ 0 ∷ 4 ∷ 0 ∷ 0 ∷ 0 ∷ 8 ∷ 0 ∷ 0 ∷
    []

-- a missing code below the first character, with a program of its own
abbrev apart : List ℕ
apart =
    0 ∷ 33 ∷ 0 ∷ 18 ∷ 0 ∷ 65 ∷ 0 ∷ 66 ∷ 0 ∷ 2 ∷ 0 ∷ 1 ∷ 0 ∷ 1 ∷ 0 ∷ 1 ∷ 0 ∷ 1 ∷ 0 ∷ 1 ∷
    0 ∷ 0 ∷ 0 ∷ 0 ∷ 5 ∷ 57 ∷ 119 ∷ 0 ∷ 0 ∷ 160 ∷ 0 ∷ 0 ∷ 11 ∷ 85 ∷ 78 ∷ 83 ∷ 80 ∷ 69 ∷ 67 ∷ 73 ∷
    70 ∷ 73 ∷ 69 ∷ 68 ∷ 0 ∷ 0 ∷ 0 ∷ 0 ∷ 0 ∷ 0 ∷ 0 ∷ 0 ∷ 0 ∷ 0 ∷ 0 ∷ 0 ∷ 0 ∷ 0 ∷ 0 ∷ 0 ∷
    0 ∷ 0 ∷ 0 ∷ 0 ∷ 0 ∷ 0 ∷ 0 ∷ 0 ∷ 0 ∷ 0 ∷ 0 ∷ 0 ∷ 11 ∷ 85 ∷ 78 ∷ 83 ∷ 80 ∷ 69 ∷ 67 ∷ 73 ∷
    70 ∷ 73 ∷ 69 ∷ 68 ∷ 0 ∷ 0 ∷ 0 ∷ 0 ∷ 0 ∷ 0 ∷ 0 ∷ 0 ∷ 128 ∷ 0 ∷ 0 ∷ 0 ∷ 0 ∷ 0 ∷ 1 ∷ 0 ∷
    1 ∷ 0 ∷ 0 ∷ 0 ∷ 0 ∷ 0 ∷ 0 ∷ 0 ∷ 0 ∷ 8 ∷ 0 ∷ 0 ∷ 0 ∷ 0 ∷ 0 ∷ 0 ∷ 0 ∷ 0 ∷ 0 ∷ 0 ∷
    0 ∷ 0 ∷ 0 ∷ 0 ∷ 128 ∷ 66 ∷ 128 ∷ 0 ∷ 0 ∷ 1 ∷ 0 ∷ 0 ∷
    []

-- what is built of its listing: the code has no place there, and its label is lost
abbrev parted : List ℕ
parted =
    0 ∷ 32 ∷ 0 ∷ 18 ∷ 0 ∷ 66 ∷ 0 ∷ 66 ∷ 0 ∷ 2 ∷ 0 ∷ 1 ∷ 0 ∷ 1 ∷ 0 ∷ 1 ∷ 0 ∷ 1 ∷ 0 ∷ 1 ∷
    0 ∷ 0 ∷ 0 ∷ 0 ∷ 5 ∷ 57 ∷ 119 ∷ 0 ∷ 0 ∷ 160 ∷ 0 ∷ 0 ∷ 11 ∷ 85 ∷ 78 ∷ 83 ∷ 80 ∷ 69 ∷ 67 ∷ 73 ∷
    70 ∷ 73 ∷ 69 ∷ 68 ∷ 0 ∷ 0 ∷ 0 ∷ 0 ∷ 0 ∷ 0 ∷ 0 ∷ 0 ∷ 0 ∷ 0 ∷ 0 ∷ 0 ∷ 0 ∷ 0 ∷ 0 ∷ 0 ∷
    0 ∷ 0 ∷ 0 ∷ 0 ∷ 0 ∷ 0 ∷ 0 ∷ 0 ∷ 0 ∷ 0 ∷ 0 ∷ 0 ∷ 11 ∷ 85 ∷ 78 ∷ 83 ∷ 80 ∷ 69 ∷ 67 ∷ 73 ∷
    70 ∷ 73 ∷ 69 ∷ 68 ∷ 0 ∷ 0 ∷ 0 ∷ 0 ∷ 0 ∷ 0 ∷ 0 ∷ 0 ∷ 128 ∷ 0 ∷ 0 ∷ 0 ∷ 1 ∷ 0 ∷ 0 ∷ 0 ∷
    0 ∷ 0 ∷ 0 ∷ 0 ∷ 0 ∷ 8 ∷ 0 ∷ 0 ∷ 0 ∷ 0 ∷ 0 ∷ 0 ∷ 0 ∷ 0 ∷ 0 ∷ 0 ∷ 0 ∷ 0 ∷ 0 ∷ 0 ∷
    128 ∷ 66 ∷ 128 ∷ 0 ∷ 0 ∷ 1 ∷ 0 ∷ 0 ∷
    []

-- and what is built of the listing of that: the step that no program meets is gone
abbrev less : List ℕ
less =
    0 ∷ 30 ∷ 0 ∷ 18 ∷ 0 ∷ 66 ∷ 0 ∷ 66 ∷ 0 ∷ 2 ∷ 0 ∷ 1 ∷ 0 ∷ 1 ∷ 0 ∷ 1 ∷ 0 ∷ 0 ∷ 0 ∷ 0 ∷
    0 ∷ 0 ∷ 0 ∷ 0 ∷ 5 ∷ 57 ∷ 119 ∷ 0 ∷ 0 ∷ 160 ∷ 0 ∷ 0 ∷ 11 ∷ 85 ∷ 78 ∷ 83 ∷ 80 ∷ 69 ∷ 67 ∷ 73 ∷
    70 ∷ 73 ∷ 69 ∷ 68 ∷ 0 ∷ 0 ∷ 0 ∷ 0 ∷ 0 ∷ 0 ∷ 0 ∷ 0 ∷ 0 ∷ 0 ∷ 0 ∷ 0 ∷ 0 ∷ 0 ∷ 0 ∷ 0 ∷
    0 ∷ 0 ∷ 0 ∷ 0 ∷ 0 ∷ 0 ∷ 0 ∷ 0 ∷ 0 ∷ 0 ∷ 0 ∷ 0 ∷ 11 ∷ 85 ∷ 78 ∷ 83 ∷ 80 ∷ 69 ∷ 67 ∷ 73 ∷
    70 ∷ 73 ∷ 69 ∷ 68 ∷ 0 ∷ 0 ∷ 0 ∷ 0 ∷ 0 ∷ 0 ∷ 0 ∷ 0 ∷ 128 ∷ 0 ∷ 0 ∷ 0 ∷ 1 ∷ 0 ∷ 0 ∷ 0 ∷
    0 ∷ 0 ∷ 0 ∷ 0 ∷ 0 ∷ 8 ∷ 0 ∷ 0 ∷ 0 ∷ 0 ∷ 0 ∷ 0 ∷ 0 ∷ 0 ∷ 0 ∷ 0 ∷ 0 ∷ 0 ∷ 0 ∷ 0 ∷
    []

-- a file that is accepted and clean, and what is written of its listing
record Computed (f g : List ℕ) : Type 0 where
  accepted : number_of f (layout_of f) 0 ≡ 0
  unmended : any_mend f (layout_of f) ≡ false
  filed : file_for (listed_of f (layout_of f)) ≡ accepts g

computed : Computed file again × Computed apart parted × Computed parted less
unfolding first iterate tabulate put1 puts run flat size_at layout_of layout_number number_of size_list sizes_answer count_of start_of table_of subfile_number subfile_start subfile_of byte_of info_of in_range exists_in look_up word_of too_big index_in entry_of eye_of lengths_of lengths_for eye_answer address_of boundary_char has_boundary boundary_start redirects redirected next_of program_of store_if mark_first mark_last mark_label mark_info mark_step marks_from marks_of string_start string_room is_read string_byte string_too_long string_length in_string parenthesis nonstandard bad_design_size upper same_letter scheme_starts math_symbols math_extension unusual_count bad_parameter not_zero bad_boundary bad_label bad_start skips_too_far looked bad_address is_step is_ligature step_for_missing ligature_to_missing bad_kern odd_code reaches piece_missing index_of size_of bad_index link_missing links larger ends_cycle bad_recipe length_table table_number junk holds_of lowest firsts seconds half record_of found found_at found_on found_tags any_mend rank picked least bound place insert distinct signed_less kerns_from word_byte table first_code last_code in_file width_index length_index has_left program_words starts edge moved_from moved front front_address front_byte step_at step_byte end_address end_byte program_byte new_remainder info_byte letters_byte summand summed computed_sum header_byte byte_in sizes_for too_much size_byte part_for written past listed_length live listed_step listed_here listed_width listed_height listed_depth listed_italic start_for has_recipe listed_tag listed_remainder listed_of letters_from spelled skipped kern_joined among first_words words_for named_in piece_named pieces_of named_by legitimates inserts_over any_over leads_over check_code check_if checked_to checked_all word_at legitimate widened at flagged width_stated listed_plain file_for
computed = (
  record { accepted = refl; unmended = refl; filed = refl },
  record { accepted = refl; unmended = refl; filed = refl },
  record { accepted = refl; unmended = refl; filed = refl },
)

-- a test of every number below n
unfoldable every : (ℕ → Bool) → ℕ → Bool
every p zero = true
every p (suc n) = every p n && p n

every_one : (p : ℕ → Bool) (n i : ℕ) → every p n ≡ true → i < n → p i ≡ true
unfolding every
every_one p zero i e h = absurd (omega arith)
every_one p (suc n) i e h = elim (dec_lt i n) [
  | yes q ↦ every_one p n i ((and-eq-true_iff (every p n) (p n)).0 e).0 q
  | no q ↦ let z : i ≡ n = omega arith in ap p z ∙ ((and-eq-true_iff (every p n) (p n)).0 e).1
]

abbrev infos : List ℕ
infos = table_of file (layout_of file) 1

abbrev s : List ℕ
s = table_of file (layout_of file) 6

-- programs start at step 1 or nowhere
abbrev starts_well : ℕ → Bool
starts_well x = eqb (program_of infos s (layout_of file) x) 1 || leb (layout_of file).nl (program_of infos s (layout_of file) x)

starts_at_lem : every starts_well 257 ≡ true
unfolding every iterate size_at layout_of count_of start_of table_of byte_of info_of in_range address_of has_boundary boundary_start redirects redirected program_of
starts_at_lem = refl

first_byte : (byte_of s 1 0 ≡ 1) × (byte_of s 3 0 ≡ 128)
unfolding iterate size_at layout_of count_of start_of table_of byte_of info_of in_range address_of has_boundary boundary_start redirects redirected program_of
first_byte = (refl, refl)

one_or_three : (i : ℕ) → Met infos s (layout_of file) i → (i ≡ 1) ⊎ (i ≡ 3)
unfolding next_of
one_or_three i (start x h q) = go (eqb (program_of infos s (layout_of file) x) 1) refl (every_one starts_well 257 x starts_at_lem (omega arith))
  where
    go : (b : Bool) → eqb (program_of infos s (layout_of file) x) 1 ≡ b → b || leb (layout_of file).nl (program_of infos s (layout_of file) x) ≡ true
        → (program_of infos s (layout_of file) x ≡ 1) ⊎ (program_of infos s (layout_of file) x ≡ 3)
    go true e z = inl (eqb-true _ 1 e)
    go false e z = absurd (omega (arith, leb-true (layout_of file).nl _ z))
one_or_three i (onward {i = j} m b q) = ⊎_elim
    (λ (e : j ≡ 1). inr (ap (λ (n : ℕ). n + 1 + byte_of s n 0) e ∙ omega (arith, first_byte.0)))
    (λ (e : j ≡ 3). absurd (omega (arith, ap (λ (n : ℕ). byte_of s n 0) e, first_byte.1)))
    (one_or_three j m)

-- its programs meet no step over 128
none_over : NoneOver infos s (layout_of file)
none_over i m = ⊎_elim
    (λ (e : i ≡ 1). omega (arith, ap (λ (n : ℕ). byte_of s n 0) e, first_byte.0))
    (λ (e : i ≡ 3). omega (arith, ap (λ (n : ℕ). byte_of s n 0) e, first_byte.1))
    (one_or_three i m)

-- a list of bytes, by a test
module _ (f : List ℕ) where
  abbrev is_byte : ℕ → Bool
  is_byte n = ltb (get_or f n 0) 256

  bytes : every is_byte (length f) ≡ true → (n : ℕ) → get_or f n 0 < 256
  bytes e n = elim (dec_lt n (length f)) [
    | yes h ↦ ltb-true (get_or f n 0) 256 (every_one is_byte (length f) n e h)
    | no h ↦ omega (arith, get_or-eq_default {A = ℕ} f 0 {n = n} (omega arith))
  ]

all_bytes : (every (is_byte file) 180 ≡ true) × (every (is_byte apart) 132 ≡ true) × (every (is_byte parted) 128 ≡ true)
unfolding every
all_bytes = (refl, refl, refl)

-- its listing is built to that file, in either format
pub example : (letters : Bool) → build (text_in letters file (layout_of file) clean) ≡ accepts again
example letters =
    let h = computed.0 in
    build_is file (layout_of file) 0 h.accepted h.unmended none_over (bytes file all_bytes.0) letters ∙ h.filed

-- the programs of a file that start at step 0, which stops, or nowhere
module _ (infos s : List ℕ) (l : Layout) where
  abbrev starts_once : ℕ → Bool
  starts_once x = eqb (program_of infos s l x) 0 || leb l.nl (program_of infos s l x)

  one_step : every starts_once 257 ≡ true → byte_of s 0 0 ≡ 128 → (i : ℕ) → Met infos s l i → i ≡ 0
  one_step e b i (start x h q) = go (eqb (program_of infos s l x) 0) refl (every_one starts_once 257 x e (omega arith))
    where
      go : (t : Bool) → eqb (program_of infos s l x) 0 ≡ t → t || leb l.nl (program_of infos s l x) ≡ true → program_of infos s l x ≡ 0
      go true z y = eqb-true _ 0 z
      go false z y = absurd (omega (arith, leb-true l.nl _ y))
  one_step e b i (onward {i = j} m h q) = let z = one_step e b j m in absurd (omega (arith, ap (λ (n : ℕ). byte_of s n 0) z))

  once_over : every starts_once 257 ≡ true → byte_of s 0 0 ≡ 128 → NoneOver infos s l
  once_over e b i m = omega (arith, ap (λ (n : ℕ). byte_of s n 0) (one_step e b i m))

starts_once_lem : (every (starts_once (table_of apart (layout_of apart) 1) (table_of apart (layout_of apart) 6) (layout_of apart)) 257 ≡ true)
    × (every (starts_once (table_of parted (layout_of parted) 1) (table_of parted (layout_of parted) 6) (layout_of parted)) 257 ≡ true)
    × (byte_of (table_of apart (layout_of apart) 6) 0 0 ≡ 128) × (byte_of (table_of parted (layout_of parted) 6) 0 0 ≡ 128)
unfolding every iterate size_at layout_of count_of start_of table_of byte_of info_of in_range address_of has_boundary boundary_start redirects redirected program_of
starts_once_lem = (refl, refl, refl, refl)

-- WHERE BUILDING AGAIN DIFFERS: a clean file whose listing is built to a file whose own listing is built to another
pub differs : (letters anew : Bool) → (build (text_in letters apart (layout_of apart) clean) ≡ accepts parted) × (build (text_in anew parted (layout_of parted) clean) ≡ accepts less)
differs letters anew =
    let h = computed.1 in
    let k = computed.2 in (
      build_is apart (layout_of apart) 0 h.accepted h.unmended (once_over _ _ _ starts_once_lem.0 starts_once_lem.2) (bytes apart all_bytes.1) letters ∙ h.filed,
      build_is parted (layout_of parted) 0 k.accepted k.unmended (once_over _ _ _ starts_once_lem.1 starts_once_lem.3) (bytes parted all_bytes.2) anew ∙ k.filed,
    )
