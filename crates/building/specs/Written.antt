-- The file that PLtoTF writes of a font (§128 to §145).
use Rattle.std.specs.Prelude.{ℕ, suc, ◌+◌, ◌-◌, ◌*◌, ◌/◌, ◌%◌, max, Bool, cond, ◌&&◌, ◌||◌, List, [], ◌∷◌, ◌++◌, leb, ltb, eqb, length, get_or}
use Rattle.lent.specs.Fold.{iterate, tabulate}
use Rattle.tfm.specs.Sizes.{size_list}
use Rattle.tfm.specs.Subfiles.{count_of}
use Rattle.tfm.specs.declared.Layout.{Layout}
use Rattle.font.specs.Font.{Font}
use Rattle.font.specs.Checked.{word_byte, step_at, program_words}
use Rattle.building.specs.Pick.{picked, least, bound}
use Rattle.building.specs.Values.{place, distinct, signed_less, greater, kerns_from}

-- n words, g i j being byte j of word i
unfoldable pub table : (ℕ → ℕ → ℕ) → ℕ → List ℕ
table g n = tabulate (λ i. g (i / 4) (i % 4)) (4 * n)

-- §130: bc and ec are the least and the greatest code that exists; 1 and 0 where none does
unfoldable pub first_code : Font → ℕ
first_code F = cond (eqb (bound F.characters.present 256) 0) 1 (least F.characters.present 256)

unfoldable pub last_code : Font → ℕ
last_code F = bound F.characters.present 256 - 1

unfoldable pub in_file : Font → ℕ → Bool
in_file F c = leb (first_code F) c && leb c (last_code F)

-- §137: the words of the dimension tables after entry 0, and those of the kerns
abbrev pub ordered : List ℕ → List ℕ
ordered = distinct signed_less

abbrev pub kerns : Font → List ℕ
kerns F = kerns_from [] F.program.steps

-- the index of a width; that of another length, of which 0 is entry 0
unfoldable pub width_index : Font → ℕ → ℕ
width_index F c = cond (F.characters.present c) (suc (place (ordered F.characters.widths) (F.characters.width c))) 0

unfoldable pub length_index : List ℕ → ℕ → ℕ
length_index ws w = cond (eqb w 0) 0 (suc (place (ordered ws) w))

-- §140: the starts of programs, each once, the last first
unfoldable pub starts : Font → List ℕ
starts F = distinct greater (picked (λ c. in_file F c && eqb (F.program.tag c) 1) F.program.remainder 256)

-- §139, §141: a boundary character takes a word at the front. A start that would lie past 255 gets one too, and the boundary character's does double duty.
unfoldable pub edge : Font → ℕ
edge F = cond (ltb F.program.boundary 256) 1 0

-- how many starts get a word, the last first, n having one
unfoldable pub moved_from : ℕ → List ℕ → ℕ → ℕ
moved_from e [] n = n
moved_from e (d ∷ ds) n = cond (ltb (d + max n e) 256) n (moved_from e ds (suc n))

unfoldable pub moved : Font → ℕ
moved F = moved_from (edge F) (starts F) 0

unfoldable pub front : Font → ℕ
front F = max (moved F) (edge F)

-- §142: byte j of word i of lig_kern at the front
unfoldable pub front_address : Font → ℕ → ℕ
front_address F i = cond (ltb i (moved F)) (get_or (starts F) i 0 + front F) 0

unfoldable pub front_byte : Font → ℕ → ℕ → ℕ
front_byte F i j =
    cond (eqb j 0) (cond (ltb F.program.boundary 256) 255 254)
    (cond (eqb j 1) (cond (ltb F.program.boundary 256) F.program.boundary 0)
    (cond (eqb j 2) (front_address F i / 256) (front_address F i % 256)))

-- that of step k: the last step stops
unfoldable pub step_byte : Font → ℕ → ℕ → ℕ
step_byte F k j =
    cond (eqb j 0) (cond (eqb (k + 1) (program_words F) && eqb (step_at F k).skip 0) 128 (step_at F k).skip)
    (cond (eqb j 1) (step_at F k).right
    (cond (eqb j 2) (cond (ltb (step_at F k).op 128) (step_at F k).op (128 + place (kerns F) (step_at F k).value / 256))
    (cond (ltb (step_at F k).op 128) (step_at F k).value (place (kerns F) (step_at F k).value % 256))))

-- that of a word after the steps: the very last has the left boundary's start
unfoldable pub end_address : Font → ℕ → ℕ
end_address F k = cond (eqb (k + 1) (program_words F) && eqb (F.program.tag 256) 1) (F.program.remainder 256 + front F) 0

unfoldable pub end_byte : Font → ℕ → ℕ → ℕ
end_byte F k j =
    cond (eqb j 0) 255 (cond (eqb j 1) 0 (cond (eqb j 2) (end_address F k / 256) (end_address F k % 256)))

unfoldable pub program_byte : Font → ℕ → ℕ → ℕ
program_byte F i j =
    cond (ltb i (front F)) (front_byte F i j)
    (cond (ltb (i - front F) (length F.program.steps)) (step_byte F (i - front F) j) (end_byte F (i - front F) j))

-- §135: byte j of the info of code c
unfoldable pub new_remainder : Font → ℕ → ℕ
new_remainder F c =
    cond (eqb (F.program.tag c) 1)
    (cond (ltb (place (starts F) (F.program.remainder c)) (moved F)) (place (starts F) (F.program.remainder c)) (F.program.remainder c + front F))
    (F.program.remainder c)

unfoldable pub info_byte : Font → ℕ → ℕ → ℕ
info_byte F c j =
    cond (eqb j 0) (width_index F c)
    (cond (eqb j 1) (16 * length_index F.characters.heights (F.characters.height c) + length_index F.characters.depths (F.characters.depth c))
    (cond (eqb j 2) (4 * length_index F.characters.italics (F.characters.italic c) + F.program.tag c)
    (new_remainder F c)))

-- §87: byte n of a string: its length, then its letters
unfoldable pub letters_byte : List ℕ → ℕ → ℕ
letters_byte letters n = cond (eqb n 0) (length letters) (get_or letters (n - 1) 0)

-- §134: the check sum where the list gives none: four sums of the widths of the existing codes, each by its own modulus
unfoldable pub summand : Font → ℕ → ℕ
summand F c = F.characters.width c + (c + 4) * 4194304 - cond (leb 2147483648 (F.characters.width c)) 4294967296 0

unfoldable pub summed : Font → ℕ → ℕ → ℕ
summed F modulus from = iterate (λ a c. cond (F.characters.present c) ((2 * a + summand F c) % modulus) a) from 256

unfoldable pub computed_sum : Font → ℕ
computed_sum F =
    summed F 255 (first_code F) * 16777216 + summed F 253 (last_code F) * 65536 + summed F 251 (first_code F) * 256 + summed F 247 (last_code F)

-- §133: byte j of word i of the header; byte 0 of word 17 is the flag of a seven-bit safe font
unfoldable pub header_byte : Font → ℕ → ℕ → ℕ
header_byte F i j =
    cond (eqb i 0) (word_byte (cond F.header.checked F.header.check_sum (computed_sum F)) j)
    (cond (eqb i 1) (word_byte F.header.design_size j)
    (cond (ltb i 12) (letters_byte F.header.scheme (4 * (i - 2) + j))
    (cond (ltb i 17) (letters_byte F.header.family (4 * (i - 12) + j))
    (cond (eqb i 17) (cond (eqb j 0) (cond F.unsafe 0 128) (cond (eqb j 3) F.header.face 0))
    (word_byte (get_or F.header.further (i - 18) 0) j)))))

-- entry i of a dimension table: entry 0 is zero
abbrev pub entry_byte : List ℕ → ℕ → ℕ → ℕ
entry_byte ws i j = word_byte (get_or (0 ∷ ordered ws) i 0) j

abbrev pub list_byte : List ℕ → ℕ → ℕ → ℕ
list_byte ws i j = word_byte (get_or ws i 0) j

-- byte j of word i of subfile k
unfoldable pub byte_in : Font → ℕ → ℕ → ℕ → ℕ
byte_in F k i j =
    cond (eqb k 0) (header_byte F i j)
    (cond (eqb k 1) (info_byte F (first_code F + i) j)
    (cond (eqb k 2) (entry_byte F.characters.widths i j)
    (cond (eqb k 3) (entry_byte F.characters.heights i j)
    (cond (eqb k 4) (entry_byte F.characters.depths i j)
    (cond (eqb k 5) (entry_byte F.characters.italics i j)
    (cond (eqb k 6) (program_byte F i j)
    (cond (eqb k 7) (list_byte (kerns F) i j)
    (cond (eqb k 8) (list_byte F.program.recipes i j)
    (list_byte F.parameters i j)))))))))

-- §130: the sizes
unfoldable pub sizes_for : Font → Layout
sizes_for F =
    record {
      lf = 6 + (18 + length F.header.further) + (last_code F + 1 - first_code F)
          + suc (length (ordered F.characters.widths)) + suc (length (ordered F.characters.heights)) + suc (length (ordered F.characters.depths)) + suc (length (ordered F.characters.italics))
          + (front F + program_words F) + length (kerns F) + length F.program.recipes + length F.parameters;
      lh = 18 + length F.header.further;
      bc = first_code F;
      ec = last_code F;
      nw = suc (length (ordered F.characters.widths));
      nh = suc (length (ordered F.characters.heights));
      nd = suc (length (ordered F.characters.depths));
      ni = suc (length (ordered F.characters.italics));
      nl = front F + program_words F;
      nk = length (kerns F);
      ne = length F.program.recipes;
      np = length F.parameters;
    }

-- 21: over 255 distinct widths, 15 distinct nonzero heights or depths, 63 distinct nonzero italics, 256 recipes, or a file of over 32,767 words
unfoldable pub too_much : Font → Bool
too_much F =
    ltb 255 (length (ordered F.characters.widths)) || ltb 15 (length (ordered F.characters.heights)) || ltb 15 (length (ordered F.characters.depths))
    || ltb 63 (length (ordered F.characters.italics)) || ltb 256 (length F.program.recipes) || ltb 32767 (sizes_for F).lf

-- §131: the sizes as bytes, and the ten subfiles after them
unfoldable pub size_byte : Layout → ℕ → ℕ
size_byte l i = cond (eqb (i % 2) 0) (get_or (size_list l) (i / 2) 0 / 256) (get_or (size_list l) (i / 2) 0 % 256)

unfoldable pub part_for : Font → ℕ → List ℕ
part_for F k = table (byte_in F k) (count_of (sizes_for F) k)

unfoldable pub written : Font → List ℕ
written F = tabulate (size_byte (sizes_for F)) 24 ++ iterate (λ s k. s ++ part_for F k) [] 10
