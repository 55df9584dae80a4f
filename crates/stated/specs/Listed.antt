-- The font that the listing of a copy c states: l are its sizes, and m the marks of its steps. (003 §48 to §86; the items of header, ligatures and listing.)
use Rattle.std.specs.Prelude.{ℕ, ◌+◌, ◌-◌, ◌/◌, Bool, true, false, cond, ◌&&◌, not, List, leb, ltb, eqb, length, get_or}
use Rattle.lent.specs.Fold.{tabulate}
use Rattle.tfm.specs.Characters.{byte_of, info_of, exists_in}
use Rattle.tfm.specs.Lengths.{word_of}
use Rattle.tfm.specs.Subfiles.{table_of}
use Rattle.tfm.specs.declared.Layout.{Layout}
use Rattle.tfm.specs.declared.CharInfo.{CharInfo}
use Rattle.program.specs.Steps.{address_of, boundary_char, program_of}
use Rattle.header.specs.Header.{spelled}
use Rattle.ligatures.specs.Ligatures.{skipped}
use Rattle.forest.specs.Forest.{past}
use Rattle.font.specs.Font.{Instruction, Font}
use Rattle.font.specs.Told.{unspecified}
use Rattle.font.specs.Read.{flagged}
use Rattle.building.specs.Pick.{rank, picked}
use Rattle.clean.specs.Met.{marks_in}
use Rattle.stated.specs.Stated.{width_stated}

-- the length that is listed for index i of table t: an index of 0, or one outside, is not listed
unfoldable pub listed_length : List ℕ → ℕ → ℕ
listed_length t i = cond (not (eqb i 0) && ltb i (length t / 4)) (word_of t i) 0

-- a step is listed where it is accessible
unfoldable pub live : Layout → List ℕ → ℕ → Bool
live l m i = ltb i l.nl && eqb (get_or m i 0) 2

-- §74 to §77: what is listed of step i, whose kern has the word of its entry
unfoldable pub listed_step : List ℕ → List ℕ → List ℕ → ℕ → Instruction
listed_step s kerns m i =
    record {
      skip = cond (leb 128 (byte_of s i 0)) 128 (skipped m i (byte_of s i 0));
      right = byte_of s i 1;
      op = cond (leb 128 (byte_of s i 2)) 128 (byte_of s i 2);
      value = cond (leb 128 (byte_of s i 2)) (word_of kerns (address_of s i - 32768)) (byte_of s i 3);
    }

-- T are the ten tables of the copy
module _ (T : ℕ → List ℕ) (l : Layout) where
  unfoldable pub listed_here : ℕ → Bool
  listed_here code = exists_in (T 1) l code

  abbrev pub info_for : ℕ → CharInfo
  info_for code = info_of (T 1) (code - l.bc)

  -- §79 to §82
  unfoldable pub listed_width : ℕ → ℕ
  listed_width code = cond (listed_here code) (width_stated (T 2) (info_for code).width) 0

  unfoldable pub listed_height : ℕ → ℕ
  listed_height code = cond (listed_here code) (listed_length (T 3) (info_for code).height) 0

  unfoldable pub listed_depth : ℕ → ℕ
  listed_depth code = cond (listed_here code) (listed_length (T 4) (info_for code).depth) 0

  unfoldable pub listed_italic : ℕ → ℕ
  listed_italic code = cond (listed_here code) (listed_length (T 5) (info_for code).italic) 0

  -- a length of 0 is not put into its table (PLtoTF §75)
  abbrev pub counted : (ℕ → ℕ) → ℕ → Bool
  counted g code = listed_here code && not (eqb (g code) 0)

  -- where the program of a code starts, or nl
  unfoldable pub start_for : ℕ → ℕ
  start_for code = program_of (T 1) (T 6) l code

  unfoldable pub has_recipe : ℕ → Bool
  has_recipe code = listed_here code && eqb (info_for code).tag 3

  -- §72: a label stands where a program starts, if that step is listed
  abbrev pub label_listed : List ℕ → ℕ → Bool
  label_listed m code = live l m (start_for code)

  -- §84, §85: a link or a recipe stands only with a character
  unfoldable pub listed_tag : List ℕ → ℕ → ℕ
  listed_tag m code = cond (label_listed m code) 1 (cond (listed_here code && leb 2 (info_for code).tag) (info_for code).tag 0)

  unfoldable pub listed_remainder : List ℕ → ℕ → ℕ
  listed_remainder m code =
      cond (label_listed m code) (rank (live l m) (start_for code))
      (cond (has_recipe code) (rank has_recipe code)
      (cond (listed_here code && eqb (info_for code).tag 2) (info_for code).remainder 0))

-- all of it but the flag of a seven-bit safe font
unfoldable pub listed_plain : (ℕ → List ℕ) → Layout → List ℕ → Font
listed_plain T l m =
    record {
      header =
          record {
            check_sum = word_of (T 0) 0;
            checked = true;
            design_size = word_of (T 0) 1;
            scheme = cond (leb 12 l.lh) (past (spelled (T 0) 0)) unspecified;
            family = cond (leb 17 l.lh) (past (spelled (T 0) 1)) unspecified;
            face = cond (leb 18 l.lh) (byte_of (T 0) 17 3) 0;
            further = tabulate (λ i. word_of (T 0) (i + 18)) (l.lh - 18);
          };
      parameters = tabulate (word_of (T 9)) l.np;
      characters =
          record {
            present = listed_here T l;
            width = listed_width T l;
            height = listed_height T l;
            depth = listed_depth T l;
            italic = listed_italic T l;
            widths = picked (listed_here T l) (listed_width T l) 256;
            heights = picked (counted T l (listed_height T l)) (listed_height T l) 256;
            depths = picked (counted T l (listed_depth T l)) (listed_depth T l) 256;
            italics = picked (counted T l (listed_italic T l)) (listed_italic T l) 256;
          };
      program =
          record {
            boundary = boundary_char (T 6);
            tag = listed_tag T l m;
            remainder = listed_remainder T l m;
            recipes = picked (has_recipe T l) (λ code. word_of (T 8) (info_for T l code).remainder) 256;
            steps = picked (live l m) (listed_step (T 6) (T 7) m) l.nl;
            least = rank (live l m) l.nl;
          };
      unsafe = false;
    }

abbrev pub listed_from : (ℕ → List ℕ) → Layout → List ℕ → Font
listed_from T l m = flagged (listed_plain T l m)

abbrev pub listed : List ℕ → Layout → List ℕ → Font
listed c l m = listed_from (table_of c l) l m

-- of a file whose copy is the file itself: a clean one
unfoldable pub listed_of : List ℕ → Layout → Font
listed_of f l = listed f l (marks_in f l)
