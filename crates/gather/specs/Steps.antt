-- What the ligature program of a file does at a pair. infos and s are the tables char_info and lig_kern of the mended copy, l its sizes, nl the number of steps; the step nl is none.
use Rattle.std.specs.Prelude.{ℕ, zero, suc, min, Bool, cond, ◌&&◌, ◌||◌, List, eqb, ltb, leb}
use Rattle.tfm.specs.Characters.{byte_of}
use Rattle.tfm.specs.declared.Layout.{Layout}
use Rattle.program.specs.Steps.{next_of, program_of}
use Rattle.settle.specs.Settle.{Step, stop, give, left, right, both, pick}

-- step i is for the right code y; a step over 128 is for none
unfoldable pub hit : List ℕ → ℕ → ℕ → Bool
hit s i y = leb (byte_of s i 0) 128 && eqb (byte_of s i 1) y

-- the step after step i: a skip byte passes that many steps, 128 or more ends
unfoldable pub next : List ℕ → ℕ → ℕ → ℕ
next s nl i = cond (ltb (byte_of s i 0) 128) (min (next_of s i) nl) nl

-- the first step for y in the program at step i, or nl; f steps at most are looked at
unfoldable pub step_from : List ℕ → ℕ → ℕ → ℕ → ℕ → ℕ
step_from s nl zero i y = nl
step_from s nl (suc f) i y = cond (ltb i nl) (cond (hit s i y) i (step_from s nl f (next s nl i) y)) nl

-- steps go up, so that nl of them are enough (`first_found`, `found_first`)
abbrev pub step_for : List ℕ → ℕ → ℕ → ℕ → ℕ
step_for s nl start y = step_from s nl nl start y

-- what a step does, by its code, its right character y and its ligature character z: 5, 11 and a kern are done with y; 1 and 7 go on with z, y; 2 with x, z;
-- 3 with both; 0 and 6 are done with z, as is any other, which the mends leave none of
unfoldable pub act_of : ℕ → ℕ → ℕ → Step
act_of op y z =
    pick (leb 128 op || eqb op 5 || eqb op 11) (give y)
    (pick (eqb op 1 || eqb op 7) (left z)
    (pick (eqb op 2) (right z)
    (pick (eqb op 3) (both z) (give z))))

-- what step i does
unfoldable pub act_at : List ℕ → ℕ → ℕ → Step
act_at s nl i = pick (ltb i nl) (act_of (byte_of s i 2) (byte_of s i 1) (byte_of s i 3)) stop

-- the program of the file: left codes 0 to 256, right codes 0 to 255
unfoldable pub program_steps : List ℕ → List ℕ → Layout → ℕ → ℕ → Step
program_steps infos s l x y =
    pick (ltb x 257 && ltb y 256) (act_at s l.nl (step_for s l.nl (program_of infos s l x) y)) stop
