-- 003 §65 to §70: the activity of each step. 0 unreachable, 1 passed through, 2 accessible.
use Rattle.std.specs.Prelude.{ℕ, ◌-◌, Bool, cond, ◌&&◌, List, ltb, eqb, get_or, set, replicate}
use Rattle.lent.specs.Fold.{iterate}
use Rattle.tfm.specs.Sizes.{chars}
use Rattle.tfm.specs.Characters.{byte_of, info_of}
use Rattle.tfm.specs.declared.Layout.{Layout}
use Rattle.program.specs.Steps.{boundary_start, has_boundary, redirects, redirected, next_of}

-- m with b at i, if the test holds
unfoldable pub store_if : Bool → List ℕ → ℕ → ℕ → List ℕ
store_if test m i b = cond test (set m i b) m

-- §69, the first step and the last
unfoldable pub mark_first : List ℕ → List ℕ → List ℕ
mark_first s m = store_if (eqb (byte_of s 0 0) 255) m 0 1

unfoldable pub mark_last : List ℕ → Layout → List ℕ → List ℕ
mark_last s l m =
    store_if (has_boundary s l)
    (store_if (has_boundary s l && ltb (boundary_start s l) l.nl) m (boundary_start s l) 2)
    (l.nl - 1) 1

-- §67 and §68, a program that a character starts at r
unfoldable pub mark_label : List ℕ → Layout → List ℕ → ℕ → List ℕ
mark_label s l m r =
    store_if (ltb (redirected s l r) l.nl)
    (store_if (redirects s l r && ltb (redirected s l r) l.nl && eqb (get_or m r 0) 0) m r 1)
    (redirected s l r) 2

-- §67, word k of char_info
unfoldable pub mark_info : List ℕ → List ℕ → Layout → List ℕ → ℕ → List ℕ
mark_info infos s l m k = cond (eqb (info_of infos k).tag 1) (mark_label s l m (info_of infos k).remainder) m

-- §70, step i
unfoldable pub mark_step : List ℕ → Layout → List ℕ → ℕ → List ℕ
mark_step s l m i =
    store_if (eqb (get_or m i 0) 2 && ltb (byte_of s i 0) 128 && ltb (next_of s i) l.nl) m (next_of s i) 2

-- §69, then §67 for bc..ec, then §70 for each step
unfoldable pub marks_from : List ℕ → List ℕ → Layout → List ℕ → List ℕ
marks_from infos s l m =
    iterate (mark_step s l) (iterate (mark_info infos s l) (mark_last s l (mark_first s m)) (chars l)) l.nl

-- §66: all are unreachable at first; nl is at most 32,767
unfoldable pub marks_of : List ℕ → List ℕ → Layout → List ℕ
marks_of infos s l = marks_from infos s l (replicate 32768 0)
