-- Each arm of the branch prints its arm of `choose`.
use Rattle.items.proofs.Laws.{choices}
use Rattle.header.specs.Header.{face_item}
use Rattle.header.proofs.put_face.Goals as goal

pub returns-then-face-lt18 : goal.returns-then-face-lt18
unfolding face_item
returns-then-face-lt18 c = rw (← c.face_text.ensures) (search choices depth 9)

pub returns-else-face-lt18 : goal.returns-else-face-lt18
unfolding face_item
returns-else-face-lt18 c = search choices depth 9
