-- The last test, by the end of the last subfile.
use Rattle.std.proofs.Common.{◌≡◌, ◌∙◌, rules}
use Rattle.lent.specs.Answer.{first}
use Rattle.tfm.specs.Sizes.{words, layout_number}
use Rattle.tfm.proofs.Accepted.{ends}
use Rattle.tfm.proofs.check_layout.Goals as goal

pub returns-then-layout-start : goal.returns-then-layout-start
unfolding layout_number first
returns-then-layout-start c = let e : c.start.result ≡ words c.args.layout = c.start.ensures.value ∙ ends c.args.layout in search rules

pub returns : goal.returns
unfolding layout_number first
returns c = let e : c.start.result ≡ words c.args.layout = c.start.ensures.value ∙ ends c.args.layout in search rules
