-- Each kind of word writes its text.
use Rattle.items.specs.Items.{word_text}
use Rattle.items.proofs.words.Word.put.Goals as goal

pub returns-in-Code : goal.returns-in-Code
unfolding word_text
returns-in-Code c = rw c.in-Code.is c.put_code.ensures

pub returns-in-Oct : goal.returns-in-Oct
unfolding word_text
returns-in-Oct c = rw c.in-Oct.is c.put_octal.ensures
