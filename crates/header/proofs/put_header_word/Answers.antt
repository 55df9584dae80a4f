-- The call.
use Rattle.header.specs.Header.{header_word}
use Rattle.header.proofs.put_header_word.Goals as goal

pub returns : goal.returns
unfolding header_word
returns c = rw (← c.word_of-word.ensures) c.put_leaf.ensures
