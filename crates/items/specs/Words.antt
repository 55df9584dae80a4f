-- What the words of `items` say.
use Rattle.std.specs.Prelude.{List, [], ◌∷◌}
use Rattle.items.specs.Items.{Word, raw, code, oct, dec, real}
use Rattle.items.specs.declared.words.Word.{Word as Given}
use Rattle.items.specs.declared.words.Word.TheVariants.{Raw, Code, Oct, Dec, Real}

abbrev pub said_as : Given → Word
said_as (Raw s) = raw s.now
said_as (Code letters c) = code letters c
said_as (Oct n) = oct n
said_as (Dec n) = dec n
said_as (Real w) = real w

abbrev pub said : List Given → List Word
said [] = []
said (w ∷ ws) = said_as w ∷ said ws
