-- What stands before the characters, and what the verdict has stand after.
use Rattle.std.proofs.Common.{refl}
use Rattle.listing.proofs.Parts.{whole}
use Rattle.listing.proofs.put_copy.Goals as goal

pub returns : goal.returns
returns c =
    whole _ _ _ _ _ _ c.tables_of-font.ensures _ c.letters_in.ensures refl c.kind_of-kind.ensures c.starts_of-starts.ensures c.put_closing.ensures c.put_opening.ensures
