-- Fewer places are left for the digits before the last.
use Rattle.ink.proofs.+put_digits.Given as goal

abbrev pub decreases-put_digits : goal.decreases-put_digits
decreases-put_digits g l = l.places
