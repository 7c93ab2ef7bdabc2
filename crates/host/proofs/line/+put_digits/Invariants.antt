-- The measure is the number: the call is for its tenth.
use Rattle.host.proofs.line.+put_digits.Given as goal

abbrev pub decreases-put_digits : goal.decreases-put_digits
decreases-put_digits l = l.n
