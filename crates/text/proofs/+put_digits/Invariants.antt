-- `text::put_digits` calls itself as `decimal` recurses: n / 10 first, then the last digit. The measure is n.
-- Assumes nothing.
use Rattle.text.proofs.+put_digits.Given as goal

abbrev pub decreases-put_digits : goal.decreases-put_digits
decreases-put_digits l = l.n
