-- Metres: whole numbers from −2,147,483,647 to 2,147,483,647.
--   distance    the distance of so many metres, if it is in the range
--   metres      their arithmetic: a result outside the range is undefined, and so is one divided by zero;
--               a quotient drops the fraction towards zero; the code is the value plus 2,147,483,648, and undefined has 0
--   Truncated   q is z divided by w, with the fraction dropped towards zero
use Rattle.std.specs.Prelude.{◌+◌, ◌*◌, ◌<◌, ◌≤◌, cond, ℤ, pos, ◌+ℤ◌, ◌-ℤ◌, ◌*ℤ◌, ◌≤ℤ◌, None, Option, int_div, unsigned_abs, refl}
use Rattle.elements.specs.Arithmetic.{Arithmetic}
use Rattle.elements.specs.Ranges.{measurable, nought, made}
use Rattle.elements.specs.declared.distance.Distance.{Distance}

abbrev pub distance : ℤ → Option Distance
distance = made measurable (λ z p. record { metres = z; ranged = p })

abbrev pub metres : Arithmetic Distance
metres = record {
  number = 1;
  zero = record { metres = pos 0; ranged = refl };
  null = λ x. nought x.metres;
  plus = λ x y. distance (x.metres +ℤ y.metres);
  minus = λ x y. distance (x.metres -ℤ y.metres);
  times = λ x y. distance (x.metres *ℤ y.metres);
  over = λ x y. cond (nought y.metres) None (distance (int_div x.metres y.metres));
  code = λ x. unsigned_abs (x.metres +ℤ pos 2147483648);
  decode = λ c. distance (pos c -ℤ pos 2147483648);
  blank = 0;
}

pub record Truncated (z w q : ℤ) : Type 0 where
  pub within : unsigned_abs q * unsigned_abs w ≤ unsigned_abs z
  pub nearest : unsigned_abs z < (unsigned_abs q + 1) * unsigned_abs w
  -- q is zero, or has the sign of the exact quotient, which is the sign of z times w
  pub sign : pos 0 ≤ℤ (q *ℤ (z *ℤ w))
