-- The size of a whole number, its distance from zero, under arithmetic. Assumes nothing.
use Rattle.std.specs.Prelude.{◌≡◌, ℕ, zero, suc, ◌+◌, ◌*◌, ◌/◌, ◌<◌, ◌≤◌, ℤ, pos, negsuc, ◌+ℤ◌, ◌-ℤ◌, ◌*ℤ◌, neg_ℤ, FitsSigned, int_div, unsigned_abs, refl}
use Rattle.std.proofs.Common.{arith}
use Rattle.std.specs.Int.{w64}
use Rattle.std.proofs.lemmas.Int.{ints}

size_neg : (n : ℕ) → unsigned_abs (neg_ℤ (pos n)) ≡ n
size_neg zero = refl
size_neg (suc n) = refl

pub size_sum : (z w : ℤ) → unsigned_abs (z +ℤ w) ≤ unsigned_abs z + unsigned_abs w
size_sum z w = omega (arith, ints)

pub size_difference : (z w : ℤ) → unsigned_abs (z -ℤ w) ≤ unsigned_abs z + unsigned_abs w
size_difference z w = omega (arith, ints)

pub size_product : (z w : ℤ) → unsigned_abs (z *ℤ w) ≡ unsigned_abs z * unsigned_abs w
size_product (pos a) (pos b) = refl
size_product (pos a) (negsuc b) = size_neg (a * suc b)
size_product (negsuc a) (pos b) = size_neg (suc a * b)
size_product (negsuc a) (negsuc b) = refl

pub size_quotient : (z w : ℤ) → unsigned_abs (int_div z w) ≡ unsigned_abs z / unsigned_abs w
size_quotient (pos a) (pos b) = refl
size_quotient (pos a) (negsuc b) = size_neg (a / suc b)
size_quotient (negsuc a) (pos b) = size_neg (suc a / b)
size_quotient (negsuc a) (negsuc b) = refl

pub size_fits : (z : ℤ) → unsigned_abs z < 9223372036854775808 → FitsSigned w64 z
size_fits (pos n) h = record { sfits = h }
size_fits (negsuc n) h = record { sfits = omega arith }
