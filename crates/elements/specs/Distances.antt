-- Distances by their number of metres. Assumes nothing.
use Rattle.std.specs.Prelude.{◌≡◌, ℕ, suc, ◌+◌, ◌-◌, ◌<◌, ◌≤◌, true, ℤ, pos, negsuc, ◌+ℤ◌, ◌-ℤ◌, ◌*ℤ◌, Some, Option, FitsSigned, int_div, nat_le, unsigned_abs, refl}
use Rattle.std.proofs.Common.{sym, ap, ◌∙◌, subst, div-le_self, arith, to_z, of_z}
use Rattle.std.specs.Int.{w64}
use Rattle.std.proofs.lemmas.Nat.{mul-le}
use Rattle.std.proofs.lemmas.Int.{ints, to_z-of_z}
use Rattle.std.proofs.lemmas.Bool.{and_parts, and_from, leb-true, le-leb, eqb-true, false≢true}
use Rattle.elements.specs.Ranges.{measurable, nought}
use Rattle.elements.specs.Metres.{distance}
use Rattle.elements.specs.declared.distance.Distance.{Distance}
use Rattle.elements.specs.Made.{made_passed, made_from}
use Rattle.elements.specs.Sizes.{size_sum, size_difference, size_product, size_quotient, size_fits}

abbrev make : (z : ℤ) → measurable z ≡ true → Distance
make z p = record { metres = z; ranged = p }

pub distance_is : (z : ℤ) (x : Distance) → x.metres ≡ z → distance z ≡ Some x
distance_is z x e = ap distance (sym e) ∙ made_passed measurable make x.metres x.ranged

pub distance_metres : (z : ℤ) (x : Distance) → distance z ≡ Some x → x.metres ≡ z
distance_metres z x e = ap (λ (d : Distance). d.metres) (sym (made_from measurable make z x e).1)

pub same_metres : (x y : Distance) → x.metres ≡ y.metres → x ≡ y
same_metres x y e = let p = sym (distance_is y.metres x e) ∙ distance_is y.metres y refl in cc

low : (n : ℕ) → measurable (negsuc n) ≡ true → n ≤ 2147483646
low n h = leb-true n 2147483646 (and_parts (nat_le n 2147483646) true h).0

pub measurable_size : (z : ℤ) → measurable z ≡ true → unsigned_abs z ≤ 2147483647
measurable_size (pos n) h = leb-true n 2147483647 h
measurable_size (negsuc n) h = omega (arith, low n h)

pub size_measurable : (z : ℤ) → unsigned_abs z ≤ 2147483647 → measurable z ≡ true
size_measurable (pos n) h = le-leb n 2147483647 h
size_measurable (negsuc n) h = and_from (nat_le n 2147483646) true (le-leb n 2147483646 (omega arith)) refl

short : (x : Distance) → unsigned_abs x.metres ≤ 2147483647
short x = measurable_size x.metres x.ranged

pub sum_fits : (x y : Distance) → FitsSigned w64 (x.metres +ℤ y.metres)
sum_fits x y = size_fits _ (omega (arith, size_sum x.metres y.metres, short x, short y))

pub difference_fits : (x y : Distance) → FitsSigned w64 (x.metres -ℤ y.metres)
difference_fits x y = size_fits _ (omega (arith, size_difference x.metres y.metres, short x, short y))

pub product_fits : (x y : Distance) → FitsSigned w64 (x.metres *ℤ y.metres)
product_fits x y = size_fits _ (omega (arith, size_product x.metres y.metres, mul-le _ _ 2147483647 2147483647 (short x) (short y)))

pub quotient_fits : (x y : Distance) → FitsSigned w64 (int_div x.metres y.metres)
quotient_fits x y = size_fits _ (omega (arith, size_quotient x.metres y.metres, div-le_self (unsigned_abs x.metres) (unsigned_abs y.metres), short x))

-- an operation on two distances that were widened to 64 bits
module _ (f : ℤ → ℤ → ℤ) (a b : ℤ) (x y : Distance) (p : a ≡ x.metres) (q : b ≡ y.metres) where
  wide : (c : ℤ) (z : Distance) → c ≡ z.metres → to_z w64 (of_z w64 c) ≡ z.metres
  wide c z e = ap (λ t. to_z w64 (of_z w64 t)) e ∙ to_z-of_z w64 z.metres (size_fits z.metres (omega (arith, short z)))

  operands : f (to_z w64 (of_z w64 a)) (to_z w64 (of_z w64 b)) ≡ f x.metres y.metres
  operands = ap (λ t. f t (to_z w64 (of_z w64 b))) (wide a x p) ∙ ap (f x.metres) (wide b y q)

  pub fits_wide : FitsSigned w64 (f x.metres y.metres) → FitsSigned w64 (f (to_z w64 (of_z w64 a)) (to_z w64 (of_z w64 b)))
  fits_wide h = subst (FitsSigned w64) (sym operands) h

  pub worked_out : (r : Option Distance) → FitsSigned w64 (f x.metres y.metres) → r ≡ distance (to_z w64 (of_z w64 (f (to_z w64 (of_z w64 a)) (to_z w64 (of_z w64 b))))) → r ≡ distance (f x.metres y.metres)
  worked_out r h e = e ∙ ap (λ t. distance (to_z w64 (of_z w64 t))) operands ∙ ap distance (to_z-of_z w64 (f x.metres y.metres) h)

pub nought_zero : (z : ℤ) → nought z ≡ true → z ≡ pos 0
nought_zero (pos n) h = ap pos (eqb-true n 0 h)
nought_zero (negsuc n) h = absurd (false≢true h)

-- a distance less its smallest possible is a natural number, its code
coded : (z : ℤ) → measurable z ≡ true → (c : ℕ) × ((z +ℤ pos 2147483648 ≡ pos c) × (0 < c))
coded (pos n) h = (n + 2147483648, (refl, omega arith))
coded (negsuc n) h =
    let l = low n h in
    (2147483648 - suc n, (omega (arith, ints), omega arith))

pub code_number : (z : ℤ) → measurable z ≡ true → (pos (unsigned_abs (z +ℤ pos 2147483648)) -ℤ pos 2147483648 ≡ z) × (0 < unsigned_abs (z +ℤ pos 2147483648))
code_number z h =
    let p = coded z h in
    let e : unsigned_abs (z +ℤ pos 2147483648) ≡ p.0 = ap unsigned_abs p.1.0 in
    let b : pos p.0 -ℤ pos 2147483648 ≡ z = omega (arith, ints, p.1.0) in
    (ap (λ c. pos c -ℤ pos 2147483648) e ∙ b, omega (arith, e, p.1.1))

pub number_code : (c : ℕ) (z : ℤ) → z ≡ pos c -ℤ pos 2147483648 → unsigned_abs (z +ℤ pos 2147483648) ≡ c
number_code c z e = let b : z +ℤ pos 2147483648 ≡ pos c = omega (arith, ints, e) in ap unsigned_abs b
