-- The ranges of the numbers that elements hold.
--   measurable   −2,147,483,647 to 2,147,483,647, for metres
--   nought       zero
--   payable      at most 2,147,483,647, for the cost of a leg
--   made         what a number makes, where it passes a test
use Rattle.std.specs.Prelude.{◌≡◌, ℕ, Bool, true, false, ◌&&◌, ℤ, pos, negsuc, Some, None, Option, ◌==◌, int_le, nat_le, refl}

abbrev pub measurable : ℤ → Bool
measurable z = int_le (negsuc 2147483646) z && int_le z (pos 2147483647)

abbrev pub nought : ℤ → Bool
nought (pos n) = n == 0
nought (negsuc n) = false

abbrev pub payable : ℕ → Bool
payable n = nat_le n 2147483647

abbrev pub made_if : {A D : Type 0} (test : A → Bool) → ((a : A) → test a ≡ true → D) → (a : A) (b : Bool) → test a ≡ b → Option D
made_if test make a true p = Some (make a p)
made_if test make a false p = None

abbrev pub made : {A D : Type 0} (test : A → Bool) → ((a : A) → test a ≡ true → D) → A → Option D
made test make a = made_if test make a (test a) refl
