-- Kinds of element, by what they have and what they keep.
--   Algebra   a kind: its number, zero, undefined value, four operations, and a code for each value
--   Laws      what every kind keeps of its zero and its codes
--   Strict    what an undefined operand makes of a result
--   is_zero   whether an element is the zero, by its code
--   total     the sum of a function's values at 1 to n, from zero, each added on the right
use Rattle.std.specs.Prelude.{◌≡◌, ℕ, zero, suc, Bool, Some, Option, ◌==◌, ◌≢◌}

pub record Algebra (E : Type 0) : Type 0 where
  pub number : ℕ
  pub zero : E
  pub undefined : E
  pub plus : E → E → E
  pub minus : E → E → E
  pub times : E → E → E
  pub over : E → E → E
  pub code : E → ℕ
  pub decode : ℕ → Option E

pub record Laws {E : Type 0} (a : Algebra E) : Type 0 where
  pub plus_zero : (v : E) → a.plus v a.zero ≡ v
  pub zero_minus_zero : a.minus a.zero a.zero ≡ a.zero
  pub zero_times : (v : E) → a.times a.zero v ≡ a.zero
  pub times_zero : (v : E) → a.times v a.zero ≡ a.zero
  pub zero_over : (v : E) → a.over a.zero v ≡ a.zero
  -- decoding the code of a value gives that value, and a code that decodes to a value is that value's code
  pub decode_code : (v : E) → a.decode (a.code v) ≡ Some v
  pub code_decode : (c : ℕ) (v : E) → a.decode c ≡ Some v → a.code v ≡ c

pub record Strict {E : Type 0} (a : Algebra E) : Type 0 where
  pub undefined_plus : (v : E) → a.plus a.undefined v ≡ a.undefined
  pub plus_undefined : (v : E) → a.plus v a.undefined ≡ a.undefined
  pub undefined_minus : (v : E) → a.minus a.undefined v ≡ a.undefined
  pub minus_undefined : (v : E) → a.minus v a.undefined ≡ a.undefined
  pub undefined_times : (v : E) → (v ≢ a.zero) → a.times a.undefined v ≡ a.undefined
  pub times_undefined : (v : E) → (v ≢ a.zero) → a.times v a.undefined ≡ a.undefined
  pub undefined_over : (v : E) → a.over a.undefined v ≡ a.undefined
  pub over_undefined : (v : E) → (v ≢ a.zero) → a.over v a.undefined ≡ a.undefined

abbrev pub is_zero : {E : Type 0} → Algebra E → E → Bool
is_zero a x = a.code x == a.code a.zero

abbrev pub total : {E : Type 0} → Algebra E → (ℕ → E) → ℕ → E
total a f zero = a.zero
total a f (suc n) = a.plus (total a f n) (f (suc n))
