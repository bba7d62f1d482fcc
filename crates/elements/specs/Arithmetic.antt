-- The defined values of a kind, by what they have and what they keep.
--   Arithmetic   a number for the kind, a zero and a test for it, four operations, codes, and the code of the undefined value;
--                an operation gives `None` where its result is undefined
--   Sound        what makes a kind of it
use Rattle.std.specs.Prelude.{◌≡◌, ℕ, Bool, Some, Decides, Option, ◌≢◌}

pub record Arithmetic (D : Type 0) : Type 0 where
  pub number : ℕ
  pub zero : D
  pub null : D → Bool
  pub plus : D → D → Option D
  pub minus : D → D → Option D
  pub times : D → D → Option D
  pub over : D → D → Option D
  pub code : D → ℕ
  pub decode : ℕ → Option D
  pub blank : ℕ

pub record Sound {D : Type 0} (a : Arithmetic D) : Type 0 where
  pub null_zero : (x : D) → Decides (a.null x) (x ≡ a.zero)
  pub plus_zero : (x : D) → a.plus x a.zero ≡ Some x
  pub zero_minus_zero : a.minus a.zero a.zero ≡ Some a.zero
  pub decode_code : (x : D) → a.decode (a.code x) ≡ Some x
  pub code_decode : (c : ℕ) (x : D) → a.decode c ≡ Some x → a.code x ≡ c
  pub blank_apart : (x : D) → a.code x ≢ a.blank
