-- Numbers as big-endian bytes.
--   number      the number that bytes stand for
--   bytes       a number as so many bytes
--   part        so many bytes from an offset on
--   number_at   the number that stands there
--   patched     a buffer with other bytes from an offset on, everything else as it was
use Rattle.std.specs.Prelude.{ℕ, zero, suc, ◌+◌, ◌*◌, ◌/◌, ◌%◌, ◌^◌, List, [], ◌∷◌, ◌++◌, length, take, drop}

abbrev pub number : List ℕ → ℕ
number [] = 0
number (b ∷ bs) = b * 256 ^ length bs + number bs

abbrev pub bytes : ℕ → ℕ → List ℕ
bytes zero x = []
bytes (suc n) x = (x / 256 ^ n % 256) ∷ bytes n x

abbrev pub part : ℕ → ℕ → List ℕ → List ℕ
part at n bs = take n (drop at bs)

abbrev pub number_at : ℕ → ℕ → List ℕ → ℕ
number_at at n bs = number (part at n bs)

abbrev pub patched : ℕ → List ℕ → List ℕ → List ℕ
patched at ys bs = take at bs ++ (ys ++ drop (at + length ys) bs)
