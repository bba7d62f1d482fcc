-- Extents rounded up to a multiple of a vector length.
--   round           an extent e rounded up to a multiple of m
--   vector_length   refusal 9 unless a vector length is from 1 to 16
--   LeastMultiple   what that means: r is the least multiple of m at or above e
--   rounded         a shape with every extent rounded
--   all_rounded     a list of shapes with every extent rounded
--   rounding        refusal 10 at the first shape that is none once it is rounded; else the rounded shapes
--   Figures         worked figures
use Rattle.std.specs.Prelude.{◌≡◌, ℕ, ◌+◌, ◌-◌, ◌*◌, ◌/◌, ◌%◌, ◌<◌, ◌≤◌, cond, ◌&&◌, List, [], ◌∷◌, map, nat_le}
use Rattle.indices.specs.Places.{proper}
use Rattle.refusals.specs.Refusals.{Answer, done, refused}

abbrev pub round : ℕ → ℕ → ℕ
round m e = (e + (m - 1)) / m * m

abbrev pub vector_length : ℕ → Answer ℕ
vector_length m = cond (nat_le 1 m && nat_le m 16) (done m) (refused 9 0)

pub record LeastMultiple (m e r : ℕ) : Type 0 where
  pub multiple : r % m ≡ 0
  pub above : e ≤ r
  pub near : r < e + m

abbrev pub rounded : ℕ → List ℕ → List ℕ
rounded m es = map (round m) es

abbrev pub all_rounded : ℕ → List (List ℕ) → List (List ℕ)
all_rounded m ss = map (rounded m) ss

-- k is the number of the first shape of the list, and rs the answer where none is refused
abbrev pub rounding_from : List (List ℕ) → ℕ → ℕ → List (List ℕ) → Answer (List (List ℕ))
rounding_from rs m k [] = done rs
rounding_from rs m k (s ∷ ss) = cond (proper (rounded m s)) (rounding_from rs m (k + 1) ss) (refused 10 k)

abbrev pub rounding : ℕ → List (List ℕ) → Answer (List (List ℕ))
rounding m ss = rounding_from (all_rounded m ss) m 1 ss

pub record Figures : Type 0 where
  pub five : round 4 5 ≡ 8
  pub nines : rounding 16 ((9 ∷ 9 ∷ 9 ∷ []) ∷ []) ≡ done ((16 ∷ 16 ∷ 16 ∷ []) ∷ [])
  pub seventeen : rounding 16 ((17 ∷ 9 ∷ 9 ∷ []) ∷ []) ≡ refused 10 1
  pub sixty_four : rounding 5 ((64 ∷ []) ∷ []) ≡ refused 10 1
