-- Whether a store has just the shapes that are wanted.
--   difference   nothing where two lists of shapes are equal; else that their lengths differ, or the first that differs, from 1
--   where_other  the position of a mismatch: 0 where the number of variables differs
use Rattle.std.specs.Prelude.{ℕ, ◌+◌, cond, List, [], ◌∷◌, length, Ok, Err, Result, ◌==◌}
use Rattle.indices.specs.Dimensions.{same}
use Rattle.stores.specs.declared.mismatch.Mismatch.{Mismatch}
use Rattle.stores.specs.declared.mismatch.Mismatch.TheVariants.{Count, Shape}

-- k is the number of the first shape of the lists, which are as long as each other
abbrev pub first_other : ℕ → List (List ℕ) → List (List ℕ) → Result Unit Mismatch
first_other k [] ts = Ok tt
first_other k (s ∷ ss) [] = Ok tt
first_other k (s ∷ ss) (t ∷ ts) = cond (same s t) (first_other (k + 1) ss ts) (Err (Shape k))

abbrev pub difference : List (List ℕ) → List (List ℕ) → Result Unit Mismatch
difference ss ts = cond (length ss == length ts) (first_other 1 ss ts) (Err Count)

abbrev pub where_other : Mismatch → ℕ
where_other Count = 0
where_other (Shape k) = k
