-- An image that holds one element everywhere.
--   pairs_for   a pair for each shape, 4 bytes each: where its part begins, and how many bytes it has
--   repeated    the same bytes so many times
--   filled      header, pairs, and the element's code at every place
use Rattle.std.specs.Prelude.{ℕ, zero, suc, ◌+◌, ◌*◌, List, [], ◌∷◌, ◌++◌, length}
use Rattle.elements.specs.Algebra.{Algebra}
use Rattle.indices.specs.Places.{product, total}
use Rattle.images.specs.Bytes.{bytes}

abbrev pub pairs_for : ℕ → List (List ℕ) → List ℕ
pairs_for at [] = []
pairs_for at (s ∷ ss) = bytes 4 at ++ (bytes 4 (8 * product s) ++ pairs_for (at + 8 * product s) ss)

abbrev pub repeated : ℕ → List ℕ → List ℕ
repeated zero bs = []
repeated (suc n) bs = bs ++ repeated n bs

abbrev pub filled : {E : Type 0} → Algebra E → List (List ℕ) → E → List ℕ
filled a ss x = (a.number ∷ length ss ∷ 0 ∷ 0 ∷ []) ++ (pairs_for (8 * length ss + 4) ss ++ repeated (total ss) (bytes 8 (a.code x)))
