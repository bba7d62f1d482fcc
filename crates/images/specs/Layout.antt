-- Where an image keeps its parts and cells, and the questions about a buffer.
--   offset, size   what pair v says: where its part begins, and how many bytes it has
--   spot           where the cell of a place begins: the first coordinate runs fastest
--   headed         question 6: four bytes, the kind's number, the number of variables, 0 and 0
--   pairs          question 7: each pair lies in the buffer, and its part at or after the end of the part before
--   codes          question 8: each cell holds a code of the kind
--   Laid           what these questions come to
use Rattle.std.specs.Prelude.{◌≡◌, ℕ, zero, suc, ◌+◌, ◌-◌, ◌*◌, ◌<◌, ◌≤◌, Bool, true, cond, ◌&&◌, List, [], ◌∷◌, length, take, is_some, ◌==◌, nat_le}
use Rattle.elements.specs.Algebra.{Algebra}
use Rattle.indices.specs.Places.{product, column, pick, has}
use Rattle.refusals.specs.Refusals.{Answer, done, refused, and_then}
use Rattle.indices.specs.Dimensions.{same}
use Rattle.images.specs.Bytes.{number_at}

abbrev pub offset : List ℕ → ℕ → ℕ
offset bs v = number_at (8 * v - 4) 4 bs

abbrev pub size : List ℕ → ℕ → ℕ
size bs v = number_at (8 * v) 4 bs

abbrev pub spot : List ℕ → List (List ℕ) → ℕ → List ℕ → ℕ
spot bs ss v i = offset bs v + 8 * column (pick ss v) i

abbrev pub headed : ℕ → ℕ → List ℕ → Bool
headed kind n bs = same (take 4 bs) (kind ∷ n ∷ 0 ∷ 0 ∷ [])

-- pair v, for a shape s, where the part before ends at `end`
abbrev pub paired : List ℕ → ℕ → ℕ → List ℕ → Bool
paired bs v end s =
    nat_le (8 * v + 4) (length bs) && (nat_le end (offset bs v) && (size bs v == 8 * product s && nat_le (offset bs v + size bs v) (length bs)))

abbrev pub pairs_from : List ℕ → ℕ → ℕ → List (List ℕ) → Answer Unit
pairs_from bs v end [] = done tt
pairs_from bs v end (s ∷ ss) = cond (paired bs v end s) (pairs_from bs (v + 1) (offset bs v + size bs v) ss) (refused 7 v)

abbrev pub pairs : List ℕ → List (List ℕ) → Answer Unit
pairs bs ss = pairs_from bs 1 (8 * length ss + 4) ss

abbrev pub coded : {E : Type 0} → Algebra E → List ℕ → ℕ → Bool
coded a bs at = is_some (a.decode (number_at at 8 bs))

-- so many cells, one after the other from an offset on, p being the number of the first
abbrev pub codes_of : {E : Type 0} → Algebra E → List ℕ → ℕ → ℕ → ℕ → Answer Unit
codes_of a bs at p zero = done tt
codes_of a bs at p (suc n) = cond (coded a bs at) (codes_of a bs (at + 8) (p + 1) n) (refused 8 p)

abbrev pub codes_from : {E : Type 0} → Algebra E → List ℕ → ℕ → ℕ → List (List ℕ) → Answer Unit
codes_from a bs v p [] = done tt
codes_from a bs v p (s ∷ ss) = and_then (codes_of a bs (offset bs v) p (product s)) (λ _. codes_from a bs (v + 1) (p + product s) ss)

abbrev pub codes : {E : Type 0} → Algebra E → List ℕ → List (List ℕ) → Answer Unit
codes a bs ss = codes_from a bs 1 1 ss

pub record Laid {E : Type 0} (a : Algebra E) (ss : List (List ℕ)) (bs : List ℕ) : Type 0 where
  -- parts begin after the pairs, lie in the buffer and do not overlap
  pub after : (v : ℕ) → has ss v ≡ true → 8 * length ss + 4 ≤ offset bs v
  pub inside : (v : ℕ) → has ss v ≡ true → offset bs v + 8 * product (pick ss v) ≤ length bs
  pub apart : (v w : ℕ) → has ss v ≡ true → has ss w ≡ true → v < w → offset bs v + 8 * product (pick ss v) ≤ offset bs w
  pub cells : (v n : ℕ) → has ss v ≡ true → n < product (pick ss v) → coded a bs (offset bs v + 8 * n) ≡ true
