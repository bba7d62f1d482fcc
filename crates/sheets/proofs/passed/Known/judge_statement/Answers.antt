use Rattle.std.proofs.Common.{◌≡◌, ℕ, ◌&&◌, eqb, List, [], ◌∷◌, refl, ap, arith}
use Rattle.std.proofs.lemmas.Grind.{common_steps}
use lib.Pointwise.{pointwise}
use Rattle.indices.specs.Dimensions.{same}
use Rattle.sheets.proofs.passed.Known.judge_statement.Goals as goal

compared : (xs ys : List ℕ) → pointwise eqb xs ys ≡ same xs ys
compared [] [] = refl
compared [] (y ∷ ys) = refl
compared (x ∷ xs) [] = refl
compared (x ∷ xs) (y ∷ ys) = ap (λ b. eqb x y && b) (compared xs ys)

pub returns-then-ne : goal.returns-then-ne
returns-then-ne c = grind (arith, common_steps, compared)

pub returns : goal.returns
returns c = grind (arith, common_steps, compared)
