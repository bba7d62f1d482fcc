-- Images: what they mean, and what opening answers.
--   imaged         the meaning: at each place the element whose code stands there; a rounded extent is the extent
--   image_answer   what opening answers: refusals 4, 6, 7 and 8
--   spot_answer    where the cell of a place begins; refusals 1, and 2 where the place does not lie in the shape
use Rattle.std.specs.Prelude.{ℕ, cond, List, length}
use Rattle.std.specs.Option.{unwrap_or}
use Rattle.elements.specs.Algebra.{Algebra}
use Rattle.shapes.specs.declared.declaration.Declaration.{Declaration}
use Rattle.indices.specs.Places.{within, pick, has}
use Rattle.refusals.specs.Refusals.{Answer, done, refused, and_then}
use Rattle.shapes.specs.Shapes.{declared}
use Rattle.stores.specs.Meaning.{Meaning}
use Rattle.images.specs.Bytes.{number_at}
use Rattle.images.specs.Layout.{spot, headed, pairs, codes}

abbrev pub imaged : {E : Type 0} → Algebra E → List (List ℕ) → List ℕ → Meaning E
imaged a ss bs = record { shapes = ss; reach = ss; at = λ v i. unwrap_or (a.decode (number_at (spot bs ss v i) 8 bs)) a.zero }

abbrev pub image_answer : {E : Type 0} → Algebra E → List Declaration → List ℕ → Answer (List (List ℕ))
image_answer a ds bs =
    and_then (declared ds) (λ ss.
    cond (headed a.number (length ss) bs)
    (and_then (pairs bs ss) (λ _. and_then (codes a bs ss) (λ _. done ss)))
    (refused 6 0))

abbrev pub spot_answer : List (List ℕ) → List ℕ → ℕ → List ℕ → Answer ℕ
spot_answer ss bs v i = cond (has ss v) (cond (within (pick ss v) i) (done (spot bs ss v i)) (refused 2 0)) (refused 1 0)
