-- Cells: elements in a list, variable after variable, the last coordinate running fastest.
--   flat           their meaning: a rounded extent is the extent
--   cells_answer   what opening answers: refusal 4, then 5 where there are too few elements
use Rattle.std.specs.Prelude.{ℕ, cond, List, nat_le, slice_index_or}
use Rattle.shapes.specs.declared.declaration.Declaration.{Declaration}
use Rattle.indices.specs.Places.{cell, total}
use Rattle.refusals.specs.Refusals.{Answer, done, refused, and_then}
use Rattle.shapes.specs.Shapes.{declared}
use Rattle.stores.specs.Meaning.{Meaning}

abbrev pub flat : {E : Type 0} → E → List (List ℕ) → List E → Meaning E
flat zero ss xs = record { shapes = ss; reach = ss; at = λ v i. slice_index_or xs (cell ss v i) zero }

abbrev pub cells_answer : List Declaration → ℕ → Answer (List (List ℕ))
cells_answer ds n = and_then (declared ds) (λ ss. cond (nat_le (total ss) n) (done ss) (refused 5 0))
