-- What padding means, what opening answers, and what it leaves in the store below.
--   padded           the meaning: the true shapes, and the reach and the elements of the store below
--   Padded           what padding needs of the store below: the rounded shapes, and zero outside the true ones
--   Blank            by the kind's test there is zero outside the true shapes
--   Cleared          zero stands in each place that is in shape below and not in its own shape, and nothing else has changed
--   padding_answer   what opening answers: refusals 4, 9, 10 and 11
use Rattle.std.specs.Prelude.{◌≡◌, ℕ, ◌≤◌, true, false, List, Ok, Err, Result, ◌≢◌}
use Rattle.elements.specs.Algebra.{Algebra, is_zero}
use Rattle.shapes.specs.declared.declaration.Declaration.{Declaration}
use Rattle.indices.specs.Places.{within, pick}
use Rattle.refusals.specs.Refusals.{Answer, done, refused, and_then}
use Rattle.shapes.specs.Shapes.{declared}
use Rattle.stores.specs.declared.mismatch.Mismatch.{Mismatch}
use Rattle.stores.specs.Matching.{difference, where_other}
use Rattle.stores.specs.Meaning.{Meaning, in_shape, in_reach}
use Rattle.padding.specs.Rounding.{all_rounded, rounding, vector_length}

abbrev pub padded : {E : Type 0} → List (List ℕ) → Meaning E → Meaning E
padded ss b = record { shapes = ss; reach = b.reach; at = b.at }

pub record Padded {E : Type 0} (zero : E) (m : ℕ) (ss : List (List ℕ)) (b : Meaning E) : Type 0 where
  pub positive : 1 ≤ m
  pub shapes : b.shapes ≡ all_rounded m ss
  pub clear : (v : ℕ) (i : List ℕ) → in_reach b v i ≡ true → within (pick ss v) i ≡ false → b.at v i ≡ zero

abbrev pub Blank : {E : Type 0} → Algebra E → List (List ℕ) → Meaning E → Type 0
Blank a ss b = (v : ℕ) (i : List ℕ) → in_reach b v i ≡ true → within (pick ss v) i ≡ false → is_zero a (b.at v i) ≡ true

-- b is the store below before, c after
pub record Cleared {E : Type 0} (zero : E) (ss : List (List ℕ)) (b c : Meaning E) : Type 0 where
  pub shapes : c.shapes ≡ b.shapes
  pub reach : c.reach ≡ b.reach
  pub zeroed : (v : ℕ) (i : List ℕ) → in_shape b v i ≡ true → within (pick ss v) i ≡ false → c.at v i ≡ zero
  pub kept : (v : ℕ) (i : List ℕ) → in_reach b v i ≡ true → (in_shape b v i ≡ true → within (pick ss v) i ≢ false) → c.at v i ≡ b.at v i

-- the store below was compared with the rounded shapes: n is the number of the refusal, and x the answer where nothing differs
abbrev pub matched : {X : Type 0} → ℕ → X → Result Unit Mismatch → Answer X
matched n x (Ok u) = done x
matched n x (Err e) = refused n (where_other e)

abbrev pub padding_answer : List Declaration → ℕ → List (List ℕ) → Answer (List (List ℕ))
padding_answer ds m below =
    and_then (declared ds) (λ ss.
    and_then (vector_length m) (λ n.
    and_then (rounding n ss) (λ rs. matched 11 ss (difference rs below))))
