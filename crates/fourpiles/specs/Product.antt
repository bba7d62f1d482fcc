-- The product of two tables that stand in one store.
--   Sides             variable v is a table of this height and width
--   Conforms          the shapes of a store are those that a plan says, and the result is neither of the factors
--   entry             an entry of the product: products of a row and a column, added up on the right from zero
--   Filled            some entries of the product stand in the result, and nothing else has changed
--   in_row, in_rows   the places of one row; of the first rows
use Rattle.std.specs.Prelude.{◌≡◌, ℕ, ◌≤◌, true, List, [], ◌∷◌, ◌≢◌}
use Rattle.elements.specs.Algebra.{Algebra, total}
use Rattle.indices.specs.Places.{has, pick}
use Rattle.stores.specs.Meaning.{Meaning, in_reach}
use Rattle.fourpiles.specs.declared.plan.Plan.{Plan}

pub record Sides (ss : List (List ℕ)) (v height width : ℕ) : Type 0 where
  pub known : has ss v ≡ true
  pub extents : pick ss v ≡ height ∷ width ∷ []

pub record Conforms (ss : List (List ℕ)) (t : Plan) : Type 0 where
  pub left : Sides ss t.left t.rows t.inner
  pub right : Sides ss t.right t.inner t.columns
  pub result : Sides ss t.result t.rows t.columns
  pub not_left : t.left ≡ t.result → ⊥
  pub not_right : t.right ≡ t.result → ⊥

abbrev pub entry : {E : Type 0} → Algebra E → (ℕ → List ℕ → E) → Plan → ℕ → ℕ → E
entry a at t i j = total a (λ l. a.times (at t.left (i ∷ l ∷ [])) (at t.right (l ∷ j ∷ []))) t.inner

-- m is the meaning before, n after
pub record Filled {E : Type 0} (a : Algebra E) (t : Plan) (some : ℕ → ℕ → Type 0) (m n : Meaning E) : Type 0 where
  pub shapes : n.shapes ≡ m.shapes
  pub reach : n.reach ≡ m.reach
  pub product : (i j : ℕ) → some i j → n.at t.result (i ∷ j ∷ []) ≡ entry a m.at t i j
  pub others : (w : ℕ) (k : List ℕ) → in_reach m w k ≡ true → ((i j : ℕ) → some i j → w ≡ t.result → k ≢ i ∷ j ∷ []) → n.at w k ≡ m.at w k

abbrev pub in_row : ℕ → ℕ → ℕ → ℕ → Type 0
in_row row columns i j = (i ≡ row) × (1 ≤ j) × (j ≤ columns)

abbrev pub in_rows : ℕ → ℕ → ℕ → ℕ → Type 0
in_rows rows columns i j = (1 ≤ i) × (i ≤ rows) × (1 ≤ j) × (j ≤ columns)
