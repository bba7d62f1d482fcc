-- What a store means, which meanings are lawful, and what a store answers.
--   Meaning              the shapes of the variables, their rounded extents (the reach), and the element at each place
--   in_shape, in_reach   a place, a variable and an index, lies in its shape; in its reach
--   Covers               rounded extents are as many as the extents, at least these and at most 64
--   Lawful               what holds of every store; a place in reach and not in shape is spare, and holds zero
--   read_answer, write_answer   what read and write answer, with refusals 1, 2 and 3
--   Written              what a write leaves: one place is set, and nothing else of the meaning changes
use Rattle.std.specs.Prelude.{◌≡◌, ℕ, ◌≤◌, Bool, true, false, cond, ◌&&◌, ◌||◌, List, [], ◌∷◌, length, ◌≢◌, nat_le}
use Rattle.elements.specs.Algebra.{Algebra, is_zero}
use Rattle.indices.specs.Places.{within, product, proper, pick, at1, has}
use Rattle.refusals.specs.Refusals.{Answer, done, refused}

pub record Meaning (E : Type 0) : Type 0 where
  pub shapes : List (List ℕ)
  pub reach : List (List ℕ)
  pub at : ℕ → List ℕ → E

abbrev pub in_shape : {E : Type 0} → Meaning E → ℕ → List ℕ → Bool
in_shape m v i = has m.shapes v && within (pick m.shapes v) i

abbrev pub in_reach : {E : Type 0} → Meaning E → ℕ → List ℕ → Bool
in_reach m v i = has m.shapes v && within (pick m.reach v) i

abbrev pub Covers : List ℕ → List ℕ → Type 0
Covers [] [] = Unit {0}
Covers [] (r ∷ rs) = ⊥
Covers (e ∷ es) [] = ⊥
Covers (e ∷ es) (r ∷ rs) = (e ≤ r) × (r ≤ 64) × Covers es rs

-- there is a dimension d of variable v
abbrev pub dimension : List (List ℕ) → ℕ → ℕ → Bool
dimension ss v d = has ss v && (nat_le 1 d && nat_le d (length (pick ss v)))

pub record Lawful {E : Type 0} (zero : E) (m : Meaning E) : Type 0 where
  pub few : length m.shapes ≤ 16
  pub count : length m.reach ≡ length m.shapes
  pub shaped : (v : ℕ) → has m.shapes v ≡ true → proper (pick m.shapes v) ≡ true
  pub covers : (v : ℕ) → has m.shapes v ≡ true → Covers (pick m.shapes v) (pick m.reach v)
  pub places : (v : ℕ) → has m.shapes v ≡ true → product (pick m.reach v) ≤ 4096
  -- equal extents have equal rounded extents, in whichever variables
  pub alike : (v w d e : ℕ) → dimension m.shapes v d ≡ true → dimension m.shapes w e ≡ true → at1 (pick m.shapes v) d ≡ at1 (pick m.shapes w) e → at1 (pick m.reach v) d ≡ at1 (pick m.reach w) e
  pub spare : (v : ℕ) (i : List ℕ) → in_reach m v i ≡ true → in_shape m v i ≡ false → m.at v i ≡ zero

abbrev pub read_answer : {E : Type 0} → Meaning E → ℕ → List ℕ → Answer E
read_answer m v i = cond (has m.shapes v) (cond (within (pick m.reach v) i) (done (m.at v i)) (refused 2 0)) (refused 1 0)

abbrev pub write_answer : {E : Type 0} → Algebra E → Meaning E → ℕ → List ℕ → E → Answer Unit
write_answer a m v i x =
    cond (has m.shapes v)
    (cond (within (pick m.reach v) i)
    (cond (within (pick m.shapes v) i || is_zero a x) (done tt) (refused 3 0))
    (refused 2 0))
    (refused 1 0)

-- m is the meaning before, n after; ok says that the write was not refused
pub record Written {E : Type 0} (ok : Bool) (m : Meaning E) (v : ℕ) (i : List ℕ) (x : E) (n : Meaning E) : Type 0 where
  pub shapes : n.shapes ≡ m.shapes
  pub reach : n.reach ≡ m.reach
  pub put : ok ≡ true → n.at v i ≡ x
  pub others : (w : ℕ) (j : List ℕ) → in_reach m w j ≡ true → (ok ≡ true → w ≡ v → j ≢ i) → n.at w j ≡ m.at w j
