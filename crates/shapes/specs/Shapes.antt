-- Declarations, judged shapes, and what a table of shapes answers.
--   extents_of            the extents of a shape
--   shapes_of             the shapes of a table, as lists of extents
--   valid                 a declaration is a shape, with zeros beyond its rank
--   shape_declared        the extents that a declaration gives, if it is valid
--   declared              the question about declarations, refusal 4: at most 16, each valid; the shapes where both hold
--   place_in, column_in   the row-major and the column-major number of a place in a shape, if it lies there
--   index_in              the index of a row-major number, if the shape has as many places
--   shape_answer, rank_answer, extent_answer   a variable's shape, rank and extent; refusal 1 where there is none
--   place_answer          the number of a place through all variables; refusals 1, and 2 where it does not lie in the shape
use Rattle.std.specs.Prelude.{ℕ, ◌+◌, Bool, cond, ◌&&◌, List, [], ◌∷◌, map, length, take, drop, Some, None, Option, ◌==◌, nat_le, nat_lt}
use Rattle.std.specs.List.{list_all}
use Rattle.shapes.specs.declared.declaration.Declaration.{Declaration}
use Rattle.shapes.specs.declared.shape.Shape.{Shape}
use Rattle.shapes.specs.declared.table.Table.{Table}
use Rattle.refusals.specs.Refusals.{Answer, done, refused}
use Rattle.indices.specs.Coordinates.{coordinates}
use Rattle.indices.specs.Places.{proper, within, product, place, unplace, column, pick, at1, has, cell}

abbrev pub extents_of : Shape → List ℕ
extents_of s = coordinates s.extents

abbrev pub shapes_of : Table → List (List ℕ)
shapes_of t = map extents_of (take t.len t.shapes)

abbrev pub zeros : List ℕ → Bool
zeros es = list_all (λ e. e == 0) es

abbrev pub valid : Declaration → Bool
valid d = nat_le d.rank 4 && (proper (take d.rank d.extents) && zeros (drop d.rank d.extents))

abbrev pub declared_extents : Declaration → List ℕ
declared_extents d = take d.rank d.extents

abbrev pub shape_declared : Declaration → Option (List ℕ)
shape_declared d = cond (valid d) (Some (declared_extents d)) None

-- k is the number of the first declaration of the list, and ss the answer where no declaration is refused
abbrev pub judged : List (List ℕ) → ℕ → List Declaration → Answer (List (List ℕ))
judged ss k [] = done ss
judged ss k (d ∷ ds) = cond (valid d) (judged ss (k + 1) ds) (refused 4 k)

abbrev pub declared : List Declaration → Answer (List (List ℕ))
declared ds = cond (nat_le (length ds) 16) (judged (map declared_extents ds) 1 ds) (refused 4 0)

abbrev pub place_in : List ℕ → List ℕ → Option ℕ
place_in es i = cond (within es i) (Some (place es i)) None

abbrev pub column_in : List ℕ → List ℕ → Option ℕ
column_in es i = cond (within es i) (Some (column es i)) None

abbrev pub index_in : List ℕ → ℕ → Option (List ℕ)
index_in es n = cond (nat_lt n (product es)) (Some (unplace es n)) None

abbrev pub shape_answer : List (List ℕ) → ℕ → Answer (List ℕ)
shape_answer ss v = cond (has ss v) (done (pick ss v)) (refused 1 0)

abbrev pub rank_answer : List (List ℕ) → ℕ → Answer ℕ
rank_answer ss v = cond (has ss v) (done (length (pick ss v))) (refused 1 0)

abbrev pub extent_answer : List (List ℕ) → ℕ → ℕ → Answer ℕ
extent_answer ss v d = cond (has ss v && (nat_le 1 d && nat_le d (length (pick ss v)))) (done (at1 (pick ss v) d)) (refused 1 0)

abbrev pub place_answer : List (List ℕ) → ℕ → List ℕ → Answer ℕ
place_answer ss v i = cond (has ss v) (cond (within (pick ss v) i) (done (cell ss v i)) (refused 2 0)) (refused 1 0)
