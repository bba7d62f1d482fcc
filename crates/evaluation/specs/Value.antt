-- The value of an expression at an index: once, for every kind of element, every store and every limit.
--   applied        what an operation makes of two elements
--   spans          how far each dimension of an expression goes, where those of the variables go so far: taken from the
--                  variable, joined, exchanged, dropped
--   seen           where an operand of an operation element by element is taken: a scalar at the empty index
--   value          the value of an expression at an index; a contraction goes as far as its operand's dimension does
--   node_reach     how far each dimension of a node goes over a store
--   node_value     the value of a node over a store; contractions go up to the rounded extents
--   plain_value    its plain value, over any elements; contractions go up to the extents
--   fits           store and sheet have the same shapes
--   value_answer   the value of a node at an index, if store and sheet have the same shapes and the index is in reach
use Rattle.std.specs.Prelude.{ℕ, Bool, cond, ◌&&◌, List, [], ◌∷◌, ◌++◌, length, take, drop, Some, None, Option, is_ok}
use Rattle.elements.specs.Algebra.{Algebra, total}
use Rattle.indices.specs.Dimensions.{exchanged, removed, inserted}
use Rattle.indices.specs.Places.{pick, at1, within}
use Rattle.sheets.specs.Language.{Expr, Operation, plus, minus, times, over, variable, outer, pointwise, turned, contracted}
use Rattle.sheets.specs.Sheets.{Contents}
use Rattle.sheets.specs.Terms.{expression_of, node_there}
use Rattle.stores.specs.Matching.{difference}
use Rattle.stores.specs.Meaning.{Meaning}

abbrev pub applied : {E : Type 0} → Algebra E → Operation → E → E → E
applied a plus x y = a.plus x y
applied a minus x y = a.minus x y
applied a times x y = a.times x y
applied a over x y = a.over x y

-- of two operands, that which is no scalar where one may be: a product's second, any other operation's first
abbrev pub wider : Operation → List ℕ → List ℕ → List ℕ
wider plus s t = s
wider minus s t = s
wider times s t = t
wider over s t = s

unfoldable pub spans : List (List ℕ) → Expr → List ℕ
spans rs (variable v) = pick rs v
spans rs (outer x y) = spans rs x ++ spans rs y
spans rs (pointwise op x y) = wider op (spans rs x) (spans rs y)
spans rs (turned m n x) = exchanged m n (spans rs x)
spans rs (contracted m n x) = removed m n (spans rs x)

abbrev pub seen : List ℕ → List ℕ → List ℕ
seen [] i = []
seen (e ∷ es) i = i

unfoldable pub value : {E : Type 0} → Algebra E → (ℕ → List ℕ → E) → List (List ℕ) → Expr → List ℕ → E
value a at rs (variable v) i = at v i
value a at rs (outer x y) i = a.times (value a at rs x (take (length (spans rs x)) i)) (value a at rs y (drop (length (spans rs x)) i))
value a at rs (pointwise op x y) i = applied a op (value a at rs x (seen (spans rs x) i)) (value a at rs y (seen (spans rs y) i))
value a at rs (turned m n x) i = value a at rs x (exchanged m n i)
value a at rs (contracted m n x) i = total a (λ l. value a at rs x (inserted m n l i)) (at1 (spans rs x) m)

abbrev pub node_reach : {E : Type 0} → Meaning E → Contents → ℕ → List ℕ
node_reach m c k = spans m.reach (expression_of c.nodes k)

abbrev pub node_value : {E : Type 0} → Algebra E → Meaning E → Contents → ℕ → List ℕ → E
node_value a m c k i = value a m.at m.reach (expression_of c.nodes k) i

abbrev pub plain_value : {E : Type 0} → Algebra E → (ℕ → List ℕ → E) → Contents → ℕ → List ℕ → E
plain_value a at c k i = value a at c.shapes (expression_of c.nodes k) i

abbrev pub fits : {E : Type 0} → Meaning E → Contents → Bool
fits m c = is_ok (difference c.shapes m.shapes)

abbrev pub value_answer : {E : Type 0} → Algebra E → Meaning E → Contents → ℕ → List ℕ → Option E
value_answer a m c k i = cond (fits m c && (node_there c k && within (node_reach m c k) i)) (Some (node_value a m c k i)) None
