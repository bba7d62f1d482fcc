-- What each form's rule makes of its operands, and the questions about one node.
--   Info          what is known of a node: its extents, depth and nesting
--   info_of       that of a judgement
--   info_in       that of a judged node; node_in, the node itself
--   earlier       j is the number of a node before k
--   present       question 14: the variable is declared, or each operand is an earlier node
--   pointwise     what the rule of an operation, element by element, gives
--   ruled         question 15: what the form's rule gives
--   bounded       question 16: rank at most 8, depth at most 16, nesting at most 3
--   variable_answer, operand_answer   14 to 16 of a variable; 14 of one operand
--   node_answer   the four questions about node k, in order
use Rattle.std.specs.Prelude.{ℕ, ◌+◌, Bool, cond, ◌&&◌, List, [], ◌∷◌, ◌++◌, length, Some, None, Option, ◌==◌, nat_le, nat_lt, slice_index_or}
use Rattle.indices.specs.Dimensions.{same, two_of, exchanged, removed}
use Rattle.indices.specs.Places.{pick, at1, has}
use Rattle.refusals.specs.Refusals.{Answer, done, refused}
use Rattle.indices.specs.Coordinates.{coordinates}
use Rattle.sheets.specs.declared.form.Form.{Form}
use Rattle.sheets.specs.declared.form.Form.TheVariants.{Variable, Outer, Pointwise, Transposition, Contraction}
use Rattle.sheets.specs.declared.passed.JudgedNode.{JudgedNode}
use Rattle.sheets.specs.declared.judgement.Judgement.{Judgement}
use Rattle.sheets.specs.declared.node.Node.{Node}
use Rattle.sheets.specs.declared.term.Operation.{Operation}
use Rattle.sheets.specs.declared.term.Operation.TheVariants.{Plus, Minus, Times, Over}
use Rattle.sheets.specs.Forms.{form_of, tidy}

pub record Info : Type 0 where
  pub extents : List ℕ
  pub depth : ℕ
  pub nesting : ℕ

abbrev pub info_of : Judgement → Info
info_of j = record { extents = coordinates j.extents; depth = j.depth; nesting = j.nesting }

abbrev pub info_in : JudgedNode → Info
info_in j = info_of j.judgement

abbrev pub node_in : JudgedNode → Node
node_in j = j.node

abbrev pub scalar : List ℕ → Bool
scalar es = length es == 0

abbrev pub earlier : ℕ → ℕ → Bool
earlier j k = nat_le 1 j && nat_lt j k

abbrev pub present : List (List ℕ) → ℕ → Form → Node → Bool
present ss k Variable nd = has ss nd.a
present ss k Outer nd = earlier nd.a k && earlier nd.b k
present ss k (Pointwise op) nd = earlier nd.a k && earlier nd.b k
present ss k Transposition nd = earlier nd.a k
present ss k Contraction nd = earlier nd.a k

abbrev pub larger : ℕ → ℕ → ℕ
larger x y = cond (nat_lt x y) y x

-- over two operands, with these extents
abbrev pub above : Info → Info → List ℕ → Info
above x y es = record { extents = es; depth = larger x.depth y.depth + 1; nesting = larger x.nesting y.nesting }

abbrev pub paired : Info → Info → Option Info
paired x y = cond (same x.extents y.extents) (Some (above x y x.extents)) None

-- a product's first operand, and a quotient's second, may be a scalar
abbrev pub scaled : Info → Info → Option Info
scaled x y = cond (scalar x.extents) (Some (above x y y.extents)) (paired x y)

abbrev pub divided : Info → Info → Option Info
divided x y = cond (scalar y.extents) (Some (above x y x.extents)) (paired x y)

abbrev pub pointwise : Operation → Info → Info → Option Info
pointwise Plus x y = paired x y
pointwise Minus x y = paired x y
pointwise Times x y = scaled x y
pointwise Over x y = divided x y

abbrev pub turned : Info → ℕ → ℕ → Option Info
turned x m n =
    cond (two_of m n (length x.extents)) (Some (record { extents = exchanged m n x.extents; depth = x.depth + 1; nesting = x.nesting })) None

abbrev pub contracted : Info → ℕ → ℕ → Option Info
contracted x m n =
    cond (two_of m n (length x.extents))
    (cond (at1 x.extents m == at1 x.extents n) (Some (record { extents = removed m n x.extents; depth = x.depth + 1; nesting = x.nesting + 1 })) None)
    None

abbrev pub ruled : List (List ℕ) → Form → Node → Info → Info → Option Info
ruled ss Variable nd x y = Some (record { extents = pick ss nd.a; depth = 1; nesting = 0 })
ruled ss Outer nd x y = Some (above x y (x.extents ++ y.extents))
ruled ss (Pointwise op) nd x y = pointwise op x y
ruled ss Transposition nd x y = turned x nd.m nd.n
ruled ss Contraction nd x y = contracted x nd.m nd.n

abbrev pub bounded : Info → Bool
bounded i = nat_le (length i.extents) 8 && (nat_le i.depth 16 && nat_le i.nesting 3)

abbrev pub bounded_answer : ℕ → Option Info → Answer Info
bounded_answer k None = refused 15 k
bounded_answer k (Some i) = cond (bounded i) (done i) (refused 16 k)

abbrev pub nothing : Info
nothing = record { extents = []; depth = 0; nesting = 0 }

-- what is known of node j, from 1
abbrev pub info_at : List Info → ℕ → Info
info_at is j = slice_index_or (nothing ∷ is) j nothing

-- questions 14 to 16 about a variable; question 14 about one operand of the node after those that are known
abbrev pub variable_answer : List (List ℕ) → ℕ → ℕ → Answer Info
variable_answer ss k v = cond (has ss v) (bounded_answer k (Some (record { extents = pick ss v; depth = 1; nesting = 0 }))) (refused 14 k)

abbrev pub operand_answer : List Info → ℕ → Answer Info
operand_answer is j = cond (earlier j (length is + 1)) (done (info_at is j)) (refused 14 (length is + 1))

abbrev pub form_answer : List (List ℕ) → ℕ → List Info → Node → Option Form → Answer Info
form_answer ss k is nd None = refused 13 k
form_answer ss k is nd (Some f) =
    cond (tidy f nd)
    (cond (present ss k f nd)
    (bounded_answer k (ruled ss f nd (info_at is nd.a) (info_at is nd.b)))
    (refused 14 k))
    (refused 13 k)

abbrev pub node_answer : List (List ℕ) → ℕ → List Info → Node → Answer Info
node_answer ss k is nd = form_answer ss k is nd (form_of nd.kind)
