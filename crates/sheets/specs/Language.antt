-- The tensor model language: expressions, their types, and what a table of nodes unfolds to.
--   meant        the operation that one of the code stands for
--   Expr         expressions: variables, outer products, element by element operations, transpositions, contractions
--   Typed        the typing judgement, with one rule for each form; the shapes of the variables are given
--   depth        1 for a variable, otherwise one more than the deepest operand
--   nesting      the largest number of contractions on a path down, itself included
--   expr_of      the expression that node k unfolds to, if its kind, its unused fields and its operands allow one
--   Meaningful   the bounds hold, and every node and every statement has a type
--   Means        tables pass exactly where they are meaningful; and a node has at most one type
use Rattle.std.specs.Prelude.{◌≡◌, ℕ, ◌+◌, ◌≤◌, Bool, true, cond, List, [], ◌∷◌, ◌++◌, length, Some, None, Option, slice_index_or}
use Rattle.shapes.specs.declared.declaration.Declaration.{Declaration}
use Rattle.indices.specs.Dimensions.{two_of, exchanged, removed}
use Rattle.indices.specs.Places.{pick, at1, has}
use Rattle.refusals.specs.Refusals.{done}
use Rattle.shapes.specs.Shapes.{declared}
use Rattle.sheets.specs.declared.form.Form.{Form}
use Rattle.sheets.specs.declared.form.Form.TheVariants.{Variable, Outer, Pointwise, Transposition, Contraction}
use Rattle.sheets.specs.declared.node.Node.{Node}
use Rattle.sheets.specs.declared.node.Statement.{Statement}
use Rattle.sheets.specs.declared.term.Operation as code
use Rattle.sheets.specs.declared.term.Operation.TheVariants.{Plus, Minus, Times, Over}
use Rattle.sheets.specs.Forms.{form_of, tidy}
use Rattle.sheets.specs.Rules.{earlier, larger}

pub data Operation : Type 0 where
  plus : Operation
  minus : Operation
  times : Operation
  over : Operation

-- the operation that one of the code stands for
abbrev pub meant : code.Operation → Operation
meant Plus = plus
meant Minus = minus
meant Times = times
meant Over = over

pub data Expr : Type 0 where
  variable : ℕ → Expr
  outer : Expr → Expr → Expr
  pointwise : Operation → Expr → Expr → Expr
  turned : ℕ → ℕ → Expr → Expr
  contracted : ℕ → ℕ → Expr → Expr

pub data Typed (ss : List (List ℕ)) : Expr → List ℕ → Type 0 where
  of_variable : {v : ℕ} → has ss v ≡ true → Typed ss (variable v) (pick ss v)
  of_outer_product : {x y : Expr} {s t : List ℕ} → Typed ss x s → Typed ss y t → Typed ss (outer x y) (s ++ t)
  element_by_element : {op : Operation} {x y : Expr} {s : List ℕ} → Typed ss x s → Typed ss y s → Typed ss (pointwise op x y) s
  scalar_times : {x y : Expr} {s : List ℕ} → Typed ss x [] → Typed ss y s → Typed ss (pointwise times x y) s
  divided_by_scalar : {x y : Expr} {s : List ℕ} → Typed ss x s → Typed ss y [] → Typed ss (pointwise over x y) s
  of_transposition : {m n : ℕ} {x : Expr} {s : List ℕ} → Typed ss x s → two_of m n (length s) ≡ true → Typed ss (turned m n x) (exchanged m n s)
  of_contraction : {m n : ℕ} {x : Expr} {s : List ℕ} → Typed ss x s → two_of m n (length s) ≡ true → at1 s m ≡ at1 s n → Typed ss (contracted m n x) (removed m n s)

abbrev pub depth : Expr → ℕ
depth (variable v) = 1
depth (outer x y) = larger (depth x) (depth y) + 1
depth (pointwise op x y) = larger (depth x) (depth y) + 1
depth (turned m n x) = depth x + 1
depth (contracted m n x) = depth x + 1

abbrev pub nesting : Expr → ℕ
nesting (variable v) = 0
nesting (outer x y) = larger (nesting x) (nesting y)
nesting (pointwise op x y) = larger (nesting x) (nesting y)
nesting (turned m n x) = nesting x
nesting (contracted m n x) = nesting x + 1

-- what is made of the expressions of one operand or two
abbrev pub of_one : (Expr → Expr) → Option Expr → Option Expr
of_one f None = None
of_one f (Some x) = Some (f x)

abbrev pub of_two : (Expr → Expr → Expr) → Option Expr → Option Expr → Option Expr
of_two f None y = None
of_two f (Some x) None = None
of_two f (Some x) (Some y) = Some (f x y)

-- the expression of a node of this form, over those of its operands
abbrev pub formed : Form → Node → Option Expr → Option Expr → Option Expr
formed Variable nd x y = Some (variable nd.a)
formed Outer nd x y = of_two outer x y
formed (Pointwise op) nd x y = of_two (pointwise (meant op)) x y
formed Transposition nd x y = of_one (turned nd.m nd.n) x
formed Contraction nd x y = of_one (contracted nd.m nd.n) x

-- the expression of number j, from 1
abbrev pub expr_at : List (Option Expr) → ℕ → Option Expr
expr_at es j = slice_index_or (None ∷ es) j None

-- that of an operand of node k, which has to be an earlier node
abbrev pub operand : List (Option Expr) → ℕ → ℕ → Option Expr
operand es k j = cond (earlier j k) (expr_at es j) None

abbrev pub formed_as : List (Option Expr) → ℕ → Node → Option Form → Option Expr
formed_as es k nd None = None
formed_as es k nd (Some f) = cond (tidy f nd) (formed f nd (operand es k nd.a) (operand es k nd.b)) None

-- k is the number of the first node of the list, and es are the expressions of those before it
abbrev pub exprs_from : ℕ → List (Option Expr) → List Node → List (Option Expr)
exprs_from k es [] = es
exprs_from k es (nd ∷ nds) = exprs_from (k + 1) (es ++ formed_as es k nd (form_of nd.kind) ∷ []) nds

abbrev pub expr_of : List Node → ℕ → Option Expr
expr_of ns k = expr_at (exprs_from 1 [] ns) k

-- a node within bounds: it unfolds to an expression that has a type
pub record Meant (ss : List (List ℕ)) (ns : List Node) (k : ℕ) : Type 0 where
  pub expr : Expr
  pub extents : List ℕ
  pub unfolds : expr_of ns k ≡ Some expr
  pub typed : Typed ss expr extents
  pub rank : length extents ≤ 8
  pub deep : depth expr ≤ 16
  pub nested : nesting expr ≤ 3

-- a statement whose node has the type of its variable
pub record Assigned (ss : List (List ℕ)) (ns : List Node) (st : Statement) : Type 0 where
  pub known : has ss st.variable ≡ true
  pub expr : Expr
  pub unfolds : expr_of ns st.node ≡ Some expr
  pub typed : Typed ss expr (pick ss st.variable)

abbrev pub blank : Statement
blank = record { variable = 0; node = 0 }

pub record Meaningful (ds : List Declaration) (ns : List Node) (sts : List Statement) : Type 0 where
  pub shapes : List (List ℕ)
  pub declares : declared ds ≡ done shapes
  pub few_nodes : length ns ≤ 256
  pub few_statements : length sts ≤ 64
  pub nodes : (k : ℕ) → 1 ≤ k → k ≤ length ns → Meant shapes ns k
  pub statements : (s : ℕ) → 1 ≤ s → s ≤ length sts → Assigned shapes ns (slice_index_or (blank ∷ sts) s blank)

-- what it means that tables pass; and no node has two types
pub record Means (ds : List Declaration) (ns : List Node) (sts : List Statement) (passes : Bool) : Type 0 where
  pub sound : passes ≡ true → Meaningful ds ns sts
  pub complete : Meaningful ds ns sts → passes ≡ true
  pub one_type : (ss : List (List ℕ)) (k : ℕ) (x : Expr) (s t : List ℕ) → expr_of ns k ≡ Some x → Typed ss x s → Typed ss x t → s ≡ t
