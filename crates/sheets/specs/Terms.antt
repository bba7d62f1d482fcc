-- What is known of a checked sheet: what each node is made of, its expression, and the types that the verdict found.
--   expression_of    the expression of node k
--   node_there       k is the number of a node
--   node_at          node k, from 1
--   made_of          what a node of a form is made of
--   term_of          what node k is made of, by its kind
--   Unfolds          the expression of node k is made of those of its operands, which are earlier nodes
--   NodeMeans        the expression of node k has the type that was found, within bounds
--   StatementMeans   a statement's variable is declared, and its node has the type of the variable
--   Judged           both, of every node and every statement of a sheet
--   Told             what a call that tells of node k says about its expression
use Rattle.std.specs.Prelude.{◌≡◌, ℕ, ◌≤◌, Bool, true, false, ◌&&◌, List, ◌∷◌, length, Some, None, Option, nat_le, slice_index_or}
use Rattle.indices.specs.Places.{pick, has}
use Rattle.sheets.specs.declared.form.Form.{Form}
use Rattle.sheets.specs.declared.form.Form.TheVariants as form
use Rattle.sheets.specs.declared.node.Node.{Node}
use Rattle.sheets.specs.declared.node.Statement.{Statement}
use Rattle.sheets.specs.declared.term.Term.{Term}
use Rattle.sheets.specs.declared.term.Term.TheVariants.{Variable, Outer, Pointwise, Turned, Contracted}
use Rattle.sheets.specs.Forms.{form_of}
use Rattle.sheets.specs.Rules.{earlier, info_at}
use Rattle.sheets.specs.Language.{Expr, variable, outer, pointwise, turned, contracted, Typed, depth, nesting, expr_of, blank}
pub use Rattle.sheets.specs.Language.{meant}
use Rattle.sheets.specs.Sheets.{Contents}

-- a variable that there is not where the node does not unfold
abbrev pub known : Option Expr → Expr
known None = variable 0
known (Some e) = e

abbrev pub expression_of : List Node → ℕ → Expr
expression_of ns k = known (expr_of ns k)

abbrev pub node_there : Contents → ℕ → Bool
node_there c k = nat_le 1 k && nat_le k (length c.nodes)

-- of no kind, where there is none
abbrev pub no_node : Node
no_node = record { kind = 0; a = 0; b = 0; m = 0; n = 0 }

abbrev pub node_at : List Node → ℕ → Node
node_at ns k = slice_index_or (no_node ∷ ns) k no_node

abbrev pub made_of : Form → Node → Term
made_of form.Variable nd = Variable nd.a
made_of form.Outer nd = Outer nd.a nd.b
made_of (form.Pointwise op) nd = Pointwise op nd.a nd.b
made_of form.Transposition nd = Turned nd.a nd.m nd.n
made_of form.Contraction nd = Contracted nd.a nd.m nd.n

abbrev pub term_as : Node → Option Form → Option Term
term_as nd None = None
term_as nd (Some f) = Some (made_of f nd)

abbrev pub term_of : List Node → ℕ → Option Term
term_of ns k = term_as (node_at ns k) (form_of (node_at ns k).kind)

abbrev pub UnfoldsTo : Contents → ℕ → Term → Type 0
UnfoldsTo c k (Variable v) = expression_of c.nodes k ≡ variable v
UnfoldsTo c k (Outer a b) =
    (earlier a k ≡ true) × (earlier b k ≡ true) × (expression_of c.nodes k ≡ outer (expression_of c.nodes a) (expression_of c.nodes b))
UnfoldsTo c k (Pointwise op a b) =
    (earlier a k ≡ true) × (earlier b k ≡ true) × (expression_of c.nodes k ≡ pointwise (meant op) (expression_of c.nodes a) (expression_of c.nodes b))
UnfoldsTo c k (Turned a m n) = (earlier a k ≡ true) × (expression_of c.nodes k ≡ turned m n (expression_of c.nodes a))
UnfoldsTo c k (Contracted a m n) = (earlier a k ≡ true) × (expression_of c.nodes k ≡ contracted m n (expression_of c.nodes a))

abbrev pub Unfolds : Contents → ℕ → Option Term → Type 0
Unfolds c k None = ⊥
Unfolds c k (Some t) = UnfoldsTo c k t

pub record NodeMeans (c : Contents) (k : ℕ) : Type 0 where
  pub typed : Typed c.shapes (expression_of c.nodes k) (info_at c.infos k).extents
  pub rank : length (info_at c.infos k).extents ≤ 8
  pub deep : depth (expression_of c.nodes k) ≤ 16
  pub nested : nesting (expression_of c.nodes k) ≤ 3

pub record StatementMeans (c : Contents) (st : Statement) : Type 0 where
  pub declared : has c.shapes st.variable ≡ true
  pub there : node_there c st.node ≡ true
  pub typed : Typed c.shapes (expression_of c.nodes st.node) (pick c.shapes st.variable)

pub record Judged (c : Contents) : Type 0 where
  pub few_nodes : length c.nodes ≤ 256
  pub few_statements : length c.statements ≤ 64
  pub nodes : (k : ℕ) → node_there c k ≡ true → NodeMeans c k
  pub statements : (s : ℕ) → 1 ≤ s → s ≤ length c.statements → StatementMeans c (slice_index_or (blank ∷ c.statements) s blank)
  pub unfolds : (k : ℕ) → node_there c k ≡ true → Unfolds c k (term_of c.nodes k)

abbrev pub Told : Contents → ℕ → Option Term → Type 0
Told c k None = node_there c k ≡ false
Told c k (Some t) = (node_there c k ≡ true) × UnfoldsTo c k t
