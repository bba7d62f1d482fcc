-- Where the dimensions of a node come from.
--   Comes     a dimension goes as far as one of another list, which is there
--   Ranked    the dimensions of every node are as many as the verdict found
--   Traced    dimension d of node k goes as far as the one that it comes from, whatever the extents of the variables
--   Follows   dimension e of node k, which is there, goes as far as dimension d of node n
use Rattle.std.specs.Prelude.{◌≡◌, ℕ, ◌≤◌, true, List, length}
use Rattle.indices.specs.Places.{pick, at1, has}
use Rattle.sheets.specs.Rules.{earlier, info_at}
use Rattle.sheets.specs.Sheets.{Contents}
use Rattle.sheets.specs.Terms.{expression_of, node_there}
use Rattle.evaluation.specs.declared.reach.Source.{Source}
use Rattle.evaluation.specs.declared.reach.Source.TheVariants.{Variable, Operand}
use Rattle.evaluation.specs.Value.{spans}

abbrev pub Comes : List ℕ → ℕ → List ℕ → ℕ → Type 0
Comes xs d ys e = (at1 xs d ≡ at1 ys e) × (1 ≤ e) × (e ≤ length ys)

abbrev pub Ranked : List (List ℕ) → Contents → Type 0
Ranked rs c = (j : ℕ) → node_there c j ≡ true → length (info_at c.infos j).extents ≡ length (spans rs (expression_of c.nodes j))

abbrev pub Traced : Contents → ℕ → ℕ → Source → Type 0
Traced c k d (Variable v e) =
    (has c.shapes v ≡ true)
    × ((rs : List (List ℕ)) → Ranked rs c → 1 ≤ d → d ≤ length (spans rs (expression_of c.nodes k)) → Comes (spans rs (expression_of c.nodes k)) d (pick rs v) e)
Traced c k d (Operand j e) =
    (earlier j k ≡ true)
    × ((rs : List (List ℕ)) → Ranked rs c → 1 ≤ d → d ≤ length (spans rs (expression_of c.nodes k)) → Comes (spans rs (expression_of c.nodes k)) d (spans rs (expression_of c.nodes j)) e)

pub record Follows (rs : List (List ℕ)) (c : Contents) (n d k e : ℕ) : Type 0 where
  pub there : node_there c k ≡ true
  pub low : 1 ≤ e
  pub high : e ≤ length (spans rs (expression_of c.nodes k))
  pub same : at1 (spans rs (expression_of c.nodes k)) e ≡ at1 (spans rs (expression_of c.nodes n)) d
