-- What a statement's variable and node have to do with each other over a store. Assumes nothing.
use Rattle.std.proofs.Common.{◌≡◌, ℕ, true, cond, ◌&&◌, leb, length, Some, None, sym, ap, ◌∙◌, subst}
use Rattle.std.proofs.lemmas.Bool.{and_parts, leb-true}
use Rattle.indices.specs.Places.{pick, has}
use Rattle.shapes.proofs.Asked.{some_since}
use Rattle.sheets.specs.declared.node.Statement.{Statement}
use Rattle.sheets.specs.Language.{Typed, of_variable}
use Rattle.sheets.specs.Sheets.{Contents}
use Rattle.sheets.specs.Terms.{expression_of, node_there, StatementMeans, Judged}
use Rattle.stores.specs.Meaning.{Meaning, Lawful}
use Rattle.evaluation.specs.Tray.{statement_of, target}
use Rattle.evaluation.specs.Value.{spans, node_reach}
use Rattle.evaluation.proofs.Spans.{spans_same}

module _ {E : Type 0} {z : E} (b : Meaning E) (law : Lawful z b) (c : Contents) (judged : Judged c) (fit : c.shapes ≡ b.shapes) (n : ℕ) (h : (leb 1 n && leb n (length c.statements)) ≡ true) where
  means : StatementMeans c (statement_of c n)
  means = let p = and_parts (leb 1 n) (leb n (length c.statements)) h in judged.statements n (leb-true 1 n p.0) (leb-true n (length c.statements) p.1)

  pub target_known : has b.shapes (statement_of c n).variable ≡ true
  target_known = subst (λ ss. has ss (statement_of c n).variable ≡ true) fit means.declared

  pub target_there : node_there c (statement_of c n).node ≡ true
  target_there = means.there

  pub target_typed : Typed b.shapes (expression_of c.nodes (statement_of c n).node) (pick b.shapes (statement_of c n).variable)
  target_typed = subst (λ ss. Typed ss (expression_of c.nodes (statement_of c n).node) (pick ss (statement_of c n).variable)) fit means.typed

  -- the node goes as far as the variable does
  pub target_reach : node_reach b c (statement_of c n).node ≡ target b c n
  unfolding spans
  target_reach =
      let v = (statement_of c n).variable in
      spans_same b law target_typed (of_variable {v = v} target_known)

-- what is known of a statement that the sheet gave
module _ {E : Type 0} {z : E} (b : Meaning E) (law : Lawful z b) (c : Contents) (judged : Judged c) (fit : c.shapes ≡ b.shapes) (n : ℕ) (st : Statement) (e : Some st ≡ cond (leb 1 n && leb n (length c.statements)) (Some (statement_of c n)) None) where
  pub given_one : (leb 1 n && leb n (length c.statements)) ≡ true
  given_one = (some_since (leb 1 n && leb n (length c.statements)) st (statement_of c n) e).0

  pub given_is : st ≡ statement_of c n
  given_is = (some_since (leb 1 n && leb n (length c.statements)) st (statement_of c n) e).1

  pub given_known : has b.shapes st.variable ≡ true
  given_known = ap (λ t. has b.shapes t.variable) given_is ∙ target_known b law c judged fit n given_one

  pub given_there : node_there c st.node ≡ true
  given_there = ap (λ t. node_there c t.node) given_is ∙ target_there b law c judged fit n given_one

  pub given_reach : node_reach b c st.node ≡ pick b.reach st.variable
  given_reach = ap (λ t. node_reach b c t.node) given_is ∙ target_reach b law c judged fit n given_one ∙ ap (λ t. pick b.reach t.variable) (sym given_is)
