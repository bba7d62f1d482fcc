-- What is known of a checked sheet. Assumes nothing.
use Rattle.std.proofs.Common.{◌≡◌, ℕ, zero, suc, ◌+◌, ◌<◌, ◌≤◌, Bool, true, false, cond, ltb, leb, List, [], ◌∷◌, ◌++◌, length, get_or, take, Some, None, Option, sym, refl, ap, ◌∙◌, subst, arith}
use Rattle.std.proofs.lemmas.List.{length_push, length-map, length-take-le}
use Rattle.std.proofs.lemmas.Bool.{and_parts, and_from, leb-true, ltb-true, le-leb}
use Rattle.indices.specs.Places.{pick}
use Rattle.refusals.specs.Refusals.{done, and_then}
use Rattle.sheets.specs.declared.checked.CheckedSheet.{CheckedSheet}
use Rattle.sheets.specs.declared.form.Form.{Form}
use Rattle.sheets.specs.declared.form.Form.TheVariants.{Variable, Outer, Pointwise, Transposition, Contraction}
use Rattle.sheets.specs.declared.node.Node.{Node}
use Rattle.sheets.specs.Forms.{form_of, tidy}
use Rattle.sheets.specs.Rules.{node_in, info_at, earlier}
use Rattle.sheets.specs.Language.{Expr, meant, variable, outer, pointwise, turned, contracted, Typed, depth, nesting, of_one, of_two, formed, formed_as, expr_at, exprs_from, expr_of, operand, blank}
use Rattle.sheets.specs.Sheets.{Contents, contents}
use Rattle.sheets.specs.Terms.{known, expression_of, node_there, no_node, node_at, term_as, term_of, Unfolds, NodeMeans, StatementMeans, Judged}
use Rattle.sheets.specs.Verdict.{infos_from, statements_from, tables}
use Rattle.sheets.proofs.Infos.{found_done}
use Rattle.sheets.proofs.Matching.{Related, at_end, there_when, two_parts, one_part}
use Rattle.sheets.proofs.Passing.{then_done, exprs_keep, exprs_length, none_yet, nodes_sound, node_meant, statements_sound, in_range}
use Rattle.sheets.proofs.Typing.{one_type}

-- a node's expression asks only for those of earlier nodes
module _ (es ws : List (Option Expr)) (k : ℕ) (kept : (j : ℕ) → earlier j k ≡ true → expr_at es j ≡ expr_at ws j) where
  operand_kept : (j : ℕ) → operand es k j ≡ operand ws k j
  operand_kept j = by (earlier j k) (kept j)
    where
      by : (b : Bool) → (b ≡ true → expr_at es j ≡ expr_at ws j) → cond b (expr_at es j) None ≡ cond b (expr_at ws j) None
      by true h = h refl
      by false h = refl

  formed_kept : (nd : Node) (o : Option Form) → formed_as es k nd o ≡ formed_as ws k nd o
  formed_kept nd None = refl
  formed_kept nd (Some f) =
      ap (λ x. cond (tidy f nd) (formed f nd x (operand es k nd.b)) None) (operand_kept nd.a)
      ∙ ap (λ y. cond (tidy f nd) (formed f nd (operand ws k nd.a) y) None) (operand_kept nd.b)

-- each node's expression is made of those of the whole table
unroll : (nds : List Node) (k : ℕ) (es : List (Option Expr)) → k ≡ length es + 1 → (i j : ℕ) → i < length nds → j ≡ k + i → expr_at (exprs_from k es nds) j ≡ formed_as (exprs_from k es nds) j (get_or nds i no_node) (form_of (get_or nds i no_node).kind)
unroll [] k es n i j l e = absurd (omega arith)
unroll (nd ∷ nds) k es n zero j l e =
    let f = form_of nd.kind in
    let x = formed_as es k nd f in
    let w = exprs_from k es (nd ∷ nds) in
    let at : expr_at w k ≡ formed_as w k nd f =
    exprs_keep nds (k + 1) (es ++ x ∷ []) k (omega (arith, length_push es x))
    ∙ at_end es x None k n
    ∙ formed_kept es w k (λ m h. sym (exprs_keep (nd ∷ nds) k es m (let b = ltb-true m k (and_parts (leb 1 m) (ltb m k) h).1 in omega arith))) nd f in
    let q : k ≡ j = omega arith in
    subst (λ m. expr_at w m ≡ formed_as w m nd f) q at
unroll (nd ∷ nds) k es n (suc i) j l e =
    let x = formed_as es k nd (form_of nd.kind) in
    unroll nds (k + 1) (es ++ x ∷ []) (omega (arith, length_push es x)) i j (omega arith) (omega arith)

unrolled : (ns : List Node) (k : ℕ) → 1 ≤ k → k ≤ length ns → expr_of ns k ≡ formed_as (exprs_from 1 [] ns) k (node_at ns k) (form_of (node_at ns k).kind)
unrolled ns zero f l = absurd (omega arith)
unrolled ns (suc i) f l = unroll ns 1 [] refl i (suc i) (omega arith) (omega arith)

-- a node that unfolds, by its form
module _ (c : Contents) (k : ℕ) (e : Expr) (is-e : expr_of c.nodes k ≡ Some e) where
  abbrev all : List (Option Expr)
  all = exprs_from 1 [] c.nodes

  by_one : (g : Expr → Expr) (a : ℕ) → of_one g (operand all k a) ≡ Some e → (earlier a k ≡ true) × (expression_of c.nodes k ≡ g (expression_of c.nodes a))
  by_one g a h =
      let p = one_part g (operand all k a) e h in
      let x = there_when (earlier a k) (expr_at all a) p.0 p.1 in
      (x.0, ap known is-e ∙ sym p.2 ∙ ap g (sym (ap known x.1)))

  by_two : (g : Expr → Expr → Expr) (a b : ℕ) → of_two g (operand all k a) (operand all k b) ≡ Some e → (earlier a k ≡ true) × (earlier b k ≡ true) × (expression_of c.nodes k ≡ g (expression_of c.nodes a) (expression_of c.nodes b))
  by_two g a b h =
      let p = two_parts g (operand all k a) (operand all k b) e h in
      let x = there_when (earlier a k) (expr_at all a) p.0 p.2 in
      let y = there_when (earlier b k) (expr_at all b) p.1 p.3 in
      (x.0, y.0, ap known is-e ∙ sym p.4 ∙ ap (λ u. g u p.1) (sym (ap known x.1)) ∙ ap (g (expression_of c.nodes a)) (sym (ap known y.1)))

  by_form : (nd : Node) (f : Form) → formed f nd (operand all k nd.a) (operand all k nd.b) ≡ Some e → Unfolds c k (term_as nd (Some f))
  by_form nd Variable h = let q : e ≡ variable nd.a = cc in ap known is-e ∙ q
  by_form nd Outer h = by_two outer nd.a nd.b h
  by_form nd (Pointwise op) h = by_two (pointwise (meant op)) nd.a nd.b h
  by_form nd Transposition h = by_one (turned nd.m nd.n) nd.a h
  by_form nd Contraction h = by_one (contracted nd.m nd.n) nd.a h

  made : (nd : Node) (o : Option Form) → formed_as all k nd o ≡ Some e → Unfolds c k (term_as nd o)
  made nd None h = absurd (cc)
  made nd (Some f) h = by_form nd f (there_when (tidy f nd) _ e h).1

-- tables that pass
module _ (c : Contents) (all : Related c.shapes (exprs_from 1 [] c.nodes) c.infos) where
  there : (k : ℕ) → node_there c k ≡ true → (1 ≤ k) × (k ≤ length c.nodes) × (k ≤ length c.infos)
  there k h =
      let p = and_parts (leb 1 k) (leb k (length c.nodes)) h in
      let a = leb-true 1 k p.0 in
      let b = leb-true k (length c.nodes) p.1 in
      let n = exprs_length c.nodes 1 [] in
      let e = all.even in
      (a, b, omega arith)

  node_means : (k : ℕ) → node_there c k ≡ true → NodeMeans c k
  node_means k h =
      let t = there k h in
      let m = node_meant c.shapes c.nodes c.infos all k t.0 t.1 in
      let r = all.known k t.0 t.2 in
      let x = expression_of c.nodes k in
      let w : m.expr ≡ x = sym (ap known m.unfolds) in
      let typed : Typed c.shapes x (info_at c.infos k).extents = subst (λ y. Typed c.shapes y (info_at c.infos k).extents) (sym (ap known r.unfolds)) r.typed in
      record {
        typed = typed;
        rank = subst (λ es. length es ≤ 8) (one_type c.shapes x m.extents (info_at c.infos k).extents (subst (λ y. Typed c.shapes y m.extents) w m.typed) typed) m.rank;
        deep = subst (λ x. depth x ≤ 16) w m.deep;
        nested = subst (λ x. nesting x ≤ 3) w m.nested;
      }

  node_unfolds : (k : ℕ) → node_there c k ≡ true → Unfolds c k (term_of c.nodes k)
  node_unfolds k h =
      let t = there k h in
      let r = all.known k t.0 t.2 in
      made c k r.expr r.unfolds (node_at c.nodes k) (form_of (node_at c.nodes k).kind) (sym (unrolled c.nodes k t.0 t.1) ∙ r.unfolds)

  statement_means : statements_from c.shapes c.infos 1 c.statements ≡ done tt → (s : ℕ) → 1 ≤ s → s ≤ length c.statements → StatementMeans c (get_or (blank ∷ c.statements) s blank)
  statement_means e s f l =
      let st = get_or (blank ∷ c.statements) s blank in
      let m = statements_sound c.shapes c.nodes c.infos all c.statements 1 e s f l in
      let p = in_range c.shapes c.nodes c.infos all st.node m.expr m.unfolds in
      let n = exprs_length c.nodes 1 [] in
      let v = all.even in
      let i : st.node ≤ length c.nodes = omega arith in
      record {
        declared = m.known;
        there = and_from (leb 1 st.node) (leb st.node (length c.nodes)) (le-leb 1 st.node p.0) (le-leb st.node (length c.nodes) i);
        typed = subst (λ x. Typed c.shapes x (pick c.shapes st.variable)) (sym (ap known m.unfolds)) m.typed;
      }

pub judged : (s : CheckedSheet) → Judged (contents s)
judged s =
    let c = contents s in
    let a = length-take-le s.node_count s.nodes (omega (arith, s.nodes_whole, s.few_nodes)) in
    let b = length-take-le s.statement_count s.statements (omega (arith, s.statements_whole, s.few_statements)) in
    let t = found_done c.infos (tables c.shapes c.nodes c.statements) s.sound in
    let p = then_done (infos_from c.shapes 1 [] c.nodes) (λ is. and_then (statements_from c.shapes is 1 c.statements) (λ _. done is)) c.infos t in
    let q = then_done (statements_from c.shapes p.0 1 c.statements) (λ _. done p.0) c.infos p.2 in
    let w = q.2 in
    let e : p.0 ≡ c.infos = cc in
    let all = nodes_sound c.shapes c.nodes 1 [] [] c.infos (none_yet c.shapes) refl (p.1 ∙ ap done e) in
    record {
      few_nodes = omega (arith, a, length-map (take s.node_count s.nodes) node_in, s.few_nodes);
      few_statements = omega (arith, b, s.few_statements);
      nodes = node_means c all;
      statements = statement_means c all (ap (λ is. statements_from c.shapes is 1 c.statements) (sym e) ∙ q.1);
      unfolds = node_unfolds c all;
    }
