-- The verdict and the language: tables pass where their nodes and statements mean something, and only there. Assumes nothing.
use Rattle.std.proofs.Common.{◌≡◌, ℕ, zero, suc, ◌+◌, ◌<◌, ◌≤◌, Bool, true, false, cond, ◌&&◌, leb, List, [], ◌∷◌, ◌++◌, length, get_or, Some, None, Option, sym, refl, ap, ◌∙◌, subst, ⊎_elim, arith}
use Rattle.std.proofs.lemmas.List.{length_push, get_or_past}
use Rattle.std.proofs.lemmas.Bool.{and_parts, and_from, leb-true, le-leb, cond-true, cases_lt}
use Rattle.shapes.specs.declared.declaration.Declaration.{Declaration}
use Rattle.indices.specs.Dimensions.{same}
use Rattle.indices.specs.Places.{pick, has}
use Rattle.refusals.specs.Refusals.{Answer, done, refused, and_then}
use Rattle.shapes.specs.Shapes.{declared}
use Rattle.indices.proofs.Equal.{same_equal, same_self}
use Rattle.sheets.specs.declared.node.Node.{Node}
use Rattle.sheets.specs.declared.node.Statement.{Statement}
use Rattle.sheets.specs.Forms.{form_of}
use Rattle.sheets.specs.Rules.{Info, info_at, node_answer}
use Rattle.sheets.specs.Verdict.{infos_from, statements_from, tables, verdict}
use Rattle.sheets.specs.Language.{Expr, Typed, depth, nesting, expr_at, exprs_from, expr_of, formed_as, Meant, Assigned, Meaningful, blank}
use Rattle.sheets.proofs.Typing.{same_type}
use Rattle.sheets.proofs.Matching.{Related, sound, complete, related_push, at_left, at_end}

pub then_done : {X Y : Type 0} (a : Answer X) (f : X → Answer Y) (y : Y) → and_then a f ≡ done y → (x : X) × (a ≡ done x) × (f x ≡ done y)
then_done (done x) f y e = (x, refl, e)
then_done (refused n p) f y e = absurd (cc)

when_done : {X : Type 0} (b : Bool) (a : Answer X) (n p : ℕ) (x : X) → cond b a (refused n p) ≡ done x → (b ≡ true) × (a ≡ done x)
when_done true a n p x e = (refl, e)
when_done false a n p x e = absurd (cc)

-- the expressions are only added to
pub exprs_keep : (nds : List Node) (k : ℕ) (es : List (Option Expr)) (j : ℕ) → j ≤ length es → expr_at (exprs_from k es nds) j ≡ expr_at es j
exprs_keep [] k es j h = refl
exprs_keep (nd ∷ nds) k es j h =
    let x = formed_as es k nd (form_of nd.kind) in
    exprs_keep nds (k + 1) (es ++ x ∷ []) j (omega (arith, length_push es x)) ∙ at_left es x None j h

pub exprs_length : (nds : List Node) (k : ℕ) (es : List (Option Expr)) → length (exprs_from k es nds) ≡ length es + length nds
exprs_length [] k es = omega arith
exprs_length (nd ∷ nds) k es =
    let x = formed_as es k nd (form_of nd.kind) in
    let q = exprs_length nds (k + 1) (es ++ x ∷ []) in
    omega (arith, length_push es x)

-- only the numbers of nodes unfold
some_range : (es : List (Option Expr)) (j : ℕ) (e : Expr) → expr_at es j ≡ Some e → (1 ≤ j) × (j ≤ length es)
some_range es zero e h = absurd (cc)
some_range es (suc j) e h = (
  omega arith,
  ⊎_elim
      (λ (l : j < length es). omega arith)
      (λ (l : length es ≤ j). let q = get_or_past es j None l in absurd (cc))
      (cases_lt j (length es)),
)

-- an expression within bounds that has a type
record Bound (ss : List (List ℕ)) (o : Option Expr) : Type 0 where
  expr : Expr
  extents : List ℕ
  unfolds : o ≡ Some expr
  typed : Typed ss expr extents
  rank : length extents ≤ 8
  deep : depth expr ≤ 16
  nested : nesting expr ≤ 3

module _ (ss : List (List ℕ)) where
  pub none_yet : Related ss [] []
  none_yet = record { even = refl; known = λ j f l. absurd (omega arith); inside = λ j f l. absurd (omega arith) }

  pub nodes_sound : (nds : List Node) (k : ℕ) (es : List (Option Expr)) (is js : List Info) → Related ss es is → k ≡ length is + 1 → infos_from ss k is nds ≡ done js → Related ss (exprs_from k es nds) js
  nodes_sound [] k es is js all n e = let q : is ≡ js = cc in subst (λ u. Related ss es u) q all
  nodes_sound (nd ∷ nds) k es is js all n e =
      let p = then_done (node_answer ss k is nd) (λ i. infos_from ss (k + 1) (is ++ i ∷ []) nds) js e in
      let i = p.0 in
      let r = sound ss es is all k n nd (form_of nd.kind) i p.1 in
      nodes_sound nds (k + 1) _ (is ++ i ∷ []) js (related_push ss es is _ i all r.0 r.1) (omega (arith, length_push is i)) p.2

  nodes_complete : (nds : List Node) (k : ℕ) (es : List (Option Expr)) (is : List Info) → Related ss es is → k ≡ length is + 1 → ((j : ℕ) → 1 ≤ j → j ≤ length is + length nds → Bound ss (expr_at (exprs_from k es nds) j)) → (js : List Info) × (infos_from ss k is nds ≡ done js)
  nodes_complete [] k es is all n f = (is, refl)
  nodes_complete (nd ∷ nds) k es is all n f =
      let x = formed_as es k nd (form_of nd.kind) in
      let m = f k (omega arith) (omega arith) in
      let a = exprs_keep nds (k + 1) (es ++ x ∷ []) k (omega (arith, length_push es x, all.even)) in
      let b = at_end es x None k (omega (arith, all.even)) in
      let u = m.unfolds in
      let q : x ≡ Some m.expr = sym b ∙ sym a ∙ u in
      let c = complete ss es is all k n nd (form_of nd.kind) m.expr m.extents q m.typed m.rank m.deep m.nested in
      let i = c.0 in
      let r = sound ss es is all k n nd (form_of nd.kind) i c.1 in
      let s = nodes_complete nds (k + 1) (es ++ x ∷ []) (is ++ i ∷ []) (related_push ss es is x i all r.0 r.1) (omega (arith, length_push is i)) (λ j g l. f j g (omega (arith, length_push is i))) in
      (s.0, ap (λ v. and_then v (λ y. infos_from ss (k + 1) (is ++ y ∷ []) nds)) c.1 ∙ s.1)

  -- tables that pass, and their statements
  module _ (ns : List Node) (is : List Info) (all : Related ss (exprs_from 1 [] ns) is) where
    pub node_meant : (k : ℕ) → 1 ≤ k → k ≤ length ns → Meant ss ns k
    node_meant k f l =
        let e = all.even in
        let n = exprs_length ns 1 [] in
        let h : k ≤ length is = omega arith in
        let r = all.known k f h in
        let i = info_at is k in
        let p = and_parts (leb (length i.extents) 8) (leb i.depth 16 && leb i.nesting 3) (all.inside k f h) in
        let q = and_parts (leb i.depth 16) (leb i.nesting 3) p.1 in
        let a = leb-true i.depth 16 q.0 in
        let b = leb-true i.nesting 3 q.1 in
        let c = r.deep in
        let d = r.nested in
        record { expr = r.expr; extents = i.extents; unfolds = r.unfolds; typed = r.typed; rank = leb-true (length i.extents) 8 p.0; deep = omega arith; nested = omega arith }

    pub statements_sound : (sts : List Statement) (s : ℕ) → statements_from ss is s sts ≡ done tt → (n : ℕ) → 1 ≤ n → n ≤ length sts → Assigned ss ns (get_or (blank ∷ sts) n blank)
    statements_sound sts s e zero f l = absurd (omega arith)
    statements_sound [] s e (suc n) f l = absurd (omega arith)
    statements_sound (st ∷ sts) s e (suc zero) f l =
        let p = when_done (has ss st.variable && (leb 1 st.node && leb st.node (length is))) _ 17 s tt e in
        let q = when_done (same (pick ss st.variable) (info_at is st.node).extents) _ 18 s tt p.1 in
        let a = and_parts (has ss st.variable) (leb 1 st.node && leb st.node (length is)) p.0 in
        let b = and_parts (leb 1 st.node) (leb st.node (length is)) a.1 in
        let r = all.known st.node (leb-true 1 st.node b.0) (leb-true st.node (length is) b.1) in
        let t = same_equal (pick ss st.variable) (info_at is st.node).extents q.0 in
        record { known = a.0; expr = r.expr; unfolds = r.unfolds; typed = subst (λ u. Typed ss r.expr u) (sym t) r.typed }
    statements_sound (st ∷ sts) s e (suc (suc n)) f l =
        let p = when_done (has ss st.variable && (leb 1 st.node && leb st.node (length is))) _ 17 s tt e in
        let q = when_done (same (pick ss st.variable) (info_at is st.node).extents) _ 18 s tt p.1 in
        statements_sound sts (s + 1) q.1 (suc n) (omega arith) (omega arith)

    pub in_range : (j : ℕ) (e : Expr) → expr_of ns j ≡ Some e → (1 ≤ j) × (j ≤ length is)
    in_range j e h =
        let p = some_range (exprs_from 1 [] ns) j e h in
        let q = all.even in
        (p.0, omega arith)

    statements_complete : (sts : List Statement) (s : ℕ) → ((n : ℕ) → 1 ≤ n → n ≤ length sts → Assigned ss ns (get_or (blank ∷ sts) n blank)) → statements_from ss is s sts ≡ done tt
    statements_complete [] s f = refl
    statements_complete (st ∷ sts) s f =
        let m = f 1 (omega arith) (omega arith) in
        let j = st.node in
        let g = in_range j m.expr m.unfolds in
        let r = all.known j g.0 g.1 in
        let u = m.unfolds in
        let w = r.unfolds in
        let q : r.expr ≡ m.expr = cc in
        let t = same_type m.typed (subst (λ x. Typed ss x (info_at is j).extents) q r.typed) in
        let c = and_from (has ss st.variable) (leb 1 j && leb j (length is)) m.known (and_from (leb 1 j) (leb j (length is)) (le-leb 1 j g.0) (le-leb j (length is) g.1)) in
        let d : same (pick ss st.variable) (info_at is j).extents ≡ true = ap (same (pick ss st.variable)) (sym t) ∙ same_self (pick ss st.variable) in
        let rest = statements_complete sts (s + 1) (λ n a b. later st sts f n a b) in
        cond-true _ _ _ c ∙ cond-true _ _ _ d ∙ rest
      where
        later : (st : Statement) (sts : List Statement) → ((n : ℕ) → 1 ≤ n → n ≤ length (st ∷ sts) → Assigned ss ns (get_or (blank ∷ st ∷ sts) n blank)) → (n : ℕ) → 1 ≤ n → n ≤ length sts → Assigned ss ns (get_or (blank ∷ sts) n blank)
        later st sts f zero a b = absurd (omega arith)
        later st sts f (suc n) a b = f (suc (suc n)) (omega arith) (omega arith)

pub passes_means : (ds : List Declaration) (ns : List Node) (sts : List Statement) (is : List Info) → verdict ds ns sts ≡ done is → Meaningful ds ns sts
passes_means ds ns sts is e =
    let p = then_done (declared ds) (λ ss. cond (leb (length ns) 256 && leb (length sts) 64) (tables ss ns sts) (refused 12 0)) is e in
    let ss = p.0 in
    let q = when_done (leb (length ns) 256 && leb (length sts) 64) (tables ss ns sts) 12 0 is p.2 in
    let c = and_parts (leb (length ns) 256) (leb (length sts) 64) q.0 in
    let r = then_done (infos_from ss 1 [] ns) (λ js. and_then (statements_from ss js 1 sts) (λ _. done js)) is q.1 in
    let js = r.0 in
    let s = then_done (statements_from ss js 1 sts) (λ _. done js) is r.2 in
    let all = nodes_sound ss ns 1 [] [] js (none_yet ss) refl r.1 in
    record {
      shapes = ss;
      declares = p.1;
      few_nodes = leb-true (length ns) 256 c.0;
      few_statements = leb-true (length sts) 64 c.1;
      nodes = node_meant ss ns js all;
      statements = statements_sound ss ns js all sts 1 s.1;
    }

pub meaning_passes : (ds : List Declaration) (ns : List Node) (sts : List Statement) → Meaningful ds ns sts → (is : List Info) × (verdict ds ns sts ≡ done is)
meaning_passes ds ns sts m =
    let ss = m.shapes in
    let b : (j : ℕ) → 1 ≤ j → j ≤ 0 + length ns → Bound ss (expr_at (exprs_from 1 [] ns) j) =
    λ j f l. let t = m.nodes j f (omega arith) in record { expr = t.expr; extents = t.extents; unfolds = t.unfolds; typed = t.typed; rank = t.rank; deep = t.deep; nested = t.nested } in
    let r = nodes_complete ss ns 1 [] [] (none_yet ss) refl b in
    let js = r.0 in
    let all = nodes_sound ss ns 1 [] [] js (none_yet ss) refl r.1 in
    let s = statements_complete ss ns js all sts 1 m.statements in
    let c = and_from (leb (length ns) 256) (leb (length sts) 64) (le-leb (length ns) 256 m.few_nodes) (le-leb (length sts) 64 m.few_statements) in (
      js,
      ap (λ a. and_then a (λ ts. cond (leb (length ns) 256 && leb (length sts) 64) (tables ts ns sts) (refused 12 0))) m.declares
          ∙ cond-true (leb (length ns) 256 && leb (length sts) 64) (tables ss ns sts) (refused 12 0) c
          ∙ ap (λ a. and_then a (λ is. and_then (statements_from ss is 1 sts) (λ _. done is))) r.1
          ∙ ap (λ a. and_then a (λ _. done js)) s,
    )
