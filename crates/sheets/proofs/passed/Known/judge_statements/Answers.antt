use Rattle.std.proofs.Common.{◌≡◌, ℕ, ◌+◌, ◌<◌, Bool, true, false, cond, ◌&&◌, leb, List, [], ◌∷◌, map, length, get_or, drop, sym, refl, ap, ◌∙◌}
use Rattle.std.proofs.lemmas.List.{at_drop_more}
use Rattle.std.proofs.lemmas.Result.{err_from_is_err_and}
use Rattle.indices.specs.Dimensions.{same}
use Rattle.indices.specs.Places.{pick, has}
use Rattle.refusals.specs.Refusals.{Answer, done, refused, and_then}
use Rattle.shapes.specs.Shapes.{shapes_of}
use Rattle.sheets.specs.declared.node.Statement.{Statement}
use Rattle.sheets.specs.Language.{blank}
use Rattle.sheets.specs.Rules.{Info, info_in, info_at}
use Rattle.sheets.specs.Verdict.{statements_from}
use Rattle.sheets.proofs.passed.Known.judge_statements.Goals as goal

asked : (a b : Bool) (s : ℕ) (w : Answer Unit) → cond a (cond b w (refused 18 s)) (refused 17 s) ≡ and_then {X = Unit} (cond a (cond b (done tt) (refused 18 s)) (refused 17 s)) (λ _. w)
asked true true s w = refl
asked true false s w = refl
asked false b s w = refl

-- the first question of two, and then the rest
first : (ss : List (List ℕ)) (is : List Info) (s : ℕ) (st : Statement) (sts : List Statement) → statements_from ss is s (st ∷ sts) ≡ and_then (statements_from ss is s (st ∷ [])) (λ _. statements_from ss is (s + 1) sts)
first ss is s st sts = asked (has ss st.variable && (leb 1 st.node && leb st.node (length is))) (same (pick ss st.variable) (info_at is st.node).extents) s (statements_from ss is (s + 1) sts)

statements_more : (ss : List (List ℕ)) (is : List Info) (sts : List Statement) (k : ℕ) → k < length sts → statements_from ss is (k + 1) (drop k sts) ≡ and_then (statements_from ss is (k + 1) (get_or sts k blank ∷ [])) (λ _. statements_from ss is (k + 1 + 1) (drop (k + 1) sts))
statements_more ss is sts k h = at_drop_more (statements_from ss is (k + 1)) sts k blank h ∙ first ss is (k + 1) (get_or sts k blank) (drop (k + 1) sts)

pub returns-in_err-judge_statement : goal.returns-in_err-judge_statement
returns-in_err-judge_statement c =
    let ss = shapes_of c.args.self.now.table.now in let is = map info_in c.args.self.now.nodes.now in let sts = c.args.statements.now in let k = c.loop-k.k in
    let p = err_from_is_err_and c.from_residual.result c.from_residual.ensures.1 in
    rw (p.1, p.2)
    (ap (λ a. and_then a (λ _. statements_from ss is (k + 1 + 1) (drop (k + 1) sts))) c.in_err-judge_statement.ensures
    ∙ sym (statements_more ss is sts k c.loop-k-test.true) ∙ c.loop-k.invariant)
