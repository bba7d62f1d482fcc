use Rattle.std.proofs.Common.{◌≡◌, ℕ, true, List, [], sym, ap, ◌∙◌, rules}
use Rattle.refusals.specs.Refusals.{done, and_then}
use Rattle.sheets.specs.declared.node.Node.{Node}
use Rattle.sheets.specs.declared.node.Statement.{Statement}
use Rattle.sheets.specs.Rules.{Info}
use Rattle.sheets.specs.Verdict.{infos_from, statements_from, tables, finds}
use Rattle.sheets.proofs.Infos.{found}
use Rattle.sheets.proofs.verdict.judged_sheet.Goals as goal

-- own copies of tables that pass
copied : (ss : List (List ℕ)) (is : List Info) (ns ms : List Node) (sts rs : List Statement) → ms ≡ ns → rs ≡ sts → done is ≡ infos_from ss 1 [] ns → done tt ≡ statements_from ss is 1 sts → finds is (tables ss ms rs) ≡ true
copied ss is ns ms sts rs p q h k =
    let w = ap (λ a. and_then a (λ js. and_then (statements_from ss js 1 sts) (λ _. done js))) (sym h) in
    let v = ap (λ a. and_then {X = Unit} a (λ _. done is)) (sym k) in
    found is (tables ss ms rs) (ap (λ xs. tables ss xs rs) p ∙ ap (tables ss ns) q ∙ w ∙ v)

pub invariant_of-result-clause-sound : goal.invariant_of-result-clause-sound
invariant_of-result-clause-sound c = let a = c.in_ok-judged.ensures in let b = c.in_ok-judge_statements.ensures in search (rules, copied)
