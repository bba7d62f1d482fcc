use Rattle.std.proofs.Common.{◌≡◌, ℕ, true, false, List, sym, refl, ap, ◌∙◌}
use Rattle.std.proofs.lemmas.Bool.{false≢true}
use Rattle.std.proofs.lemmas.Result.{err_from_is_err_and}
use Rattle.shapes.proofs.Asked.{never_refused}
use Rattle.shapes.specs.declared.declaration.Declaration.{Declaration}
use Rattle.refusals.specs.Refusals.{done, refused, and_then}
use Rattle.shapes.specs.Shapes.{declared}
use Rattle.sheets.specs.declared.node.Node.{Node}
use Rattle.sheets.specs.declared.node.Statement.{Statement}
use Rattle.sheets.specs.Language.{Means, Meaningful}
use Rattle.sheets.specs.Rules.{Info}
use Rattle.sheets.specs.Sheets.{Contents, contents, judged_sheet}
use Rattle.sheets.specs.Verdict.{verdict}
use Rattle.sheets.proofs.Passing.{then_done, passes_means, meaning_passes}
use Rattle.sheets.proofs.Typing.{one_type}
use Rattle.sheets.proofs.verdict.judge.Goals as goal

module _ (ds : List Declaration) (ns : List Node) (sts : List Statement) where
  abbrev held : List Info → List (List ℕ) → Contents
  held is ss = record { shapes = ss; nodes = ns; statements = sts; infos = is }

  passing : (c : Contents) → done c ≡ judged_sheet ds ns sts → Means ds ns sts true
  passing c e =
      let p = then_done (verdict ds ns sts) (λ is. and_then (declared ds) (λ ss. done (held is ss))) c (sym e) in
      record { sound = λ _. passes_means ds ns sts p.0 p.1; complete = λ _. refl; one_type = λ ss k x s t u a b. one_type ss x s t a b }

  refusing : (n p : ℕ) → refused n p ≡ judged_sheet ds ns sts → Means ds ns sts false
  refusing n p e =
      let lost : Meaningful ds ns sts → ⊥ = λ m.
      let w = meaning_passes ds ns sts m in
      let f = ap (λ a. and_then a (λ is. and_then (declared ds) (λ ss. done (held is ss)))) w.1 ∙ ap (λ a. and_then a (λ ss. done (held w.0 ss))) m.declares in
      never_refused n p (judged_sheet ds ns sts) (held w.0 m.shapes) e f in
      record { sound = λ h. absurd (false≢true h); complete = λ m. absurd (lost m); one_type = λ ss k x s t u a b. one_type ss x s t a b }

pub returns-clause-means : goal.returns-clause-means
returns-clause-means c = passing c.args.declared.now c.args.nodes.now c.args.statements.now (contents c.in_ok-sheet.field-0) c.in_ok-sheet.ensures

pub returns-in_err-sheet-clause-means : goal.returns-in_err-sheet-clause-means
returns-in_err-sheet-clause-means c =
    let p = err_from_is_err_and c.from_residual.result c.from_residual.ensures.1 in
    rw p.1 (refusing c.args.declared.now c.args.nodes.now c.args.statements.now _ _ c.in_err-sheet.ensures)
