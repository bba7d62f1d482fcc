use Rattle.std.proofs.Common.{length, sym, ap, ◌∙◌}
use Rattle.refusals.specs.Refusals.{and_then}
use Rattle.sheets.specs.Sheets.{contents}
use Rattle.sheets.proofs.Judged.{judged}
use Rattle.runs.specs.Lists.{calls_of, lefts_of, rights_of}
use Rattle.runs.specs.Opening.{open_answer}
use Rattle.runs.proofs.Chains.{agreement, begun}
use Rattle.runs.proofs.Opened.{opened_fits}
use Rattle.runs.proofs.agreement.agree.Goals as goal

pub returns-in-Ok-open : goal.returns-in-Ok-open
returns-in-Ok-open g c =
    let d = contents c.args.sheet.now in
    let l = c.in-Ok.ensures in let r = c.in-Ok-open.ensures in let p = c.pass.ensures in
    let a = g.K.Kind.algebra in let x = g.S.Store.meaning c.args.left in let y = g.T.Store.meaning c.args.right in
    let ks = calls_of (length c.args.tray.now) c.args.entries.now in let ls = lefts_of c.pass.new.entries in let rs = rights_of c.pass.new.entries in
    record {
      answer = r.answer ∙ ap (λ t. and_then t (λ _. open_answer d (g.T.Store.meaning c.args.right).shapes)) l.answer;
      kept = p.calls;
      agreement = agreement a g.met.K.Kind.lawful d (judged c.args.sheet.now) x y
          (g.met.S.Store.lawful c.args.left) (g.met.T.Store.lawful c.args.right)
          (opened_fits d x.shapes l.answer) (opened_fits d y.shapes r.answer) ks ls rs _ _ c.pass.new.one.next c.pass.new.two.next
          (begun a (contents c.in-Ok.first.run.sheet) d (g.S.Store.meaning c.in-Ok.first.run.store) x (g.S.Store.meaning c.pass.new.one.store) (g.S.Store.meaning c.close-in-Ok-open.result) c.in-Ok.first.run.next c.pass.new.one.next ks ls
          l.begins.0.sheet (ap g.S.Store.meaning l.begins.1) l.begins.0.first (ap g.S.Store.meaning (sym c.close-in-Ok-open.ensures)) p.left)
          (begun a (contents c.in-Ok-open.second.run.sheet) d (g.T.Store.meaning c.in-Ok-open.second.run.store) y (g.T.Store.meaning c.pass.new.two.store) (g.T.Store.meaning c.close-in-Ok-open-2.result) c.in-Ok-open.second.run.next c.pass.new.two.next ks rs
          r.begins.0.sheet (ap g.T.Store.meaning r.begins.1) r.begins.0.first (ap g.T.Store.meaning (sym c.close-in-Ok-open-2.ensures)) p.right);
    }
