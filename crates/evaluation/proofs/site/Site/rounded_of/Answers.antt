use Rattle.std.proofs.Common.{length, sym, ap, ◌∙◌}
use Rattle.sheets.proofs.Judged.{judged}
use Rattle.evaluation.proofs.Sources.{ranked, follow_down, follow_end, follow_small}
use Rattle.evaluation.proofs.Unwrapped.{answer_there, answer_value}
use Rattle.evaluation.proofs.site.Site.rounded_of.Goals as goal

pub trace-requires : goal.trace-requires
trace-requires g c =
    let j = judged c.args.self.now.sheet.now in
    let r = ranked _ (g.met.S.Store.lawful c.args.self.now.store.now) _ j c.args.self.now.fits in
    record { there = c.loop-variable.invariant.there; small = follow_small r j c.loop-variable.invariant }

pub unwrap-requires : goal.unwrap-requires
unwrap-requires g c =
    let law = g.met.S.Store.lawful c.args.self.now.store.now in
    let r = ranked _ law _ (judged c.args.self.now.sheet.now) c.args.self.now.fits in
    answer_there _ c.rounded.ensures (follow_end r _ _ (ap length c.args.self.now.fits ∙ sym law.count) c.loop-variable.invariant c.in-Variable.ensures)

pub returns-in-Variable : goal.returns-in-Variable
returns-in-Variable g c =
    let law = g.met.S.Store.lawful c.args.self.now.store.now in
    let r = ranked _ law _ (judged c.args.self.now.sheet.now) c.args.self.now.fits in
    answer_value c.rounded.ensures (follow_end r _ _ (ap length c.args.self.now.fits ∙ sym law.count) c.loop-variable.invariant c.in-Variable.ensures) c.unwrap.ensures

pub loop-variable-preserved : goal.loop-variable-preserved
loop-variable-preserved g c =
    let r = ranked _ (g.met.S.Store.lawful c.args.self.now.store.now) _ (judged c.args.self.now.sheet.now) c.args.self.now.fits in
    follow_down r c.loop-variable.invariant c.in-Operand.ensures
