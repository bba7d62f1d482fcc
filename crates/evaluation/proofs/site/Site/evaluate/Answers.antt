use Rattle.std.proofs.Common.{refl, reverse, ap, ◌∙◌, arith}
use Rattle.sheets.specs.Sheets.{contents}
use Rattle.sheets.proofs.Judged.{judged}
use Rattle.evaluation.specs.Machine.{setting, stack_of}
use Rattle.evaluation.proofs.Steps.{whole_down, sound_down}
use Rattle.evaluation.proofs.site.Site.evaluate.Goals as goal

pub loop-next-init : goal.loop-next-init
loop-next-init g c =
    let t = setting g.K.Kind.algebra (g.S.Store.meaning c.args.self.now.store.now) (contents c.args.self.now.sheet.now) in
    let d = ((judged c.args.self.now.sheet.now).nodes c.args.node c.requires.there).deep in
    (sound_down t (stack_of c.new-stack.result) (ap reverse c.new-stack.ensures) c.args.node c.args.at (record { there = c.requires.there; low = omega arith; reached = c.requires.reached }), refl)

pub returns-in-Break : goal.returns-in-Break
returns-in-Break g c =
    let t = setting g.K.Kind.algebra (g.S.Store.meaning c.args.self.now.store.now) (contents c.args.self.now.sheet.now) in
    c.value_of.ensures ∙ c.in-Break.ensures ∙ c.loop-next.invariant.1 ∙ whole_down t (stack_of c.new-stack.result) (ap reverse c.new-stack.ensures) c.args.node c.args.at
