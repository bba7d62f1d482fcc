use Rattle.std.proofs.Common.{◌≡◌}
use Rattle.sheets.specs.Sheets.{contents}
use Rattle.evaluation.specs.Machine.{setting, stack_of, Sound, whole, load}
use Rattle.evaluation.proofs.site.Site.evaluate.Given as goal

abbrev pub invariant-loop-next : goal.invariant-loop-next
invariant-loop-next g l =
    (Sound (setting g.K.Kind.algebra (g.S.Store.meaning l.self.store.now) (contents l.self.sheet.now)) (stack_of l.stack) l.focus)
    × (whole (setting g.K.Kind.algebra (g.S.Store.meaning l.self.store.now) (contents l.self.sheet.now)) (stack_of l.stack) l.focus
    ≡ whole (setting g.K.Kind.algebra (g.S.Store.meaning l.self.store.now) (contents l.self.sheet.now)) (stack_of l.initial.stack) l.initial.focus)

abbrev pub decreases-loop-next : goal.decreases-loop-next
decreases-loop-next g l = load (setting g.K.Kind.algebra (g.S.Store.meaning l.self.store.now) (contents l.self.sheet.now)) (stack_of l.stack) l.focus
