use Rattle.sheets.specs.Sheets.{contents}
use Rattle.evaluation.specs.Sources.{Follows}
use Rattle.evaluation.proofs.site.Site.rounded_of.Given as goal

abbrev pub invariant-loop-variable : goal.invariant-loop-variable
invariant-loop-variable g l = Follows (g.S.Store.meaning l.self.store.now).reach (contents l.self.sheet.now) l.initial.node l.initial.d l.k l.e

abbrev pub decreases-loop-variable : goal.decreases-loop-variable
decreases-loop-variable g l = l.k
