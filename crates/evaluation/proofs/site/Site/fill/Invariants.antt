use Rattle.std.proofs.Common.{◌≡◌, take}
use Rattle.indices.specs.Places.{unplace}
use Rattle.shapes.specs.Shapes.{extents_of}
use Rattle.sheets.specs.Sheets.{contents}
use Rattle.evaluation.specs.Tray.{counted}
use Rattle.evaluation.specs.Value.{node_value}
use Rattle.evaluation.proofs.site.Site.fill.Given as goal

abbrev pub invariant-loop-k : goal.invariant-loop-k
invariant-loop-k g l =
    take l.k l.place-items
    ≡ counted (λ n. node_value g.K.Kind.algebra (g.S.Store.meaning l.self.store.now) (contents l.self.sheet.now) l.statement.node (unplace (extents_of l.reach) n)) 0 l.k
