use Rattle.std.proofs.Common.{◌≡◌, drop}
use Rattle.indices.specs.Places.{within}
use Rattle.sheets.specs.Sheets.{contents}
use Rattle.evaluation.specs.Value.{node_reach}
use Rattle.evaluation.proofs.site.Site.in_reach.Given as goal

abbrev pub invariant-loop-d : goal.invariant-loop-d
invariant-loop-d g l =
    let es = node_reach (g.S.Store.meaning l.self.store.now) (contents l.self.sheet.now) l.k in
    within (drop l.d es) (drop l.d l.index) ≡ within es l.index
