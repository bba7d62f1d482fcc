use Rattle.std.proofs.Common.{sym, ◌∙◌}
use Rattle.shapes.specs.Shapes.{shapes_of}
use Rattle.stores.proofs.Compared.{difference_none}
use Rattle.runs.proofs.opening.open.Goals as goal

pub invariant_of-result-clause-fits : goal.invariant_of-result-clause-fits
invariant_of-result-clause-fits g c =
    sym c.table-table.ensures ∙ difference_none (shapes_of c.table-table.result) (g.S.Store.meaning c.args.store).shapes c.in-Ok.ensures
