use Rattle.std.proofs.Common.{◌+ℤ◌}
use Rattle.elements.specs.Distances.{worked_out, sum_fits}
use Rattle.elements.proofs.metres.DistanceQuantity.sum.Goals as goal

pub returns : goal.returns
returns c = worked_out ◌+ℤ◌ _ _ c.args.self c.args.other c.wide.ensures c.wide-2.ensures _ (sum_fits c.args.self c.args.other) c.of.ensures
