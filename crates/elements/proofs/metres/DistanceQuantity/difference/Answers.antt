use Rattle.std.proofs.Common.{◌-ℤ◌}
use Rattle.elements.specs.Distances.{worked_out, difference_fits}
use Rattle.elements.proofs.metres.DistanceQuantity.difference.Goals as goal

pub returns : goal.returns
returns c = worked_out ◌-ℤ◌ _ _ c.args.self c.args.other c.wide.ensures c.wide-2.ensures _ (difference_fits c.args.self c.args.other) c.of.ensures
