use Rattle.std.proofs.Common.{◌*ℤ◌}
use Rattle.elements.specs.Distances.{fits_wide, worked_out, product_fits}
use Rattle.elements.proofs.metres.DistanceQuantity.product.Goals as goal

pub overflow_mul-wide : goal.overflow_mul-wide
overflow_mul-wide c = fits_wide ◌*ℤ◌ _ _ c.args.self c.args.other c.wide.ensures c.wide-2.ensures (product_fits c.args.self c.args.other)

pub returns : goal.returns
returns c = worked_out ◌*ℤ◌ _ _ c.args.self c.args.other c.wide.ensures c.wide-2.ensures _ (product_fits c.args.self c.args.other) c.of.ensures
