use Rattle.std.proofs.Common.{sym, arith}
use Rattle.std.proofs.lemmas.Int.{ints}
use Rattle.elements.specs.Distances.{distance_is}
use Rattle.elements.proofs.metres.DistanceQuantity.of.Goals as goal

pub returns : goal.returns
returns c = sym (distance_is c.args.number _ (omega (arith, ints)))
