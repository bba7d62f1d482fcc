use Rattle.std.proofs.Common.{sym}
use Rattle.elements.specs.Costs.{cost_is}
use Rattle.elements.proofs.cost.Cost.of.Goals as goal

pub returns : goal.returns
returns c = sym (cost_is _)
