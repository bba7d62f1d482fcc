use Rattle.std.proofs.Common.{refl, arith}
use Rattle.indices.specs.Coordinates.{coordinates}
use Rattle.evaluation.specs.Machine.{on_right, with_left, to_next, to_end}
use Rattle.evaluation.proofs.Stacks.{on_top}
use Rattle.evaluation.proofs.Unwrapped.{some_value}
use Rattle.evaluation.proofs.machine.resume.Goals as goal

pub returns-in-Left : goal.returns-in-Left
returns-in-Left g c = on_right c.in-Left.is (on_top _ c.push.ensures.items)

pub returns-in-Right : goal.returns-in-Right
returns-in-Right g c = with_left c.in-Right.is refl c.combined.ensures

pub returns-then-l-limit : goal.returns-then-l-limit
returns-then-l-limit g c = to_end c.in-Sum.is c.if-l-limit.true c.combined-total.ensures refl

pub returns-else-l-limit : goal.returns-else-l-limit
returns-else-l-limit g c = to_next c.in-Sum.is (omega (arith, c.if-l-limit.false)) (some_value coordinates _ _ _ _ c.extended.ensures c.unwrap-next.ensures) c.combined-total.ensures (on_top _ c.push-in-Sum.ensures.items)
