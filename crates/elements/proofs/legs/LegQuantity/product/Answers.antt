use Rattle.std.proofs.Common.{◌≡◌, ℕ, ◌+◌, refl, ◌∙◌, arith}
use Rattle.elements.specs.Legs.{way, onward}
use Rattle.elements.specs.declared.cost.Cost.{Cost}
use Rattle.elements.specs.declared.legs.Leg.{Leg}
use Rattle.elements.specs.declared.legs.Leg.TheVariants.{Way}
use Rattle.elements.proofs.legs.LegQuantity.product.Goals as goal

both_ways : (x y : Leg) (a b : Cost) (n : ℕ) → x ≡ Way a → y ≡ Way b → n ≡ a.value + b.value → way n ≡ onward x y
both_ways x y a b n p q e = rw (p, q, e) refl

pub returns-in-Way-Way : goal.returns-in-Way-Way
returns-in-Way-Way c = c.of.ensures ∙ both_ways _ _ _ _ _ c.in-Way-Way.is-0 c.in-Way-Way.is-1 (omega arith)
