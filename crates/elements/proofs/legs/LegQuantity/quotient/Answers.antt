use Rattle.std.proofs.Common.{◌≡◌, ℕ, ◌-◌, ◌≤◌, sym, ◌∙◌}
use Rattle.std.proofs.lemmas.Bool.{cond-false, le-ltb}
use Rattle.elements.specs.Legs.{way, saved}
use Rattle.elements.specs.declared.cost.Cost.{Cost}
use Rattle.elements.specs.declared.legs.Leg.{Leg}
use Rattle.elements.specs.declared.legs.Leg.TheVariants.{Way}
use Rattle.elements.proofs.legs.LegQuantity.quotient.Goals as goal

both_ways : (x y : Leg) (a b : Cost) (n : ℕ) → x ≡ Way a → y ≡ Way b → b.value ≤ a.value → n ≡ a.value - b.value → way n ≡ saved x y
both_ways x y a b n p q h e = rw (p, q, e) (sym (cond-false _ _ _ (le-ltb _ _ h)))

pub returns-in_ok-checked_sub-in-Way-Way : goal.returns-in_ok-checked_sub-in-Way-Way
returns-in_ok-checked_sub-in-Way-Way c =
    let e = c.in_ok-checked_sub-in-Way-Way.ensures in
    c.of.ensures ∙ both_ways _ _ _ _ _ c.in-Way-Way.is-0 c.in-Way-Way.is-1 e.0 (c.from.ensures ∙ e.1)
