-- Legs: costs from 0 to 2,147,483,647, and no way, the zero, which is dearer than every cost.
--   cost   a cost, if it is in the range
--   way    a leg of this cost, if it is in the range
--   text   what is written for a leg
--   legs   their arithmetic: the sum is the cheaper; the product adds the costs; the difference is the first where it is
--          cheaper, otherwise no way; the quotient takes the second cost from the first; the code is the cost plus 2,
--          no way has 1 and undefined 0
use Rattle.std.specs.Prelude.{ℕ, zero, suc, ◌+◌, ◌-◌, Bool, true, false, cond, List, Some, None, codes, decimal, Option, nat_lt}
use Rattle.elements.specs.Arithmetic.{Arithmetic}
use Rattle.elements.specs.Ranges.{payable, made}
use Rattle.elements.specs.declared.cost.Cost.{Cost}
use Rattle.elements.specs.declared.legs.Leg.{Leg}
use Rattle.elements.specs.declared.legs.Leg.TheVariants.{Way, NoWay}

abbrev pub cost : ℕ → Option Cost
cost = made payable (λ n p. record { value = n; ranged = p })

abbrev pub way_of : Option Cost → Option Leg
way_of (Some c) = Some (Way c)
way_of None = None

abbrev pub way : ℕ → Option Leg
way n = way_of (cost n)

abbrev pub cheaper : Leg → Leg → Leg
cheaper (Way a) (Way b) = cond (nat_lt b.value a.value) (Way b) (Way a)
cheaper (Way a) NoWay = Way a
cheaper NoWay (Way b) = Way b
cheaper NoWay NoWay = NoWay

abbrev pub unless : Leg → Leg → Leg
unless (Way a) (Way b) = cond (nat_lt a.value b.value) (Way a) NoWay
unless (Way a) NoWay = Way a
unless NoWay (Way b) = NoWay
unless NoWay NoWay = NoWay

abbrev pub onward : Leg → Leg → Option Leg
onward (Way a) (Way b) = way (a.value + b.value)
onward (Way a) NoWay = Some NoWay
onward NoWay (Way b) = Some NoWay
onward NoWay NoWay = Some NoWay

abbrev pub saved : Leg → Leg → Option Leg
saved (Way a) (Way b) = cond (nat_lt a.value b.value) None (way (a.value - b.value))
saved (Way a) NoWay = None
saved NoWay (Way b) = Some NoWay
saved NoWay NoWay = Some NoWay

abbrev pub leg_code : Leg → ℕ
leg_code (Way a) = a.value + 2
leg_code NoWay = 1

abbrev pub leg_of : ℕ → Option Leg
leg_of zero = None
leg_of (suc zero) = Some NoWay
leg_of (suc (suc n)) = way n

abbrev pub no_way : Leg → Bool
no_way (Way a) = false
no_way NoWay = true

abbrev pub text : Leg → List ℕ
text (Way a) = decimal a.value
text NoWay = codes "no way"

abbrev pub legs : Arithmetic Leg
legs = record {
  number = 2;
  zero = NoWay;
  null = no_way;
  plus = λ x y. Some (cheaper x y);
  minus = λ x y. Some (unless x y);
  times = onward;
  over = saved;
  code = leg_code;
  decode = leg_of;
  blank = 0;
}
