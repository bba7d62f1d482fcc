-- Costs and legs by their number. Assumes nothing.
use Rattle.std.specs.Prelude.{◌≡◌, ℕ, zero, suc, ◌+◌, true, Some, None, Option, refl}
use Rattle.std.proofs.Common.{sym, ap, ◌∙◌, arith}
use Rattle.elements.specs.Ranges.{payable}
use Rattle.elements.specs.Legs.{cost, way_of, leg_of, leg_code}
use Rattle.elements.specs.declared.cost.Cost.{Cost}
use Rattle.elements.specs.declared.legs.Leg.{Leg}
use Rattle.elements.specs.declared.legs.Leg.TheVariants.{Way, NoWay}
use Rattle.elements.specs.Made.{made_passed, made_from}

abbrev make : (n : ℕ) → payable n ≡ true → Cost
make n p = record { value = n; ranged = p }

pub cost_is : (c : Cost) → cost c.value ≡ Some c
cost_is c = made_passed payable make c.value c.ranged

cost_value : (n : ℕ) (c : Cost) → cost n ≡ Some c → c.value ≡ n
cost_value n c e = ap (λ (d : Cost). d.value) (sym (made_from payable make n c e).1)

pub leg_of_code : (x : Leg) → leg_of (leg_code x) ≡ Some x
leg_of_code (Way c) = let e : c.value + 2 ≡ suc (suc c.value) = omega arith in ap leg_of e ∙ ap way_of (cost_is c)
leg_of_code NoWay = refl

way_code : (o : Option Cost) (n : ℕ) (x : Leg) → cost n ≡ o → way_of o ≡ Some x → leg_code x ≡ suc (suc n)
way_code (Some c) n x p e =
    let q : Way c ≡ x = cc in
    let f : c.value + 2 ≡ suc (suc n) = omega (arith, cost_value n c p) in
    ap leg_code (sym q) ∙ f
way_code None n x p e = absurd (let z : ◌≡◌ {A = ℕ} 0 1 = cc in omega arith)

pub code_of_leg : (c : ℕ) (x : Leg) → leg_of c ≡ Some x → leg_code x ≡ c
code_of_leg zero x e = absurd (let z : ◌≡◌ {A = ℕ} 0 1 = cc in omega arith)
code_of_leg (suc zero) x e = let p : NoWay ≡ x = cc in ap leg_code (sym p)
code_of_leg (suc (suc n)) x e = way_code (cost n) n x refl e
