-- The arithmetics of metres and of legs are sound, and what is made of a sound one is a lawful kind. Assumes nothing.
--   metres_sound     of metres
--   legs_sound       of legs
--   algebra_lawful   the laws of every kind
--   algebra_strict   the rule of undefined operands
use Rattle.std.specs.Prelude.{◌≡◌, ◌-ℤ◌, pos, Some, Decides, ◌≢◌, refl}
use Rattle.std.proofs.Common.{sym, ap, arith, rules}
use Rattle.std.proofs.Math.IntN.{+ℤ_idr}
use Rattle.std.proofs.lemmas.Bool.{false≢true}
use Rattle.elements.specs.Algebra.{Laws, Strict}
use Rattle.elements.specs.Arithmetic.{Arithmetic, Sound}
use Rattle.elements.specs.Elements.{algebra_of}
use Rattle.elements.specs.Legs.{legs, no_way, cheaper, leg_code}
use Rattle.elements.specs.Metres.{metres}
use Rattle.elements.specs.Ranges.{nought}
use Rattle.elements.specs.declared.distance.Distance.{Distance}
use Rattle.elements.specs.declared.legs.Leg.{Leg}
use Rattle.elements.specs.declared.legs.Leg.TheVariants.{Way, NoWay}
use Rattle.elements.specs.Costs.{leg_of_code, code_of_leg}
use Rattle.elements.specs.Distances.{distance_is, distance_metres, same_metres, nought_zero, code_number, number_code}

zero_found : (x : Leg) → Decides (no_way x) (x ≡ NoWay)
zero_found (Way c) = (λ h. absurd (false≢true h), λ e. ap no_way e)
zero_found NoWay = (λ _. refl, λ _. refl)

beside_none : (x : Leg) → Some (cheaper x NoWay) ≡ Some x
beside_none (Way c) = refl
beside_none NoWay = refl

apart : (x : Leg) → leg_code x ≢ 0
apart (Way c) e = omega arith
apart NoWay e = omega arith

pub legs_sound : Sound legs
legs_sound = record {
  null_zero = zero_found;
  plus_zero = beside_none;
  zero_minus_zero = refl;
  decode_code = leg_of_code;
  code_decode = code_of_leg;
  blank_apart = apart;
}

pub metres_sound : Sound metres
metres_sound = record {
  null_zero = λ x. (λ h. same_metres x metres.zero (nought_zero x.metres h), λ e. ap (λ (d : Distance). nought d.metres) e);
  plus_zero = λ x. distance_is _ x (sym (+ℤ_idr x.metres));
  zero_minus_zero = refl;
  decode_code = λ x. distance_is _ x (sym (code_number x.metres x.ranged).0);
  code_decode = λ c x e. number_code c x.metres (distance_metres (pos c -ℤ pos 2147483648) x e);
  blank_apart = λ x e. omega (arith, e, (code_number x.metres x.ranged).1);
}

pub algebra_lawful : {D : Type 0} (a : Arithmetic D) → Sound a → Laws (algebra_of a)
algebra_lawful a s = search rules

pub algebra_strict : {D : Type 0} (a : Arithmetic D) → Sound a → Strict (algebra_of a)
algebra_strict a s = search rules
