use Rattle.std.proofs.Common.{◌≡◌, ℕ, zero, suc, ◌-◌, ap, refl, sym, ◌∙◌, arith}
use Rattle.elements.specs.Legs.{leg_of, way}
use Rattle.elements.proofs.legs.LegQuantity.decode.Goals as goal

past_two : (c : ℕ) → (c ≡ 0 → ⊥) → (c ≡ 1 → ⊥) → leg_of c ≡ way (c - 2)
past_two zero h k = absurd (h refl)
past_two (suc zero) h k = absurd (k refl)
past_two (suc (suc n)) h k = let e : n ≡ suc (suc n) - 2 = omega arith in ap way e

pub returns-in_default : goal.returns-in_default
returns-in_default c = c.of.ensures ∙ sym (past_two c.args.code (λ h. omega arith) (λ h. omega arith))
