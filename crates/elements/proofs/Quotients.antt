-- A quotient of distances, in plain words. Assumes nothing.
use Rattle.std.proofs.Common.{◌≡◌, ℕ, zero, suc, ◌+◌, ◌*◌, ◌/◌, ◌<◌, ◌≤◌, true, false, ℤ, pos, negsuc, ◌*ℤ◌, neg_ℤ, nat_abs, ◌≤ℤ◌, None, Option, sym, refl, subst, add-mul, div-le_self, div-mul-le_self, arith, MatchOption}
use native.Mathlib.Nat.{lt-div-mul-add}
use lib.Signed.{quot_z}
use Rattle.std.proofs.lemmas.Int.{ints}
use Rattle.std.proofs.lemmas.Bool.{cond_both, eqb-false}
use Rattle.elements.specs.Ranges.{measurable, nought}
use Rattle.elements.specs.Metres.{distance, metres, Truncated}
use Rattle.elements.specs.declared.distance.Distance.{Distance}
use Rattle.elements.specs.Distances.{distance_is, nought_zero, size_measurable, measurable_size}
use Rattle.elements.specs.Sizes.{size_quotient}

size_divisor : (w : ℤ) → nought w ≡ false → 0 < nat_abs w
size_divisor (pos n) h = omega (arith, eqb-false n 0 h)
size_divisor (negsuc n) h = omega arith

both_positive : (m n : ℕ) → pos 0 ≤ℤ (pos m *ℤ pos n)
both_positive m n = omega (arith, ints)

both_negative : (m n : ℕ) → pos 0 ≤ℤ (neg_ℤ (pos m) *ℤ neg_ℤ (pos n))
both_negative zero n = omega (arith, ints)
both_negative (suc m) zero = omega (arith, ints)
both_negative (suc m) (suc n) = omega (arith, ints)

signed : (z w : ℤ) → pos 0 ≤ℤ (quot_z z w *ℤ (z *ℤ w))
signed (pos a) (pos b) = both_positive (a / b) (a * b)
signed (pos a) (negsuc b) = both_negative (a / suc b) (a * suc b)
signed (negsuc a) (pos b) = both_negative (suc a / b) (suc a * b)
signed (negsuc a) (negsuc b) = both_positive (suc a / suc b) (suc a * suc b)

truncates : (z w : ℤ) → nought w ≡ false → Truncated z w (quot_z z w)
truncates z w h =
    let e = sym (size_quotient z w) in
    let below : nat_abs z < (nat_abs z / nat_abs w + 1) * nat_abs w = simp add-mul (omega (arith, lt-div-mul-add {a = nat_abs z} (size_divisor w h))) in
    record {
      within = subst (λ k. k * nat_abs w ≤ nat_abs z) e (div-mul-le_self (nat_abs z) (nat_abs w));
      nearest = subst (λ k. nat_abs z < (k + 1) * nat_abs w) e below;
      sign = signed z w;
    }

quotient_measurable : (z w : ℤ) → measurable z ≡ true → measurable (quot_z z w) ≡ true
quotient_measurable z w h =
    size_measurable (quot_z z w) (omega (arith, size_quotient z w, div-le_self (nat_abs z) (nat_abs w), measurable_size z h))

module _ (x y : Distance) where
  abbrev Meant : Option Distance → Type 0
  Meant r = MatchOption r (y.metres ≡ pos 0) (λ q. Truncated x.metres y.metres q.metres)

  worked : nought y.metres ≡ false → Meant (distance (quot_z x.metres y.metres))
  worked h =
      let q : Distance = record { metres = quot_z x.metres y.metres; ranged = quotient_measurable x.metres y.metres x.ranged } in
      subst Meant (sym (distance_is q.metres q refl)) (truncates x.metres y.metres h)

  pub quotient_truncated : (r : Option Distance) → r ≡ metres.over x y → Meant r
  quotient_truncated r e = subst Meant (sym e) (cond_both (nought y.metres) None (distance (quot_z x.metres y.metres)) Meant (nought_zero y.metres) worked)
