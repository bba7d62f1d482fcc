-- What a number makes where it passes a test. Assumes nothing.
use Rattle.std.specs.Prelude.{◌≡◌, ℕ, Bool, true, false, Some, refl}
use Rattle.std.proofs.Common.{ap, arith}
use Rattle.std.proofs.Math.Bool.{Bool-set}
use Rattle.std.proofs.lemmas.Bool.{both_ways}
use Rattle.elements.specs.Ranges.{made_if, made}

module _ {A D : Type 0} (test : A → Bool) (make : (a : A) → test a ≡ true → D) where
  if_passed : (a : A) (b : Bool) (p : test a ≡ b) (q : test a ≡ true) → made_if test make a b p ≡ Some (make a q)
  if_passed a true p q = ap (λ t. Some (make a t)) (Bool-set (test a) true p q)
  if_passed a false p q = absurd (both_ways (test a) p q)

  pub made_passed : (a : A) (q : test a ≡ true) → made test make a ≡ Some (make a q)
  made_passed a q = if_passed a (test a) refl q

  -- a value came of the number that it was made of
  if_from : (a : A) (b : Bool) (p : test a ≡ b) (d : D) → made_if test make a b p ≡ Some d → (q : test a ≡ true) × (make a q ≡ d)
  if_from a true p d e = (p, cc)
  if_from a false p d e = absurd (let z : ◌≡◌ {A = ℕ} 0 1 = cc in omega arith)

  pub made_from : (a : A) (d : D) → made test make a ≡ Some d → (q : test a ≡ true) × (make a q ≡ d)
  made_from a d e = if_from a (test a) refl d e
