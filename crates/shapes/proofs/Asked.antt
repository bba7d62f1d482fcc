-- What an answer tells of the question behind it. Assumes nothing.
use Rattle.std.proofs.Common.{◌≡◌, ℕ, Bool, true, false, cond, Some, None, Option, refl, arith}
use Rattle.refusals.specs.Refusals.{Answer, done, refused}

module _ {X : Type 0} where
  -- a yes was answered with a value
  pub some_since : (b : Bool) (x y : X) → Some x ≡ cond b (Some y) None → (b ≡ true) × (x ≡ y)
  some_since true x y e = (refl, cc)
  some_since false x y e = absurd (let z : ◌≡◌ {A = ℕ} 0 1 = cc in omega arith)

  pub none_since : (b : Bool) (y : X) → ◌≡◌ {A = Option X} None (cond b (Some y) None) → b ≡ false
  none_since true y e = absurd (let z : ◌≡◌ {A = ℕ} 0 1 = cc in omega arith)
  none_since false y e = refl

  pub done_since : (b : Bool) (x y : X) (n p : ℕ) → done x ≡ cond b (done y) (refused n p) → (b ≡ true) × (x ≡ y)
  done_since true x y n p e = (refl, cc)
  done_since false x y n p e = absurd (let z : ◌≡◌ {A = ℕ} 0 1 = cc in omega arith)

  pub refused_since : (b : Bool) (y : X) (n p m q : ℕ) → ◌≡◌ {A = Answer X} (refused m q) (cond b (done y) (refused n p)) → (b ≡ false) × (◌≡◌ {A = Answer X} (refused m q) (refused n p))
  refused_since true y n p m q e = absurd (let z : ◌≡◌ {A = ℕ} 0 1 = cc in omega arith)
  refused_since false y n p m q e = (refl, e)

  -- what is answered is not refused
  pub never_refused : {R : Type 0} (n p : ℕ) (a : Answer X) (x : X) → refused n p ≡ a → a ≡ done x → R
  never_refused n p a x e f = absurd (let z : ◌≡◌ {A = ℕ} 0 1 = cc in omega arith)

  pub done_same : (x y : X) (a : Answer X) → done x ≡ a → a ≡ done y → x ≡ y
  done_same x y a e f = cc
