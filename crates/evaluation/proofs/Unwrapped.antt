-- Options and answers that hold a value: that it is there, and which it is. Assumes nothing.
use Rattle.std.proofs.Common.{◌≡◌, Bool, true, cond, Some, None, Option, Ok, Err, Result, IsSome, IsOk, sym, refl, ap, ◌∙◌}
use Rattle.std.proofs.lemmas.Bool.{both_ways}
use Rattle.std.specs.Option.{option_map}
use Rattle.std.specs.Result.{result_ok}
use Rattle.refusals.specs.declared.refusal.Refusal.{Refusal}
use Rattle.refusals.specs.Refusals.{Answer, answered, done}
use Rattle.shapes.proofs.Asked.{some_since, none_since, done_same, never_refused}

module _ {X Y : Type 0} (f : X → Y) (b : Bool) (y : Y) where
  pub some_there : (r : Option X) → option_map f r ≡ cond b (Some y) None → b ≡ true → IsSome r
  some_there (Some x) e h = refl
  some_there None e h = absurd (both_ways b (none_since b y e) h)

  pub some_value : (r : Option X) (x : X) → option_map f r ≡ cond b (Some y) None → r ≡ Some x → f x ≡ y
  some_value r x e is = (some_since b (f x) y (ap (option_map f) (sym is) ∙ e)).1

module _ {X : Type 0} {a : Answer X} {y : X} where
  pub answer_there : (r : Result X Refusal) → answered r ≡ a → a ≡ done y → IsOk r
  answer_there (Ok x) e h = refl
  answer_there (Err x) e h = never_refused _ _ a y e h

  pub answer_value : {r : Result X Refusal} {x : X} → answered r ≡ a → a ≡ done y → r ≡ Ok x → x ≡ y
  answer_value {x = x} e h is = done_same x y a (ap answered (sym is) ∙ e) h

  pub told_none : {R : Type 0} (r : Result X Refusal) → answered r ≡ a → None ≡ result_ok r → a ≡ done y → R
  told_none (Ok x) e h q = cc
  told_none (Err m) e h q = never_refused _ _ a y e q

module _ {X : Type 0} {a : Answer X} where
  pub told_value : (r : Result X Refusal) {x : X} → answered r ≡ a → Some x ≡ result_ok r → done x ≡ a
  told_value (Ok y) e h = cc
  told_value (Err m) e h = cc
