use Rattle.std.proofs.Common.{◌≡◌, ℤ, pos, ◌-ℤ◌, Ok, Err, Some, Result, ap, ◌∙◌, arith, w64, to_z, of_z}
use Rattle.std.specs.Result.{OkIff, result_ok}
use Rattle.std.proofs.lemmas.Int.{ints}
use Rattle.elements.specs.Metres.{distance}
use Rattle.elements.proofs.metres.DistanceQuantity.decode.Goals as goal

converted : {E : Type 0} (r : Result ℤ E) (P : Type 0) (z w : ℤ) → OkIff r P z → Some w ≡ result_ok r → P × (w ≡ z)
converted (Ok x) P z w h e = let f : w ≡ x = cc in (h.0, f ∙ h.1)
converted (Err d) P z w h e = absurd (cc)

pub returns : goal.returns
returns c =
    let e = converted _ _ _ _ c.try_from.ensures c.in_ok-ok.ensures.value in
    let f : to_z w64 (of_z w64 (to_z w64 (of_z w64 c.in_ok-ok.field-0) -ℤ pos 2147483648)) ≡ pos c.args.code -ℤ pos 2147483648 = omega (arith, ints, e.0, e.1) in
    c.of.ensures ∙ ap distance f
