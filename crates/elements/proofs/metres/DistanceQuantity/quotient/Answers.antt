use Rattle.std.proofs.Common.{◌≡◌, sym, ◌∙◌}
use lib.Signed.{quot_z}
use Rattle.std.proofs.lemmas.Bool.{cond-false}
use Rattle.elements.specs.Metres.{metres}
use Rattle.elements.specs.Distances.{worked_out, quotient_fits}
use Rattle.elements.proofs.Quotients.{quotient_truncated}
use Rattle.elements.proofs.metres.DistanceQuantity.quotient.Goals as goal

pub returns : goal.returns
returns c =
    let x = c.args.self in let y = c.args.other in
    let h : c.of.result ≡ metres.over x y =
    worked_out quot_z _ _ x y c.wide.ensures c.wide-2.ensures _ (quotient_fits x y) c.of.ensures
    ∙ sym (cond-false _ _ _ (sym c.if-is_zero.ensures)) in
    record { value = h; truncated = quotient_truncated x y _ h }
