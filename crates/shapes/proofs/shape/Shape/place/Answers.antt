use Rattle.std.proofs.Common.{◌≡◌, true, sym, ap, ◌∙◌, arith}
use Rattle.indices.specs.Places.{within, place}
use Rattle.shapes.specs.Shapes.{extents_of}
use Rattle.shapes.proofs.Extents.{proper_parts}
use Rattle.shapes.proofs.Numbering.{place_lt}
use Rattle.shapes.proofs.shape.Shape.place.Goals as goal

pub returns-then-contains-clause-bound : goal.returns-then-contains-clause-bound
returns-then-contains-clause-bound c =
    let s = c.args.self.now in let i = c.args.index.now in
    let w : within (extents_of s) i ≡ true = ap (λ es. within es i) (sym c.extents-es.ensures) ∙ sym c.if-contains.ensures in
    let e : c.number.result ≡ place (extents_of s) i = c.number.ensures ∙ ap (λ es. place es i) c.extents-es.ensures in
    omega (arith, e, place_lt (extents_of s) i w, (proper_parts (extents_of s) s.sound).places)
