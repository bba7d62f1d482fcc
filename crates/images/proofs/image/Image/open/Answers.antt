use Rattle.std.proofs.Common.{vec_items, ap, ◌∙◌}
use Rattle.shapes.specs.Shapes.{shapes_of}
use Rattle.images.specs.Image.{image_answer}
use Rattle.images.proofs.Layouts.{opened_laid}
use Rattle.images.proofs.image.Image.open.Goals as goal

pub invariant_of-result : goal.invariant_of-result
invariant_of-result g c =
    let a = g.K.Kind.algebra in let ds = c.args.declared.now in
    record { laid = opened_laid a ds (vec_items c.args.bytes) (shapes_of c.in-Ok.table) (c.in-Ok.ensures ∙ ap (image_answer a ds) c.as_slice.ensures.value) }
