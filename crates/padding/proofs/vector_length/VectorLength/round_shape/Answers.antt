use Rattle.std.proofs.Common.{[], ◌∷◌, length, refl}
use Rattle.padding.specs.Rounded.{zeros_drop}
use Rattle.padding.proofs.vector_length.VectorLength.round_shape.Goals as goal

pub loop-d-init : goal.loop-d-init
loop-d-init c = (refl, refl, zeros_drop (0 ∷ 0 ∷ 0 ∷ 0 ∷ []) (length c.extents-es.result.now) refl)
