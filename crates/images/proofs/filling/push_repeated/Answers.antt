use Rattle.std.proofs.Common.{◌+◌, ◌-◌, ◌++◌, sym, ap, ◌∙◌}
use Rattle.std.proofs.lemmas.List.{append_assoc}
use Rattle.images.specs.Filled.{repeated}
use Rattle.images.proofs.Parts.{repeated_more}
use Rattle.images.proofs.filling.push_repeated.Goals as goal

pub loop-preserved : goal.loop-preserved
loop-preserved c =
    let bs = c.args.part.now in let n = c.args.times in let k = c.loop.counter in
    ap (λ t. t ++ repeated (n - (k + 1)) bs) c.in_ok-extend_from_slice.ensures.items
    ∙ append_assoc c.loop.image.items bs (repeated (n - (k + 1)) bs)
    ∙ ap (λ t. c.loop.image.items ++ t) (sym (repeated_more bs n k c.loop-test.true)) ∙ c.loop.invariant
