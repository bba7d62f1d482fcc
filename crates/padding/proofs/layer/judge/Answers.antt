use Rattle.std.proofs.Common.{◌≡◌, sym, ap, ◌∙◌}
use Rattle.shapes.specs.Shapes.{shapes_of}
use Rattle.shapes.proofs.Asked.{done_since}
use Rattle.stores.proofs.Compared.{difference_none}
use Rattle.padding.specs.Rounding.{all_rounded}
use Rattle.padding.specs.Rounded.{rounding_since}
use Rattle.padding.proofs.layer.judge.Goals as goal

pub returns-in-Ok-clause-wide : goal.returns-in-Ok-clause-wide
returns-in-Ok-clause-wide g c =
    let below = (g.S.Store.meaning c.args.below.now).shapes in let m = c.in_ok-length.length.count in
    let ss = shapes_of c.in_ok-table.table in let rs = shapes_of c.in_ok-wide.wide in
    let n : m ≡ c.args.m = (done_since _ _ _ _ _ c.in_ok-length.ensures).1 in
    (n, sym (difference_none rs below c.in-Ok.ensures) ∙ rounding_since rs m ss c.in_ok-wide.ensures ∙ ap (λ t. all_rounded t ss) n)
