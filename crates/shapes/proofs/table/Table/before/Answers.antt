use Rattle.std.proofs.Common.{◌<◌, ap, ◌∙◌, arith}
use Rattle.std.proofs.lemmas.List.{get_or-take, length-take}
use Rattle.indices.specs.Places.{product}
use Rattle.shapes.specs.Shapes.{shapes_of, extents_of}
use Rattle.shapes.proofs.Extents.{proper_parts}
use Rattle.shapes.proofs.Tables.{shapes_length, shapes_at, total_more}
use Rattle.shapes.proofs.table.Table.before.Goals as goal

pub loop-shape-preserved : goal.loop-shape-preserved
loop-shape-preserved c =
    let t = c.args.self.now in let k = c.loop-shape.shape-index in let s = c.shape-item.result in
    let l : k < c.args.n = omega (arith, c.loop-shape-test.true, length-take c.args.n t.shapes) in
    let g = c.shape-item.is ∙ get_or-take c.args.n t.shapes k s l in
    let a = ap product (shapes_at t k s (omega (arith, l, c.requires)) g) in
    let m = total_more (shapes_of t) k (omega (arith, shapes_length t, l, c.requires)) in
    let q = c.size-sum.ensures in
    let f = (proper_parts (extents_of s) s.sound).places in
    let i = c.loop-shape.invariant in
    (omega arith, omega arith)
