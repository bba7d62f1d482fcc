use Rattle.std.proofs.Common.{◌<◌, length, arith}
use Rattle.std.proofs.lemmas.Grind.{common_steps}
use Rattle.shapes.specs.Shapes.{shapes_of}
use Rattle.shapes.proofs.Tables.{listed}
use Rattle.padding.proofs.vector_length.VectorLength.round_table.Goals as goal

pub returns-in_default : goal.returns-in_default
returns-in_default c =
    let ss = shapes_of c.args.table.now in let k = c.loop-k.k in
    let l : k < length ss = omega (arith, c.loop-k-test.true, c.shapes-shape-items.ensures.count) in
    let e = listed ss _ k _ c.shapes-shape-items.ensures.shapes c.loop-k-test.true c.shape-item.is in
    grind (arith, common_steps)

pub loop-k-preserved : goal.loop-k-preserved
loop-k-preserved c =
    let ss = shapes_of c.args.table.now in let k = c.loop-k.k in
    let l : k < length ss = omega (arith, c.loop-k-test.true, c.shapes-shape-items.ensures.count) in
    let e = listed ss _ k _ c.shapes-shape-items.ensures.shapes c.loop-k-test.true c.shape-item.is in
    grind (arith, common_steps)
