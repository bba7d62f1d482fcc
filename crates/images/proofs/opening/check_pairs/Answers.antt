use Rattle.std.proofs.Common.{◌<◌, length, ◌∙◌, arith, rules}
use Rattle.shapes.specs.Shapes.{shapes_of}
use Rattle.shapes.proofs.Tables.{listed}
use Rattle.images.proofs.Layouts.{pair_found, pair_refused}
use Rattle.images.proofs.opening.check_pairs.Goals as goal

pub returns-in_err-end : goal.returns-in_err-end
returns-in_err-end c =
    let ss = shapes_of c.args.table.now in let k = c.loop-k.k in
    let l : k < length ss = omega (arith, c.loop-k-test.true, c.shapes-shape-items.ensures.count) in
    let s = listed ss _ k _ c.shapes-shape-items.ensures.shapes c.loop-k-test.true c.shape-item.is in
    let e = pair_refused c.args.bytes.now ss k c.loop-k.end l _ _ _ s c.in_err-end.ensures ∙ c.loop-k.invariant in search rules

pub loop-k-preserved : goal.loop-k-preserved
loop-k-preserved c =
    let ss = shapes_of c.args.table.now in let k = c.loop-k.k in
    let l : k < length ss = omega (arith, c.loop-k-test.true, c.shapes-shape-items.ensures.count) in
    let s = listed ss _ k _ c.shapes-shape-items.ensures.shapes c.loop-k-test.true c.shape-item.is in
    pair_found c.args.bytes.now ss k c.loop-k.end l _ _ s c.in_ok-end.ensures ∙ c.loop-k.invariant
