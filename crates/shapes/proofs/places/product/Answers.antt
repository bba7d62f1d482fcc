use Rattle.std.proofs.Common.{◌+◌, get_or, arith}
use Rattle.shapes.proofs.Numbering.{count_more, count_all}
use Rattle.shapes.proofs.Extents.{each_at, power_more, power_four}
use Rattle.shapes.proofs.places.product.Goals as goal

pub overflow_mul-n : goal.overflow_mul-n
overflow_mul-n c =
    let es = c.args.es.now in let d = c.loop-e.e-index in
    let p = power_more c.loop-e.n (get_or es d 0) d c.loop-e.invariant.1 (each_at es d c.requires.0 c.loop-e-test.true).1 in
    omega (arith, p, power_four (d + 1) (omega (arith, c.requires.1, c.loop-e-test.true)))

pub loop-e-preserved : goal.loop-e-preserved
loop-e-preserved c =
    let es = c.args.es.now in let d = c.loop-e.e-index in (
      count_more es d c.loop-e.n c.loop-e-test.true c.loop-e.invariant.0,
      power_more c.loop-e.n (get_or es d 0) d c.loop-e.invariant.1 (each_at es d c.requires.0 c.loop-e-test.true).1,
    )

pub returns : goal.returns
returns c = count_all c.args.es.now c.loop-e.e-index c.loop-e.n c.loop-e-test.false c.loop-e.invariant.0
