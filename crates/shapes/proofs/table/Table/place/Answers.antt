use Rattle.std.proofs.Common.{length, arith}
use Rattle.indices.specs.Places.{has, pick, within, place}
use Rattle.shapes.specs.Shapes.{shapes_of, extents_of}
use Rattle.shapes.proofs.Asked.{some_since, done_since}
use Rattle.shapes.proofs.Extents.{proper_parts}
use Rattle.shapes.proofs.Numbering.{place_lt}
use Rattle.shapes.proofs.Tables.{shapes_length, counted_parts}
use Rattle.shapes.proofs.table.Table.place.Goals as goal

pub before-requires : goal.before-requires
before-requires c =
    let ss = shapes_of c.args.self.now in
    let p = done_since (has ss c.args.v) _ (pick ss c.args.v) 1 0 c.in_ok-shape.ensures in
    omega (arith, counted_parts (length ss) c.args.v p.0, shapes_length c.args.self.now)

pub overflow_add-result : goal.overflow_add-result
overflow_add-result c =
    let t = c.args.self.now in let ss = shapes_of t in
    let s = c.in_ok-shape.field-0 in
    let p = done_since (has ss c.args.v) _ (pick ss c.args.v) 1 0 c.in_ok-shape.ensures in
    let q = some_since (within (extents_of s) c.args.index.now) _ (place (extents_of s) c.args.index.now) c.in-Some.ensures.value in
    let l = place_lt (extents_of s) c.args.index.now q.0 in
    let f = (proper_parts (extents_of s) s.sound).places in
    let b = counted_parts (length ss) c.args.v p.0 in
    let m = c.before-in-Some.ensures.few in
    let e = q.1 in
    let n = shapes_length t in
    let k = t.few in
    omega arith
