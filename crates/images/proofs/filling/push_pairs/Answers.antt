use Rattle.std.proofs.Common.{◌<◌, ◌++◌, length, ap, ◌∙◌, arith}
use Rattle.indices.specs.Places.{product}
use Rattle.shapes.specs.Shapes.{shapes_of, extents_of}
use Rattle.shapes.proofs.Extents.{proper_parts}
use Rattle.shapes.proofs.Tables.{listed}
use Rattle.images.proofs.Parts.{pair_pushed}
use Rattle.images.proofs.filling.push_pairs.Goals as goal

pub overflow_add-offset-in-loop-shape : goal.overflow_add-offset-in-loop-shape
overflow_add-offset-in-loop-shape c =
    let s = c.shape-item.result in
    omega (arith, c.loop-shape.invariant.1, c.size-size.ensures, (proper_parts (extents_of s) s.sound).places, c.loop-shape-test.true, c.shapes-shape-items.ensures.few)

pub loop-shape-preserved : goal.loop-shape-preserved
loop-shape-preserved c =
    let ss = shapes_of c.args.table.now in let k = c.loop-shape.shape-index in let s = c.shape-item.result in
    let l : k < length ss = omega (arith, c.loop-shape-test.true, c.shapes-shape-items.ensures.count) in
    let e = listed ss _ k _ c.shapes-shape-items.ensures.shapes c.loop-shape-test.true c.shape-item.is in
    let n = c.size-size.ensures ∙ ap product e in (
      pair_pushed c.loop-shape.image.items _ _ ss c.loop-shape.offset k c.size-size.result l n
          (c.in_ok-extend_from_slice.ensures.items ∙ ap (λ t. c.loop-shape.image.items ++ t) c.to_be_bytes.ensures)
          (c.in_ok-extend_from_slice-2.ensures.items ∙ ap (λ t. c.extend_from_slice.new.self.items ++ t) c.to_be_bytes-in-loop-shape.ensures)
          ∙ c.loop-shape.invariant.0,
      omega (arith, c.loop-shape.invariant.1, c.size-size.ensures, (proper_parts (extents_of s) s.sound).places),
    )
