use Rattle.std.proofs.Common.{◌≡◌, ℕ, ◌+◌, ◌/◌, ◌%◌, ◌++◌, get_or, take, drop, set, sym, ap, ◌∙◌, subst, arith, length-set}
use native.Mathlib.Nat.{mod-le}
use Rattle.indices.specs.Places.{product, unplace}
use Rattle.shapes.proofs.Extents.{each_solid}
use Rattle.shapes.proofs.Numbering.{block_more, block_pos, index_more}
use Rattle.shapes.proofs.places.index_of.Goals as goal

pub nonzero_div-coords : goal.nonzero_div-coords
nonzero_div-coords c =
    let es = c.args.es.now in let d = c.loop-d.d in let s = each_solid es c.requires.sound in
    rw (c.loop-d.invariant.0, block_more es s d c.loop-d-test.true) (block_pos es s (d + 1))

pub nonzero_rem-left : goal.nonzero_rem-left
nonzero_rem-left c =
    let es = c.args.es.now in let d = c.loop-d.d in let s = each_solid es c.requires.sound in
    rw (c.loop-d.invariant.0, block_more es s d c.loop-d-test.true) (block_pos es s (d + 1))

pub loop-d-preserved : goal.loop-d-preserved
loop-d-preserved c =
    let es = c.args.es.now in let d = c.loop-d.d in let out = c.loop-d.coords in let n = c.loop-d.left in
    let s = each_solid es c.requires.sound in
    let b : c.loop-d.block / get_or es d 0 ≡ product (drop (d + 1) es)
    = ap (λ t. t / get_or es d 0) c.loop-d.invariant.0 ∙ block_more es s d c.loop-d-test.true in
    let q = index_more es s d n out (unplace es c.args.number) c.loop-d-test.true (omega (arith, c.requires.rank, c.loop-d.invariant.2)) c.loop-d.invariant.3 in
    let P : ℕ → Type 0 = λ t. take (d + 1) (set out d (n / t + 1)) ++ unplace (drop (d + 1) es) (n % t) ≡ unplace es c.args.number in
    (b, omega (arith, mod-le n (c.loop-d.block / get_or es d 0)), simp length-set c.loop-d.invariant.2, subst P (sym b) q)
