use Rattle.std.proofs.Common.{◌≡◌, ℕ, ◌+◌, ◌-◌, ◌*◌, ◌<◌, List, [], length, get_or, drop, sym, ap, ◌∙◌, arith, rules}
use Rattle.indices.specs.Places.{product}
use Rattle.refusals.specs.Refusals.{and_then}
use Rattle.shapes.specs.Shapes.{shapes_of, extents_of}
use Rattle.shapes.proofs.Extents.{proper_parts}
use Rattle.shapes.proofs.Tables.{listed}
use Rattle.images.specs.Bytes.{number_at}
use Rattle.images.specs.Layout.{offset, codes_from, codes_of}
use Rattle.images.proofs.Layouts.{inside_done, codes_more}
use Rattle.images.proofs.opening.check_codes.Goals as goal

-- where the offset of the next variable stands
stands : (bs : List ℕ) (k : ℕ) → number_at (8 * k + 4) 4 bs ≡ offset bs (k + 1)
stands bs k = let e : 8 * k + 4 ≡ 8 * (k + 1) - 4 = omega arith in ap (λ n. number_at n 4 bs) e

one : (bs : List ℕ) (k : ℕ) → offset bs (1 + k) ≡ offset bs (k + 1)
one bs k = let e : 1 + k ≡ k + 1 = omega arith in ap (offset bs) e

pub number32-at-requires : goal.number32-at-requires
number32-at-requires g c =
    let ss = shapes_of c.args.table.now in let k = c.loop-k.k in
    let l : k < length ss = omega arith in
    omega (arith, (inside_done c.args.bytes.now 1 (8 * length ss + 4) ss c.requires k l).0)

pub check_part-requires-clause-inside : goal.check_part-requires-clause-inside
check_part-requires-clause-inside g c =
    let ss = shapes_of c.args.table.now in let bs = c.args.bytes.now in let k = c.loop-k.k in
    let l : k < length ss = omega (arith, c.loop-k-test.true, c.shapes-shape-items.ensures.count) in
    let e = ap product (listed ss _ k _ c.shapes-shape-items.ensures.shapes c.loop-k-test.true c.shape-item.is) in
    let i = (inside_done bs 1 (8 * length ss + 4) ss c.requires k l).1 in
    omega (arith, i, e, c.size-cells.ensures, c.number32-at.ensures.value, stands bs k, one bs k)

-- what the cells of a variable's shape come to
pub returns-in_err-check_part : goal.returns-in_err-check_part
returns-in_err-check_part g c =
    let ss = shapes_of c.args.table.now in let bs = c.args.bytes.now in let k = c.loop-k.k in let a = g.K.Kind.algebra in
    let l : k < length ss = omega (arith, c.loop-k-test.true, c.shapes-shape-items.ensures.count) in
    let e = ap product (listed ss _ k _ c.shapes-shape-items.ensures.shapes c.loop-k-test.true c.shape-item.is) in
    let f = c.in_err-check_part.ensures ∙ ap (λ n. codes_of a bs n c.loop-k.first c.size-cells.result) (c.number32-at.ensures.value ∙ stands bs k)
    ∙ ap (codes_of a bs (offset bs (k + 1)) c.loop-k.first) (c.size-cells.ensures ∙ e) in
    let h = ap (λ t. and_then t (λ _. codes_from a bs (k + 1 + 1) (c.loop-k.first + product (get_or ss k [])) (drop (k + 1) ss))) f
    ∙ sym (codes_more a bs ss k c.loop-k.first l) ∙ c.loop-k.invariant.0 in search rules

pub loop-k-preserved : goal.loop-k-preserved
loop-k-preserved g c =
    let ss = shapes_of c.args.table.now in let bs = c.args.bytes.now in let k = c.loop-k.k in let a = g.K.Kind.algebra in
    let s = c.shape-item.result in
    let l : k < length ss = omega (arith, c.loop-k-test.true, c.shapes-shape-items.ensures.count) in
    let e = ap product (listed ss _ k _ c.shapes-shape-items.ensures.shapes c.loop-k-test.true c.shape-item.is) in
    let z = c.size-cells.ensures ∙ e in
    let f = c.in_ok-check_part.ensures ∙ ap (λ n. codes_of a bs n c.loop-k.first c.size-cells.result) (c.number32-at.ensures.value ∙ stands bs k)
    ∙ ap (codes_of a bs (offset bs (k + 1)) c.loop-k.first) z in (
      ap (λ n. codes_from a bs (k + 1 + 1) (c.loop-k.first + n) (drop (k + 1) ss)) z
          ∙ ap (λ t. and_then t (λ _. codes_from a bs (k + 1 + 1) (c.loop-k.first + product (get_or ss k [])) (drop (k + 1) ss))) f
          ∙ sym (codes_more a bs ss k c.loop-k.first l) ∙ c.loop-k.invariant.0,
      omega (arith, c.loop-k.invariant.1, c.size-cells.ensures, (proper_parts (extents_of s) s.sound).places),
    )
