use Rattle.std.proofs.Common.{◌≡◌, length, ◌∙◌, arith}
use Rattle.stores.proofs.Compared.{differs_at, differs_not, difference_is}
use Rattle.stores.proofs.matching.difference.Goals as goal

pub overflow_add-result : goal.overflow_add-result
overflow_add-result g c =
    let ss = c.shapes.result.now in let ts = c.shapes-2.result.now in
    let l : length ss ≡ length ts = omega (arith, c.shapes.ensures.count, c.shapes-2.ensures.count, c.len.ensures, c.len-2.ensures, c.if-len.false) in
    omega (arith, (differs_at ss ts l c.in-Some.k c.in-Some.ensures).1, c.shapes.ensures.few)

pub returns-in-Some : goal.returns-in-Some
returns-in-Some g c =
    let ss = c.shapes.result.now in let ts = c.shapes-2.result.now in
    let l : length ss ≡ length ts = omega (arith, c.shapes.ensures.count, c.shapes-2.ensures.count, c.len.ensures, c.len-2.ensures, c.if-len.false) in
    difference_is ss ts l _ _ _ c.shapes.ensures.shapes (c.shapes-2.ensures.shapes ∙ c.table-own.ensures) (differs_at ss ts l c.in-Some.k c.in-Some.ensures).0

pub returns-in-None : goal.returns-in-None
returns-in-None g c =
    let ss = c.shapes.result.now in let ts = c.shapes-2.result.now in
    let l : length ss ≡ length ts = omega (arith, c.shapes.ensures.count, c.shapes-2.ensures.count, c.len.ensures, c.len-2.ensures, c.if-len.false) in
    difference_is ss ts l _ _ _ c.shapes.ensures.shapes (c.shapes-2.ensures.shapes ∙ c.table-own.ensures) (differs_not ss ts l c.in-None.ensures)
