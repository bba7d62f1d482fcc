use Rattle.std.proofs.Common.{◌≡◌, ◌+◌, ◌-◌, length, take, subst, arith}
use Rattle.std.proofs.lemmas.List.{length-take-le}
use Rattle.sheets.specs.Writers.{Writer}
use Rattle.sheets.proofs.Writing.{moved, before}
use Rattle.sheets.proofs.checked.CheckedSheet.last_writer.Goals as goal

pub returns-clause-found : goal.returns-clause-found
returns-clause-found c =
    let w = c.args.self.now in let v = c.args.variable in let s = c.args.s in
    let n = w.statement_count in let xs = w.statements in
    let lm : length (take (s - 1) xs) ≡ s - 1 = length-take-le (s - 1) xs (omega (arith, w.statements_whole, w.few_statements, c.if-s-self.false)) in
    let l : length (take (s - 1) xs) + 1 ≡ s = omega (arith, lm, c.if-s-lt1.false) in
    moved (take (s - 1) xs) (take n xs) v s (λ j a b. before xs (s - 1) n j a (omega (arith, b)) (omega (arith, b, c.if-s-self.false))) c.last_before.result
    (subst (λ m. Writer (take (s - 1) xs) v m c.last_before.result) l c.last_before.ensures)
