use Rattle.std.proofs.Common.{◌-◌, length, take, Some, sym, ap, ◌∙◌, arith}
use Rattle.std.proofs.lemmas.Bool.{cond-true}
use Rattle.std.proofs.lemmas.List.Edits.{swap_is}
use Rattle.indices.specs.Dimensions.{two_of}
use Rattle.indices.specs.Coordinates.{coordinates}
use Rattle.indices.proofs.Entries.{entries_length, two_from, exchange_is}
use Rattle.indices.proofs.index.Index.exchanged.Goals as goal

pub returns : goal.returns
returns c =
    let i = c.args.self in let m = c.args.m in let n = c.args.n in
    let t = two_from m n (length (coordinates i)) c.if-m-lt1.false c.if-m-n.false (omega (arith, entries_length i, c.if-n-self.false)) in
    let s = c.swap.ensures.after ∙ sym (swap_is i.coords (m - 1) (n - 1) 0 (omega (arith, i.whole, i.small, c.if-m-n.false, c.if-n-self.false)) (omega (arith, i.whole, i.small, c.if-m-n.false, c.if-n-self.false))) in
    ap Some (ap (take i.len) s ∙ exchange_is i.coords i.len m n c.if-m-lt1.false c.if-m-n.false c.if-n-self.false) ∙ sym (cond-true (two_of m n (length (coordinates i))) _ _ t)
