use Rattle.std.proofs.Common.{◌-◌, take, sym, ap, ◌∙◌, arith}
use Rattle.std.proofs.lemmas.List.{drop_all}
use Rattle.indices.specs.Coordinates.{coordinates}
use Rattle.indices.proofs.Entries.{entries_length, rest_is}
use Rattle.indices.proofs.index.Index.rest.Goals as goal

pub returns-then-n-self : goal.returns-then-n-self
returns-then-n-self c =
    let i = c.args.self in
    c.empty.ensures ∙ sym (drop_all c.args.n (coordinates i) (omega (arith, entries_length i, c.if-n-self.true)))

pub returns : goal.returns
returns c =
    let i = c.args.self in
    ap (take (i.len - c.args.n)) c.copy_within.ensures.after ∙ rest_is i.coords c.args.n i.len (omega (arith, c.if-n-self.false)) (omega (arith, i.whole, i.small))
