use Rattle.std.proofs.Common.{take, ap, ◌∙◌, arith}
use Rattle.indices.proofs.Entries.{entries_length, removed_is}
use Rattle.indices.proofs.index.Index.remove.Goals as goal

pub returns-clause-value : goal.returns-clause-value
returns-clause-value c =
    let i = c.args.self in
    ap (take _) c.copy_within.ensures.after ∙ removed_is i.coords c.args.p i.len (omega (arith, c.requires, entries_length i)) (omega (arith, i.whole, i.small))
