use Rattle.std.proofs.Common.{◌+◌, take, set, ap, ◌∙◌, arith}
use Rattle.indices.proofs.Entries.{inserted_is}
use Rattle.indices.proofs.index.Index.insert.Goals as goal

pub returns-clause-value : goal.returns-clause-value
returns-clause-value c =
    let i = c.args.self in
    ap (λ t. take (i.len + 1) (set t c.args.p c.args.x)) c.copy_within.ensures.after ∙ inserted_is i.coords c.args.p c.args.x i.len c.requires.0 (omega (arith, i.whole, c.requires.1))
