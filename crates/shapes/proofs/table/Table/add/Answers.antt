use Rattle.std.proofs.Common.{ltb, length, sym, arith}
use Rattle.std.proofs.lemmas.Bool.{cond-true, lt-ltb}
use Rattle.shapes.specs.Shapes.{shapes_of}
use Rattle.shapes.proofs.Tables.{shapes_length, shapes_added}
use Rattle.shapes.proofs.table.Table.add.Goals as goal

pub returns : goal.returns
returns c =
    let t = c.args.self.now in
    record {
      answer = sym (cond-true (ltb (length (shapes_of t)) 16) _ _ (lt-ltb _ 16 (omega (arith, shapes_length t, c.if-k-ge16.false))));
      after = shapes_added t.shapes t.len c.args.shape (omega (arith, t.whole, c.if-k-ge16.false));
    }
