use Rattle.std.proofs.Common.{sym}
use Rattle.shapes.proofs.Tables.{shapes_length}
use Rattle.shapes.proofs.table.Table.len.Goals as goal

pub returns : goal.returns
returns c = sym (shapes_length c.args.self.now)
