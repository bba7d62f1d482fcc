use Rattle.std.proofs.Common.{vec_items, arith, rules}
use Rattle.shapes.specs.Shapes.{shapes_of}
use Rattle.images.specs.Cells.{found_room, image_unread}
use Rattle.images.proofs.image.ImageStore.read.Goals as goal

pub number64-code-requires : goal.number64-code-requires
number64-code-requires g c =
    let s = c.args.self.now in
    omega (arith, found_room g.K.Kind.algebra (shapes_of s.table) (vec_items s.bytes) s.laid c.args.v c.args.index.now c.in_ok-at.at c.in_ok-at.ensures, c.as_slice.ensures.len, s.bytes.ok.0)

pub returns-in_err-at : goal.returns-in_err-at
returns-in_err-at g c =
    let s = c.args.self.now in
    let e = image_unread g.K.Kind.algebra (shapes_of s.table) (vec_items s.bytes) c.args.v c.args.index.now _ _ c.in_err-at.ensures in search rules
