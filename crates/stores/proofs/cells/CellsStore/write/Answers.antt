use Rattle.std.proofs.Common.{◌≤◌, true, length, set, vec_items, sym, subst, arith}
use Rattle.indices.specs.Places.{total}
use Rattle.shapes.specs.Shapes.{shapes_of}
use Rattle.shapes.proofs.Tables.{placed}
use Rattle.stores.specs.Cells.{flat}
use Rattle.stores.specs.Meaning.{Written}
use Rattle.stores.specs.Flat.{flat_written, placed_lt}
use Rattle.stores.proofs.cells.CellsStore.write.Goals as goal

pub index_mut-requires : goal.index_mut-requires
index_mut-requires g c = let s = c.args.self.now in placed_lt (shapes_of s.table) _ _ _ _ c.in_ok-at.ensures s.holds

pub returns-clause-written : goal.returns-clause-written
returns-clause-written g c =
    let s = c.args.self.now in let ss = shapes_of s.table in let i = c.args.index.now in
    let v = c.args.v in let x = c.args.x in
    let xs = vec_items s.elements in let k = c.in_ok-at.at in let a = g.K.Kind.algebra in
    let p = placed ss v i k c.in_ok-at.ensures in
    let f : total ss ≤ length xs = omega (arith, s.holds, s.elements.ok.0) in
    subst (λ n. Written true (flat a.zero ss xs) v i x (flat a.zero ss (set xs n x))) (sym p.number) (flat_written a ss xs v i x p.known p.inside f)
