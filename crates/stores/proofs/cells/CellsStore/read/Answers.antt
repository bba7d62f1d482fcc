use Rattle.std.proofs.Common.{◌<◌, length, get_or, vec_items, sym, ap, ◌∙◌, arith}
use Rattle.std.proofs.lemmas.List.{get_or_read}
use Rattle.refusals.specs.Refusals.{done, and_then}
use Rattle.shapes.specs.Shapes.{shapes_of}
use Rattle.stores.specs.Flat.{flat_read, placed_lt}
use Rattle.stores.proofs.cells.CellsStore.read.Goals as goal

pub index-requires : goal.index-requires
index-requires g c = let s = c.args.self.now in placed_lt (shapes_of s.table) _ _ _ _ c.in_ok-k.ensures s.holds

pub returns : goal.returns
returns g c =
    let s = c.args.self.now in let ss = shapes_of s.table in let i = c.args.index.now in
    let xs = vec_items s.elements in let k = c.in_ok-k.k in let a = g.K.Kind.algebra in
    let l : k < length xs = omega (arith, placed_lt ss _ _ _ _ c.in_ok-k.ensures s.holds, s.elements.ok.0) in
    let e = ap done (get_or_read xs k c.index.result.now l c.index.ensures a.zero)
    ∙ ap (λ t. and_then t (λ n. done (get_or xs n a.zero))) c.in_ok-k.ensures in
    record { answer = e ∙ sym (flat_read a ss xs c.args.v i); element = e }
