use Rattle.std.proofs.Common.{◌≡◌, ◌^◌, ◌<◌, length, vec_items, sym, ap, ◌∙◌, arith, rules}
use Rattle.std.proofs.lemmas.List.{with_items_is}
use Rattle.shapes.specs.Shapes.{shapes_of}
use Rattle.images.specs.Bytes.{bytes, patched}
use Rattle.images.specs.Cells.{image_unwritten, found_room, put_laid, put_written}
use Rattle.images.specs.Patches.{length_patched}
use Rattle.images.proofs.image.ImageStore.write.Goals as goal

pub returns-in_err-at-clause-answer : goal.returns-in_err-at-clause-answer
returns-in_err-at-clause-answer g c =
    let s = c.args.self.now in
    let e = image_unwritten g.K.Kind.algebra (shapes_of s.table) (vec_items s.bytes) c.args.v c.args.index.now c.args.x _ _ c.in_err-at.ensures in search rules

pub patch-requires : goal.patch-requires
patch-requires g c =
    let s = c.args.self.now in
    omega (arith, found_room g.K.Kind.algebra (shapes_of s.table) (vec_items s.bytes) s.laid c.args.v c.args.index.now c.in_ok-at.at c.in_ok-at.ensures, c.as_mut_slice.ensures.len, s.bytes.ok.0)

pub invariant_of-self : goal.invariant_of-self
invariant_of-self g c =
    let s = c.args.self.now in let ss = shapes_of s.table in let bs = vec_items s.bytes in let at = c.in_ok-at.at in
    let v = c.args.v in let i = c.args.index.now in let x = c.args.x in let a = g.K.Kind.algebra in
    let f : a.code x < 2 ^ 64 = omega (arith, c.code.ensures, c.code.type_inv) in
    let put : c.patch.new.buffer ≡ patched at (bytes 8 (a.code x)) bs = cc in
    let len : length c.patch.new.buffer ≡ s.bytes.len =
    ap length put ∙ length_patched at (bytes 8 (a.code x)) bs (found_room a ss bs s.laid v i at c.in_ok-at.ensures) ∙ sym s.bytes.ok.0 in
    record { laid = put_laid a ss bs s.laid v i at c.in_ok-at.ensures g.met.K.Kind.lawful x f _ (with_items_is s.bytes c.patch.new.buffer len ∙ put) }

pub returns-clause-written : goal.returns-clause-written
returns-clause-written g c =
    let s = c.args.self.now in let ss = shapes_of s.table in let bs = vec_items s.bytes in let at = c.in_ok-at.at in
    let v = c.args.v in let i = c.args.index.now in let x = c.args.x in let a = g.K.Kind.algebra in
    let f : a.code x < 2 ^ 64 = omega (arith, c.code.ensures, c.code.type_inv) in
    let put : c.patch.new.buffer ≡ patched at (bytes 8 (a.code x)) bs = cc in
    let len : length c.patch.new.buffer ≡ s.bytes.len =
    ap length put ∙ length_patched at (bytes 8 (a.code x)) bs (found_room a ss bs s.laid v i at c.in_ok-at.ensures) ∙ sym s.bytes.ok.0 in
    put_written a ss bs s.laid v i at c.in_ok-at.ensures g.met.K.Kind.lawful x f _ (with_items_is s.bytes c.patch.new.buffer len ∙ put)
