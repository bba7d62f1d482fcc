-- Parts of a buffer before and after some bytes of it were replaced. Assumes nothing.
use Rattle.std.specs.Prelude.{◌≡◌, ℕ, ◌+◌, ◌-◌, ◌≤◌, List, ◌++◌, length, take, drop, refl}
use Rattle.std.proofs.Common.{sym, ap, ◌∙◌, arith}
use borrow.Rule.Slice.PartMut.{put_mid}
use Rattle.std.proofs.lemmas.List.{drop-take, drop-drop, length-append, length-take-le, length-drop}
use Rattle.std.proofs.lemmas.Slice.{take-put_mid_below, drop-put_mid, between-put_mid}
use Rattle.images.specs.Bytes.{part, patched}

module _ (at : ℕ) (ys bs : List ℕ) where
  pub patched_mid : patched at ys bs ≡ put_mid at (length ys) bs ys
  patched_mid = ap (λ t. take at bs ++ (ys ++ t)) (sym (drop-drop (length ys) at bs))

  pub length_patched : at + length ys ≤ length bs → length (patched at ys bs) ≡ length bs
  length_patched h =
      omega (arith, length-append (take at bs) (ys ++ drop (at + length ys) bs), length-append ys (drop (at + length ys) bs), length-take-le at bs (omega arith), length-drop (at + length ys) bs)

  pub part_before : (from n : ℕ) → at ≤ length bs → from + n ≤ at → part from n (patched at ys bs) ≡ part from n bs
  part_before from n l h =
      ap (part from n) patched_mid
      ∙ sym (drop-take from n (put_mid at (length ys) bs ys))
      ∙ ap (drop from) (take-put_mid_below at (length ys) bs ys (from + n) h l)
      ∙ drop-take from n bs

  pub part_after : (from n : ℕ) → at ≤ length bs → at + length ys ≤ from → part from n (patched at ys bs) ≡ part from n bs
  part_after from n l h = ap (part from n) patched_mid ∙ ap (take n) (drop-put_mid at (length ys) bs ys from h l refl)

  pub part_same : at ≤ length bs → part at (length ys) (patched at ys bs) ≡ ys
  part_same l =
      let e : at + length ys - at ≡ length ys = omega arith in
      ap (part at (length ys)) patched_mid
      ∙ ap (λ n. part at n (put_mid at (length ys) bs ys)) (sym e)
      ∙ between-put_mid at (length ys) bs ys (at + length ys) l (sym e)
