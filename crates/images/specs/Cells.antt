-- The cells of an image, read and written. Assumes nothing.
use Rattle.std.specs.Prelude.{◌≡◌, ℕ, ◌+◌, ◌-◌, ◌*◌, ◌^◌, ◌<◌, ◌≤◌, Bool, true, false, cond, ◌||◌, List, [], length, is_some, ◌≢◌}
use Rattle.std.proofs.Math.Path.{refl, ap}
use Rattle.std.proofs.Common.{sym, ◌∙◌, subst, ⊎_elim, arith}
use Rattle.std.specs.Option.{unwrap_or}
use Rattle.std.proofs.lemmas.Bool.{and_parts, both_ways, cases_order, cases_eq}
use Rattle.elements.specs.Algebra.{Algebra, Laws, is_zero}
use Rattle.shapes.specs.declared.table.Table.{Table}
use Rattle.indices.specs.Places.{within, product, column, pick, has}
use Rattle.refusals.specs.Refusals.{done, refused, and_then}
use Rattle.shapes.specs.Shapes.{shapes_of}
use Rattle.shapes.proofs.Columns.{column_lt, column_same}
use Rattle.shapes.proofs.Tables.{counted_parts}
use Rattle.stores.specs.Meaning.{Lawful, Written, read_answer, write_answer, in_shape}
use Rattle.stores.specs.Flat.{flat_lawful}
use Rattle.images.specs.Bytes.{number, number_at, bytes, patched}
use Rattle.images.specs.Image.{imaged, spot_answer}
use Rattle.images.specs.Layout.{offset, spot, coded, Laid}
use Rattle.images.specs.Numbers.{number_code}
use Rattle.images.specs.Patches.{length_patched, part_before, part_after, part_same}

-- an image has the shapes of cells, and no spare place
pub imaged_lawful : {E : Type 0} (a : Algebra E) (t : Table) (bs : List ℕ) → Lawful a.zero (imaged a (shapes_of t) bs)
imaged_lawful a t bs =
    let f = flat_lawful a.zero t [] in
    record {
      few = f.few;
      count = f.count;
      shaped = f.shaped;
      covers = f.covers;
      places = f.places;
      alike = f.alike;
      spare = λ v i p q. absurd (both_ways (in_shape (imaged a (shapes_of t) bs) v i) q p);
    }

module _ {E : Type 0} (a : Algebra E) (ss : List (List ℕ)) (bs : List ℕ) (v : ℕ) (i : List ℕ) where
  pub image_read : read_answer (imaged a ss bs) v i ≡ and_then (spot_answer ss bs v i) (λ k. done (unwrap_or (a.decode (number_at k 8 bs)) a.zero))
  image_read = by (has ss v) (within (pick ss v) i)
    where
      by : (h w : Bool) → cond h (cond w (done (unwrap_or (a.decode (number_at (spot bs ss v i) 8 bs)) a.zero)) (refused 2 0)) (refused 1 0) ≡ and_then (cond h (cond w (done (spot bs ss v i)) (refused 2 0)) (refused 1 0)) (λ k. done (unwrap_or (a.decode (number_at k 8 bs)) a.zero))
      by true true = refl
      by true false = refl
      by false w = refl

  pub image_write : (x : E) → write_answer a (imaged a ss bs) v i x ≡ and_then (spot_answer ss bs v i) (λ _. done (tt {0}))
  image_write x = by (has ss v) (within (pick ss v) i) (is_zero a x)
    where
      by : (h w n : Bool) → cond h (cond w (cond (w || n) (done (tt {0})) (refused 3 0)) (refused 2 0)) (refused 1 0) ≡ and_then (cond h (cond w (done (spot bs ss v i)) (refused 2 0)) (refused 1 0)) (λ _. done (tt {0}))
      by true true n = refl
      by true false n = refl
      by false w n = refl

  -- a cell that was not found
  pub image_unread : (n p : ℕ) → refused n p ≡ spot_answer ss bs v i → refused n p ≡ read_answer (imaged a ss bs) v i
  image_unread n p e = ap (λ t. and_then t (λ k. done (unwrap_or (a.decode (number_at k 8 bs)) a.zero))) e ∙ sym image_read

  pub image_unwritten : (x : E) (n p : ℕ) → refused n p ≡ spot_answer ss bs v i → refused n p ≡ write_answer a (imaged a ss bs) v i x
  image_unwritten x n p e = ap (λ t. and_then t (λ _. done (tt {0}))) e ∙ sym (image_write x)

-- what it tells that a cell was found
pub record Found (ss : List (List ℕ)) (bs : List ℕ) (v : ℕ) (i : List ℕ) (k : ℕ) : Type 0 where
  pub known : has ss v ≡ true
  pub inside : within (pick ss v) i ≡ true
  pub spot_is : k ≡ spot bs ss v i

pub found : (ss : List (List ℕ)) (bs : List ℕ) (v : ℕ) (i : List ℕ) (k : ℕ) → done k ≡ spot_answer ss bs v i → Found ss bs v i k
found ss bs v i k e = by (has ss v) (within (pick ss v) i) refl refl e
  where
    by : (h w : Bool) → has ss v ≡ h → within (pick ss v) i ≡ w → done k ≡ cond h (cond w (done (spot bs ss v i)) (refused 2 0)) (refused 1 0) → Found ss bs v i k
    by true true p q e = record { known = p; inside = q; spot_is = cc }
    by true false p q e = absurd (let z : ◌≡◌ {A = ℕ} 0 1 = cc in omega arith)
    by false w p q e = absurd (let z : ◌≡◌ {A = ℕ} 0 1 = cc in omega arith)

module _ {E : Type 0} (a : Algebra E) (ss : List (List ℕ)) (bs : List ℕ) (laid : Laid a ss bs) where
  -- a cell lies in the buffer
  pub cell_room : (v : ℕ) (i : List ℕ) → has ss v ≡ true → within (pick ss v) i ≡ true → spot bs ss v i + 8 ≤ length bs
  cell_room v i h w = omega (arith, laid.inside v h, column_lt (pick ss v) i w)

  -- the code at the n-th cell of variable v is replaced
  module _ (v n code : ℕ) (h : has ss v ≡ true) (l : n < product (pick ss v)) where
    abbrev new : List ℕ
    new = patched (offset bs v + 8 * n) (bytes 8 code) bs

    room : offset bs v + 8 * n + 8 ≤ length bs
    room = omega (arith, laid.inside v h)

    new_length : length new ≡ length bs
    new_length = length_patched (offset bs v + 8 * n) (bytes 8 code) bs room

    pub offset_kept : (w : ℕ) → has ss w ≡ true → offset new w ≡ offset bs w
    offset_kept w g =
        let q = counted_parts (length ss) w g in
        ap number (part_before (offset bs v + 8 * n) (bytes 8 code) bs (8 * w - 4) 4 (omega (arith, room)) (omega (arith, laid.after v h, q.0, q.1)))

    -- another cell lies before it or after it
    pub other_kept : (w m : ℕ) → has ss w ≡ true → m < product (pick ss w) → (w ≡ v → m ≢ n) → number_at (offset bs w + 8 * m) 8 new ≡ number_at (offset bs w + 8 * m) 8 bs
    other_kept w m g k ne =
        let o = offset bs v + 8 * n in let ys = bytes 8 code in
        let before : offset bs w + 8 * m + 8 ≤ o → number_at (offset bs w + 8 * m) 8 new ≡ number_at (offset bs w + 8 * m) 8 bs
        = λ z. ap number (part_before o ys bs (offset bs w + 8 * m) 8 (omega (arith, room)) z) in
        let after : o + 8 ≤ offset bs w + 8 * m → number_at (offset bs w + 8 * m) 8 new ≡ number_at (offset bs w + 8 * m) 8 bs
        = λ z. ap number (part_after o ys bs (offset bs w + 8 * m) 8 (omega (arith, room)) z) in
        ⊎_elim
        (λ (e : w ≡ v).
        let f = ap (offset bs) e in
        ⊎_elim (λ (d : m ≡ n). absurd (ne e d))
        (⊎_elim (λ (d : m < n). before (omega (arith, f))) (λ (d : n < m). after (omega (arith, f)))) (cases_order m n))
        (⊎_elim
        (λ (e : w < v). before (omega (arith, laid.apart w v g h e)))
        (λ (e : v < w). after (omega (arith, laid.apart v w h g e))))
        (cases_order w v)

    pub same_new : code < 2 ^ 64 → number_at (offset bs v + 8 * n) 8 new ≡ code
    same_new f = ap number (part_same (offset bs v + 8 * n) (bytes 8 code) bs (omega (arith, room))) ∙ number_code code f

    pub laid_after : code < 2 ^ 64 → is_some (a.decode code) ≡ true → Laid a ss new
    laid_after f s = record {
      after = λ w g. omega (arith, laid.after w g, offset_kept w g);
      inside = λ w g. omega (arith, laid.inside w g, offset_kept w g, new_length);
      apart = λ w u g k d. omega (arith, laid.apart w u g k d, offset_kept w g, offset_kept u k);
      cells = λ w m g k.
          ap (λ o. coded a new (o + 8 * m)) (offset_kept w g)
          ∙ ⊎_elim
          (λ (e : w ≡ v). ⊎_elim
          (λ (d : m ≡ n).
          let z : offset bs w + 8 * m ≡ offset bs v + 8 * n = omega (arith, ap (offset bs) e) in
          ap (coded a new) z ∙ ap (λ c. is_some (a.decode c)) (same_new f) ∙ s)
          (λ (d : m ≡ n → ⊥). ap (λ c. is_some (a.decode c)) (other_kept w m g k (λ _ q. d q)) ∙ laid.cells w m g k)
          (cases_eq m n))
          (λ (e : w ≡ v → ⊥). ap (λ c. is_some (a.decode c)) (other_kept w m g k (λ q _. e q)) ∙ laid.cells w m g k)
          (cases_eq w v);
    }

  -- an element is put at a place
  module _ (laws : Laws a) (v : ℕ) (i : List ℕ) (x : E) (h : has ss v ≡ true) (w : within (pick ss v) i ≡ true) (f : a.code x < 2 ^ 64) where
    n : ℕ
    n = column (pick ss v) i

    pub image_written : Written true (imaged a ss bs) v i x (imaged a ss (patched (spot bs ss v i) (bytes 8 (a.code x)) bs))
    unfolding n
    image_written =
        let l = column_lt (pick ss v) i w in
        let new = patched (spot bs ss v i) (bytes 8 (a.code x)) bs in
        record {
          shapes = refl;
          reach = refl;
          put = λ _.
              ap (λ o. unwrap_or (a.decode (number_at (o + 8 * column (pick ss v) i) 8 new)) a.zero) (offset_kept v n (a.code x) h l v h)
              ∙ ap (λ c. unwrap_or (a.decode c) a.zero) (same_new v n (a.code x) h l f)
              ∙ ap (λ o. unwrap_or o a.zero) (laws.decode_code x);
          others = λ u j r ne.
              let p = and_parts (has ss u) (within (pick ss u) j) r in
              ap (λ o. unwrap_or (a.decode (number_at (o + 8 * column (pick ss u) j) 8 new)) a.zero) (offset_kept v n (a.code x) h l u p.0)
              ∙ ap (λ c. unwrap_or (a.decode c) a.zero)
              (other_kept v n (a.code x) h l u (column (pick ss u) j) p.0 (column_lt (pick ss u) j p.1)
              (λ e d. ne refl e
              (column_same (pick ss v) j i (subst (λ t. within (pick ss t) j ≡ true) e p.1) w (ap (λ t. column (pick ss t) j) (sym e) ∙ d))));
        }

    pub image_kept : Laid a ss (patched (spot bs ss v i) (bytes 8 (a.code x)) bs)
    unfolding n
    image_kept = laid_after v n (a.code x) h (column_lt (pick ss v) i w) f (ap is_some (laws.decode_code x))

-- a place that was found, and the buffer after an element was put there
module _ {E : Type 0} (a : Algebra E) (ss : List (List ℕ)) (bs : List ℕ) (laid : Laid a ss bs) (v : ℕ) (i : List ℕ) (at : ℕ) (e : done at ≡ spot_answer ss bs v i) where
  pub found_room : at + 8 ≤ length bs
  found_room = let p = found ss bs v i at e in omega (arith, cell_room a ss bs laid v i p.known p.inside, p.spot_is)

  module _ (laws : Laws a) (x : E) (f : a.code x < 2 ^ 64) (new : List ℕ) (n : new ≡ patched at (bytes 8 (a.code x)) bs) where
    pub put_laid : Laid a ss new
    put_laid =
        let p = found ss bs v i at e in
        subst (Laid a ss) (sym (rw p.spot_is at n)) (image_kept a ss bs laid laws v i x p.known p.inside f)

    pub put_written : Written true (imaged a ss bs) v i x (imaged a ss new)
    put_written =
        let p = found ss bs v i at e in
        subst (λ t. Written true (imaged a ss bs) v i x (imaged a ss t)) (sym (rw p.spot_is at n)) (image_written a ss bs laid laws v i x p.known p.inside f)
