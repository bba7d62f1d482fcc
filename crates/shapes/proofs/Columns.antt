-- Column-major numbers of places. Assumes nothing.
use Rattle.std.proofs.Common.{◌≡◌, ℕ, ◌+◌, ◌-◌, ◌*◌, ◌/◌, ◌%◌, ◌<◌, ◌≤◌, Bool, true, false, cond, ◌&&◌, leb, List, [], ◌∷◌, ◌++◌, reverse, length, get_or, drop, Some, None, sym, refl, ap, ◌∙◌, ⊎_elim, mul_assoc, mul_comm, mul-add, le-mul_of_pos_right, arith}
use Rattle.std.proofs.lemmas.Bool.{cond-false, cases_eq, false≢true}
use Rattle.std.proofs.lemmas.List.{drop_more, drop_all, reverse-append, length-reverse}
use Rattle.std.proofs.lemmas.Nat.{div-mul-add, mod-mul-add, mul-add-lt}
use Rattle.indices.specs.Places.{within, product, place, column}
use Rattle.shapes.specs.Shapes.{place_in, column_in}
use Rattle.shapes.proofs.Numbering.{within_parts, within_uneven, within_length, within_solid, solid_drop, product_pos, count_more}

pub column_lt : (es cs : List ℕ) → within es cs ≡ true → column es cs < product es
column_lt [] [] h = omega arith
column_lt [] (c ∷ cs) h = omega arith
column_lt (e ∷ es) [] h = absurd (false≢true h)
column_lt (e ∷ es) (c ∷ cs) h =
    let p = within_parts e c es cs h in
    let q = column_lt es cs p.2 in
    let l : c - 1 < e = omega arith in
    omega (arith, mul-add-lt (column es cs) e (c - 1) (product es) q l, mul_comm e (column es cs))

-- two places have two numbers
pub column_same : (es cs ds : List ℕ) → within es cs ≡ true → within es ds ≡ true → column es cs ≡ column es ds → cs ≡ ds
column_same [] [] [] h k q = refl
column_same [] [] (d ∷ ds) h k q = absurd (false≢true k)
column_same [] (c ∷ cs) ds h k q = absurd (false≢true h)
column_same (e ∷ es) [] ds h k q = absurd (false≢true h)
column_same (e ∷ es) (c ∷ cs) [] h k q = absurd (false≢true k)
column_same (e ∷ es) (c ∷ cs) (d ∷ ds) h k q =
    let p = within_parts e c es cs h in
    let r = within_parts e d es ds k in
    let x = column es cs in let y = column es ds in
    let s : x * e + (c - 1) ≡ y * e + (d - 1) = omega (arith, mul_comm e x, mul_comm e y) in
    let lc : c - 1 < e = omega arith in
    let ld : d - 1 < e = omega arith in
    let a : c - 1 ≡ d - 1 = sym (mod-mul-add x e (c - 1) lc) ∙ ap (λ n. n % e) s ∙ mod-mul-add y e (d - 1) ld in
    let b : x ≡ y = sym (div-mul-add x e (c - 1) lc) ∙ ap (λ n. n / e) s ∙ div-mul-add y e (d - 1) ld in
    let f : c ≡ d = omega (arith, a) in
    let g = column_same es cs ds p.2 r.2 b in
    cc

column_more : (es cs : List ℕ) (d : ℕ) → d < length es → d < length cs → column (drop d es) (drop d cs) ≡ (get_or cs d 0 - 1) + get_or es d 0 * column (drop (d + 1) es) (drop (d + 1) cs)
column_more es cs d h k = rw (drop_more es d 0 h, drop_more cs d 0 k)

-- block of the places lie in the dimensions so far, and n of them before the coordinates there
module _ (es cs : List ℕ) (w : within es cs ≡ true) where
  digit : (n b c e rest m : ℕ) → n + b * (c + e * rest) ≡ m → n + b * c + b * e * rest ≡ m
  digit n b c e rest m q = omega (arith, mul-add b c (e * rest), mul_assoc b e rest)

  pub block_fits : (d b : ℕ) → d < length es → b * product (drop d es) ≡ product es → b * get_or es d 0 ≤ product es
  block_fits d b h q =
      let p = product_pos (drop (d + 1) es) (solid_drop es (d + 1) (within_solid es cs w)) in
      omega (arith, count_more es d b h q, le-mul_of_pos_right (b * get_or es d 0) p)

  pub column_next : (d n b : ℕ) → d < length es → n + b * column (drop d es) (drop d cs) ≡ column es cs → n + b * (get_or cs d 0 - 1) + b * get_or es d 0 * column (drop (d + 1) es) (drop (d + 1) cs) ≡ column es cs
  column_next d n b h q =
      let l = within_length es cs w in
      digit n b (get_or cs d 0 - 1) (get_or es d 0) (column (drop (d + 1) es) (drop (d + 1) cs)) (column es cs)
      (ap (λ t. n + b * t) (sym (column_more es cs d h (omega arith))) ∙ q)

  pub column_fits : (d n b : ℕ) → d < length es → n + b * column (drop d es) (drop d cs) ≡ column es cs → n + b * (get_or cs d 0 - 1) < product es
  column_fits d n b h q = omega (arith, column_next d n b h q, column_lt es cs w)

  pub column_all : (d n b : ℕ) → length es ≤ d → n + b * column (drop d es) (drop d cs) ≡ column es cs → n ≡ column es cs
  column_all d n b h q =
      let e = drop_all d es h in
      let r : n + b * column [] (drop d cs) ≡ column es cs = ap (λ t. n + b * column t (drop d cs)) (sym e) ∙ q in
      omega arith

-- lists turned round, and one entry more at their ends
reverse_cons : (x : ℕ) (xs : List ℕ) → reverse (x ∷ xs) ≡ reverse xs ++ x ∷ []
reverse_cons x xs = reverse-append (x ∷ []) xs

product_end : (es : List ℕ) (e : ℕ) → product (es ++ e ∷ []) ≡ e * product es
product_end [] e = refl
product_end (x ∷ es) e = ap (λ t. x * t) (product_end es e) ∙ sym (mul_assoc x e (product es)) ∙ ap (λ t. t * product es) (mul_comm x e) ∙ mul_assoc e x (product es)

and_moved : (p q r : Bool) → (p && (q && r)) ≡ ((p && q) && r)
and_moved true q r = refl
and_moved false q r = refl

within_end : (es cs : List ℕ) (e c : ℕ) → length es ≡ length cs → within (es ++ e ∷ []) (cs ++ c ∷ []) ≡ (within es cs && ((leb 1 c && leb c e) && true))
within_end [] [] e c h = refl
within_end [] (d ∷ cs) e c h = absurd (omega arith)
within_end (x ∷ es) [] e c h = absurd (omega arith)
within_end (x ∷ es) (d ∷ cs) e c h =
    let p = leb 1 d && leb d x in
    ap (λ t. p && t) (within_end es cs e c (omega arith)) ∙ and_moved p (within es cs) ((leb 1 c && leb c e) && true)

place_end : (es cs : List ℕ) (e c : ℕ) → length es ≡ length cs → place (es ++ e ∷ []) (cs ++ c ∷ []) ≡ (c - 1) + e * place es cs
place_end [] [] e c h = omega arith
place_end [] (d ∷ cs) e c h = absurd (omega arith)
place_end (x ∷ es) [] e c h = absurd (omega arith)
place_end (x ∷ es) (d ∷ cs) e c h =
    let a = place_end es cs e c (omega arith) in
    let b = product_end es e in
    let m : (d - 1) * (e * product es) ≡ e * ((d - 1) * product es) = sym (mul_assoc (d - 1) e (product es)) ∙ ap (λ t. t * product es) (mul_comm (d - 1) e) ∙ mul_assoc e (d - 1) (product es) in
    ap (λ t. (d - 1) * t + place (es ++ e ∷ []) (cs ++ c ∷ [])) b ∙ ap (λ t. (d - 1) * (e * product es) + t) a
    ∙ omega (arith, m, mul-add e ((d - 1) * product es) (place es cs))

both_reversed : (es cs : List ℕ) → length es ≡ length cs → length (reverse es) ≡ length (reverse cs)
both_reversed es cs h = length-reverse es ∙ h ∙ sym (length-reverse cs)

and_turned : (p q : Bool) → (p && (q && true)) ≡ (q && p)
and_turned true true = refl
and_turned true false = refl
and_turned false true = refl
and_turned false false = refl

within_reverse : (es cs : List ℕ) → length es ≡ length cs → within (reverse es) (reverse cs) ≡ within es cs
within_reverse [] [] h = refl
within_reverse [] (c ∷ cs) h = absurd (omega arith)
within_reverse (e ∷ es) [] h = absurd (omega arith)
within_reverse (e ∷ es) (c ∷ cs) h =
    let l : length es ≡ length cs = omega arith in
    ap (λ t. within t (reverse (c ∷ cs))) (reverse_cons e es) ∙ ap (within (reverse es ++ e ∷ [])) (reverse_cons c cs)
    ∙ within_end (reverse es) (reverse cs) e c (both_reversed es cs l)
    ∙ ap (λ t. t && ((leb 1 c && leb c e) && true)) (within_reverse es cs l) ∙ and_turned (within es cs) (leb 1 c && leb c e)

place_reverse : (es cs : List ℕ) → length es ≡ length cs → place (reverse es) (reverse cs) ≡ column es cs
place_reverse [] [] h = refl
place_reverse [] (c ∷ cs) h = absurd (omega arith)
place_reverse (e ∷ es) [] h = absurd (omega arith)
place_reverse (e ∷ es) (c ∷ cs) h =
    let l : length es ≡ length cs = omega arith in
    ap (λ t. place t (reverse (c ∷ cs))) (reverse_cons e es) ∙ ap (place (reverse es ++ e ∷ [])) (reverse_cons c cs)
    ∙ place_end (reverse es) (reverse cs) e c (both_reversed es cs l)
    ∙ ap (λ t. (c - 1) + e * t) (place_reverse es cs l)

-- the row-major number in the shape turned round is the column-major one
pub place_turned : (es cs : List ℕ) → place_in (reverse es) (reverse cs) ≡ column_in es cs
place_turned es cs =
    ⊎_elim
    (λ (h : length es ≡ length cs).
    ap (λ t. cond t (Some (place (reverse es) (reverse cs))) None) (within_reverse es cs h)
    ∙ ap (λ t. cond (within es cs) (Some t) None) (place_reverse es cs h))
    (λ (n : length es ≡ length cs → ⊥).
    cond-false (within (reverse es) (reverse cs)) _ _ (within_uneven (reverse es) (reverse cs) (λ e. n (sym (length-reverse es) ∙ e ∙ length-reverse cs)))
    ∙ sym (cond-false (within es cs) _ _ (within_uneven es cs n)))
    (cases_eq (length es) (length cs))
