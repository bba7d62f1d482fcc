-- Indices within extents, and their row-major numbers. Assumes nothing.
use Rattle.std.proofs.Common.{◌≡◌, ℕ, zero, suc, ◌+◌, ◌-◌, ◌*◌, ◌/◌, ◌%◌, ◌<◌, ◌≤◌, true, false, ◌&&◌, leb, List, [], ◌∷◌, ◌++◌, length, get_or, take, drop, set, sym, refl, ap, ◌∙◌, mod-lt, mul_assoc, mul_comm, add-mul, mul-pos, div-add-mod', mul-one, le-mul_of_pos_right, arith}
use native.Mathlib.Nat.{mul-div_right}
use Rattle.std.proofs.lemmas.Bool.{and_parts, and_from, and_left, and_right, leb-true, le-leb, lt-leb, false≢true}
use Rattle.std.proofs.lemmas.List.{drop_more, drop_all, at_drop_more, append_assoc, take_more_set}
use Rattle.std.specs.List.{list_all, zip}
use Rattle.std.proofs.lemmas.Nat.{div-mul-add, mod-mul-add, div_below, mul-add-lt}
use Rattle.indices.specs.Places.{within, product, place, unplace}

-- one coordinate more in front
pub within_parts : (e c : ℕ) (es cs : List ℕ) → within (e ∷ es) (c ∷ cs) ≡ true → (1 ≤ c) × (c ≤ e) × (within es cs ≡ true)
within_parts e c es cs h =
    let p = and_parts (leb 1 c && leb c e) (within es cs) h in
    let q = and_parts (leb 1 c) (leb c e) p.0 in
    (leb-true 1 c q.0, leb-true c e q.1, p.1)

pub within_step : (e c : ℕ) (es cs : List ℕ) → 1 ≤ c → c ≤ e → within (e ∷ es) (c ∷ cs) ≡ within es cs
within_step e c es cs a b = ap (λ t. t && within es cs) (and_from (leb 1 c) (leb c e) (le-leb 1 c a) (le-leb c e b))

pub within_low : (e c : ℕ) (es cs : List ℕ) → c < 1 → within (e ∷ es) (c ∷ cs) ≡ false
within_low e c es cs a = and_left (leb 1 c && leb c e) (within es cs) (and_left (leb 1 c) (leb c e) (lt-leb 1 c a))

pub within_high : (e c : ℕ) (es cs : List ℕ) → e < c → within (e ∷ es) (c ∷ cs) ≡ false
within_high e c es cs a = and_left (leb 1 c && leb c e) (within es cs) (and_right (leb 1 c) (leb c e) (lt-leb c e a))

pub within_length : (es cs : List ℕ) → within es cs ≡ true → length cs ≡ length es
within_length [] [] h = refl
within_length [] (c ∷ cs) h = absurd (false≢true h)
within_length (e ∷ es) [] h = absurd (false≢true h)
within_length (e ∷ es) (c ∷ cs) h = ap suc (within_length es cs (within_parts e c es cs h).2)

pub within_uneven : (es cs : List ℕ) → (length es ≡ length cs → ⊥) → within es cs ≡ false
within_uneven [] [] h = absurd (h refl)
within_uneven [] (c ∷ cs) h = refl
within_uneven (e ∷ es) [] h = refl
within_uneven (e ∷ es) (c ∷ cs) h = and_right (leb 1 c && leb c e) (within es cs) (within_uneven es cs (λ p. h (ap suc p)))

-- each coordinate beside its extent
pub within_zip : (es cs : List ℕ) → length es ≡ length cs → within es cs ≡ list_all (λ (p : ℕ × ℕ). leb 1 p.1 && leb p.1 p.0) (zip es cs)
within_zip [] [] h = refl
within_zip [] (c ∷ cs) h = absurd (omega arith)
within_zip (e ∷ es) [] h = absurd (omega arith)
within_zip (e ∷ es) (c ∷ cs) h = ap (λ t. (leb 1 c && leb c e) && t) (within_zip es cs (omega arith))

pub within_at : (es cs : List ℕ) (d : ℕ) → within es cs ≡ true → d < length es → (1 ≤ get_or cs d 0) × (get_or cs d 0 ≤ get_or es d 0)
within_at [] cs d h l = absurd (omega arith)
within_at (e ∷ es) [] d h l = absurd (false≢true h)
within_at (e ∷ es) (c ∷ cs) zero h l = let p = within_parts e c es cs h in (p.0, p.1)
within_at (e ∷ es) (c ∷ cs) (suc d) h l = within_at es cs d (within_parts e c es cs h).2 (omega arith)

-- extents without a zero
abbrev pub Solid : List ℕ → Type 0
Solid [] = Unit {0}
Solid (e ∷ es) = (1 ≤ e) × Solid es

pub within_solid : (es cs : List ℕ) → within es cs ≡ true → Solid es
within_solid [] [] h = tt
within_solid [] (c ∷ cs) h = tt
within_solid (e ∷ es) [] h = absurd (false≢true h)
within_solid (e ∷ es) (c ∷ cs) h = let p = within_parts e c es cs h in (omega arith, within_solid es cs p.2)

pub solid_drop : (es : List ℕ) (d : ℕ) → Solid es → Solid (drop d es)
solid_drop es zero s = s
solid_drop [] (suc d) s = tt
solid_drop (e ∷ es) (suc d) s = solid_drop es d s.1

solid_at : (es : List ℕ) (d : ℕ) → Solid es → d < length es → 1 ≤ get_or es d 0
solid_at [] d s h = omega arith
solid_at (e ∷ es) zero s h = s.0
solid_at (e ∷ es) (suc d) s h = solid_at es d s.1 (omega arith)

pub product_pos : (es : List ℕ) → Solid es → 0 < product es
product_pos [] h = omega arith
product_pos (e ∷ es) h = mul-pos h.0 (product_pos es h.1)

-- the number of a place, and the place of a number
pub place_lt : (es cs : List ℕ) → within es cs ≡ true → place es cs < product es
place_lt [] [] h = omega arith
place_lt [] (c ∷ cs) h = omega arith
place_lt (e ∷ es) [] h = absurd (false≢true h)
place_lt (e ∷ es) (c ∷ cs) h =
    let p = within_parts e c es cs h in
    let q = place_lt es cs p.2 in
    let l : c - 1 < e = omega arith in
    omega (arith, mul-add-lt (c - 1) (product es) (place es cs) e l q, mul_comm e (product es))

pub unplace_place : (es cs : List ℕ) → within es cs ≡ true → unplace es (place es cs) ≡ cs
unplace_place [] [] h = refl
unplace_place [] (c ∷ cs) h = absurd (false≢true h)
unplace_place (e ∷ es) [] h = absurd (false≢true h)
unplace_place (e ∷ es) (c ∷ cs) h =
    let p = within_parts e c es cs h in
    let q = place_lt es cs p.2 in
    let a : ((c - 1) * product es + place es cs) / product es ≡ c - 1 = div-mul-add (c - 1) (product es) (place es cs) q in
    let b : ((c - 1) * product es + place es cs) % product es ≡ place es cs = mod-mul-add (c - 1) (product es) (place es cs) q in
    let d : ((c - 1) * product es + place es cs) / product es + 1 ≡ c = omega arith in
    rw (d, b) (ap (λ t. c ∷ t) (unplace_place es cs p.2))

pub place_same : (es cs ds : List ℕ) → within es cs ≡ true → within es ds ≡ true → place es cs ≡ place es ds → cs ≡ ds
place_same es cs ds h k e = sym (unplace_place es cs h) ∙ ap (unplace es) e ∙ unplace_place es ds k

pub within_unplace : (es : List ℕ) (n : ℕ) → Solid es → n < product es → within es (unplace es n) ≡ true
within_unplace [] n s h = refl
within_unplace (e ∷ es) n s h =
    let p = product_pos es s.1 in
    let l : n / product es < e = div_below n (product es) e p h in
    within_step e (n / product es + 1) es (unplace es (n % product es)) (omega arith) (omega arith) ∙ within_unplace es (n % product es) s.1 (mod-lt n p)

pub place_unplace : (es : List ℕ) (n : ℕ) → Solid es → n < product es → place es (unplace es n) ≡ n
place_unplace [] n s h = omega arith
place_unplace (e ∷ es) n s h =
    let p = product_pos es s.1 in
    let q = place_unplace es (n % product es) s.1 (mod-lt n p) in
    let a : n / product es + 1 - 1 ≡ n / product es = omega arith in
    rw (a, q) (div-add-mod' n (product es))

-- a loop's step at dimension d
pub product_more : (es : List ℕ) (d : ℕ) → d < length es → product (drop d es) ≡ get_or es d 0 * product (drop (d + 1) es)
product_more es d h = at_drop_more product es d 0 h

pub within_more : (es cs : List ℕ) (d : ℕ) → d < length es → d < length cs → within (drop d es) (drop d cs) ≡ within (get_or es d 0 ∷ drop (d + 1) es) (get_or cs d 0 ∷ drop (d + 1) cs)
within_more es cs d h k = rw (drop_more es d 0 h, drop_more cs d 0 k)

place_more : (es cs : List ℕ) (d : ℕ) → d < length es → d < length cs → place (drop d es) (drop d cs) ≡ (get_or cs d 0 - 1) * product (drop (d + 1) es) + place (drop (d + 1) es) (drop (d + 1) cs)
place_more es cs d h k = rw (drop_more es d 0 h, drop_more cs d 0 k)

-- n of the places are counted so far
module _ (es : List ℕ) where
  pub count_more : (k n : ℕ) → k < length es → n * product (drop k es) ≡ product es → n * get_or es k 0 * product (drop (k + 1) es) ≡ product es
  count_more k n h q = mul_assoc n (get_or es k 0) (product (drop (k + 1) es)) ∙ ap (λ t. n * t) (sym (product_more es k h)) ∙ q

  pub count_all : (k n : ℕ) → length es ≤ k → n * product (drop k es) ≡ product es → n ≡ product es
  count_all k n h q = let e = drop_all k es h in sym (mul-one n) ∙ ap (λ t. n * product t) (sym e) ∙ q

-- n is the number of the coordinates so far
module _ (es cs : List ℕ) (w : within es cs ≡ true) where
  digit : (n e p c rest m : ℕ) → n * (e * p) + (c * p + rest) ≡ m → (n * e + c) * p + rest ≡ m
  digit n e p c rest m q = omega (arith, add-mul (n * e) c p, mul_assoc n e p)

  pub number_more : (d n : ℕ) → d < length es → n * product (drop d es) + place (drop d es) (drop d cs) ≡ place es cs → (n * get_or es d 0 + (get_or cs d 0 - 1)) * product (drop (d + 1) es) + place (drop (d + 1) es) (drop (d + 1) cs) ≡ place es cs
  number_more d n h q =
      let l = within_length es cs w in
      let p = product (drop (d + 1) es) in
      let rest = place (drop (d + 1) es) (drop (d + 1) cs) in
      let a = product_more es d h in
      let b = place_more es cs d h (omega arith) in
      digit n (get_or es d 0) p (get_or cs d 0 - 1) rest (place es cs)
      (ap (λ t. n * t + ((get_or cs d 0 - 1) * p + rest)) (sym a) ∙ ap (λ t. n * product (drop d es) + t) (sym b) ∙ q)

  pub number_fits : (d n : ℕ) → d < length es → n * product (drop d es) + place (drop d es) (drop d cs) ≡ place es cs → n * get_or es d 0 + (get_or cs d 0 - 1) < product es
  number_fits d n h q =
      let p = product_pos (drop (d + 1) es) (solid_drop es (d + 1) (within_solid es cs w)) in
      let r = number_more d n h q in
      let s = place_lt es cs w in
      omega (arith, le-mul_of_pos_right (n * get_or es d 0 + (get_or cs d 0 - 1)) p)

  pub number_all : (d n : ℕ) → length es ≤ d → n * product (drop d es) + place (drop d es) (drop d cs) ≡ place es cs → n ≡ place es cs
  number_all d n h q =
      let e = drop_all d es h in
      let r : n * product [] + place [] (drop d cs) ≡ place es cs = ap (λ t. n * product t + place t (drop d cs)) (sym e) ∙ q in
      omega (arith, mul-one n)

-- the coordinates of a number, as far as dimension d
module _ (es : List ℕ) (s : Solid es) where
  pub block_more : (d : ℕ) → d < length es → product (drop d es) / get_or es d 0 ≡ product (drop (d + 1) es)
  block_more d h = rw (product_more es d h) (mul-div_right (product (drop (d + 1) es)) (solid_at es d s h))

  pub block_pos : (d : ℕ) → 0 < product (drop d es)
  block_pos d = product_pos (drop d es) (solid_drop es d s)

  pub index_more : (d n : ℕ) (out rest : List ℕ) → d < length es → d < length out → take d out ++ unplace (drop d es) n ≡ rest → take (d + 1) (set out d (n / product (drop (d + 1) es) + 1)) ++ unplace (drop (d + 1) es) (n % product (drop (d + 1) es)) ≡ rest
  index_more d n out rest h k q =
      let y = n / product (drop (d + 1) es) + 1 in
      let a = at_drop_more (λ t. unplace t n) es d 0 h in
      rw (take_more_set out d y k) (append_assoc (take d out) (y ∷ []) (unplace (drop (d + 1) es) (n % product (drop (d + 1) es))) ∙ ap (λ t. take d out ++ t) (sym a) ∙ q)
