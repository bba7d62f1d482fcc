-- Lists with an entry for each dimension: which lie in which, and what exchanging, leaving out and putting in make of them. Assumes nothing.
use Rattle.std.proofs.Common.{◌≡◌, ℕ, zero, suc, ◌+◌, ◌-◌, ◌<◌, ◌≤◌, true, ◌&&◌, ltb, leb, List, [], ◌∷◌, ◌++◌, length, get_or, take, drop, set, sym, refl, ap, ◌∙◌, subst, arith, length-set}
use Rattle.std.proofs.lemmas.List.{get_or-set_same, get_or-set_other, get_or_append_left, get_or-append_right, set-set, set_comm, set-get_or}
use Rattle.std.proofs.lemmas.Bool.{and_parts, and_from, leb-true, ltb-true, le-leb, false≢true}
use Rattle.indices.specs.Dimensions.{two_of, exchanged, remove_at, removed, insert_at, inserted, Each2}
use Rattle.indices.specs.Places.{within, at1}
use Rattle.indices.proofs.Entries.{remove_length}
use Rattle.indices.proofs.Entries.{at1_at}

pub two_parts : (m n k : ℕ) → two_of m n k ≡ true → (1 ≤ m) × (m < n) × (n ≤ k)
two_parts m n k h =
    let p = and_parts (leb 1 m) (ltb m n && leb n k) h in
    let q = and_parts (ltb m n) (leb n k) p.1 in
    (leb-true 1 m p.0, ltb-true m n q.0, leb-true n k q.1)

-- one entry left out or put in, at places from 0
get_d_remove_below : (p k : ℕ) (xs : List ℕ) → k < p → get_or (remove_at p xs) k 0 ≡ get_or xs k 0
get_d_remove_below zero k xs h = absurd (omega arith)
get_d_remove_below (suc p) k [] h = refl
get_d_remove_below (suc p) zero (x ∷ xs) h = refl
get_d_remove_below (suc p) (suc k) (x ∷ xs) h = get_d_remove_below p k xs (omega arith)

get_d_remove_above : (p k : ℕ) (xs : List ℕ) → p ≤ k → get_or (remove_at p xs) k 0 ≡ get_or xs (suc k) 0
get_d_remove_above zero k [] h = refl
get_d_remove_above zero k (x ∷ xs) h = refl
get_d_remove_above (suc p) k [] h = refl
get_d_remove_above (suc p) zero (x ∷ xs) h = absurd (omega arith)
get_d_remove_above (suc p) (suc k) (x ∷ xs) h = get_d_remove_above p k xs (omega arith)

pub length_insert : (p x : ℕ) (ys : List ℕ) → length (insert_at p x ys) ≡ suc (length ys)
length_insert zero x ys = refl
length_insert (suc p) x [] = refl
length_insert (suc p) x (y ∷ ys) = ap suc (length_insert p x ys)

get_d_insert_below : (p k x : ℕ) (ys : List ℕ) → k < p → k < length ys → get_or (insert_at p x ys) k 0 ≡ get_or ys k 0
get_d_insert_below zero k x ys h l = absurd (omega arith)
get_d_insert_below (suc p) k x [] h l = absurd (omega arith)
get_d_insert_below (suc p) zero x (y ∷ ys) h l = refl
get_d_insert_below (suc p) (suc k) x (y ∷ ys) h l = get_d_insert_below p k x ys (omega arith) (omega arith)

get_d_insert_at : (p x : ℕ) (ys : List ℕ) → p ≤ length ys → get_or (insert_at p x ys) p 0 ≡ x
get_d_insert_at zero x ys h = refl
get_d_insert_at (suc p) x [] h = absurd (omega arith)
get_d_insert_at (suc p) x (y ∷ ys) h = get_d_insert_at p x ys (omega arith)

remove_insert : (p x : ℕ) (ys : List ℕ) → p ≤ length ys → remove_at p (insert_at p x ys) ≡ ys
remove_insert zero x ys h = refl
remove_insert (suc p) x [] h = absurd (omega arith)
remove_insert (suc p) x (y ∷ ys) h = ap (λ t. y ∷ t) (remove_insert p x ys (omega arith))

insert_remove : (p : ℕ) (xs : List ℕ) → p < length xs → insert_at p (get_or xs p 0) (remove_at p xs) ≡ xs
insert_remove zero [] h = absurd (omega arith)
insert_remove zero (x ∷ xs) h = refl
insert_remove (suc p) [] h = absurd (omega arith)
insert_remove (suc p) (x ∷ xs) h = ap (λ t. x ∷ t) (insert_remove p xs (omega arith))

-- lengths
pub length_exchanged : (m n : ℕ) (i : List ℕ) → length (exchanged m n i) ≡ length i
length_exchanged m n i = simp length-set

pub length_removed : (m n : ℕ) (i : List ℕ) → two_of m n (length i) ≡ true → length i ≡ length (removed m n i) + 2
length_removed m n i t =
    let p = two_parts m n (length i) t in
    let a = remove_length (n - 1) i (omega arith) in
    let b = remove_length (m - 1) (remove_at (n - 1) i) (omega arith) in
    omega arith

pub length_inserted : (m n l : ℕ) (i : List ℕ) → length (inserted m n l i) ≡ length i + 2
length_inserted m n l i =
    let a = length_insert (m - 1) l i in
    let b = length_insert (n - 1) l (insert_at (m - 1) l i) in
    omega arith

-- entries
pub at1_append_left : (xs ys : List ℕ) (d : ℕ) → 1 ≤ d → d ≤ length xs → at1 (xs ++ ys) d ≡ at1 xs d
at1_append_left xs ys d a b = at1_at (xs ++ ys) d a ∙ get_or_append_left xs ys 0 (d - 1) (omega arith) ∙ sym (at1_at xs d a)

pub at1_append_right : (xs ys : List ℕ) (d : ℕ) → length xs < d → at1 (xs ++ ys) d ≡ at1 ys (d - length xs)
at1_append_right xs ys d h =
    let e : d - 1 - length xs ≡ d - length xs - 1 = omega arith in
    at1_at (xs ++ ys) d (omega arith) ∙ get_or-append_right xs ys (length xs) (d - 1) 0 refl (omega arith) ∙ ap (λ k. get_or ys k 0) e ∙ sym (at1_at ys (d - length xs) (omega arith))

pub at1_exchanged_first : (m n : ℕ) (xs : List ℕ) → two_of m n (length xs) ≡ true → at1 (exchanged m n xs) m ≡ at1 xs n
at1_exchanged_first m n xs t =
    let p = two_parts m n (length xs) t in
    at1_at (exchanged m n xs) m p.0 ∙ get_or-set_other (set xs (m - 1) (get_or xs (n - 1) 0)) (n - 1) (m - 1) (get_or xs (m - 1) 0) 0 (omega arith)
    ∙ get_or-set_same xs (m - 1) (get_or xs (n - 1) 0) 0 (omega arith) ∙ sym (at1_at xs n (omega arith))

pub at1_exchanged_second : (m n : ℕ) (xs : List ℕ) → two_of m n (length xs) ≡ true → at1 (exchanged m n xs) n ≡ at1 xs m
at1_exchanged_second m n xs t =
    let p = two_parts m n (length xs) t in
    at1_at (exchanged m n xs) n (omega arith) ∙ get_or-set_same (set xs (m - 1) (get_or xs (n - 1) 0)) (n - 1) (get_or xs (m - 1) 0) 0 (simp length-set (omega arith))
    ∙ sym (at1_at xs m p.0)

pub at1_exchanged_other : (m n d : ℕ) (xs : List ℕ) → two_of m n (length xs) ≡ true → 1 ≤ d → (d ≡ m → ⊥) → (d ≡ n → ⊥) → at1 (exchanged m n xs) d ≡ at1 xs d
at1_exchanged_other m n d xs t a u v =
    let p = two_parts m n (length xs) t in
    at1_at (exchanged m n xs) d a ∙ get_or-set_other (set xs (m - 1) (get_or xs (n - 1) 0)) (n - 1) (d - 1) (get_or xs (m - 1) 0) 0 (λ e. v (omega arith))
    ∙ get_or-set_other xs (m - 1) (d - 1) (get_or xs (n - 1) 0) 0 (λ e. u (omega arith)) ∙ sym (at1_at xs d a)

pub at1_removed_before : (m n d : ℕ) (xs : List ℕ) → two_of m n (length xs) ≡ true → 1 ≤ d → d < m → at1 (removed m n xs) d ≡ at1 xs d
at1_removed_before m n d xs t a b =
    let p = two_parts m n (length xs) t in
    at1_at (removed m n xs) d a ∙ get_d_remove_below (m - 1) (d - 1) (remove_at (n - 1) xs) (omega arith) ∙ get_d_remove_below (n - 1) (d - 1) xs (omega arith) ∙ sym (at1_at xs d a)

-- from m on each entry has moved up by one, n not counted yet
past_first : (m n d : ℕ) (xs : List ℕ) → 1 ≤ m → m ≤ d → at1 (removed m n xs) d ≡ get_or (remove_at (n - 1) xs) d 0
past_first m n d xs a b =
    let e : suc (d - 1) ≡ d = omega arith in
    at1_at (removed m n xs) d (omega arith) ∙ get_d_remove_above (m - 1) (d - 1) (remove_at (n - 1) xs) (omega arith) ∙ ap (λ k. get_or (remove_at (n - 1) xs) k 0) e

pub at1_removed_between : (m n d : ℕ) (xs : List ℕ) → two_of m n (length xs) ≡ true → m ≤ d → d + 1 < n → at1 (removed m n xs) d ≡ at1 xs (d + 1)
at1_removed_between m n d xs t a b =
    let p = two_parts m n (length xs) t in
    let e : d ≡ d + 1 - 1 = omega arith in
    past_first m n d xs p.0 a ∙ get_d_remove_below (n - 1) d xs (omega arith) ∙ ap (λ k. get_or xs k 0) e ∙ sym (at1_at xs (d + 1) (omega arith))

pub at1_removed_after : (m n d : ℕ) (xs : List ℕ) → two_of m n (length xs) ≡ true → n ≤ d + 1 → m ≤ d → at1 (removed m n xs) d ≡ at1 xs (d + 2)
at1_removed_after m n d xs t a b =
    let p = two_parts m n (length xs) t in
    let e : suc d ≡ d + 2 - 1 = omega arith in
    past_first m n d xs p.0 b ∙ get_d_remove_above (n - 1) d xs (omega arith) ∙ ap (λ k. get_or xs k 0) e ∙ sym (at1_at xs (d + 2) (omega arith))

at1_inserted : (m n l : ℕ) (i : List ℕ) → two_of m n (length i + 2) ≡ true → at1 (inserted m n l i) m ≡ l
at1_inserted m n l i t =
    let p = two_parts m n (length i + 2) t in
    let a = length_insert (m - 1) l i in
    at1_at (inserted m n l i) m p.0 ∙ get_d_insert_below (n - 1) (m - 1) l (insert_at (m - 1) l i) (omega arith) (omega arith) ∙ get_d_insert_at (m - 1) l i (omega arith)

-- there and back
exchanged_twice : (m n : ℕ) (xs : List ℕ) → two_of m n (length xs) ≡ true → exchanged m n (exchanged m n xs) ≡ xs
exchanged_twice m n xs t =
    let p = two_parts m n (length xs) t in
    let x = get_or xs (m - 1) 0 in
    let y = get_or xs (n - 1) 0 in
    let ys = exchanged m n xs in
    let f : get_or ys (m - 1) 0 ≡ y = get_or-set_other (set xs (m - 1) y) (n - 1) (m - 1) x 0 (omega arith) ∙ get_or-set_same xs (m - 1) y 0 (omega arith) in
    let s : get_or ys (n - 1) 0 ≡ x = get_or-set_same (set xs (m - 1) y) (n - 1) x 0 (simp length-set (omega arith)) in
    let c = set_comm (set xs (m - 1) y) (n - 1) (m - 1) x x (omega arith) in
    let d = set-set xs (m - 1) y x in
    let e = set-get_or xs (m - 1) 0 in
    let g = set-set xs (n - 1) x y in
    let h = set-get_or xs (n - 1) 0 in
    cc

removed_inserted : (m n l : ℕ) (i : List ℕ) → two_of m n (length i + 2) ≡ true → removed m n (inserted m n l i) ≡ i
removed_inserted m n l i t =
    let p = two_parts m n (length i + 2) t in
    let a = length_insert (m - 1) l i in
    ap (remove_at (m - 1)) (remove_insert (n - 1) l (insert_at (m - 1) l i) (omega arith)) ∙ remove_insert (m - 1) l i (omega arith)

inserted_removed : (m n : ℕ) (i : List ℕ) → two_of m n (length i) ≡ true → at1 i m ≡ at1 i n → inserted m n (at1 i m) (removed m n i) ≡ i
inserted_removed m n i t h =
    let p = two_parts m n (length i) t in
    let x = at1_at i m p.0 in
    let y = at1_at i n (omega arith) in
    let l = remove_length (n - 1) i (omega arith) in
    let a = insert_remove (n - 1) i (omega arith) in
    let g = get_d_remove_below (n - 1) (m - 1) i (omega arith) in
    let b = insert_remove (m - 1) (remove_at (n - 1) i) (omega arith) in
    cc

-- two lists related entry by entry
module _ (R : ℕ → ℕ → Type 0) where
  pub each2_length : (xs ys : List ℕ) → Each2 R xs ys → length xs ≡ length ys
  each2_length [] [] h = refl
  each2_length [] (y ∷ ys) h = absurd h
  each2_length (x ∷ xs) [] h = absurd h
  each2_length (x ∷ xs) (y ∷ ys) h = ap suc (each2_length xs ys h.1)

  pub each2_append : (xs ys us vs : List ℕ) → Each2 R xs us → Each2 R ys vs → Each2 R (xs ++ ys) (us ++ vs)
  each2_append [] ys [] vs h k = k
  each2_append [] ys (u ∷ us) vs h k = absurd h
  each2_append (x ∷ xs) ys [] vs h k = absurd h
  each2_append (x ∷ xs) ys (u ∷ us) vs h k = (h.0, each2_append xs ys us vs h.1 k)

  each2_get_d : (xs ys : List ℕ) (k : ℕ) → Each2 R xs ys → k < length xs → R (get_or xs k 0) (get_or ys k 0)
  each2_get_d [] ys k h l = absurd (omega arith)
  each2_get_d (x ∷ xs) [] k h l = absurd h
  each2_get_d (x ∷ xs) (y ∷ ys) zero h l = h.0
  each2_get_d (x ∷ xs) (y ∷ ys) (suc k) h l = each2_get_d xs ys k h.1 (omega arith)

  each2_set : (xs ys : List ℕ) (k x y : ℕ) → Each2 R xs ys → R x y → Each2 R (set xs k x) (set ys k y)
  each2_set [] [] k x y h r = tt
  each2_set [] (v ∷ ys) k x y h r = absurd h
  each2_set (u ∷ xs) [] k x y h r = absurd h
  each2_set (u ∷ xs) (v ∷ ys) zero x y h r = (r, h.1)
  each2_set (u ∷ xs) (v ∷ ys) (suc k) x y h r = (h.0, each2_set xs ys k x y h.1 r)

  each2_remove : (p : ℕ) (xs ys : List ℕ) → Each2 R xs ys → Each2 R (remove_at p xs) (remove_at p ys)
  each2_remove zero [] [] h = tt
  each2_remove (suc p) [] [] h = tt
  each2_remove p [] (y ∷ ys) h = absurd h
  each2_remove p (x ∷ xs) [] h = absurd h
  each2_remove zero (x ∷ xs) (y ∷ ys) h = h.1
  each2_remove (suc p) (x ∷ xs) (y ∷ ys) h = (h.0, each2_remove p xs ys h.1)

  each2_insert : (p x y : ℕ) (xs ys : List ℕ) → R x y → Each2 R xs ys → Each2 R (insert_at p x xs) (insert_at p y ys)
  each2_insert zero x y xs ys r h = (r, h)
  each2_insert (suc p) x y [] [] r h = (r, tt)
  each2_insert (suc p) x y [] (v ∷ ys) r h = absurd h
  each2_insert (suc p) x y (u ∷ xs) [] r h = absurd h
  each2_insert (suc p) x y (u ∷ xs) (v ∷ ys) r h = (h.0, each2_insert p x y xs ys r h.1)

  pub each2_at : (xs ys : List ℕ) (d : ℕ) → Each2 R xs ys → 1 ≤ d → d ≤ length xs → R (at1 xs d) (at1 ys d)
  each2_at xs ys zero h a b = absurd (omega arith)
  each2_at xs ys (suc k) h a b = each2_get_d xs ys k h (omega arith)

  pub each2_exchanged : (m n : ℕ) (xs ys : List ℕ) → two_of m n (length xs) ≡ true → Each2 R xs ys → Each2 R (exchanged m n xs) (exchanged m n ys)
  each2_exchanged m n xs ys t h =
      let p = two_parts m n (length xs) t in
      let x = get_or xs (n - 1) 0 in
      let y = get_or ys (n - 1) 0 in
      let s = each2_set xs ys (m - 1) x y h (each2_get_d xs ys (n - 1) h (omega arith)) in
      each2_set (set xs (m - 1) x) (set ys (m - 1) y) (n - 1) (get_or xs (m - 1) 0) (get_or ys (m - 1) 0) s (each2_get_d xs ys (m - 1) h (omega arith))

  pub each2_removed : (m n : ℕ) (xs ys : List ℕ) → Each2 R xs ys → Each2 R (removed m n xs) (removed m n ys)
  each2_removed m n xs ys h = each2_remove (m - 1) (remove_at (n - 1) xs) (remove_at (n - 1) ys) (each2_remove (n - 1) xs ys h)

  each2_inserted : (m n x y : ℕ) (xs ys : List ℕ) → R x y → Each2 R xs ys → Each2 R (inserted m n x xs) (inserted m n y ys)
  each2_inserted m n x y xs ys r h = each2_insert (n - 1) x y (insert_at (m - 1) x xs) (insert_at (m - 1) y ys) r (each2_insert (m - 1) x y xs ys r h)

  pub each2_unique : ((x y z : ℕ) → R x y → R x z → y ≡ z) → (xs ys zs : List ℕ) → Each2 R xs ys → Each2 R xs zs → ys ≡ zs
  each2_unique u [] [] [] h k = refl
  each2_unique u [] [] (z ∷ zs) h k = absurd k
  each2_unique u [] (y ∷ ys) zs h k = absurd h
  each2_unique u (x ∷ xs) [] zs h k = absurd h
  each2_unique u (x ∷ xs) (y ∷ ys) [] h k = absurd k
  each2_unique u (x ∷ xs) (y ∷ ys) (z ∷ zs) h k =
      let a = u x y z h.0 k.0 in
      let b = each2_unique u xs ys zs h.1 k.1 in
      cc

-- an index lies in the extents: each coordinate is from 1 to its extent
abbrev Lies : ℕ → ℕ → Type 0
Lies e c = (1 ≤ c) × (c ≤ e)

each_within : (es cs : List ℕ) → within es cs ≡ true → Each2 Lies es cs
each_within [] [] h = tt
each_within [] (c ∷ cs) h = absurd (false≢true h)
each_within (e ∷ es) [] h = absurd (false≢true h)
each_within (e ∷ es) (c ∷ cs) h =
    let p = and_parts (leb 1 c && leb c e) (within es cs) h in
    let q = and_parts (leb 1 c) (leb c e) p.0 in
    ((leb-true 1 c q.0, leb-true c e q.1), each_within es cs p.1)

within_each : (es cs : List ℕ) → Each2 Lies es cs → within es cs ≡ true
within_each [] [] h = refl
within_each [] (c ∷ cs) h = absurd h
within_each (e ∷ es) [] h = absurd h
within_each (e ∷ es) (c ∷ cs) h =
    and_from (leb 1 c && leb c e) (within es cs) (and_from (leb 1 c) (leb c e) (le-leb 1 c h.0.0) (le-leb c e h.0.1)) (within_each es cs h.1)

pub within_length : (es cs : List ℕ) → within es cs ≡ true → length es ≡ length cs
within_length es cs h = each2_length Lies es cs (each_within es cs h)

pub within_parts : (xs ys cs : List ℕ) → within (xs ++ ys) cs ≡ true → (within xs (take (length xs) cs) ≡ true) × (within ys (drop (length xs) cs) ≡ true)
within_parts [] ys cs h = (refl, h)
within_parts (x ∷ xs) ys [] h = absurd (false≢true h)
within_parts (x ∷ xs) ys (c ∷ cs) h =
    let p = and_parts (leb 1 c && leb c x) (within (xs ++ ys) cs) h in
    let q = within_parts xs ys cs p.1 in
    (and_from (leb 1 c && leb c x) (within xs (take (length xs) cs)) p.0 q.0, q.1)

pub within_join : (xs ys cs : List ℕ) → within xs (take (length xs) cs) ≡ true → within ys (drop (length xs) cs) ≡ true → within (xs ++ ys) cs ≡ true
within_join [] ys cs h k = k
within_join (x ∷ xs) ys [] h k = absurd (false≢true h)
within_join (x ∷ xs) ys (c ∷ cs) h k =
    let p = and_parts (leb 1 c && leb c x) (within xs (take (length xs) cs)) h in
    and_from (leb 1 c && leb c x) (within (xs ++ ys) cs) p.0 (within_join xs ys cs p.1 k)

pub within_exchanged : (m n : ℕ) (es cs : List ℕ) → two_of m n (length es) ≡ true → within (exchanged m n es) cs ≡ true → within es (exchanged m n cs) ≡ true
within_exchanged m n es cs t h =
    let r = subst (λ k. two_of m n k ≡ true) (sym (length_exchanged m n es)) t in
    let b = each2_exchanged Lies m n (exchanged m n es) cs r (each_within (exchanged m n es) cs h) in
    within_each es (exchanged m n cs) (subst (λ es. Each2 Lies es (exchanged m n cs)) (exchanged_twice m n es t) b)

pub within_exchanged_back : (m n : ℕ) (es cs : List ℕ) → two_of m n (length es) ≡ true → within es (exchanged m n cs) ≡ true → within (exchanged m n es) cs ≡ true
within_exchanged_back m n es cs t h =
    let r = subst (λ k. two_of m n k ≡ true) (within_length es (exchanged m n cs) h ∙ length_exchanged m n cs) t in
    let b = each2_exchanged Lies m n es (exchanged m n cs) t (each_within es (exchanged m n cs) h) in
    within_each (exchanged m n es) cs (subst (Each2 Lies (exchanged m n es)) (exchanged_twice m n cs r) b)

pub within_inserted : (m n l : ℕ) (es cs : List ℕ) → two_of m n (length es) ≡ true → at1 es m ≡ at1 es n → 1 ≤ l → l ≤ at1 es m → within (removed m n es) cs ≡ true → within es (inserted m n l cs) ≡ true
within_inserted m n l es cs t e a b h =
    let r = each2_inserted Lies m n (at1 es m) l (removed m n es) cs (a, b) (each_within (removed m n es) cs h) in
    within_each es (inserted m n l cs) (subst (λ es. Each2 Lies es (inserted m n l cs)) (inserted_removed m n es t e) r)

pub within_removed : (m n l : ℕ) (es cs : List ℕ) → two_of m n (length es) ≡ true → within es (inserted m n l cs) ≡ true → (within (removed m n es) cs ≡ true) × (1 ≤ l) × (l ≤ at1 es m)
within_removed m n l es cs t h =
    let p = two_parts m n (length es) t in
    let r = subst (λ k. two_of m n k ≡ true) (within_length es (inserted m n l cs) h ∙ length_inserted m n l cs) t in
    let b = each_within es (inserted m n l cs) h in
    let g = subst (Each2 Lies (removed m n es)) (removed_inserted m n l cs r) (each2_removed Lies m n es (inserted m n l cs) b) in
    let q = subst (Lies (at1 es m)) (at1_inserted m n l cs r) (each2_at Lies es (inserted m n l cs) m b p.0 (omega arith)) in
    (within_each (removed m n es) cs g, q.0, q.1)
