-- Lists with an entry for each dimension, as moving parts of them leaves them. Assumes nothing.
use Rattle.std.proofs.Common.{◌≡◌, ℕ, zero, suc, ◌+◌, ◌-◌, ◌<◌, ◌≤◌, true, ◌&&◌, ltb, leb, List, [], ◌∷◌, ◌++◌, length, get_or, take, drop, set, sym, refl, ap, ◌∙◌, arith, length-drop}
use Rattle.std.proofs.Math.Seq.{paste, take-set-lt, set-append_seam}
use Rattle.std.proofs.lemmas.List.{take_more, take-take, length-take-le, get_or-take, drop-take, append_assoc}
use Rattle.std.proofs.lemmas.List.Edits.{take-paste}
use Rattle.std.proofs.lemmas.Bool.{and_from, le-leb, lt-ltb}
use Rattle.indices.specs.declared.index.Index.{Index}
use Rattle.indices.specs.Dimensions.{two_of, exchanged, remove_at, insert_at}
use Rattle.indices.specs.Coordinates.{coordinates}
use Rattle.indices.specs.Places.{at1}

pub entries_length : (i : Index) → length (coordinates i) ≡ i.len
entries_length i = length-take-le i.len i.coords (omega (arith, i.small, i.whole))

pub two_from : (m n k : ℕ) → 1 ≤ m → m < n → n ≤ k → two_of m n k ≡ true
two_from m n k a b c = and_from (leb 1 m) (ltb m n && leb n k) (le-leb 1 m a) (and_from (ltb m n) (leb n k) (lt-ltb m n b) (le-leb n k c))

pub exchange_is : (cs : List ℕ) (len m n : ℕ) → 1 ≤ m → m < n → n ≤ len → take len (set (set cs (m - 1) (get_or cs (n - 1) 0)) (n - 1) (get_or cs (m - 1) 0)) ≡ exchanged m n (take len cs)
exchange_is cs len m n f o l =
    let x = get_or-take len cs (n - 1) 0 (omega arith) in
    let y = get_or-take len cs (m - 1) 0 (omega arith) in
    let a = take-set-lt len (set cs (m - 1) (get_or cs (n - 1) 0)) (n - 1) (get_or cs (m - 1) 0) (omega arith) in
    let b = take-set-lt len cs (m - 1) (get_or cs (n - 1) 0) (omega arith) in
    cc

-- a part of a list moved by `copy_within`
pub rest_is : (cs : List ℕ) (n len : ℕ) → n ≤ len → len ≤ length cs → take (len - n) (paste cs 0 (drop n cs) (len - n)) ≡ drop n (take len cs)
rest_is cs n len h k =
    let p : n + (len - n) ≡ len = omega arith in
    let a = take-paste cs 0 (drop n cs) (len - n) (omega arith) (omega (arith, length-drop n cs)) in
    let z : 0 + (len - n) ≡ len - n = omega arith in
    ap (λ t. take t (paste cs 0 (drop n cs) (len - n))) (sym z) ∙ a ∙ sym (drop-take n (len - n) cs) ∙ ap (λ t. drop n (take t cs)) p

remove_is : (p : ℕ) (ys : List ℕ) → remove_at p ys ≡ take p ys ++ drop (suc p) ys
remove_is zero [] = refl
remove_is zero (y ∷ ys) = refl
remove_is (suc p) [] = refl
remove_is (suc p) (y ∷ ys) = ap (λ t. y ∷ t) (remove_is p ys)

pub removed_is : (cs : List ℕ) (p len : ℕ) → p < len → len ≤ length cs → take (len - 1) (paste cs p (drop (p + 1) cs) (len - (p + 1))) ≡ remove_at p (take len cs)
removed_is cs p len h k =
    let e : p + (len - (p + 1)) ≡ len - 1 = omega arith in
    let f : p + 1 + (len - (p + 1)) ≡ len = omega arith in
    let g : p + 1 ≡ suc p = omega arith in
    let a = take-paste cs p (drop (p + 1) cs) (len - (p + 1)) (omega arith) (omega (arith, length-drop (p + 1) cs)) in
    let l = length-take-le len cs k in
    ap (λ t. take t (paste cs p (drop (p + 1) cs) (len - (p + 1)))) (sym e) ∙ a
    ∙ ap (λ t. t ++ take (len - (p + 1)) (drop (p + 1) cs)) (sym (take-take p len cs (omega arith)))
    ∙ ap (λ t. take p (take len cs) ++ t) (sym (drop-take (p + 1) (len - (p + 1)) cs) ∙ ap (λ t. drop (p + 1) (take t cs)) f)
    ∙ ap (λ t. take p (take len cs) ++ drop t (take len cs)) g ∙ sym (remove_is p (take len cs))

insert_is : (p x : ℕ) (ys : List ℕ) → p ≤ length ys → insert_at p x ys ≡ take p ys ++ x ∷ drop p ys
insert_is zero x ys h = refl
insert_is (suc p) x [] h = absurd (omega arith)
insert_is (suc p) x (y ∷ ys) h = ap (λ t. y ∷ t) (insert_is p x ys (omega arith))

pub inserted_is : (cs : List ℕ) (p x len : ℕ) → p ≤ len → len < length cs → take (len + 1) (set (paste cs (p + 1) (drop p cs) (len - p)) p x) ≡ insert_at p x (take len cs)
inserted_is cs p x len h k =
    let qs = paste cs (p + 1) (drop p cs) (len - p) in
    let e : p + 1 + (len - p) ≡ len + 1 = omega arith in
    let f : p + (len - p) ≡ len = omega arith in
    let a = take-paste cs (p + 1) (drop p cs) (len - p) (omega arith) (omega (arith, length-drop p cs)) in
    let l = length-take-le len cs (omega arith) in
    let m = length-take-le p cs (omega arith) in
    let front = take p cs in let back = take (len - p) (drop p cs) in let c = get_or cs p 0 in
    let w : take (len + 1) qs ≡ (front ++ c ∷ []) ++ back = ap (λ t. take t qs) (sym e) ∙ a ∙ ap (λ t. t ++ back) (take_more cs p 0 (omega arith)) in
    let b : back ≡ drop p (take len cs) = sym (drop-take p (len - p) cs) ∙ ap (λ t. drop p (take t cs)) f in
    take-set-lt (len + 1) qs p x (omega arith)
    ∙ ap (λ t. set t p x) (w ∙ append_assoc front (c ∷ []) back)
    ∙ ap (λ t. set (front ++ c ∷ back) t x) (sym m)
    ∙ set-append_seam front c back x
    ∙ ap (λ t. t ++ x ∷ back) (sym (take-take p len cs h))
    ∙ ap (λ t. take p (take len cs) ++ x ∷ t) b
    ∙ sym (insert_is p x (take len cs) (omega arith))

pub remove_length : (p : ℕ) (i : List ℕ) → p < length i → length i ≡ suc (length (remove_at p i))
remove_length zero [] h = absurd (omega arith)
remove_length zero (y ∷ ys) h = refl
remove_length (suc p) [] h = absurd (omega arith)
remove_length (suc p) (y ∷ ys) h = ap suc (remove_length p ys (omega arith))

pub at1_at : (es : List ℕ) (d : ℕ) → 1 ≤ d → at1 es d ≡ get_or es (d - 1) 0
at1_at es zero h = absurd (omega arith)
at1_at es (suc n) h = let e : suc n - 1 ≡ n = omega arith in ap (λ k. get_or es k 0) (sym e)
