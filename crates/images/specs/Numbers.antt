-- Numbers as big-endian bytes, there and back. Assumes nothing.
use Rattle.std.specs.Prelude.{◌≡◌, ℕ, zero, suc, ◌+◌, ◌*◌, ◌/◌, ◌%◌, ◌^◌, ◌<◌, ◌≤◌, List, [], ◌∷◌, length, drop, slice_index, slice_index_or, refl}
use Rattle.std.proofs.Common.{sym, ap, ◌∙◌, add-mul, mul_assoc, mul_comm, mul-one, mod-lt, mod-eq_of_lt, div-add-mod', div-one, pow-suc, add-one, arith}
use Rattle.std.proofs.Math.Nat.{mod-one, pow-le-pow_right}
use Rattle.std.proofs.lemmas.List.{at_drop_more, drop_all}
use Rattle.std.proofs.lemmas.Nat.{mul-add-lt, mod-mul-add}
use Rattle.images.specs.Bytes.{number, bytes}

-- a list of bytes
abbrev pub Octets : List ℕ → Type 0
Octets bs = (i : ℕ) → slice_index bs i < 256

pub octets_rest : (b : ℕ) (bs : List ℕ) → Octets (b ∷ bs) → Octets bs
octets_rest b bs h i = h (suc i)

pub power_pos : (n : ℕ) → 0 < 256 ^ n
power_pos zero = omega arith
power_pos (suc n) = rw (pow-suc 256 n) (omega (arith, power_pos n))

pub number_lt : (bs : List ℕ) → Octets bs → number bs < 256 ^ length bs
number_lt [] h = omega arith
number_lt (b ∷ bs) h =
    let q = number_lt bs (octets_rest b bs h) in
    rw (pow-suc 256 (length bs)) (mul-add-lt b (256 ^ length bs) (number bs) 256 (h 0) q)

length_bytes : (n x : ℕ) → length (bytes n x) ≡ n
length_bytes zero x = refl
length_bytes (suc n) x = ap suc (length_bytes n x)

-- the last digits of a number, and the digit before them
split : (x p : ℕ) → 0 < p → x % (p * 256) ≡ (x / p % 256) * p + x % p
split x p h =
    let q = x / p in let r = x % p in let s = q % 256 in let t = q / 256 in
    let l : s * p + r < p * 256 = mul-add-lt s p r 256 (mod-lt q (omega arith)) (mod-lt x h) in
    let e : x ≡ t * (p * 256) + (s * p + r)
    = omega (arith, div-add-mod' x p, ap (λ n. n * p) (div-add-mod' q 256), add-mul (t * 256) s p, mul_assoc t 256 p, mul_comm 256 p) in
    ap (λ n. n % (p * 256)) e ∙ mod-mul-add t (p * 256) (s * p + r) l

pub number_bytes : (n x : ℕ) → number (bytes n x) ≡ x % 256 ^ n
number_bytes zero x = sym (mod-one x)
number_bytes (suc n) x =
    ap (λ k. (x / 256 ^ n % 256) * 256 ^ k + number (bytes n x)) (length_bytes n x)
    ∙ ap (λ k. (x / 256 ^ n % 256) * 256 ^ n + k) (number_bytes n x)
    ∙ sym (split x (256 ^ n) (power_pos n))
    ∙ ap (λ k. x % k) (sym (pow-suc 256 n))

pub number_code : (x : ℕ) → x < 2 ^ 64 → number (bytes 8 x) ≡ x
number_code x h = number_bytes 8 x ∙ mod-eq_of_lt h

-- a loop's step at byte i: n is the number of the bytes so far
module _ (bs : List ℕ) where
  pub digits_more : (i n : ℕ) → i < length bs → n * 256 ^ length (drop i bs) + number (drop i bs) ≡ number bs → (n * 256 + slice_index bs i) * 256 ^ length (drop (i + 1) bs) + number (drop (i + 1) bs) ≡ number bs
  digits_more i n h q =
      let b = slice_index_or bs i 0 in let p = 256 ^ length (drop (i + 1) bs) in
      let a = at_drop_more (λ t. n * 256 ^ length t + number t) bs i 0 h in
      let r : n * 256 ^ suc (length (drop (i + 1) bs)) + (b * p + number (drop (i + 1) bs)) ≡ number bs = sym a ∙ q in
      let s : n * (p * 256) ≡ n * 256 * p = omega (arith, ap (λ t. n * t) (mul_comm p 256), mul_assoc n 256 p) in
      omega (arith, r, ap (λ t. n * t) (pow-suc 256 (length (drop (i + 1) bs))), s, add-mul (n * 256) b p)

  pub digits_all : (i n : ℕ) → length bs ≤ i → n * 256 ^ length (drop i bs) + number (drop i bs) ≡ number bs → n ≡ number bs
  digits_all i n h q =
      let e = drop_all i bs h in
      let r : n * 1 + 0 ≡ number bs = ap (λ t. n * 256 ^ length t + number t) (sym e) ∙ q in
      omega (arith, mul-one n)

pub digit_lt : (n b i : ℕ) → n < 256 ^ i → b < 256 → n * 256 + b < 256 ^ (i + 1)
digit_lt n b i h k = rw (add-one i, pow-suc 256 i) (omega arith)

pub eight_bytes : (i : ℕ) → i ≤ 8 → 256 ^ i ≤ 2 ^ 64
eight_bytes i h = pow-le-pow_right {n = 256} (omega arith) h

-- the eight bytes of a number, written out
pub bytes_eight : (x : ℕ) → (x / 72057594037927936 % 256) ∷ (x / 281474976710656 % 256) ∷ (x / 1099511627776 % 256) ∷ (x / 4294967296 % 256) ∷ (x / 16777216 % 256) ∷ (x / 65536 % 256) ∷ (x / 256 % 256) ∷ (x % 256) ∷ [] ≡ bytes 8 x
bytes_eight x = rw (div-one x)
