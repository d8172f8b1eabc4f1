-- f / 2 ^ 63 * 2 ^ s with one exponent bit: x is the exponent bit and then the fraction. Cutting x to the t bits that come
-- after the regime gives the pattern of 17 bits, and from it the answer; the code keeps 48 bits more, and drops the rest.
use Rattle.std.proofs.Common.{◌≡◌, ℕ, suc, ◌+◌, ◌-◌, ◌*◌, ◌/◌, ◌%◌, ◌^◌, ◌<◌, ◌≤◌, cond, ◌||◌, ltb, sym, refl, ap, ◌∙◌, subst, ⊎_elim, mod-lt, mul_assoc, eq-zero-or-pos, zero-mul, le-mul_of_pos_right, arith, pow_pos, pow-add, shr-shr, shr_lt, le-ltb, lt-ltb}
use Prim.Native.Nat.{Ordering}
use mathlib.Core.Path.{subst⁻¹}
use native.Mathlib.Decide.{dec_lt}
use native.Mathlib.Nat.{mul-mod_left, zero-mod}
use lib.Pow.{split, mod-pow-add, mod-mod-pow}
use Rattle.posit.specs.Rounding.{ratio, Rounded}
use Rattle.posit.specs.Sides.{stands, lies}
use Rattle.posit.specs.declared.side.Side.TheVariants.{Below, On, Above}
use Rattle.posit.proofs.Value.{floated}
use Rattle.posit.proofs.Shapes.{index}
use Rattle.posit.proofs.Regimes.{Layout}
use Rattle.posit.proofs.Between.{floated_is, pattern_most, answer, stands-above, stands-below, stands_on}

-- u, the half of v or the one above it, is even where v lies between: a is v's half, and m its last bit
module _ (v a m u : ℕ) (half : a ≡ v / 2) (last : m ≡ a % 2) (picked : u ≡ (v + m) / 2) where
  even_above : 2 * u ≡ suc v → u % 2 ≡ 0
  even_above g =
      let h : 1 ≤ m = omega arith in
      let k : u ≡ a + 1 = omega arith in
      let e : u ≡ (a / 2 + 1) * 2 = omega arith in
      ap (λ (y : ℕ). y % 2) e ∙ mul-mod_left (a / 2 + 1) 2

  even_below : v ≡ 2 * u + 1 → u % 2 ≡ 0
  even_below g = let h : m ≡ 0 = omega arith in let k : u ≡ a = omega arith in ap (λ (y : ℕ). y % 2) k ∙ sym last ∙ h

-- what is added to the pattern v with r below it carries where anything is below it, and else where m is 1
carried : (v r m : ℕ) → r < 2 ^ 48 → m ≤ 1 → 1 ≤ r + m → (v * 2 ^ 48 + r + 0xFFFF_FFFF_FFFF + m) / 2 ^ 49 ≡ (v + 1) / 2
carried v r m h l some = omega arith

not_carried : (v m : ℕ) → m ≤ 1 → (v * 2 ^ 48 + 0 + 0xFFFF_FFFF_FFFF + m) / 2 ^ 49 ≡ (v + m) / 2
not_carried v m l = omega arith

module _ (f s t b : ℕ) (top : 2 ^ 63 ≤ f) (fits : f < 2 ^ 64) (l : Layout (s / 2) t b) where
  abbrev x : ℕ
  x = s % 2 * 2 ^ 63 + (f - 2 ^ 63)

  abbrev q : ℕ
  q = x / 2 ^ (64 - t)

  abbrev rest : ℕ
  rest = x % 2 ^ (64 - t)

  abbrev Z : ℕ
  Z = s * 2 ^ 63 + (f - 2 ^ 63)

  one_place : 2 ^ 1 * 2 ^ (63 - t) ≡ 2 ^ (64 - t)
  one_place = let k = l.few in sym (pow-add 2 1 (63 - t)) ∙ ap (λ (i : ℕ). 2 ^ i) (let e : 1 + (63 - t) ≡ 64 - t = omega arith in e)

  fits_tail : q < 2 ^ t
  fits_tail = let k = l.few in shr_lt t (64 - t) (subst (λ (i : ℕ). x < 2 ^ i) (let e : 64 ≡ t + (64 - t) = omega arith in e) (omega arith))

  whole : index 1 63 15 (omega arith) (s / 2) t q + rest ≡ Z
  whole =
      let a = mul_assoc q (2 ^ 1) (2 ^ (63 - t)) in
      let d : q * (2 ^ 1 * 2 ^ (63 - t)) ≡ q * 2 ^ (64 - t) = ap (λ (i : ℕ). q * i) one_place in
      let e = split x (64 - t) in
      omega arith

  small : rest < 2 ^ 1 * 2 ^ (63 - t)
  small = subst (λ (i : ℕ). rest < i) (sym one_place) (mod-lt x (pow_pos (64 - t)))

  abbrev v : ℕ
  v = b + q

  v_most : v ≤ 65533
  v_most = pattern_most 1 (s / 2) t b q rest Z l fits_tail whole small

  answers : (u : ℕ) → 2 * u ≤ suc v → v ≤ 2 * u + 1 → (2 * u ≡ suc v → rest ≡ 0 → u % 2 ≡ 0) → (v ≡ 2 * u + 1 → (rest ≡ 0) × (u % 2 ≡ 0))
      → Rounded 1 16 (ratio (f * 2 ^ s) (2 ^ 93)) u
  answers u near far onto tie =
      subst (λ (y : ℕ). Rounded 1 16 (ratio y (2 ^ 93)) u) (floated_is f s top fits) (answer 1 (s / 2) t b q rest Z l fits_tail whole small u near far onto tie)

  on : rest ≡ 0 → Rounded 1 16 (ratio (f * 2 ^ s) (2 ^ 93)) ((v + v / 2 % 2) / 2)
  on none =
      answers ((v + v / 2 % 2) / 2) (omega arith) (omega arith)
      (λ g z. even_above v (v / 2) (v / 2 % 2) ((v + v / 2 % 2) / 2) refl refl refl g)
      (λ g. (none, even_below v (v / 2) (v / 2 % 2) ((v + v / 2 % 2) / 2) refl refl refl g))

  off : (rest ≡ 0 → ⊥) → Rounded 1 16 (ratio (f * 2 ^ s) (2 ^ 93)) ((v + 1) / 2)
  off some = answers ((v + 1) / 2) (omega arith) (omega arith) (λ g z. absurd (some z)) (λ g. absurd (omega arith))

  -- x without its last two bits, shifted down by k: the tail of the pattern, q, and 48 bits after it, cut
  module _ (k : ℕ) (tail : k + t ≡ 14) where
    abbrev word : ℕ
    word = ((f - 2 ^ 63) / 4 + s % 2 * 2 ^ 61) / 2 ^ k

    abbrev cut : ℕ
    cut = word % 2 ^ 48

    word-is : word ≡ x / 2 ^ (2 + k)
    word-is = ap (λ (y : ℕ). y / 2 ^ k) (let e : (f - 2 ^ 63) / 4 + s % 2 * 2 ^ 61 ≡ x / 2 ^ 2 = omega arith in e) ∙ shr-shr x 2 k

    places : 64 - t ≡ 48 + (2 + k)
    places = let l = l.few in omega arith

    word-high : word / 2 ^ 48 ≡ q
    word-high = ap (λ (y : ℕ). y / 2 ^ 48) word-is ∙ shr-shr x (2 + k) 48 ∙ ap (λ (i : ℕ). x / 2 ^ i) (let e : 2 + k + 48 ≡ 64 - t = omega (arith, places) in e)

    -- what is cut off is what is left in the word and what was dropped from it
    rest-is : rest ≡ cut * 2 ^ (2 + k) + x % 2 ^ (2 + k)
    rest-is = ap (λ (i : ℕ). x % 2 ^ i) places ∙ mod-pow-add x 48 (2 + k) ∙ ap (λ (y : ℕ). y % 2 ^ 48 * 2 ^ (2 + k) + x % 2 ^ (2 + k)) (sym word-is)

    low_bits : x % 2 ^ 15 ≡ f % 2 ^ 15
    low_bits = omega arith

    -- an f whose lowest 15 bits are zeros loses nothing, and none of them is lost where nothing rests
    dropped : f % 2 ^ 15 ≡ 0 → x % 2 ^ (2 + k) ≡ 0
    dropped z =
        let few = l.few in
        sym (mod-mod-pow x (13 - k) (2 + k))
        ∙ ap (λ (i : ℕ). x % 2 ^ i % 2 ^ (2 + k)) (let e : 13 - k + (2 + k) ≡ 15 = omega arith in e)
        ∙ ap (λ (y : ℕ). y % 2 ^ (2 + k)) (low_bits ∙ z)
        ∙ zero-mod (2 ^ (2 + k))

    kept : rest ≡ 0 → f % 2 ^ 15 ≡ 0
    kept z =
        sym low_bits
        ∙ sym (mod-mod-pow x (35 + k) 15)
        ∙ ap (λ (i : ℕ). x % 2 ^ i % 2 ^ 15) (let e : 35 + k + 15 ≡ 64 - t = omega (arith, places) in e)
        ∙ ap (λ (y : ℕ). y % 2 ^ 15) z

    abbrev pub wide : ℕ
    wide = b * 2 ^ 48 + word

    pattern-above : wide ≡ v * 2 ^ 48 + cut
    pattern-above = let e = split word 48 in let h = word-high in omega arith

    pub wide-most : wide < 65534 * 2 ^ 48
    wide-most = let e = pattern-above in let h = mod-lt word (pow_pos 48) in let m = v_most in omega arith

    half : wide / 2 ^ 49 ≡ v / 2
    half = let e = pattern-above in let h = mod-lt word (pow_pos 48) in omega arith

    -- the wide pattern and what is added to it, as the answer to the number
    pub gathered : 0 < f % 2 ^ 15 → Rounded 1 16 (ratio (f * 2 ^ s) (2 ^ 93)) ((wide + 0xFFFF_FFFF_FFFF + 1) / 2 ^ 49)
    gathered some =
        let h = mod-lt word (pow_pos 48) in
        subst⁻¹ (Rounded 1 16 (ratio (f * 2 ^ s) (2 ^ 93)))
        (ap (λ (y : ℕ). (y + 0xFFFF_FFFF_FFFF + 1) / 2 ^ 49) pattern-above ∙ carried v cut 1 h (omega arith) (omega arith))
        (off (λ z. let e = kept z in omega arith))

    pub clear : f % 2 ^ 15 ≡ 0 → Rounded 1 16 (ratio (f * 2 ^ s) (2 ^ 93)) ((wide + 0xFFFF_FFFF_FFFF + wide / 2 ^ 49 % 2) / 2 ^ 49)
    clear none =
        subst⁻¹ (Rounded 1 16 (ratio (f * 2 ^ s) (2 ^ 93)))
        (λ i. (pattern-above i + 0xFFFF_FFFF_FFFF + half i % 2) / 2 ^ 49) (⊎_elim exact inexact (eq-zero-or-pos cut))
      where
        exact : cut ≡ 0 → Rounded 1 16 (ratio (f * 2 ^ s) (2 ^ 93)) ((v * 2 ^ 48 + cut + 0xFFFF_FFFF_FFFF + v / 2 % 2) / 2 ^ 49)
        exact z =
            subst⁻¹ (Rounded 1 16 (ratio (f * 2 ^ s) (2 ^ 93)))
            (ap (λ (y : ℕ). (v * 2 ^ 48 + y + 0xFFFF_FFFF_FFFF + v / 2 % 2) / 2 ^ 49) z ∙ not_carried v (v / 2 % 2) (omega arith))
            (on
            (let e = rest-is in let g : cut * 2 ^ (2 + k) ≡ 0 = ap (λ (y : ℕ). y * 2 ^ (2 + k)) z ∙ zero-mul (2 ^ (2 + k)) in
            let d = dropped none in omega arith))

        inexact : 0 < cut → Rounded 1 16 (ratio (f * 2 ^ s) (2 ^ 93)) ((v * 2 ^ 48 + cut + 0xFFFF_FFFF_FFFF + v / 2 % 2) / 2 ^ 49)
        inexact p =
            let h = mod-lt word (pow_pos 48) in
            subst⁻¹ (Rounded 1 16 (ratio (f * 2 ^ s) (2 ^ 93))) (carried v cut (v / 2 % 2) h (omega arith) (omega arith))
            (off (λ z. let e = rest-is in let g = le-mul_of_pos_right cut (pow_pos (2 + k)) in omega arith))

    -- and where a posit u lies, by its pattern as wide
    module _ (u : ℕ) (lo : 1 ≤ u) (hi : u ≤ 0x7fff) where
      abbrev standing : Ordering
      standing = stands 1 16 (ratio (f * 2 ^ s) (2 ^ 93)) u

      is_number : stands 1 16 (ratio (floated 63 Z) (2 ^ 93)) u ≡ standing
      is_number = ap (λ (y : ℕ). stands 1 16 (ratio y (2 ^ 93)) u) (floated_is f s top fits)

      above : wide < u * 2 ^ 49 → standing ≡ Ordering.gt
      above h = sym is_number ∙ stands-above 1 (s / 2) t b q rest Z l fits_tail whole small u lo hi (let e = pattern-above in omega arith)

      below : u * 2 ^ 49 ≤ wide → (u * 2 ^ 49 ≡ wide → 0 < f % 2 ^ 15) → standing ≡ Ordering.lt
      below h some =
          let e = pattern-above in
          let c = mod-lt word (pow_pos 48) in
          sym is_number ∙ stands-below 1 (s / 2) t b q rest Z l fits_tail whole small u lo hi (omega arith)
          (λ g. ⊎_elim (λ z. absurd (let k = some (omega (arith, rests z)) in let m = kept z in omega arith)) (λ k. k) (eq-zero-or-pos rest))
        where
          rests : rest ≡ 0 → cut ≡ 0
          rests z = ⊎_elim (λ e. e) (λ p. absurd (let e = rest-is in let g = le-mul_of_pos_right cut (pow_pos (2 + k)) in omega arith)) (eq-zero-or-pos cut)

      level : u * 2 ^ 49 ≡ wide → f % 2 ^ 15 ≡ 0 → standing ≡ Ordering.eq
      level h none =
          let e = pattern-above in
          let c = mod-lt word (pow_pos 48) in
          sym is_number ∙ stands_on 1 (s / 2) t b q rest Z l fits_tail whole small u lo hi (omega arith)
          (let g = rest-is in let d = dropped none in
          let z : cut * 2 ^ (2 + k) ≡ 0 = ap (λ (y : ℕ). y * 2 ^ (2 + k)) (let z : cut ≡ 0 = omega arith in z) ∙ zero-mul (2 ^ (2 + k)) in omega arith)

      pub side-is : lies standing ≡ cond (ltb wide (u * 2 ^ 49)) Above (cond (ltb (u * 2 ^ 49) wide || ltb 0 (f % 2 ^ 15)) Below On)
      side-is = go (dec_lt wide (u * 2 ^ 49)) (dec_lt (u * 2 ^ 49) wide) (dec_lt 0 (f % 2 ^ 15))
        where
          go : Dec (wide < u * 2 ^ 49) → Dec (u * 2 ^ 49 < wide) → Dec (0 < f % 2 ^ 15)
              → lies standing ≡ cond (ltb wide (u * 2 ^ 49)) Above (cond (ltb (u * 2 ^ 49) wide || ltb 0 (f % 2 ^ 15)) Below On)
          go (yes h) y z = rw (lt-ltb wide (u * 2 ^ 49) h, above h)
          go (no h) (yes y) z = rw (le-ltb wide (u * 2 ^ 49) (omega arith), lt-ltb (u * 2 ^ 49) wide y, below (omega arith) (λ e. absurd (omega arith)))
          go (no h) (no y) (yes z) =
              rw (
                le-ltb wide (u * 2 ^ 49) (omega arith),
                le-ltb (u * 2 ^ 49) wide (omega arith),
                lt-ltb 0 (f % 2 ^ 15) z,
                below (omega arith) (λ e. z),
              )
          go (no h) (no y) (no z) =
              rw (
                le-ltb wide (u * 2 ^ 49) (omega arith),
                le-ltb (u * 2 ^ 49) wide (omega arith),
                le-ltb 0 (f % 2 ^ 15) (omega arith),
                level (omega arith) (omega arith),
              )
