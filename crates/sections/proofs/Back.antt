-- Numbers come back from their bytes, a section from its bytes wherever it stands, and bytes from the numbers that stand in them.
use Prim.Native.Nat.{ℕ, zero, suc, ◌+◌, ◌*◌, ◌/◌, ◌%◌, ◌≤◌, ◌<◌}
use mathlib.Core.Path.{◌≡◌, refl, sym, ap, ◌∙◌}
use mathlib.Core.List.{List, [], ◌∷◌, ◌++◌, append_assoc}
use native.Mathlib.Omega.{arith}
use native.Mathlib.Numerals.{add-one}
use native.Mathlib.Nat.{add-zero}
use lib.ListN.{length, take, drop, get_or, length-append}
use lib.Seq.{get_or-append-add, drop-cons}
use Rattle.words.specs.Numbers.{bytes_of, bytes_of_all, number_at_of, numbers_at}
use Rattle.words.proofs.Reading.{length-numbers_at}
use Rattle.words.proofs.Writing.{length-bytes_of_all}
use Rattle.sections.specs.Sections.{section, section_at, past_section}

pub number_back : (p : List ℕ) (w : ℕ) (q : List ℕ) → number_at_of (p ++ (bytes_of w ++ q)) (length p) ≡ w
number_back p w q =
    let low : get_or (p ++ (bytes_of w ++ q)) (length p) 0 ≡ w % 256 =
    ap (λ (k : ℕ). get_or (p ++ (bytes_of w ++ q)) k 0) (sym (add-zero (length p))) ∙ get_or-append-add p (bytes_of w ++ q) 0 0 in
    let high : get_or (p ++ (bytes_of w ++ q)) (length p + 1) 0 ≡ w / 256 = get_or-append-add p (bytes_of w ++ q) 1 0 in
    omega (arith, low, high)

numbers_back : (p ws q : List ℕ) → numbers_at (p ++ (bytes_of_all ws ++ q)) (length p) (length ws) ≡ ws
numbers_back p [] q = refl
numbers_back p (w ∷ ws) q =
    let rest = bytes_of_all ws ++ q in
    let e : p ++ (bytes_of w ++ rest) ≡ p ++ bytes_of w ++ rest = sym (append_assoc p (bytes_of w) rest) in
    let n : length p + 2 ≡ length (p ++ bytes_of w) = sym (length-append p (bytes_of w)) in
    let tail : numbers_at (p ++ (bytes_of w ++ rest)) (length p + 2) (length ws) ≡ ws =
    rw (e, n) (numbers_back (p ++ bytes_of w) ws q) in
    rw (number_back p w rest, tail)

-- a section, with the bytes p before it and q after it
module _ (p ws q : List ℕ) where
  count_back : number_at_of (p ++ (section ws ++ q)) (length p) ≡ length ws
  unfolding section
  count_back = number_back p (length ws) (bytes_of_all ws ++ q)

  pub section_back : section_at (p ++ (section ws ++ q)) (length p) ≡ ws
  unfolding section
  section_back =
      let rest = bytes_of_all ws ++ q in
      let e : p ++ (bytes_of (length ws) ++ rest) ≡ p ++ bytes_of (length ws) ++ rest =
      sym (append_assoc p (bytes_of (length ws)) rest) in
      let n : length p + 2 ≡ length (p ++ bytes_of (length ws)) = sym (length-append p (bytes_of (length ws))) in
      rw (number_back p (length ws) rest, e, n) (numbers_back (p ++ bytes_of (length ws)) ws q)

  pub past_back : past_section (p ++ (section ws ++ q)) (length p) ≡ length p + length (section ws)
  unfolding section
  past_back = rw count_back (omega (arith, length-bytes_of_all ws))

pub length-section : (ws : List ℕ) → length (section ws) ≡ 2 + 2 * length ws
unfolding section
length-section ws = omega (arith, length-bytes_of_all ws)

-- whatever stands in a slice of bytes
abbrev pub Bytes : List ℕ → Type 0
Bytes b = (i : ℕ) → get_or b i 0 < 256

module _ (b : List ℕ) (bytes : Bytes b) where
  bytes_back : (at n : ℕ) → at + 2 * n ≤ length b → bytes_of_all (numbers_at b at n) ≡ take (2 * n) (drop at b)
  bytes_back at zero h = refl
  bytes_back at (suc n) h =
      let low : number_at_of b at % 256 ≡ get_or b at 0 = omega (arith, bytes at) in
      let high : number_at_of b at / 256 ≡ get_or b (at + 1) 0 = omega (arith, bytes at) in
      let e : 2 * suc n ≡ suc (suc (2 * n)) = omega arith in
      let s : at + 2 ≡ suc (suc at) = omega arith in
      rw (bytes_back (at + 2) n (omega arith), low, high, add-one, e, drop-cons b at 0 (omega arith), drop-cons b (suc at) 0 (omega arith), s)

  pub section_bytes : (at : ℕ) → past_section b at ≤ length b
      → section (section_at b at) ≡ take (2 + 2 * number_at_of b at) (drop at b)
  unfolding section
  section_bytes at h =
      let n = number_at_of b at in
      let e : 2 * suc n ≡ 2 + 2 * n = omega arith in
      rw (length-numbers_at b (at + 2) n) (bytes_back at (suc n) (omega arith) ∙ ap (λ (k : ℕ). take k (drop at b)) e)
