-- The bytes that the program writes for a pattern are those of its definition.
use Prim.Native.Nat.{ℕ, suc, ◌+◌, ◌*◌, ◌^◌, ◌<◌, ◌≤◌}
use mathlib.Core.Path.{◌≡◌, refl, sym, ap, ◌∙◌}
use mathlib.Core.Bool.{true, false}
use mathlib.Core.List.{List, [], ◌++◌}
use native.Mathlib.Omega.{arith}
use native.Mathlib.Nat.{mul-one, div-div-eq-div-mul}
use lib.IntN.{pos, negsuc}
use lib.Pow.{pow_pos}
use lib.ListN.{length, take, get_or}
use borrow.Rule.Slice.PartMut.{put_mid}
use Rattle.std.specs.Int.{w16, w64, from_le_bytes, to_le_bytes}
use Rattle.std.specs.Simd.{first_chunks}
use Rattle.std.proofs.lemmas.Slice.{take-put_mid}
use lib.Ieee.{Float, binary64, to_bits}
use Rattle.posit.specs.Number.{Number, nar, real, number}
use Rattle.real.specs.Reals.{Holds, ToF64}
use Rattle.real.specs.declared.numbers.RealAnswer.TheVariants.{Real, NaR}
use Rattle.real.proofs.Same.{same_bits}
use Rattle.blocks.specs.Words.{little_endian, word_at, words_at, for_each}
use Rattle.blocks.proofs.Converting.{length-little_endian, chunk_word, one_more}
use Rattle.reals.specs.Reals.{over28, bytes_of}

eight_of : (z : Number) → length (bytes_of z) ≡ 8
eight_of nar = refl
eight_of (real k) = length-little_endian 8 (to_bits binary64 (over28 k))

pub eight : (p : ℕ) → length (bytes_of (number 1 16 p)) ≡ 8
eight p = eight_of (number 1 16 p)

bits_of : (z : Number) (x : Float) → Holds 28 z x → little_endian 8 (to_bits binary64 x) ≡ bytes_of z
bits_of nar x v = absurd v
bits_of (real (pos m)) x v =
    ap (little_endian 8) (same_bits x (over28 (pos m)) false m (2 ^ 28) (pow_pos 28) v.1 (refl, ap (λ (n : ℕ). n * 2 ^ 28) (mul-one m)))
bits_of (real (negsuc m)) x v =
    ap (little_endian 8) (same_bits x (over28 (negsuc m)) true (suc m) (2 ^ 28) (pow_pos 28) v.1 (refl, ap (λ (n : ℕ). n * 2 ^ 28) (mul-one (suc m))))

pub real_bytes : (p : ℕ) (x : Float) → ToF64 p (Real x) → little_endian 8 (to_bits binary64 x) ≡ bytes_of (number 1 16 p)
real_bytes p x v = bits_of (number 1 16 p) x v

pub nar_bytes : (p : ℕ) → ToF64 p NaR → little_endian 8 0xFFFF_FFFF_FFFF_FFFF ≡ bytes_of (number 1 16 p)
nar_bytes p v = sym (ap bytes_of v)

-- one pattern more of a block
pub pattern_more : (b : List ℕ) (cs : List (List ℕ)) (l vs : List ℕ) (n k i p : ℕ) → cs ≡ first_chunks 2 n b → i < n → 8 * i + 8 ≤ length l
    → take (8 * i) l ≡ for_each (λ q. bytes_of (number 1 16 q)) (words_at 2 b 0 i)
    → p ≡ from_le_bytes w16 (get_or cs i []) → vs ≡ bytes_of (number 1 16 p)
    → take (8 * (i + 1)) (put_mid (8 * i) k l vs) ≡ for_each (λ q. bytes_of (number 1 16 q)) (words_at 2 b 0 (i + 1))
pattern_more b cs l vs n k i p chunks within fits before read given =
    let g = λ (q : ℕ). bytes_of (number 1 16 q) in
    let same : from_le_bytes w16 (get_or cs i []) ≡ word_at 2 (get_or cs i []) 0 = omega arith in
    let word : p ≡ word_at 2 b (2 * i) = read ∙ same ∙ ap (λ (c : List (List ℕ)). word_at 2 (get_or c i []) 0) chunks ∙ chunk_word 2 b n i [] within in
    let many : length vs ≡ 8 = ap length given ∙ eight p in
    take-put_mid (8 * i) k l vs (8 * (i + 1)) (omega arith) (omega arith) ∙ ap (λ (f : List ℕ). f ++ vs) before
    ∙ ap (λ (w : List ℕ). for_each g (words_at 2 b 0 i) ++ w) (given ∙ ap g word) ∙ sym (one_more 2 g b i)

pub lowest_first : (w : ℕ) → to_le_bytes w64 w ≡ little_endian 8 w
lowest_first w = simp div-div-eq-div-mul
