-- The bytes that the program writes for an f64 are those of its definition.
use Prim.Native.Nat.{ℕ, ◌+◌, ◌*◌, ◌≤◌, ◌<◌}
use mathlib.Core.Path.{◌≡◌, refl, sym, ap, ◌∙◌}
use mathlib.Core.List.{List, [], ◌++◌}
use native.Mathlib.Omega.{arith}
use lib.ListN.{length, take, get_or}
use borrow.Rule.Slice.PartMut.{put_mid}
use Rattle.std.specs.Int.{w16, w64, from_le_bytes, to_le_bytes}
use Rattle.std.specs.Simd.{first_chunks}
use Rattle.std.proofs.lemmas.Slice.{take-put_mid}
use lib.Ieee.{Float, nan, inf, fin, binary64, of_bits}
use Rattle.posit.specs.Number.{with_sign}
use Rattle.posit.specs.Rounding.{dyadic}
use Rattle.posit.proofs.Exists.{answered}
use Rattle.real.specs.Reals.{FromF64}
use Rattle.real.proofs.OneAnswer.{one_pattern}
use Rattle.blocks.specs.Words.{little_endian, word_at, words_at, for_each}
use Rattle.blocks.proofs.Converting.{chunk_word, one_more}
use Rattle.patterns.specs.Patterns.{pattern_of, bytes_of}

answers : (x : Float) → FromF64 x (pattern_of x)
answers nan = refl
answers (inf s) = refl
answers (fin s m e) = answered 1 16 (omega arith) (dyadic (with_sign s m) e)

-- one f64 more of a block
pub real_more : (b : List ℕ) (cs : List (List ℕ)) (l vs : List ℕ) (n k i bits p : ℕ) → cs ≡ first_chunks 8 n b → i < n → 2 * i + 2 ≤ length l
    → take (2 * i) l ≡ for_each bytes_of (words_at 8 b 0 i) → bits ≡ from_le_bytes w64 (get_or cs i [])
    → FromF64 (of_bits binary64 bits) p → vs ≡ to_le_bytes w16 p
    → take (2 * (i + 1)) (put_mid (2 * i) k l vs) ≡ for_each bytes_of (words_at 8 b 0 (i + 1))
real_more b cs l vs n k i bits p chunks within fits before read given now =
    let same : from_le_bytes w64 (get_or cs i []) ≡ word_at 8 (get_or cs i []) 0 = omega arith in
    let word : bits ≡ word_at 8 b (8 * i) = read ∙ same ∙ ap (λ (c : List (List ℕ)). word_at 8 (get_or c i []) 0) chunks ∙ chunk_word 8 b n i [] within in
    let x = of_bits binary64 bits in
    let e : p ≡ pattern_of x = one_pattern x p (pattern_of x) given (answers x) in
    let many : length vs ≡ 2 = ap length now in
    take-put_mid (2 * i) k l vs (2 * (i + 1)) (omega arith) (omega arith) ∙ ap (λ (f : List ℕ). f ++ vs) before
    ∙ ap (λ (w : List ℕ). for_each bytes_of (words_at 8 b 0 i) ++ w) (now ∙ ap (little_endian 2) e ∙ ap bytes_of word) ∙ sym (one_more 8 bytes_of b i)
