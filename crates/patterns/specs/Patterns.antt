-- Document 01: "From f64: NaN and both infinities give NaR, both zeros give 0, everything else goes by the rounding rule on its
-- exact number." What the program writes for a block of f64s: the pattern of each as two little-endian bytes.
use Rattle.std.specs.Prelude.{ℕ, List, Float}
use Rattle.std.specs.Float.{nan, inf, fin, binary64}
use Rattle.std.specs.Float.Ieee.{of_bits}
use Rattle.posit.specs.Number.{with_sign}
use Rattle.posit.specs.Rounding.{dyadic}
use Rattle.posit.specs.Answer.{answer}
use Rattle.blocks.specs.Words.{little_endian, converted}

abbrev pub pattern_of : Float → ℕ
pattern_of nan = 0x8000
pattern_of (inf s) = 0x8000
pattern_of (fin s m e) = answer 1 16 (dyadic (with_sign s m) e)

abbrev pub bytes_of : ℕ → List ℕ
bytes_of bits = little_endian 2 (pattern_of (of_bits binary64 bits))

abbrev pub patterns_of : List ℕ → List ℕ
patterns_of = converted 8 bytes_of
