-- Document 01: "The program `reals` reads 16-bit little-endian patterns from standard input (a last odd byte is ignored) and
-- writes each f64 as eight little-endian bytes; its writing step leaves early when the answer holds no real, with eight FF bytes
-- for that pattern." What it writes for a block of bytes.
use Rattle.std.specs.Prelude.{ℕ, suc, true, false, List, [], ◌∷◌, ℤ, pos, negsuc, Float}
use Rattle.std.specs.Float.{fin, binary64}
use Rattle.std.specs.Float.Ieee.{to_bits}
use Rattle.posit.specs.Number.{Number, nar, real, number}
use Rattle.blocks.specs.Words.{little_endian, converted}

-- the f64 k / 2 ^ 28
abbrev pub over28 : ℤ → Float
over28 (pos m) = fin false m (negsuc 27)
over28 (negsuc m) = fin true (suc m) (negsuc 27)

abbrev pub bytes_of : Number → List ℕ
bytes_of nar = 0xFF ∷ 0xFF ∷ 0xFF ∷ 0xFF ∷ 0xFF ∷ 0xFF ∷ 0xFF ∷ 0xFF ∷ []
bytes_of (real k) = little_endian 8 (to_bits binary64 (over28 k))

abbrev pub reals_of : List ℕ → List ℕ
reals_of = converted 2 (λ p. bytes_of (number 1 16 p))
