-- Bytes as little-endian words, and what a program that converts words writes for a block of bytes.
use Rattle.std.specs.Prelude.{ℕ, zero, suc, ◌+◌, ◌*◌, ◌/◌, ◌%◌, List, [], ◌∷◌, ◌++◌, length, get_or}

-- the lowest k bytes of a word, the lowest first
abbrev pub little_endian : ℕ → ℕ → List ℕ
little_endian zero w = []
little_endian (suc k) w = w % 256 ∷ little_endian k (w / 256)

-- the word in the k bytes from a place on
abbrev pub word_at : ℕ → List ℕ → ℕ → ℕ
word_at zero b at = 0
word_at (suc k) b at = get_or b at 0 + 256 * word_at k b (suc at)

-- the n words of k bytes from a place on
abbrev pub words_at : ℕ → List ℕ → ℕ → ℕ → List ℕ
words_at k b at zero = []
words_at k b at (suc n) = word_at k b at ∷ words_at k b (at + k) n

-- what g gives for each word, one after the other
abbrev pub for_each : (ℕ → List ℕ) → List ℕ → List ℕ
for_each g [] = []
for_each g (w ∷ ws) = g w ++ for_each g ws

-- what g gives for each word of k bytes in a block; bytes at its end that make no word give nothing
abbrev pub converted : ℕ → (ℕ → List ℕ) → List ℕ → List ℕ
converted k g b = for_each g (words_at k b 0 (length b / k))
