-- A block converted word by word: what one word more gives, and the chunk that a word stands in.
use Rattle.std.proofs.Common.{◌≡◌, ℕ, zero, suc, ◌+◌, ◌*◌, ◌/◌, ◌<◌, ◌≤◌, List, [], ◌∷◌, ◌++◌, length, take, drop, get_or, refl, ap, ◌∙◌, arith, append_assoc, append-nil, add-one, add-zero, zero-add, mul-zero, mul-suc}
use Rattle.std.proofs.lemmas.List.{get_or-drop, get_or-take}
use Rattle.std.specs.Simd.{first_chunks}
use Rattle.blocks.specs.Words.{little_endian, word_at, words_at, for_each}

pub length-little_endian : (k w : ℕ) → length (little_endian k w) ≡ k
length-little_endian zero w = refl
length-little_endian (suc k) w = ap suc (length-little_endian k (w / 256))

words_at-suc : (k : ℕ) (b : List ℕ) (at n : ℕ) → words_at k b at (suc n) ≡ words_at k b at n ++ (word_at k b (at + k * n) ∷ [])
words_at-suc k b at zero = rw (mul-zero, add-zero)
words_at-suc k b at (suc n) =
    let e : at + k + k * n ≡ at + k * suc n = omega (arith, mul-suc k n) in
    ap (λ (l : List ℕ). word_at k b at ∷ l) (words_at-suc k b (at + k) n ∙ ap (λ (x : ℕ). words_at k b (at + k) n ++ (word_at k b x ∷ [])) e)

for_each-snoc : (g : ℕ → List ℕ) (ws : List ℕ) (w : ℕ) → for_each g (ws ++ (w ∷ [])) ≡ for_each g ws ++ g w
for_each-snoc g [] w = append-nil (g w)
for_each-snoc g (v ∷ ws) w = rw (for_each-snoc g ws w, append_assoc)

-- what one word more gives
pub one_more : (k : ℕ) (g : ℕ → List ℕ) (b : List ℕ) (n : ℕ) → for_each g (words_at k b 0 (n + 1)) ≡ for_each g (words_at k b 0 n) ++ g (word_at k b (k * n))
one_more k g b n =
    ap (λ (j : ℕ). for_each g (words_at k b 0 j)) (add-one n) ∙ ap (for_each g) (words_at-suc k b 0 n)
    ∙ for_each-snoc g (words_at k b 0 n) (word_at k b (0 + k * n)) ∙ ap (λ (j : ℕ). for_each g (words_at k b 0 n) ++ g (word_at k b j)) (zero-add (k * n))

-- a word of a block is the one that its chunk of the block holds
word_at-drop : (k : ℕ) (b : List ℕ) (m at : ℕ) → word_at k (drop m b) at ≡ word_at k b (m + at)
word_at-drop zero b m at = refl
word_at-drop (suc k) b m at =
    let e : m + suc at ≡ suc (m + at) = omega arith in
    rw (get_or-drop m b at 0, word_at-drop k b m (suc at), e)

word_at-take : (k : ℕ) (b : List ℕ) (n at : ℕ) → at + k ≤ n → word_at k (take n b) at ≡ word_at k b at
word_at-take zero b n at h = refl
word_at-take (suc k) b n at h = rw (get_or-take n b at 0 (omega arith), word_at-take k b n (suc at) (omega arith))

pub chunk_word : (k : ℕ) (b : List ℕ) (n i : ℕ) (d : List ℕ) → i < n → word_at k (get_or (first_chunks k n b) i d) 0 ≡ word_at k b (k * i)
chunk_word k b zero i d h = absurd (omega arith)
chunk_word k b (suc n) zero d h = rw (mul-zero, word_at-take k b k 0 (omega arith))
chunk_word k b (suc n) (suc i) d h =
    let e : k + k * i ≡ k * suc i = omega (arith, mul-suc k i) in
    rw (chunk_word k (drop k b) n i d (omega arith), word_at-drop k b k (k * i), e)
