-- Bytes written one after the other: what two writes side by side leave, what is written beyond the end, and the bytes of one
-- more number.
use Prim.Native.Nat.{ℕ, zero, suc, ◌+◌, ◌*◌, ◌≤◌, ◌<◌, min}
use mathlib.Core.Path.{◌≡◌, refl, sym, ap, ◌∙◌}
use mathlib.Core.List.{List, [], ◌∷◌, ◌++◌}
use native.Mathlib.Omega.{arith}
use native.Mathlib.Numerals.{add-one}
use native.Mathlib.Nat.{add-zero}
use lib.ListN.{length, take, get_or, set, length-set}
use lib.Seq.{set_out, sets, take-suc, take-nil, length-take-le}
use Rattle.words.specs.Numbers.{bytes_of, bytes_of_all}

pub sets_append : (l : List ℕ) (i : ℕ) (xs ys : List ℕ) → sets l i (xs ++ ys) ≡ sets (sets l i xs) (i + length xs) ys
sets_append l i [] ys = rw add-zero
sets_append l i (x ∷ xs) ys =
    let e : suc i + length xs ≡ i + suc (length xs) = omega arith in
    sets_append (set l i x) (suc i) xs ys ∙ ap (λ (k : ℕ). sets (sets (set l i x) (suc i) xs) k ys) e

sets_snoc : (l : List ℕ) (i : ℕ) (xs : List ℕ) (y : ℕ) → sets l i (xs ++ (y ∷ [])) ≡ set (sets l i xs) (i + length xs) y
sets_snoc l i xs y = sets_append l i xs (y ∷ [])

-- one byte more of a list that is written from its front
pub sets_take : (l : List ℕ) (i : ℕ) (vs : List ℕ) (j : ℕ) → j < length vs → set (sets l i (take j vs)) (i + j) (get_or vs j 0) ≡ sets l i (take (j + 1) vs)
sets_take l i vs j h =
    let e : length (take j vs) ≡ j = length-take-le j vs (omega arith) in
    rw (add-one, take-suc vs j 0 h, sets_snoc, e)

-- beyond the end nothing is written
pub sets_beyond : (l : List ℕ) (i : ℕ) (vs : List ℕ) → length l ≤ i → sets l i vs ≡ l
sets_beyond l i [] h = refl
sets_beyond l i (v ∷ vs) h = rw (set_out l i v h) (sets_beyond l (suc i) vs (omega arith))

-- the bytes that fit are all that counts
pub sets_fitting : (l : List ℕ) (i : ℕ) (vs : List ℕ) (j : ℕ) → min (i + length vs) (length l) ≤ i + j → sets l i (take j vs) ≡ sets l i vs
sets_fitting l i [] j h = ap (sets l i) (take-nil j)
sets_fitting l i (v ∷ vs) zero h = sym (sets_beyond l i (v ∷ vs) (omega arith))
sets_fitting l i (v ∷ vs) (suc j) h = sets_fitting (set l i v) (suc i) vs j (omega (arith, length-set l i v))

pub sets_enough : (l : List ℕ) (i : ℕ) (vs : List ℕ) (j : ℕ) → length l ≤ i + j → sets l i (take j vs) ≡ sets l i vs
sets_enough l i vs j h = sets_fitting l i vs j (omega arith)

pub bytes_of_all-append : (vs ws : List ℕ) → bytes_of_all (vs ++ ws) ≡ bytes_of_all vs ++ bytes_of_all ws
bytes_of_all-append [] ws = refl
bytes_of_all-append (v ∷ vs) ws = rw (bytes_of_all-append vs ws)

pub bytes_of_all-snoc : (ws : List ℕ) (w : ℕ) → bytes_of_all (ws ++ (w ∷ [])) ≡ bytes_of_all ws ++ bytes_of w
bytes_of_all-snoc ws w = bytes_of_all-append ws (w ∷ [])

pub length-bytes_of_all : (ws : List ℕ) → length (bytes_of_all ws) ≡ 2 * length ws
length-bytes_of_all [] = refl
length-bytes_of_all (w ∷ ws) = omega (arith, length-bytes_of_all ws)
