-- The answered listing written part by part: one more answer, one more row, and the sections side by side.
use Prim.Native.Nat.{ℕ, ◌+◌, ◌*◌, ◌≤◌, ◌<◌}
use mathlib.Core.Path.{◌≡◌, sym, ap, ◌∙◌}
use mathlib.Core.List.{List, [], ◌∷◌, ◌++◌, append_assoc, append-nil, map}
use native.Mathlib.Omega.{arith}
use native.Mathlib.Numerals.{add-one}
use native.Mathlib.Nat.{zero-add, suc-mul, mul-le-mul_right}
use lib.ListN.{length, take, drop, get_or, length-append, length-map, length-drop}
use lib.Seq.{sets, sets-eq, length-take-le}
use borrow.Rule.Slice.PartMut.{put_mid}
use Rattle.std.proofs.lemmas.List.{map-append, map_more, drop-append-le, take-append-drop, drop-drop}
use Rattle.p16e1.specs.Functions.{answer_of}
use Rattle.words.specs.Numbers.{bytes_of, bytes_of_all, number_at_of}
use Rattle.words.proofs.Writing.{sets_append, bytes_of_all-append, bytes_of_all-snoc, length-bytes_of_all}
use Rattle.sections.specs.Sections.{section}
use Rattle.listing.specs.Answered.{answers, numbers_in}

-- what is written over the first places stands before the rest
pub sets_front : (l vs : List ℕ) → length vs ≤ length l → sets l 0 vs ≡ vs ++ drop (length vs) l
sets_front l vs h = sets-eq vs l 0 (omega arith) ∙ ap (λ (k : ℕ). vs ++ drop k l) (zero-add (length vs))

answers-snoc : (fs : List ℕ) (f : ℕ) (ps : List ℕ) → answers (fs ++ (f ∷ [])) ps ≡ answers fs ps ++ map (answer_of f) ps
answers-snoc [] f ps = append-nil (map (answer_of f) ps)
answers-snoc (g ∷ fs) f ps = rw (answers-snoc fs f ps, append_assoc)

pub length-answers : (fs ps : List ℕ) → length (answers fs ps) ≡ length fs * length ps
length-answers [] ps = omega arith
length-answers (f ∷ fs) ps =
    length-append (map (answer_of f) ps) (answers fs ps)
    ∙ omega (arith, length-map ps (answer_of f), length-answers fs ps, suc-mul (length fs) (length ps))

pub length-numbers_in : (ps : List (List ℕ)) → length (numbers_in ps) ≡ length ps
length-numbers_in ps = length-map ps (λ p. number_at_of p 0)

-- the first i of them
length-first : (ps : List (List ℕ)) (i : ℕ) → i ≤ length ps → length (numbers_in (take i ps)) ≡ i
length-first ps i h = length-numbers_in (take i ps) ∙ length-take-le i ps h

-- one answer more of a row, with the pattern p
pub row_next : (l : List ℕ) (f : ℕ) (ps : List (List ℕ)) (i : ℕ) → i < length ps
    → sets (sets l 0 (bytes_of_all (map (answer_of f) (numbers_in (take i ps))))) (2 * i)
    (bytes_of (answer_of f (number_at_of (get_or ps i []) 0)))
    ≡ sets l 0 (bytes_of_all (map (answer_of f) (numbers_in (take (i + 1) ps))))
row_next l f ps i h =
    let row = map (answer_of f) (numbers_in (take i ps)) in
    let e : 0 + length (bytes_of_all row) ≡ 2 * i =
    omega (arith, length-bytes_of_all row, length-map (numbers_in (take i ps)) (answer_of f), length-first ps i (omega arith)) in
    rw (map_more (λ p. number_at_of p 0) ps i [] h, map-append, bytes_of_all-snoc, sets_append, e)

-- one row more of the answers
pub answers_next : (l : List ℕ) (fs : List (List ℕ)) (ps : List ℕ) (i : ℕ) → i < length fs
    → sets (sets l 0 (bytes_of_all (answers (numbers_in (take i fs)) ps))) (2 * (i * length ps))
    (bytes_of_all (map (answer_of (number_at_of (get_or fs i []) 0)) ps))
    ≡ sets l 0 (bytes_of_all (answers (numbers_in (take (i + 1) fs)) ps))
answers_next l fs ps i h =
    let rows = answers (numbers_in (take i fs)) ps in
    let n : length rows ≡ i * length ps =
    length-answers (numbers_in (take i fs)) ps ∙ ap (λ (k : ℕ). k * length ps) (length-first fs i (omega arith)) in
    let e : 0 + length (bytes_of_all rows) ≡ 2 * (i * length ps) = omega (arith, length-bytes_of_all rows) in
    rw (map_more (λ p. number_at_of p 0) fs i [] h, answers-snoc, bytes_of_all-append, sets_append, e)

pub next_row : (i patterns : ℕ) → (i + 1) * patterns ≡ i * patterns + patterns
next_row i patterns = rw add-one (suc-mul i patterns)

-- a row more stays within all rows
pub row_within : (i functions patterns : ℕ) → i < functions → i * patterns + patterns ≤ functions * patterns
row_within i functions patterns h = omega (arith, suc-mul i patterns, mul-le-mul_right patterns h)

-- bytes, then a section, each written after the last
sets_section : (l b ws : List ℕ)
    → sets (sets (sets l 0 b) (length b) (bytes_of (length ws))) (length b + 2) (bytes_of_all ws) ≡ sets l 0 (b ++ section ws)
unfolding section
sets_section l b ws =
    sym (sets_append l 0 b (bytes_of (length ws) ++ bytes_of_all ws)
    ∙ ap (λ (k : ℕ). sets (sets l 0 b) k (bytes_of (length ws) ++ bytes_of_all ws)) (zero-add (length b))
    ∙ sets_append (sets l 0 b) (length b) (bytes_of (length ws)) (bytes_of_all ws))

pub in_turn : (l b ws l₁ l₂ l₃ : List ℕ) (n : ℕ) → length ws ≡ n → l₁ ≡ sets l 0 b → l₂ ≡ sets l₁ (length b) (bytes_of n)
    → l₃ ≡ sets l₂ (length b + 2) (bytes_of_all ws) → l₃ ≡ sets l 0 (b ++ section ws)
in_turn l b ws l₁ l₂ l₃ n e e₁ e₂ e₃ = rw (e₃, e₂, e₁, ← e) (sets_section l b ws)

-- what is written into a part of bytes is written into them
pub sets_part : (l : List ℕ) (at k : ℕ) (vs : List ℕ) → at + k ≤ length l → length vs ≤ k
    → put_mid at k l (sets (take k (drop at l)) 0 vs) ≡ sets l at vs
sets_part l at k vs h fits =
    let part = take k (drop at l) in
    let size : length part ≡ k = length-take-le k (drop at l) (omega (arith, length-drop at l)) in
    let front : sets part 0 vs ≡ vs ++ drop (length vs) part = sets_front part vs (omega arith) in
    let rest : drop (length vs) part ++ drop k (drop at l) ≡ drop (at + length vs) l =
    sym (drop-append-le (length vs) part (drop k (drop at l)) (omega arith))
    ∙ ap (drop (length vs)) (take-append-drop k (drop at l))
    ∙ drop-drop (length vs) at l in
    rw (front, append_assoc, rest) (sym (sets-eq vs l at (omega arith) ∙ append_assoc (take at l) vs (drop (at + length vs) l)))
