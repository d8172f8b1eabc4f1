-- Bytes written one after the other, bytes written from the last to the first, and a line that fits or does not.
use Rattle.std.proofs.Common.{◌≡◌, ℕ, suc, ◌+◌, ◌≤◌, Bool, true, false, cond, ltb, List, [], ◌∷◌, ◌++◌, length, set, sym, refl, ap, ◌∙◌, arith, length-append, ltb-false, le-ltb}
use lib.Seq.{sets, set_comm}
use Rattle.words.proofs.Writing.{sets_append}
use Rattle.line.specs.Line.{fitted, room_for}

-- a byte behind what is written may be written before it
pub sets_behind : (l : List ℕ) (i : ℕ) (vs : List ℕ) (j v : ℕ) → i + length vs ≤ j → sets (set l j v) i vs ≡ set (sets l i vs) j v
sets_behind l i [] j v h = refl
sets_behind l i (x ∷ vs) j v h =
    let e : set (set l j v) i x ≡ set (set l i x) j v = set_comm l j i v x (λ q. omega arith) in
    ap (λ (m : List ℕ). sets m (suc i) vs) e ∙ sets_behind (set l i x) (suc i) vs j v (omega arith)

-- the last byte of some first
pub sets_last : (l : List ℕ) (i : ℕ) (vs : List ℕ) (k v : ℕ) → length vs ≡ k → sets (set l (i + k) v) i vs ≡ sets l i (vs ++ (v ∷ []))
sets_last l i vs k v e =
    sets_behind l i vs (i + k) v (omega arith) ∙ ap (λ (n : ℕ). set (sets l i vs) (i + n) v) (sym e) ∙ sym (sets_append l i vs (v ∷ []))

-- the bytes vs are written from the place i on: the place after them, and what that leaves
abbrev pub Written : List ℕ → ℕ → List ℕ → ℕ → List ℕ → Type 0
Written l i vs end left = (end ≡ i + length vs) × (left ≡ sets l i vs)

-- more bytes right after them
pub written_more : (l : List ℕ) (i : ℕ) (vs ws : List ℕ) (end end' : ℕ) (left left' : List ℕ)
    → Written l i vs end left → Written left end ws end' left' → Written l i (vs ++ ws) end' left'
written_more l i vs ws end end' left left' w w' = (
  omega (arith, length-append vs ws, w.0, w'.0),
  w'.1 ∙ ap (λ (m : List ℕ). sets m end ws) w.1 ∙ ap (λ (n : ℕ). sets (sets l i vs) n ws) w.0 ∙ sym (sets_append l i vs ws),
)

-- five pieces and one more byte, each written right after the one before
pub line_written : (l : List ℕ) (i : ℕ) (vs₁ vs₂ vs₃ vs₄ vs₅ : List ℕ) (i₁ i₂ i₃ i₄ i₅ v : ℕ) (l₁ l₂ l₃ l₄ l₅ : List ℕ)
    → Written l i vs₁ i₁ l₁ → Written l₁ i₁ vs₂ i₂ l₂ → Written l₂ i₂ vs₃ i₃ l₃ → Written l₃ i₃ vs₄ i₄ l₄ → Written l₄ i₄ vs₅ i₅ l₅
    → set l₅ i₅ v ≡ sets l i (vs₁ ++ vs₂ ++ vs₃ ++ vs₄ ++ vs₅ ++ (v ∷ []))
line_written l i vs₁ vs₂ vs₃ vs₄ vs₅ i₁ i₂ i₃ i₄ i₅ v l₁ l₂ l₃ l₄ l₅ w₁ w₂ w₃ w₄ w₅ =
    let two = written_more l i vs₁ vs₂ i₁ i₂ l₁ l₂ w₁ w₂ in
    let three = written_more l i (vs₁ ++ vs₂) vs₃ i₂ i₃ l₂ l₃ two w₃ in
    let four = written_more l i (vs₁ ++ vs₂ ++ vs₃) vs₄ i₃ i₄ l₃ l₄ three w₄ in
    let five = written_more l i (vs₁ ++ vs₂ ++ vs₃ ++ vs₄) vs₅ i₄ i₅ l₄ l₅ four w₅ in
    (written_more l i (vs₁ ++ vs₂ ++ vs₃ ++ vs₄ ++ vs₅) (v ∷ []) i₅ (i₅ + 1) l₅ (set l₅ i₅ v) five (refl, refl)).1

pub fitted-all : (left : ℕ) (line : List ℕ) → room_for ≤ left → fitted left line ≡ line
fitted-all left line h = cc (le-ltb left room_for h)

pub fitted_most : (left : ℕ) (line : List ℕ) → length line ≤ room_for → length (fitted left line) ≤ left
fitted_most left line h = by (ltb left room_for) refl where
  by : (t : Bool) → ltb left room_for ≡ t → length (cond t [] line) ≤ left
  by true e = omega arith
  by false e = omega (arith, ltb-false left room_for e)
