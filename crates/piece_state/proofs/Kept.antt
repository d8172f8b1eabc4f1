-- What a state keeps, and what it keeps after more bytes.
use Prim.Native.Nat.{ℕ, zero, suc, ◌-◌, ◌≤◌}
use mathlib.Core.Path.{◌≡◌, refl, sym, ap, ◌∙◌}
use mathlib.Core.Bool.{Bool, true, false, not, ◌&&◌, false≢true}
use mathlib.Core.List.{List, [], ◌∷◌, ◌++◌, append_assoc, append-nil}
use native.Mathlib.Omega.{arith}
use borrow.Author.Tests.{leb-true, eqb-true}
use lib.ListN.{length, take, drop, replicate, length-drop, length-replicate, take-append-drop, drop_of_length-le}
use lib.Seq.{sets, length-take-le}
use lib.Dec.{leb, eqb}
use Rattle.std.proofs.lemmas.List.{drop-replicate}
use Rattle.std.specs.Prelude.{None, is_none}
use Rattle.refusals.specs.declared.Refusal.TheVariants.{State}
use Rattle.refusals.specs.Refusals.{◌before◌, refused_when}
use Rattle.words.proofs.Writing.{sets_enough}
use Rattle.sections.proofs.Known.{both}
use Rattle.listing.specs.Longest.{longest}
use Rattle.listing.proofs.Writing.{sets_front}
use Rattle.piece_state.specs.declared.Pieces.{Pieces}
use Rattle.piece_state.specs.State.{keeping, bytes_so_far, all_zero, may_keep_of, produced, handed_in_of}

pub zeros : (l : List ℕ) → all_zero l ≡ true → l ≡ replicate (length l) 0
zeros [] e = refl
zeros (x ∷ xs) e =
    let h = both (eqb x 0) (all_zero xs) e in
    let z : x ≡ 0 = eqb-true x 0 h.0 in
    let r = zeros xs h.1 in
    rw (z, ← r)

pub all-zero : (n : ℕ) → all_zero (replicate n 0) ≡ true
all-zero zero = refl
all-zero (suc n) = all-zero n

-- a state that some calls produce
pub record Good (s : Pieces) : Type 0 where
  pub within : s.count ≤ longest
  pub blank : all_zero (drop s.count s.bytes) ≡ true
  pub kept : may_keep_of s.refusal (bytes_so_far s) ≡ true

pub good_of : (s : Pieces) → produced s ≡ true → Good s
unfolding produced
good_of s e =
    let h = both (leb s.count longest) (all_zero (drop s.count s.bytes) && may_keep_of s.refusal (bytes_so_far s)) e in
    let k = both (all_zero (drop s.count s.bytes)) (may_keep_of s.refusal (bytes_so_far s)) h.1 in
    record { within = leb-true s.count longest h.0; blank = k.0; kept = k.1 }

-- one that brings none is good and keeps none
pub brings_none : (s : Pieces) → is_none (handed_in_of s) ≡ true → Good s × (is_none s.refusal ≡ true)
unfolding handed_in_of
brings_none s n = go (produced s) refl n
  where
    go : (t : Bool) → produced s ≡ t → is_none (refused_when (not t) State before s.refusal) ≡ true → Good s × (is_none s.refusal ≡ true)
    go true e h = (good_of s e, h)
    go false e h = absurd (false≢true h)

pub within : (s : Pieces) → handed_in_of s ≡ None → s.count ≤ longest
within s e = (brings_none s (ap is_none e)).0.within

-- and with as many bytes in all as the longest listing has, like every value of its type
module _ (s : Pieces) (full : length s.bytes ≡ longest) (g : Good s) where
  pub size : length (bytes_so_far s) ≡ s.count
  size = length-take-le s.count s.bytes (omega (arith, g.within))

  pub rest : drop s.count s.bytes ≡ replicate (longest - s.count) 0
  rest =
      let e : length (drop s.count s.bytes) ≡ longest - s.count = length-drop s.count s.bytes ∙ ap (λ (n : ℕ). n - s.count) full in
      zeros (drop s.count s.bytes) g.blank ∙ ap (λ (n : ℕ). replicate n 0) e

  -- it is the one that keeps its bytes and its refusal
  pub keeps : s ≡ keeping (bytes_so_far s) s.refusal
  unfolding keeping
  keeps =
      let make : List ℕ → ℕ → Pieces = λ b n. record { bytes = b; count = n; refusal = s.refusal } in
      let e : s.bytes ≡ bytes_so_far s ++ replicate (longest - length (bytes_so_far s)) 0 =
      sym (take-append-drop s.count s.bytes) ∙ rw size (ap (λ (l : List ℕ). bytes_so_far s ++ l) rest) in
      ap (λ (b : List ℕ). make b s.count) e ∙ ap (make (bytes_so_far s ++ replicate (longest - length (bytes_so_far s)) 0)) (sym size)

-- p written over the m zeros after b
module _ (b p : List ℕ) (m : ℕ) where
  pub fits : length p ≤ m → b ++ sets (replicate m 0) 0 p ≡ b ++ p ++ replicate (m - length p) 0
  fits h =
      let z : List ℕ = replicate m 0 in
      let room : length p ≤ length z = omega (arith, length-replicate {A = ℕ} m 0) in
      ap (λ (l : List ℕ). b ++ l) (sets_front z p room ∙ ap (λ (l : List ℕ). p ++ l) (drop-replicate (length p) m 0))
      ∙ sym (append_assoc b p (replicate (m - length p) 0))

  pub fills : m ≤ length p → b ++ sets (replicate m 0) 0 p ≡ b ++ take m p
  fills h =
      let z : List ℕ = replicate m 0 in
      let n : length z ≡ m = length-replicate {A = ℕ} m 0 in
      let e : length (take m p) ≡ m = length-take-le m p h in
      let none : drop (length (take m p)) z ≡ [] = drop_of_length-le z {i = length (take m p)} (omega arith) in
      ap (λ (l : List ℕ). b ++ l)
      (sym (sets_enough z 0 p m (omega arith)) ∙ sets_front z (take m p) (omega arith) ∙ ap (λ (l : List ℕ). take m p ++ l) none ∙ append-nil (take m p))
