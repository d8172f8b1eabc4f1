-- A part pasted right after a part: together they are one part.
use Prim.Native.Nat.{ℕ, ◌+◌, ◌≤◌}
use mathlib.Core.Path.{◌≡◌, sym, ap, subst, ◌∙◌}
use mathlib.Core.List.{List, append_assoc}
use native.Mathlib.Omega.{arith}
use native.Mathlib.Nat.{add_assoc, zero-add}
use lib.ListN.{length, drop}
use lib.Seq.{paste, take-paste, drop-paste, drop-drop, take-add}

paste_more : (d : List ℕ) (at : ℕ) (s : List ℕ) (a b : ℕ) → at ≤ length d → a ≤ length s
    → paste (paste d at s a) (at + a) (drop a s) b ≡ paste d at s (a + b)
paste_more d at s a b g h =
    let e : drop (at + a + b) (paste d at s a) ≡ drop (at + a + b) d =
    sym (drop-drop b (at + a) (paste d at s a)) ∙ ap (drop b) (drop-paste d at s a g h) ∙ drop-drop b (at + a) d in
    rw (take-paste d at s a g h, e) (simp (take-add, append_assoc, add_assoc))

pub paste_more_in_front : (d s : List ℕ) (a b : ℕ) → a ≤ length s → paste (paste d 0 s a) a (drop a s) b ≡ paste d 0 s (a + b)
paste_more_in_front d s a b h =
    subst (λ (k : ℕ). paste (paste d 0 s a) k (drop a s) b ≡ paste d 0 s (a + b)) (zero-add a) (paste_more d 0 s a b (omega arith) h)
