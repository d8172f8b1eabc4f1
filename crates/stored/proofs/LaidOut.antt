-- The numbers written over the last four bytes.
use Prim.Native.Nat.{ℕ}
use mathlib.Core.Path.{◌≡◌, sym, ◌∙◌}
use mathlib.Core.List.{List, [], ◌++◌, append-nil}
use native.Mathlib.Omega.{arith}
use lib.ListN.{length, drop, length-append, length-drop, drop_of_length-le}
use lib.Seq.{sets, sets-eq, take_at}
use Rattle.words.specs.Numbers.{bytes_of}
use Rattle.words.proofs.Writing.{sets_append}

pub laid_out : (front was : List ℕ) (n r : ℕ) → length front ≡ 2072 → length was ≡ 2076
    → sets (sets (front ++ drop 2072 was) 2072 (bytes_of n)) 2074 (bytes_of r) ≡ front ++ (bytes_of n ++ bytes_of r)
laid_out front was n r full room =
    let l = front ++ drop 2072 was in
    let size : length l ≡ 2076 = length-append front (drop 2072 was) ∙ omega (arith, length-drop 2072 was) in
    let none : drop 2076 l ≡ [] = drop_of_length-le l {i = 2076} (omega arith) in
    sym (sets_append l 2072 (bytes_of n) (bytes_of r)) ∙ sets-eq (bytes_of n ++ bytes_of r) l 2072 (omega arith)
    ∙ rw (take_at front (drop 2072 was) 2072 full, none, append-nil)
