-- A conversion of blocks, by what may be asked of its calls: it takes any block of input with room of one size, and the count that it
-- answers is of bytes in that room.
use Rattle.std.specs.Prelude.{◌≡◌, ℕ, ◌≤◌, List, length, take}
use Rattle.std.specs.Borrow.{Bor, MutBor}

abbrev pub TakesBlocks : ℕ → (Bor (List ℕ) → MutBor (List ℕ) → Type 0) → Type 0
TakesBlocks room pre = (b : Bor (List ℕ)) (o : MutBor (List ℕ)) → length b.now ≤ 131072 → length o.now ≡ room → pre b o

abbrev pub CountsWithin : (Bor (List ℕ) → MutBor (List ℕ) → ℕ → MutBor (List ℕ) → Type 0) → Type 0
CountsWithin post = (b : Bor (List ℕ)) (o : MutBor (List ℕ)) (n : ℕ) (o' : MutBor (List ℕ)) → post b o n o' → n ≤ length o'.now

-- the bytes are the first of what a call on the block leaves in the room, as many as it answers
abbrev pub CallGives : (Bor (List ℕ) → MutBor (List ℕ) → ℕ → MutBor (List ℕ) → Type 0) → Bor (List ℕ) → List ℕ → List ℕ → Type 0
CallGives post b room bytes = (o : MutBor (List ℕ)) × (n : ℕ) × (o' : MutBor (List ℕ)) × (o.now ≡ room) × post b o n o' × (bytes ≡ take n o'.now)
