-- Quarter turns that fix the axes and the hand: each takes one axis to another.
use Rattle.std.specs.Prelude.{ℕ, ◌≡◌, List, [], ◌∷◌}
use Rattle.turning.specs.Turn.{Three, three, turned}

pub data Case : Type 0 where
  turns : (heading pitch roll : ℕ) (arm gives : Three) → Case

abbrev pub Holds : Case → Type 0
Holds (turns heading pitch roll arm gives) = turned heading pitch roll arm ≡ gives

abbrev pub Every : List Case → Type 0
Every [] = Unit {0}
Every (x ∷ xs) = Holds x × Every xs

-- the patterns of 1/2, which as an angle is a quarter turn, of 1 and of -1
abbrev half : ℕ
half = 0x3000

abbrev one : ℕ
one = 0x4000

abbrev minus_one : ℕ
minus_one = 0xC000

-- heading takes the first axis to the second and that to minus the first; pitch the third to the first and that to minus the
-- third; roll the second to the third and that to minus the second
abbrev pub axes : List Case
axes =
    turns half 0 0 (three one 0 0) (three 0 one 0) ∷ turns half 0 0 (three 0 one 0) (three minus_one 0 0)
    ∷ turns 0 half 0 (three 0 0 one) (three one 0 0) ∷ turns 0 half 0 (three one 0 0) (three 0 0 minus_one)
    ∷ turns 0 0 half (three 0 one 0) (three 0 0 one) ∷ turns 0 0 half (three 0 0 one) (three 0 minus_one 0) ∷ []
