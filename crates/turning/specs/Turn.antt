-- "a turn of a three-part arm by heading, pitch and roll in half-turns. The turn is a three by three arrangement of patterns,
-- rows first: heading times pitch is worked out first, that times roll next, then the result times the arm. Every product is
-- rounded before it is added, and every sum is taken left to right." (document 02, P2)
use Rattle.std.specs.Prelude.{ℕ, Bool, ◌||◌, cond, List, [], ◌∷◌, eqb, get_or}
use Rattle.posit.specs.Number.{opposite}
use Rattle.p16e1.specs.Functions.{answer_to, answer_of}
use Rattle.arithmetic.specs.Operations.{sum, product}

-- the rounded operations on patterns
unfoldable pub rounded_sum : ℕ → ℕ → ℕ
rounded_sum a b = answer_to (sum a b)

unfoldable pub rounded_product : ℕ → ℕ → ℕ
rounded_product a b = answer_to (product a b)

-- rows 5 and 6 of document 01
abbrev pub sine : ℕ → ℕ
sine p = answer_of 5 p

abbrev pub cosine : ℕ → ℕ
cosine p = answer_of 6 p

abbrev pub Three : Type 0
Three = List ℕ

abbrev pub Matrix : Type 0
Matrix = List Three

abbrev pub three : ℕ → ℕ → ℕ → Three
three a b c = a ∷ b ∷ c ∷ []

abbrev pub rows : Three → Three → Three → Matrix
rows a b c = a ∷ b ∷ c ∷ []

abbrev pub part : ℕ → Three → ℕ
part k a = get_or a k 0

abbrev pub row : ℕ → Matrix → Three
row k m = get_or m k []

abbrev pub column : ℕ → Matrix → Three
column k m = three (part k (row 0 m)) (part k (row 1 m)) (part k (row 2 m))

-- "Every product is rounded before it is added, and every sum is taken left to right": a row with a column
unfoldable pub entry : Three → Three → ℕ
entry a b = rounded_sum (rounded_sum (rounded_product (part 0 a) (part 0 b)) (rounded_product (part 1 a) (part 1 b))) (rounded_product (part 2 a) (part 2 b))

-- a row with three columns
abbrev pub entries : Three → Three → Three → Three → Three
entries a first second third = three (entry a first) (entry a second) (entry a third)

abbrev pub row_times_of : Three → Matrix → Three
row_times_of a n = entries a (column 0 n) (column 1 n) (column 2 n)

unfoldable pub matrix_times_of : Matrix → Matrix → Matrix
matrix_times_of m n = rows (row_times_of (row 0 m) n) (row_times_of (row 1 m) n) (row_times_of (row 2 m) n)

abbrev pub arm_times_of : Matrix → Three → Three
arm_times_of m arm = three (entry (row 0 m) arm) (entry (row 1 m) arm) (entry (row 2 m) arm)

-- "Heading is about the third axis, pitch the second, roll the first, each turning counter-clockwise as seen from the axis's
-- positive end."
abbrev pub heading_matrix_of : ℕ → Matrix
heading_matrix_of p =
    rows (three (cosine p) (opposite 16 (sine p)) 0)
    (three (sine p) (cosine p) 0)
    (three 0 0 0x4000)

abbrev pub pitch_matrix_of : ℕ → Matrix
pitch_matrix_of p =
    rows (three (cosine p) 0 (sine p))
    (three 0 0x4000 0)
    (three (opposite 16 (sine p)) 0 (cosine p))

abbrev pub roll_matrix_of : ℕ → Matrix
roll_matrix_of p =
    rows (three 0x4000 0 0)
    (three 0 (cosine p) (opposite 16 (sine p)))
    (three 0 (sine p) (cosine p))

abbrev pub is_nar : ℕ → Bool
is_nar p = eqb p 0x8000

abbrev pub any_nar_of : Three → Bool
any_nar_of a = is_nar (part 0 a) || (is_nar (part 1 a) || is_nar (part 2 a))

-- "A NaR anywhere in angles or arm makes all three parts NaR."
unfoldable pub turned : ℕ → ℕ → ℕ → Three → Three
turned heading pitch roll arm =
    cond (any_nar_of (three heading pitch roll) || any_nar_of arm) (three 0x8000 0x8000 0x8000)
    (arm_times_of (matrix_times_of (matrix_times_of (heading_matrix_of heading) (pitch_matrix_of pitch)) (roll_matrix_of roll)) arm)
