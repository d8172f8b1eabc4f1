-- Document 02, P1: "prints every difference .. Each place that differs gives one line .. in the file's order; none is missed. .. A short
-- mode stops both loops at the first pair that differs." The places of two answered listings that differ.
use Rattle.std.specs.Prelude.{ℕ, suc, ◌+◌, min, List, [], ◌∷◌, ◌++◌, map, Bool, cond, not, length, drop, eqb}

-- a place: what is asked there, and the two answers
pub record Place : Type 0 where
  pub function : ℕ
  pub pattern : ℕ
  pub first : ℕ
  pub second : ℕ

-- what is asked: every pattern of the first function, then of the next
pub record Ask : Type 0 where
  pub function : ℕ
  pub pattern : ℕ

abbrev pub ask : ℕ → ℕ → Ask
ask f p = record { function = f; pattern = p }

abbrev pub asked : List ℕ → List ℕ → List Ask
asked [] ps = []
asked (f ∷ fs) ps = map (ask f) ps ++ asked fs ps

-- each with the answers that stand for it in the two listings
abbrev pub places : List Ask → List ℕ → List ℕ → List Place
places [] xs ys = []
places (q ∷ qs) [] ys = []
places (q ∷ qs) (x ∷ xs) [] = []
places (q ∷ qs) (x ∷ xs) (y ∷ ys) = record { function = q.function; pattern = q.pattern; first = x; second = y } ∷ places qs xs ys

abbrev pub differs : Place → Bool
differs p = not (eqb p.first p.second)

-- those that differ, in order
abbrev pub differing : List Place → List Place
differing [] = []
differing (p ∷ ps) = cond (differs p) (p ∷ differing ps) (differing ps)

-- the first place at which two lists differ, or where one ends
abbrev pub first_differing : List ℕ → List ℕ → ℕ
first_differing [] ys = 0
first_differing (x ∷ xs) [] = 0
first_differing (x ∷ xs) (y ∷ ys) = cond (eqb x y) (suc (first_differing xs ys)) 0

-- "the least place at or after `from` that differs, or F·N where there is none"
unfoldable pub next_differing : List ℕ → List ℕ → ℕ → ℕ
next_differing xs ys from = let start = min from (length xs) in start + first_differing (drop start xs) (drop start ys)
