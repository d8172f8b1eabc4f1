-- A listing compared with itself, and two listings exchanged.
use Prim.Native.Nat.{ℕ, ◌+◌, min}
use mathlib.Core.Path.{◌≡◌, refl, sym, ap, ◌∙◌}
use mathlib.Core.Bool.{Bool, true, false, cond, not}
use mathlib.Core.List.{List, [], ◌∷◌, map}
use borrow.Author.Tests.{eq-eqb, ne_eqb, eqb-true, eqb-false}
use lib.ListN.{length, drop}
use lib.Dec.{eqb}
use lib.IntN.{ℤ, neg_ℤ, ◌+ℤ◌, neg_ℤ-+ℤ, neg_ℤ-neg_ℤ, +ℤ_comm}
use Rattle.std.specs.Prelude.{None, is_none}
use Rattle.sections.specs.Sections.{functions_of, patterns_of}
use Rattle.answered.specs.Answered.{answers_of, answered_refusal, pair_refusal}
use Rattle.answered.proofs.Complete.{complete_of}
use Rattle.answered.proofs.Pairs.{Agreed, agreed, agreed_of}
use Rattle.line.specs.Line.{signed, apart}
use Rattle.comparison.specs.Differences.{Ask, Place, asked, places, differing, first_differing, next_differing}
use Rattle.comparison.specs.Comparison.{places_of, differences_of}

-- compared with itself: none
none_differs : (qs : List Ask) (xs : List ℕ) → differing (places qs xs xs) ≡ []
none_differs [] xs = refl
none_differs (q ∷ qs) [] = refl
none_differs (q ∷ qs) (x ∷ xs) = rw (eq-eqb x x refl) (none_differs qs xs)

pub with_itself : (b : List ℕ) → differences_of b b ≡ []
unfolding differences_of places_of
with_itself b = none_differs (asked (functions_of b) (patterns_of b)) (answers_of b)

pub itself_accepted : (b : List ℕ) → answered_refusal b ≡ None → pair_refusal b b ≡ None
itself_accepted b e = let w = complete_of b (ap is_none e) in agreed b b (record { first = w; second = w; functions = refl; patterns = refl })

-- exchanged: the same places, the answers exchanged
abbrev pub exchanged : Place → Place
exchanged p = record { function = p.function; pattern = p.pattern; first = p.second; second = p.first }

same_test : (x y : ℕ) → eqb x y ≡ eqb y x
same_test x y = go (eqb x y) refl
  where
    go : (t : Bool) → eqb x y ≡ t → t ≡ eqb y x
    go true e = sym (eq-eqb y x (sym (eqb-true x y e)))
    go false e = sym (ne_eqb y x (λ q. eqb-false x y e (sym q)))

differing-exchanged : (qs : List Ask) (xs ys : List ℕ) → differing (places qs ys xs) ≡ map exchanged (differing (places qs xs ys))
differing-exchanged [] xs ys = refl
differing-exchanged (q ∷ qs) [] [] = refl
differing-exchanged (q ∷ qs) [] (y ∷ ys) = refl
differing-exchanged (q ∷ qs) (x ∷ xs) [] = refl
differing-exchanged (q ∷ qs) (x ∷ xs) (y ∷ ys) = rw (same_test y x) (go (eqb x y) (differing-exchanged qs xs ys))
  where
    here : Place
    here = record { function = q.function; pattern = q.pattern; first = x; second = y }

    go : (t : Bool) → differing (places qs ys xs) ≡ map exchanged (differing (places qs xs ys))
        → cond (not t) (exchanged here ∷ differing (places qs ys xs)) (differing (places qs ys xs))
        ≡ map exchanged (cond (not t) (here ∷ differing (places qs xs ys)) (differing (places qs xs ys)))
    go true e = e
    go false e = ap (λ (l : List Place). exchanged here ∷ l) e

first-exchanged : (xs ys : List ℕ) → first_differing ys xs ≡ first_differing xs ys
first-exchanged [] [] = refl
first-exchanged [] (y ∷ ys) = refl
first-exchanged (x ∷ xs) [] = refl
first-exchanged (x ∷ xs) (y ∷ ys) = rw (same_test y x, first-exchanged xs ys)

pub next-exchanged : (xs ys : List ℕ) (from : ℕ) → length xs ≡ length ys → next_differing ys xs from ≡ next_differing xs ys from
unfolding next_differing
next-exchanged xs ys from e =
    let start = min from (length xs) in
    rw (← e) (ap (λ (n : ℕ). start + n) (first-exchanged (drop start xs) (drop start ys)))

module _ (b c : List ℕ) (none : pair_refusal b c ≡ None) where
  both : Agreed b c
  both = agreed_of b c (ap is_none none)

  pub exchange_accepted : pair_refusal c b ≡ None
  exchange_accepted = agreed c b (record { first = both.second; second = both.first; functions = sym both.functions; patterns = sym both.patterns })

  pub exchange_differences : differences_of c b ≡ map exchanged (differences_of b c)
  unfolding differences_of places_of
  exchange_differences = rw (← both.functions, ← both.patterns) (differing-exchanged (asked (functions_of b) (patterns_of b)) (answers_of b) (answers_of c))

-- .. and the number negated that says how far apart they are
pub apart-negated : (x y : ℕ) → apart y x ≡ neg_ℤ (apart x y)
apart-negated x y =
    sym (neg_ℤ-+ℤ (signed y) (neg_ℤ (signed x)) ∙ ap (λ (k : ℤ). neg_ℤ (signed y) +ℤ k) (neg_ℤ-neg_ℤ (signed x)) ∙ +ℤ_comm (neg_ℤ (signed y)) (signed x))
