-- The lines of the first places: places that are the same add none, a place that differs adds its own.
use Prim.Native.Nat.{ℕ, zero, suc, ◌+◌, ◌*◌, ◌≤◌, ◌<◌}
use mathlib.Core.Path.{◌≡◌, refl, sym, ap, ◌∙◌}
use mathlib.Core.Bool.{Bool, true, false, cond, not}
use mathlib.Core.List.{List, [], ◌∷◌, ◌++◌, append_assoc, append-nil}
use native.Mathlib.Omega.{arith}
use native.Mathlib.Nat.{add-zero}
use borrow.Author.Tests.{eq-eqb, ne_eqb, eqb-true, eqb-false}
use lib.ListN.{length, take, drop, get_or, length-append, take-append-drop}
use lib.Seq.{take-suc, take_all}
use lib.Dec.{eqb}
use Rattle.line.specs.Line.{line_of, room_for}
use Rattle.line.proofs.Digits.{line_most}
use Rattle.comparison.specs.Differences.{Ask, Place, places, differs, differing, next_differing}
use Rattle.comparison.specs.Comparison.{lines_of, shown, most_lines_of}
use Rattle.comparison.proofs.Next.{one_on, here}
use Rattle.comparison.proofs.Places.{nowhere, length-places, place_at}

differing-append : (xs ys : List Place) → differing (xs ++ ys) ≡ differing xs ++ differing ys
differing-append [] ys = refl
differing-append (x ∷ xs) ys = go (differs x) (differing-append xs ys)
  where
    go : (t : Bool) → differing (xs ++ ys) ≡ differing xs ++ differing ys
        → cond t (x ∷ differing (xs ++ ys)) (differing (xs ++ ys)) ≡ cond t (x ∷ differing xs) (differing xs) ++ differing ys
    go true e = ap (λ (l : List Place). x ∷ l) e
    go false e = e

pub lines_append : (xs ys : List Place) → lines_of (xs ++ ys) ≡ lines_of xs ++ lines_of ys
lines_append [] ys = refl
lines_append (x ∷ xs) ys = rw (lines_append xs ys) (sym (append_assoc (line_of x.function x.pattern x.first x.second) (lines_of xs) (lines_of ys)))

-- how many bytes the lines of so many places have at most
lines_most : (ps : List Place) → length (lines_of ps) ≤ room_for * length ps
lines_most [] = omega arith
lines_most (p ∷ ps) =
    omega (
      arith,
      length-append (line_of p.function p.pattern p.first p.second) (lines_of ps),
      line_most p.function p.pattern p.first p.second,
      lines_most ps,
    )

differing_most : (ps : List Place) → length (differing ps) ≤ length ps
differing_most [] = omega arith
differing_most (p ∷ ps) = go (differs p) (differing_most ps)
  where
    go : (t : Bool) → length (differing ps) ≤ length ps → length (cond t (p ∷ differing ps) (differing ps)) ≤ suc (length ps)
    go true h = omega arith
    go false h = omega arith

pub most_lines_most : (short : Bool) (count most : ℕ) → count ≤ most → 1 ≤ most → most_lines_of short count ≤ most
most_lines_most true count most h k = k
most_lines_most false count most h k = h

pub shown_most : (short : Bool) (ps : List Place) → length (shown short (differing ps)) ≤ room_for * most_lines_of short (length ps)
shown_most false ps = omega (arith, lines_most (differing ps), differing_most ps)
shown_most true ps = one (differing ps)
  where
    one : (ds : List Place) → length (lines_of (take 1 ds)) ≤ room_for * 1
    one [] = omega arith
    one (d ∷ ds) = lines_most (d ∷ [])

-- two lists of answers, and what is asked for them
module _ (qs : List Ask) (xs ys : List ℕ) (e : length xs ≡ length qs) (f : length ys ≡ length qs) where
  abbrev P : List Place
  P = places qs xs ys

  module _ (k : ℕ) (h : k < length qs) where
    one_more : differing (take (suc k) P) ≡ differing (take k P) ++ differing (get_or P k nowhere ∷ [])
    one_more = ap differing (take-suc P k nowhere (omega (arith, length-places qs xs ys e f))) ∙ differing-append (take k P) (get_or P k nowhere ∷ [])

    differs-is : differs (get_or P k nowhere) ≡ not (eqb (get_or xs k 0) (get_or ys k 0))
    differs-is = ap differs (place_at qs xs ys e f k h)

    same-adds-none : get_or xs k 0 ≡ get_or ys k 0 → differing (take (suc k) P) ≡ differing (take k P)
    same-adds-none q = one_more ∙ (rw (differs-is, eq-eqb (get_or xs k 0) (get_or ys k 0) q) (append-nil (differing (take k P))))

    pub differing-adds : (get_or xs k 0 ≡ get_or ys k 0 → ⊥) → differing (take (suc k) P) ≡ differing (take k P) ++ (get_or P k nowhere ∷ [])
    differing-adds d = one_more ∙ (rw (differs-is, ne_eqb (get_or xs k 0) (get_or ys k 0) d))

  -- where the next place is further on, this one is the same
  further : (m k : ℕ) → next_differing xs ys k ≡ k + suc m → k < length qs → get_or xs k 0 ≡ get_or ys k 0
  further m k n h = by-test (eqb (get_or xs k 0) (get_or ys k 0)) refl
    where
      by-test : (t : Bool) → eqb (get_or xs k 0) (get_or ys k 0) ≡ t → get_or xs k 0 ≡ get_or ys k 0
      by-test true t = eqb-true (get_or xs k 0) (get_or ys k 0) t
      by-test false t = absurd (omega (arith, here xs ys (e ∙ sym f) k (omega arith) (eqb-false (get_or xs k 0) (get_or ys k 0) t)))

  -- up to the next place that differs nothing is added
  pub skipped : (m k : ℕ) → next_differing xs ys k ≡ k + m → k + m ≤ length qs → differing (take (k + m) P) ≡ differing (take k P)
  skipped zero k n h = ap (λ (i : ℕ). differing (take i P)) (add-zero k)
  skipped (suc m) k n h =
      let q = further m k n (omega arith) in
      let on = one_on xs ys (e ∙ sym f) k (omega arith) q in
      let s : k + 1 ≡ suc k = omega arith in
      let i : k + suc m ≡ suc k + m = omega arith in
      let there : next_differing xs ys (suc k) ≡ suc k + m = sym (ap (next_differing xs ys) s) ∙ sym on ∙ n ∙ i in
      ap (λ (j : ℕ). differing (take j P)) i ∙ skipped m (suc k) there (omega arith) ∙ same-adds-none k (omega arith) q

  -- past the last place all lines are those before it
  pub shown_at_end : (short : Bool) (k : ℕ) → length qs ≤ k → (short ≡ true → differing (take k P) ≡ [])
      → shown short (differing P) ≡ lines_of (differing (take k P))
  shown_at_end short k h first = by_mode short first
    where
      all : differing (take k P) ≡ differing P
      all = ap differing (take_all k P (omega (arith, length-places qs xs ys e f)))

      by_mode : (short : Bool) → (short ≡ true → differing (take k P) ≡ []) → shown short (differing P) ≡ lines_of (differing (take k P))
      by_mode true first = ap (λ (ds : List Place). lines_of (take 1 ds)) (sym all ∙ first refl) ∙ sym (ap (λ (ds : List Place). lines_of ds) (first refl))
      by_mode false first = ap lines_of (sym all)

  -- a place that differs has its line behind those before it, and is shown alone where it is the first
  module _ (n : ℕ) (h : n < length qs) (d : get_or xs n 0 ≡ get_or ys n 0 → ⊥) where
    abbrev line : List ℕ
    line = let p = get_or P n nowhere in line_of p.function p.pattern p.first p.second

    pub one-line-more : lines_of (differing (take (n + 1) P)) ≡ lines_of (differing (take n P)) ++ line
    one-line-more =
        let s : n + 1 ≡ suc n = omega arith in
        ap (λ (j : ℕ). lines_of (differing (take j P))) s ∙ ap lines_of (differing-adds n h d)
        ∙ lines_append (differing (take n P)) (get_or P n nowhere ∷ []) ∙ ap (λ (l : List ℕ). lines_of (differing (take n P)) ++ l) (append-nil line)

    pub first_alone : differing (take n P) ≡ [] → shown true (differing P) ≡ lines_of (differing (take n P)) ++ line
    first_alone none =
        let rest = differing (drop (suc n) P) in
        let all : differing P ≡ get_or P n nowhere ∷ rest =
        ap differing (sym (take-append-drop (suc n) P)) ∙ differing-append (take (suc n) P) (drop (suc n) P)
        ∙ ap (λ (ds : List Place). ds ++ rest) (differing-adds n h d ∙ ap (λ (ds : List Place). ds ++ (get_or P n nowhere ∷ [])) none) in
        ap (λ (ds : List Place). lines_of (take 1 ds)) all ∙ append-nil line ∙ sym (ap (λ (ds : List Place). lines_of ds ++ line) none)
