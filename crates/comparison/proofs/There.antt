-- The places of two listings by their bytes: how many there are, and the line of each.
use Prim.Native.Nat.{ℕ, ◌+◌, ◌*◌, ◌/◌, ◌%◌, ◌<◌}
use mathlib.Core.Path.{◌≡◌, sym, ap, ◌∙◌}
use mathlib.Core.List.{List}
use native.Mathlib.Omega.{arith}
use native.Mathlib.Nat.{div-add-mod', mod-lt}
use lib.ListN.{length, get_or}
use Rattle.words.specs.Numbers.{number_at_of, numbers_at}
use Rattle.words.proofs.Reading.{length-numbers_at, number_of}
use Rattle.line.specs.Line.{line_of}
use Rattle.comparison.specs.Differences.{Ask, ask, Place, asked}
use Rattle.comparison.specs.Walk.{answers_at, places_at, line_at}
use Rattle.comparison.proofs.Places.{length-asked, asked_at, nowhere, length-places, place_at}
use Rattle.comparison.proofs.Rows.{some_columns, row_of_lem}

module _ (b c : List ℕ) (functions patterns : ℕ) where
  abbrev pub fs : List ℕ
  fs = numbers_at b 2 functions

  abbrev pub ps : List ℕ
  ps = numbers_at b (4 + 2 * functions) patterns

  pub all_asked : length (asked fs ps) ≡ functions * patterns
  all_asked =
      length-asked fs ps ∙ ap (λ (n : ℕ). n * length ps) (length-numbers_at b 2 functions)
      ∙ ap (λ (n : ℕ). functions * n) (length-numbers_at b (4 + 2 * functions) patterns)

  pub first-answers : length (answers_at b functions patterns) ≡ length (asked fs ps)
  first-answers = length-numbers_at b (6 + 2 * functions + 2 * patterns) (functions * patterns) ∙ sym all_asked

  pub second_answers : length (answers_at c functions patterns) ≡ length (asked fs ps)
  second_answers = length-numbers_at c (6 + 2 * functions + 2 * patterns) (functions * patterns) ∙ sym all_asked

  pub all-places : length (places_at b c functions patterns) ≡ functions * patterns
  all-places = length-places (asked fs ps) (answers_at b functions patterns) (answers_at c functions patterns) first-answers second_answers ∙ all_asked

  module _ (n : ℕ) (h : n < functions * patterns) where
    some : 0 < patterns
    some = some_columns functions patterns n h

    asked-there : get_or (asked fs ps) n (ask 0 0) ≡ ask (number_at_of b (2 + 2 * (n / patterns))) (number_at_of b (4 + 2 * functions + 2 * (n % patterns)))
    asked-there =
        let q = n / patterns in
        let r = n % patterns in
        let width : length ps ≡ patterns = length-numbers_at b (4 + 2 * functions) patterns in
        let rows : length fs ≡ functions = length-numbers_at b 2 functions in
        let i : q * length ps + r ≡ n = ap (λ (k : ℕ). q * k + r) width ∙ div-add-mod' n patterns in
        let column = mod-lt n some in
        let row = row_of_lem functions patterns n h in
        ap (λ (k : ℕ). get_or (asked fs ps) k (ask 0 0)) (sym i) ∙ asked_at fs ps q r (omega arith) (omega arith)
        ∙ ap (λ (f : ℕ). ask f (get_or ps r 0)) (number_of b 2 functions q row)
        ∙ ap (λ (p : ℕ). ask (number_at_of b (2 + 2 * q)) p) (number_of b (4 + 2 * functions) patterns r column)

    pub line-there : let p = get_or (places_at b c functions patterns) n nowhere in
        line_of p.function p.pattern p.first p.second ≡ line_at b c functions patterns n
    line-there =
        let at = 6 + 2 * functions + 2 * patterns in
        let below : n < length (asked fs ps) = omega (arith, all_asked) in
        ap (λ (p : Place). line_of p.function p.pattern p.first p.second)
        (place_at (asked fs ps) (answers_at b functions patterns) (answers_at c functions patterns) first-answers second_answers n below)
        ∙ ap (λ (q : Ask). line_of q.function q.pattern (get_or (answers_at b functions patterns) n 0) (get_or (answers_at c functions patterns) n 0))
        asked-there
        ∙ (rw (number_of b at (functions * patterns) n h, number_of c at (functions * patterns) n h))
