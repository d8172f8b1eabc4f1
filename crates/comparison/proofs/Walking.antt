-- The walk over the places of two listings, by their bytes: where the next place lies that differs, and how far the lines are written.
use Rattle.std.proofs.Common.{ℕ, ◌+◌, ◌-◌, ◌*◌, ◌<◌, ◌≤◌, ◌≡◌, refl, sym, ap, ◌∙◌, Bool, true, false, List, [], ◌++◌, length, take, get_or, arith}
use mathlib.Core.Bool.{true≢false}
use Rattle.std.proofs.lemmas.List.Edits.{sets}
use Rattle.words.specs.Numbers.{number_at_of}
use Rattle.words.proofs.Reading.{length-numbers_at, number_of}
use Rattle.line.specs.Line.{line_of, room_for}
use Rattle.line.proofs.Digits.{line_most}
use Rattle.line.proofs.Writing.{Written, written_more}
use Rattle.comparison.specs.Differences.{Ask, Place, asked, differing, next_differing}
use Rattle.comparison.specs.Comparison.{lines_of, shown, most_lines_of}
use Rattle.comparison.specs.Walk.{answers_at, places_at, line_at}
use Rattle.comparison.proofs.Next.{none_beyond, one_on, here, not_before, within, differs}
use Rattle.comparison.proofs.Rows.{row_within}
use Rattle.comparison.proofs.Places.{nowhere}
use Rattle.comparison.proofs.Lines.{skipped, shown_at_end, one-line-more, first_alone}
use Rattle.comparison.proofs.There.{fs, ps, all_asked, first-answers, second_answers, line-there}

module _ (b c : List ℕ) (functions patterns : ℕ) where
  abbrev xs : List ℕ
  xs = answers_at b functions patterns

  abbrev ys : List ℕ
  ys = answers_at c functions patterns

  count : length xs ≡ functions * patterns
  count = length-numbers_at b (6 + 2 * functions + 2 * patterns) (functions * patterns)

  lengths : length xs ≡ length ys
  lengths = count ∙ sym (length-numbers_at c (6 + 2 * functions + 2 * patterns) (functions * patterns))

  pub line_length : (n : ℕ) → length (line_at b c functions patterns n) ≤ 31
  line_length n = line_most _ _ _ _

  pub none_left : (from : ℕ) → functions * patterns ≤ from → functions * patterns ≡ next_differing xs ys from
  none_left from h = sym (none_beyond xs ys lengths from (omega (arith, count)) ∙ count)

  -- the answers at a place, as they are read
  module _ (row column place : ℕ) (r : row < functions) (k : column < patterns) (e : place ≡ row * patterns + column) where
    abbrev at : ℕ
    at = 6 + 2 * functions + 2 * patterns + 2 * place

    inside : place < functions * patterns
    inside = omega (arith, row_within row functions patterns r)

    first_there : get_or xs place 0 ≡ number_at_of b at
    first_there = number_of b (6 + 2 * functions + 2 * patterns) (functions * patterns) place inside

    second_there : get_or ys place 0 ≡ number_at_of c at
    second_there = number_of c (6 + 2 * functions + 2 * patterns) (functions * patterns) place inside

    pub place_on : number_at_of b at ≡ number_at_of c at → next_differing xs ys place ≡ next_differing xs ys (place + 1)
    place_on q = one_on xs ys lengths place (omega (arith, inside, count)) (first_there ∙ q ∙ sym second_there)

    pub place_found : (number_at_of b at ≡ number_at_of c at → ⊥) → place ≡ next_differing xs ys place
    place_found d = sym (here xs ys lengths place (omega (arith, inside, count)) (λ q. d (sym first_there ∙ q ∙ second_there)))

-- what the lines look like before a place, and whether the place is one that differs
pub record Reached (b c : List ℕ) (functions patterns : ℕ) (short : Bool) (output : List ℕ) (place at : ℕ) (left : List ℕ) : Type 0 where
  pub inside : place ≤ functions * patterns
  pub most : at ≤ 31 * place
  pub size : at ≡ length (lines_of (differing (take place (places_at b c functions patterns))))
  pub written : left ≡ sets output 0 (lines_of (differing (take place (places_at b c functions patterns))))
  pub apart : place < functions * patterns
      → get_or (answers_at b functions patterns) place 0 ≡ get_or (answers_at c functions patterns) place 0 → ⊥
  pub first : short ≡ true → differing (take place (places_at b c functions patterns)) ≡ []

module _ (b c : List ℕ) (functions patterns : ℕ) (short : Bool) (output : List ℕ) where
  abbrev qs : List Ask
  qs = asked (fs b c functions patterns) (ps b c functions patterns)

  abbrev vs : List ℕ
  vs = answers_at b functions patterns

  abbrev ws : List ℕ
  ws = answers_at c functions patterns

  abbrev all : List Place
  all = places_at b c functions patterns

  asks : length qs ≡ functions * patterns
  asks = all_asked b c functions patterns

  one : length vs ≡ length qs
  one = first-answers b c functions patterns

  two : length ws ≡ length qs
  two = second_answers b c functions patterns

  -- the next place from the place k on
  module _ (k n : ℕ) (h : k ≤ functions * patterns) (e : n ≡ next_differing vs ws k) where
    begun : k ≤ length vs
    begun = omega (arith, one, asks)

    from : k ≤ n
    from = omega (arith, not_before vs ws (one ∙ sym two) k begun)

    ends : n ≤ functions * patterns
    ends = omega (arith, within vs ws (one ∙ sym two) k begun, one, asks)

    next_apart : n < functions * patterns → get_or vs n 0 ≡ get_or ws n 0 → ⊥
    next_apart below q =
        differs vs ws (one ∙ sym two) k begun (omega (arith, below, one, asks))
        (sym (ap (λ (i : ℕ). get_or vs i 0) e) ∙ q ∙ ap (λ (i : ℕ). get_or ws i 0) e)

    none_added : differing (take n all) ≡ differing (take k all)
    none_added =
        let i : k + (n - k) ≡ n = omega (arith, from) in
        ap (λ (j : ℕ). differing (take j all)) (sym i) ∙ skipped qs vs ws one two (n - k) k (omega (arith, from)) (omega (arith, from, ends, asks))

  pub started : (place : ℕ) → place ≡ next_differing vs ws 0 → Reached b c functions patterns short output place 0 output
  started place e =
      let none : differing (take place all) ≡ [] = none_added 0 place (omega arith) e in
      record {
        inside = ends 0 place (omega arith) e;
        most = omega arith;
        size = sym (ap (λ (ds : List Place). length (lines_of ds)) none);
        written = sym (ap (λ (ds : List Place). sets output 0 (lines_of ds)) none);
        apart = next_apart 0 place (omega arith) e;
        first = λ t. none;
      }

  module _ (place at : ℕ) (left : List ℕ) (r : Reached b c functions patterns short output place at left) where
    pub ended : functions * patterns ≤ place → (at ≡ length (shown short (differing all))) × (left ≡ sets output 0 (shown short (differing all)))
    ended h =
        let e = sym (shown_at_end qs vs ws one two short place (omega (arith, asks)) r.first) in
        (r.size ∙ ap length e, r.written ∙ ap (sets output 0) e)

    module _ (below : place < functions * patterns) where
      line_is : let p = get_or all place nowhere in line_of p.function p.pattern p.first p.second ≡ line_at b c functions patterns place
      line_is = line-there b c functions patterns place below

      pub line_fits : room_for * most_lines_of short (functions * patterns) ≤ length output → at + room_for ≤ length output
      line_fits h = go short h r.first
        where
          go : (short : Bool) → room_for * most_lines_of short (functions * patterns) ≤ length output
              → (short ≡ true → differing (take place all) ≡ []) → at + room_for ≤ length output
          go true h first = omega (arith, r.size, ap (λ (ds : List Place). length (lines_of ds)) (first refl))
          go false h first = omega (arith, r.most)

      -- its line written behind those before it
      module _ (n : ℕ) (size : n ≡ length (line_at b c functions patterns place)) (now : List ℕ) (written : now ≡ sets left at (line_at b c functions patterns place)) where
        both : (at + n ≡ length (lines_of (differing (take place all)) ++ line_at b c functions patterns place))
            × (now ≡ sets output 0 (lines_of (differing (take place all)) ++ line_at b c functions patterns place))
        both =
            let before = lines_of (differing (take place all)) in
            let line = line_at b c functions patterns place in
            let h : Written output 0 (before ++ line) (at + n) now =
            written_more output 0 before line at (at + n) left now (omega (arith, r.size), r.written) (ap (λ (k : ℕ). at + k) size, written) in
            (omega (arith, h.0), h.1)

        pub shown_alone : short ≡ true → (at + n ≡ length (shown short (differing all))) × (now ≡ sets output 0 (shown short (differing all)))
        shown_alone t =
            let e : lines_of (differing (take place all)) ++ line_at b c functions patterns place ≡ shown short (differing all) =
            sym (ap (λ (s : Bool). shown s (differing all)) t
            ∙ first_alone qs vs ws one two place (omega (arith, below, asks)) (r.apart below) (r.first t)
            ∙ ap (λ (l : List ℕ). lines_of (differing (take place all)) ++ l) line_is) in
            (both.0 ∙ ap length e, both.1 ∙ ap (sets output 0) e)

        module _ (next : ℕ) (e : next ≡ next_differing vs ws (place + 1)) where
          pub further : place < next
          further = omega (arith, from (place + 1) next (omega arith) e)

          pub one_further : short ≡ false → Reached b c functions patterns short output next (at + n) now
          one_further t =
              let same : lines_of (differing (take place all)) ++ line_at b c functions patterns place ≡ lines_of (differing (take next all)) =
              sym (ap lines_of (none_added (place + 1) next (omega arith) e)
              ∙ one-line-more qs vs ws one two place (omega (arith, below, asks)) (r.apart below)
              ∙ ap (λ (l : List ℕ). lines_of (differing (take place all)) ++ l) line_is) in
              record {
                inside = ends (place + 1) next (omega arith) e;
                most = omega (arith, further, r.most, size, line_length b c functions patterns place);
                size = both.0 ∙ ap length same;
                written = both.1 ∙ ap (sets output 0) same;
                apart = next_apart (place + 1) next (omega arith) e;
                first = λ q. absurd (true≢false (sym q ∙ t));
              }

-- what the walk leaves to show
pub ruleset walking = (none_left, place_on, place_found)
