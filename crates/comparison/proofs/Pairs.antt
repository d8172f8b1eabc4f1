-- What the calls return and write where two listings are refused, and where they are not.
use Prim.Native.Nat.{ℕ, ◌+◌, ◌*◌, ◌≤◌, ◌<◌}
use mathlib.Core.Path.{◌≡◌, refl, sym, ap, ◌∙◌}
use mathlib.Core.Bool.{Bool, false}
use mathlib.Core.List.{List, [], ◌++◌}
use Rattle.std.specs.Prelude.{Option, Some, None, is_none, Ok, Err}
use native.Mathlib.Omega.{arith}
use native.Mathlib.Nat.{zero-add}
use borrow.Author.Tests.{lt-ltb, le-ltb}
use lib.ListN.{length, drop}
use lib.Seq.{sets, sets-eq, length-sets}
use Rattle.refusals.specs.declared.Refusal.{Refusal}
use Rattle.refusals.specs.Refusals.{number_of, number_or_zero}
use Rattle.words.specs.Numbers.{number_at_of, numbers_at}
use Rattle.sections.specs.declared.Sections.{Sections}
use Rattle.sections.specs.Sections.{functions_of, patterns_of, past_patterns}
use Rattle.sections.proofs.Counts.{past_is, functions_are, patterns_are}
use Rattle.sections.proofs.Sound.{Counted, counted_of, none_of, refused_of}
use Rattle.answered.specs.Answered.{answers_of, asks, pair_refusal, pair_of}
use Rattle.answered.proofs.Complete.{Complete}
use Rattle.answered.proofs.Pairs.{Agreed, agreed, agreed_of}
use Rattle.line.specs.Line.{field, room_for, fitted}
use Rattle.line.proofs.Digits.{field_most}
use Rattle.line.proofs.Writing.{fitted_most}
use Rattle.io.specs.Counts.{IsPrefixLen}
use Rattle.io.proofs.Counting.{prefix_len_of_le as counts}
use Rattle.comparison.specs.Differences.{Place, differing, next_differing}
use Rattle.comparison.specs.Comparison.{places_of, differences_of, difference_of, shown, most_lines_of, said_of, output_of}
use Rattle.comparison.specs.Walk.{answers_at, places_at}
use Rattle.comparison.proofs.Lines.{shown_most}
use Rattle.comparison.proofs.There.{all-places}

-- what was read of two listings that are not refused
pub record Read (b c : List ℕ) (s : Sections) : Type 0 where
  pub both : Agreed b c
  pub counts : Counted b s

pub read : (b c : List ℕ) (s : Sections) → Ok s ≡ pair_of b c → Read b c s
read b c s e =
    let w = agreed_of b c (none_of b (pair_refusal b c) s e) in
    record { both = w; counts = counted_of b (pair_refusal b c) s e w.first.sections }

-- .. as the walk over their places asks for it
module _ (b c : List ℕ) (s : Sections) (e : Ok s ≡ pair_of b c) where
  pub few_functions : s.functions ≤ 10
  few_functions = (read b c s e).counts.few

  pub few_patterns : s.patterns ≤ 1024
  few_patterns = (read b c s e).counts.some

pub ruleset pairs = (few_functions, few_patterns)

-- the answers of a listing, by how many functions and patterns it has
answers_are : (b : List ℕ) (functions patterns : ℕ) → Complete b → functions ≡ length (functions_of b) → patterns ≡ length (patterns_of b)
    → answers_at b functions patterns ≡ answers_of b
unfolding answers_of
answers_are b functions patterns w f p =
    let at : 6 + 2 * functions + 2 * patterns ≡ past_patterns b + 2 = omega (arith, past_is b functions patterns f p) in
    let n : functions * patterns ≡ number_at_of b (past_patterns b) =
    ap (λ (k : ℕ). k * patterns) f ∙ ap (λ (k : ℕ). length (functions_of b) * k) p ∙ sym w.count in
    ap (λ (k : ℕ). numbers_at b k (functions * patterns)) at ∙ ap (numbers_at b (past_patterns b + 2)) n

module _ (b c : List ℕ) (s : Sections) (r : Read b c s) where
  not_refused : pair_refusal b c ≡ None
  not_refused = agreed b c r.both

  pub asks_are : s.functions * s.patterns ≡ asks b
  asks_are = ap (λ (k : ℕ). k * s.patterns) r.counts.functions ∙ ap (λ (k : ℕ). length (functions_of b) * k) r.counts.patterns

  first_are : answers_at b s.functions s.patterns ≡ answers_of b
  first_are = answers_are b s.functions s.patterns r.both.first r.counts.functions r.counts.patterns

  second_are : answers_at c s.functions s.patterns ≡ answers_of c
  second_are =
      answers_are c s.functions s.patterns r.both.second
      (r.counts.functions ∙ ap length r.both.functions) (r.counts.patterns ∙ ap length r.both.patterns)

  places_are : places_at b c s.functions s.patterns ≡ places_of b c
  unfolding places_of
  places_are =
      let at : 4 + 2 * s.functions ≡ 2 + 2 * s.functions + 2 = omega arith in
      let ps : numbers_at b (4 + 2 * s.functions) s.patterns ≡ patterns_of b =
      ap (λ (k : ℕ). numbers_at b k s.patterns) at ∙ patterns_are b s.functions s.patterns r.counts.functions r.counts.patterns in
      rw (functions_are b s.functions s.patterns r.counts.functions r.counts.patterns, ps, first_are, second_are)

  pub next_found : (from place : ℕ) → place ≡ next_differing (answers_at b s.functions s.patterns) (answers_at c s.functions s.patterns) from
      → Ok place ≡ difference_of b c from
  next_found from place e = rw (not_refused, e, first_are, second_are)

  all_shown : (short : Bool) → shown short (differing (places_at b c s.functions s.patterns)) ≡ shown short (differences_of b c)
  unfolding differences_of
  all_shown short = ap (λ (ps : List Place). shown short (differing ps)) places_are

  -- nothing where there is no room, and else the lines
  pub no_room : (short : Bool) (outputs : ℕ) → outputs < room_for * most_lines_of short (s.functions * s.patterns) → said_of b c short outputs ≡ []
  unfolding said_of
  no_room short outputs h = rw (not_refused, ← asks_are, lt-ltb outputs (room_for * most_lines_of short (s.functions * s.patterns)) h)

  pub lines_said : (short : Bool) (outputs : ℕ) → room_for * most_lines_of short (s.functions * s.patterns) ≤ outputs
      → said_of b c short outputs ≡ shown short (differing (places_at b c s.functions s.patterns))
  unfolding said_of
  lines_said short outputs h =
      rw (not_refused, ← asks_are, le-ltb outputs (room_for * most_lines_of short (s.functions * s.patterns)) h) (sym (all_shown short))

pub number_said : (b c : List ℕ) (r : Option Refusal) → pair_refusal b c ≡ r → is_none r ≡ false → (short : Bool) (outputs : ℕ)
    → said_of b c short outputs ≡ fitted outputs (field (number_or_zero r) 10)
unfolding said_of
number_said b c r e n short outputs = rw (e, n)

-- what is said, written in front of an output that holds it
pub said : (b c : List ℕ) (short : Bool) (output : List ℕ) (bytes : List ℕ) (n : ℕ) (left : List ℕ) → said_of b c short (length output) ≡ bytes
    → length bytes ≤ length output → n ≡ length bytes → left ≡ sets output 0 bytes
    → (n ≡ length (said_of b c short (length output))) × ((left ≡ output_of b c short output) × IsPrefixLen n left)
said b c short output bytes n left e fits size written =
    let front : sets output 0 bytes ≡ bytes ++ drop (length bytes) output =
    sets-eq bytes output 0 (omega arith) ∙ ap (λ (k : ℕ). bytes ++ drop k output) (zero-add (length bytes)) in
    let all : length left ≡ length output = ap length written ∙ length-sets output 0 bytes in
    (size ∙ ap length (sym e), (written ∙ front ∙ sym (ap (λ (s : List ℕ). s ++ drop (length s) output) e), counts n left (omega arith)))

-- the next place that differs, for what was read
pub refused_difference : (b c : List ℕ) (from : ℕ) {e : Refusal} → Err e ≡ pair_of b c → Err e ≡ difference_of b c from
refused_difference b c from h = rw (refused_of b (pair_refusal b c) h)

pub found_difference : (b c : List ℕ) (functions patterns from place : ℕ) → Ok (record { functions = functions; patterns = patterns }) ≡ pair_of b c
    → place ≡ next_differing (answers_at b functions patterns) (answers_at c functions patterns) from → Ok place ≡ difference_of b c from
found_difference b c functions patterns from place e h =
    let s : Sections = record { functions = functions; patterns = patterns } in
    next_found b c s (read b c s e) from place h

pub ruleset differences = (refused_difference, found_difference)

-- what `compare` owes for an output
module _ (b c : List ℕ) (short : Bool) (output : List ℕ) where
  abbrev Told : ℕ → List ℕ → Type 0
  Told n left = (n ≡ length (said_of b c short (length output))) × ((left ≡ output_of b c short output) × IsPrefixLen n left)

  pub number_told : (r : Refusal) → Err r ≡ pair_of b c → (k : ℕ) → k ≡ number_of r → (n : ℕ) (left : List ℕ)
      → n ≡ length (fitted (length output) (field k 10)) → left ≡ sets output 0 (fitted (length output) (field k 10)) → Told n left
  number_told r e k q n left size written =
      let told = number_said b c (Some r) (refused_of b (pair_refusal b c) e) refl short (length output)
      ∙ ap (λ (i : ℕ). fitted (length output) (field i 10)) (sym q) in
      said b c short output (fitted (length output) (field k 10)) n left told
      (fitted_most (length output) (field k 10) (omega (arith, field_most k 10))) size written

  module _ (s : Sections) (e : Ok s ≡ pair_of b c) where
    pub nothing_told : length output < room_for * most_lines_of short (s.functions * s.patterns) → Told 0 output
    nothing_told h = said b c short output [] 0 output (no_room b c s (read b c s e) short (length output) h) (omega arith) refl refl

    pub lines_told : room_for * most_lines_of short (s.functions * s.patterns) ≤ length output → (n : ℕ) (left : List ℕ)
        → n ≡ length (shown short (differing (places_at b c s.functions s.patterns)))
        → left ≡ sets output 0 (shown short (differing (places_at b c s.functions s.patterns))) → Told n left
    lines_told h n left size written =
        let ps = places_at b c s.functions s.patterns in
        let fits : length (shown short (differing ps)) ≤ length output =
        omega (
          arith,
          shown_most short ps,
          ap (λ (k : ℕ). room_for * most_lines_of short k) (all-places b c s.functions s.patterns),
        ) in
        said b c short output (shown short (differing ps)) n left (lines_said b c s (read b c s e) short (length output) h) fits size written
