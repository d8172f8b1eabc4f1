-- The listing, the count of answers and the answers stand side by side.
use Rattle.std.proofs.Common.{◌≡◌, ℕ, ◌+◌, ◌-◌, ◌*◌, length, take, drop, ap, ◌∙◌, arith}
use Rattle.words.specs.Numbers.{bytes_of_all, numbers_at}
use Rattle.words.proofs.Reading.{length-numbers_at}
use Rattle.words.proofs.Writing.{length-bytes_of_all}
use Rattle.sections.specs.Order.{all_known_of}
use Rattle.listing.specs.Answered.{answers, numbers_in}
use Rattle.listing.proofs.Pairs.{pairs_between}
use Rattle.listing.proofs.Writing.{length-answers, sets_part, in_turn}
use Rattle.listing.proofs.answer_rows.write_answered.Goals as goal
use Rattle.std.specs.Simd.{first_chunks}
use Rattle.std.proofs.Common.{List}
use borrow.Rule.Slice.PartMut.{put_mid}

-- the pairs ns of the bytes b, which are so many
module _ (b : List ℕ) (ns : List (List ℕ)) (n functions patterns : ℕ) (e : ns ≡ first_chunks 2 n b) (m : n ≡ 2 + functions + patterns) where
  functions_in : numbers_in (take (1 + functions - 1) (drop 1 ns)) ≡ numbers_at b 2 functions
  functions_in =
      let q : 1 + functions - 1 ≡ functions = omega arith in
      rw (e, q) (pairs_between b n 1 functions (omega arith))

  patterns_in : length ns ≡ n
      → numbers_in (take (length ns - (2 + functions)) (drop (2 + functions) ns)) ≡ numbers_at b (2 + 2 * functions + 2) patterns
  patterns_in s =
      let q : length ns - (2 + functions) ≡ patterns = omega arith in
      let p : 2 * (2 + functions) ≡ 2 + 2 * functions + 2 = omega arith in
      rw (q, e) (pairs_between b n (2 + functions) patterns (omega arith) ∙ ap (λ (k : ℕ). numbers_at b k patterns) p)

pub write_answers-requires-clause-all_known : goal.write_answers-requires-clause-all_known
write_answers-requires-clause-all_known c =
    let a = c.args in
    let k = c.as_chunks in
    ap all_known_of (functions_in a.input.now k.result.0.now _ a.functions a.patterns k.ensures.front (omega arith)) ∙ c.requires.all_known

pub returns : goal.returns
returns c =
    let a = c.args in
    let k = c.as_chunks in
    let b = a.input.now in
    let fs = numbers_at b 2 a.functions in
    let ps = numbers_at b (2 + 2 * a.functions + 2) a.patterns in
    let count : length (answers fs ps) ≡ a.functions * a.patterns =
    length-answers fs ps ∙ ap (λ (n : ℕ). n * length ps) (length-numbers_at b 2 a.functions)
    ∙ ap (λ (n : ℕ). a.functions * n) (length-numbers_at b (2 + 2 * a.functions + 2) a.patterns) in
    let f = functions_in b k.result.0.now _ a.functions a.patterns k.ensures.front (omega arith) in
    let p = patterns_in b k.result.0.now _ a.functions a.patterns k.ensures.front (omega arith) k.ensures.front_len in
    let size = length c.put_number.new.output - (length b + 2) in
    let bytes = bytes_of_all (answers fs ps) in
    let part = sets_part c.put_number.new.output (length b + 2) size bytes (omega arith) (omega (arith, length-bytes_of_all (answers fs ps))) in
    in_turn a.output.now b (answers fs ps) c.copy.new.output c.put_number.new.output _ (a.functions * a.patterns) count
    c.copy.ensures c.put_number.ensures (ap (put_mid (length b + 2) size c.put_number.new.output) c.write_answers.ensures ∙ rw (f, p) part)
