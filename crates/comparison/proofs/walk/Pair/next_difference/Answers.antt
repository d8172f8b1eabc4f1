-- one place on where the answers are the same, here where they differ, and the end where there is none
use Rattle.std.proofs.Common.{◌*◌, ◌≡◌, sym, ap, ◌∙◌, arith}
use Rattle.std.proofs.Math.Nat.{mul-le-mul_right}
use Rattle.words.specs.Numbers.{number_at_of}
use Rattle.comparison.proofs.Walking.{none_left, place_on, place_found}
use Rattle.comparison.proofs.walk.Pair.next_difference.Goals as goal

pub loop-column-preserved : goal.loop-column-preserved
loop-column-preserved c =
    let p = c.args.self.now in
    let l = c.loop-column in
    record {
      place_is = omega arith;
      same_next = sym (place_on p.first.now p.second.now p.functions p.patterns c.rows.row l.column l.place c.rows-test.true c.loop-column-test.true
          l.invariant.place_is (ap (number_at_of p.first.now) (omega arith) ∙ sym c.number_at.ensures ∙ c.if-number_at.false
          ∙ c.number_at-in-loop-column.ensures ∙ ap (number_at_of p.second.now) (omega arith))) ∙ l.invariant.same_next;
    }

pub returns-after-rows : goal.returns-after-rows
returns-after-rows c =
    let p = c.args.self.now in
    let r = c.rows in
    let end : r.place ≡ p.functions * p.patterns = omega (arith, mul-le-mul_right p.patterns c.rows-test.false) in
    end ∙ none_left p.first.now p.second.now p.functions p.patterns r.place (omega arith) ∙ r.invariant.same_next

pub returns-then-number_at : goal.returns-then-number_at
returns-then-number_at c =
    let p = c.args.self.now in
    let l = c.loop-column in
    place_found p.first.now p.second.now p.functions p.patterns c.rows.row l.column l.place c.rows-test.true c.loop-column-test.true l.invariant.place_is
    (λ q. c.if-number_at.true (c.number_at.ensures ∙ ap (number_at_of p.first.now) (omega arith) ∙ q
    ∙ ap (number_at_of p.second.now) (omega arith) ∙ sym c.number_at-in-loop-column.ensures))
    ∙ l.invariant.same_next
