-- the next place from the place reached on is the next from `from` on
use Rattle.std.proofs.Common.{◌≡◌, ◌+◌, ◌*◌, ◌≤◌, ◌<◌}
use Rattle.comparison.specs.Differences.{next_differing}
use Rattle.comparison.specs.Walk.{answers_at}
use Rattle.comparison.proofs.walk.Pair.next_difference.Given as goal

abbrev pub invariant-rows : goal.invariant-rows
invariant-rows l = record {
  place_is : l.place ≡ l.row * l.patterns + l.start;
  place_within : l.place ≤ l.count;
  start_within : l.start < l.patterns;
  same_next : next_differing (answers_at l.first l.functions l.patterns) (answers_at l.second l.functions l.patterns) l.place
      ≡ next_differing (answers_at l.first l.functions l.patterns) (answers_at l.second l.functions l.patterns) l.from;
}

abbrev pub invariant-loop-column : goal.invariant-loop-column
invariant-loop-column l = record {
  place_is : l.place ≡ l.row * l.patterns + l.column;
  same_next : next_differing (answers_at l.first l.functions l.patterns) (answers_at l.second l.functions l.patterns) l.place
      ≡ next_differing (answers_at l.first l.functions l.patterns) (answers_at l.second l.functions l.patterns) l.from;
}
