use Rattle.std.proofs.Common.{◌≡◌, ◌+◌, ℕ, ◌++◌, List, length}
use Rattle.std.specs.Prelude.{vec_len}
use Rattle.spelling.specs.Words.{words_of, left}
use Rattle.svg.specs.Reading.{points_of, onto}
use Rattle.svg.proofs.row.push_runs.Given as goal

abbrev pub invariant-loop-word : goal.invariant-loop-word
invariant-loop-word l = record {
  read : (done : List ℕ) × (l.points.items ≡ l.initial.points.items ++ done) × (points_of l.width (words_of l.line) ≡ onto done (points_of l.room (left l.rest)));
  fits : vec_len l.points + l.room ≡ vec_len l.initial.points + l.width;
}

abbrev pub decreases-loop-word : goal.decreases-loop-word
decreases-loop-word l = length (left l.rest)
