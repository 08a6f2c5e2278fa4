use Rattle.std.proofs.Common.{◌≡◌, ◌+◌, ◌*◌, ◌≤◌, ◌++◌, length}
use Rattle.journal.specs.Texts.{points_line}
use Rattle.journal.proofs.RunLemmas.{rest_line}
use Rattle.journal.proofs.colours.push_points.Given as goal

abbrev pub invariant-loop-first : goal.invariant-loop-first
invariant-loop-first l = record { line : l.room ++ rest_line l.rest ≡ l.fn.room ++ points_line l.row; fits : length l.room + 7 * length l.rest ≤ 7168; few : length l.rest ≤ 1024 }

abbrev pub decreases-loop-first : goal.decreases-loop-first
decreases-loop-first l = length l.rest
