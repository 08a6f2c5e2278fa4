use Rattle.std.proofs.Common.{◌≡◌, ◌+◌, ◌-◌, ◌<◌, ◌≤◌}
use Rattle.frame.specs.Pictures.{row_at}
use Rattle.svg.specs.Rectangles.{height_at}
use Rattle.svg.proofs.ColumnLemmas.{rows_with}
use Rattle.svg.proofs.shapes.height_at.Given as goal

abbrev pub invariant-loop-end : goal.invariant-loop-end
invariant-loop-end l = record {
  after : l.y < l.end;
  within : l.end ≤ l.image.height;
  rest : height_at l.image l.x l.y + l.y ≡ l.end + rows_with l.image l.x l.end (row_at l.image l.y);
}

abbrev pub decreases-loop-end : goal.decreases-loop-end
decreases-loop-end l = l.image.height - l.end
