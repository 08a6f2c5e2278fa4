use Rattle.std.proofs.Common.{◌≡◌, ℕ, ℤ, pos, ◌+◌, ◌≤◌, ◌&&◌, length, take}
use Rattle.std.specs.Prelude.{not}
use Rattle.gfx_base.specs.Range.{is_within}
use Rattle.gfx_base.specs.Rects.{point_at}
use Rattle.region.specs.Spans.{in_spans}
use Rattle.exec_paint.specs.Plans.{is_hidden}
use Rattle.exec_paint.proofs.row.plan_row.Given as goal

abbrev pub invariant-loop-hole : goal.invariant-loop-hole
invariant-loop-hole l = record {
  from : l.y ≤ l.last;
  columns : (v : ℕ) → l.y ≤ v → v ≤ l.last → (x : ℤ) → in_spans l.spans x ≡ (is_within l.area.x0 l.area.x1 x && not (is_hidden (take l.hole-index l.holes) (point_at x (pos v))));
  count : length l.spans ≤ l.hole-index + 1;
}
