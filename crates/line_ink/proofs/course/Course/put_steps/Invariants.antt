use Rattle.std.proofs.Common.{◌≡◌, ℕ, ◌-◌, ◌<◌, ◌≤◌, map, fold}
use Rattle.std.specs.List.{range_with_len}
use Rattle.line_ink.specs.Courses.{IsAt, place}
use Rattle.line_ink.proofs.course.Course.put_steps.Given as goal

abbrev pub invariant-loop-step : goal.invariant-loop-step
invariant-loop-step g l = record {
  at : IsAt l.self l.step l.offset l.rest;
  put : g.P.Plot.stands_for l.out ≡ fold g.P.Plot.after (g.P.Plot.stands_for l.fn.out) (map (place l.self) (range_with_len l.from (l.step - l.from)));
  may_put : (i : ℕ) → l.from ≤ i → i < l.to → g.P.Plot.may_put (g.P.Plot.stands_for l.out) (place l.self i);
}
