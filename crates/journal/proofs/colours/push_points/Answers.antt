use Rattle.std.proofs.Common.{ap, ◌∙◌, length, length-drop, arith}
use Rattle.std.proofs.lemmas.List.{take_rest}
use Rattle.journal.proofs.RunLemmas.{line_more}
use Rattle.journal.proofs.colours.push_points.Goals as goal

pub loop-first-preserved : goal.loop-first-preserved
loop-first-preserved c =
    let rest = take_rest c.in-Some.others.now c.leading-same.result in
    let parts = c.in-Some.ensures.cases in
    let before = rw parts.0 at c.loop-first.invariant.line in
    let count = ap length rest ∙ length-drop c.leading-same.result c.in-Some.others.now in
    record {
      line = line_more c.loop-first.room _ _ _ c.in-Some.first.now c.in-Some.others.now _ c.leading-same.result c.end_of_run.result before c.leading-same.ensures.value rest c.push_run.ensures.line c.end_of_run.ensures c.push.ensures.line;
      fits = omega arith;
      few = omega arith;
    }
