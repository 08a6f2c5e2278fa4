use Rattle.std.proofs.Common.{rules, w32, arith}
use Rattle.std.proofs.lemmas.Int.{ints}
use mir.Val.{SFits}
use Rattle.paint_ops.proofs.CallerLemmas.{within-parts}
use Rattle.drawing_tests.proofs.operations.lies_in_row.Goals as goal

pub returns-then-span : goal.returns-then-span
returns-then-span c h x inside =
    let s = c.args.span in
    let low : SFits w32 s.x0 = search rules in
    let high : SFits w32 s.x1 = search rules in
    let w = within-parts s.x0 s.x1 x inside in
    absurd (omega (arith, ints))

pub returns-then-span-ge0 : goal.returns-then-span-ge0
returns-then-span-ge0 c h x inside =
    let s = c.args.span in
    let low : SFits w32 s.x0 = search rules in
    let high : SFits w32 s.x1 = search rules in
    let w = within-parts s.x0 s.x1 x inside in
    (omega (arith, ints), omega (arith, ints))
