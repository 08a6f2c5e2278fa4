use Rattle.std.proofs.Common.{w32, SFits, rules, arith}
use Rattle.std.proofs.lemmas.Int.{ints, to_z-of_z}
use Rattle.gfx_base.specs.Range.{is_within}
use Rattle.exec_paint.proofs.row.last_alike.Goals as goal

pub returns-then-row-r-clause-alike : goal.returns-then-row-r-clause-alike
unfolding is_within
returns-then-row-r-clause-alike c v from last =
    let f : SFits w32 c.from-row.result = search rules in
    let h0 : SFits w32 c.args.r.now.y0 = search rules in
    grind (arith, ints, to_z-of_z, c.from-row.ensures, c.row_number.ensures, from, last)

pub returns-then-row-r-2-clause-alike : goal.returns-then-row-r-2-clause-alike
unfolding is_within
returns-then-row-r-2-clause-alike c v from last =
    let f : SFits w32 c.from-row.result = search rules in
    let h0 : SFits w32 c.args.r.now.y0 = search rules in
    let h1 : SFits w32 c.args.r.now.y1 = search rules in
    grind (arith, ints, to_z-of_z, c.from-row.ensures, c.row_number-then-row-r-2.ensures, from, last)

pub returns-else-row-r-2-clause-alike : goal.returns-else-row-r-2-clause-alike
unfolding is_within
returns-else-row-r-2-clause-alike c v from last =
    let f : SFits w32 c.from-row.result = search rules in
    let h0 : SFits w32 c.args.r.now.y0 = search rules in
    let h1 : SFits w32 c.args.r.now.y1 = search rules in
    grind (arith, ints, to_z-of_z, c.from-row.ensures, from, last)
