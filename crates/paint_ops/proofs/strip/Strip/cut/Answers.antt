use Rattle.std.proofs.Common.{◌≤ℤ◌, ◌<ℤ◌, rules, w32, arith}
use Rattle.std.proofs.lemmas.Int.{ints, to_z-of_z}
use mir.Val.{SFits}
use Rattle.paint_ops.proofs.StripLemmas.{cut-columns, cut-nothing}
use Rattle.paint_ops.proofs.strip.Strip.cut.Goals as goal

pub returns-then-right-left-clause-columns : goal.returns-then-right-left-clause-columns
returns-then-right-left-clause-columns c u =
    let x : SFits w32 c.args.x0 = search rules in
    let y : SFits w32 c.args.x1 = search rules in
    let e : SFits w32 c.from.result = search rules in
    let f : SFits w32 c.from-2.result = search rules in
    let a = rw c.from.ensures at (simp to_z-of_z at c.max-left.ensures.value) in
    let b = rw c.from-2.ensures at (simp to_z-of_z at c.min-right.ensures.value) in
    let g : SFits w32 c.max-left.result = search rules in
    let h : SFits w32 c.min-right.result = search rules in
    let none : c.min-right.result <ℤ c.max-left.result = omega (arith, ints) in
    cut-nothing c.args.self.left c.args.self.right u c.args.x0 c.args.x1 c.max-left.result c.min-right.result a b none

pub returns-clause-columns : goal.returns-clause-columns
returns-clause-columns c u =
    let x : SFits w32 c.args.x0 = search rules in
    let y : SFits w32 c.args.x1 = search rules in
    let e : SFits w32 c.from.result = search rules in
    let f : SFits w32 c.from-2.result = search rules in
    let a = rw c.from.ensures at (simp to_z-of_z at c.max-left.ensures.value) in
    let b = rw c.from-2.ensures at (simp to_z-of_z at c.min-right.ensures.value) in
    let g : SFits w32 c.max-left.result = search rules in
    let h : SFits w32 c.min-right.result = search rules in
    let some : c.max-left.result ≤ℤ c.min-right.result = omega (arith, ints) in
    rw (to_z-of_z w32 c.max-left.result g, to_z-of_z w32 c.min-right.result h) (cut-columns c.args.self.left c.args.self.right u c.args.x0 c.args.x1 c.max-left.result c.min-right.result a b some)
