use Rattle.std.proofs.Common.{◌≤◌, rules, w32, to_z, ◌<ℤ◌, pos, arith, refl}
use Rattle.std.proofs.lemmas.Int.{ints, to_z-of_z}
use mir.Val.{SFits}
use Rattle.paint_ops.proofs.TextLemmas.{begun-end, begun-stop, begun-step, next_is}
use Rattle.paint_ops.proofs.glyphs.draw_cells.Goals as goal

pub returns-then-left-from : goal.returns-then-left-from
returns-then-left-from c =
    let x : SFits w32 c.args.x = search rules in
    let r : SFits w32 c.from.result = search rules in
    let right : pos c.args.strip.right <ℤ to_z w32 c.loop-code.left-bits = omega (arith, ints) in
    begun-stop _ _ _ _ _ _ _ _ _ _ (rw (to_z-of_z w32 c.args.x x) at c.loop-code.invariant) right

pub loop-code-preserved : goal.loop-code-preserved
loop-code-preserved c =
    let a = c.args in
    let k = c.loop-code.code-index in
    let x : SFits w32 a.x = search rules in
    let b = rw (to_z-of_z w32 a.x x) at c.loop-code.invariant in
    let code = c.width.result in
    let narrow : c.width.result ≤ 255 = omega arith in
    rw (next_is (to_z w32 c.loop-code.left-bits) c.from-left.result a.x c.width.result k c.from-left.ensures narrow c.requires.x b.low b.high (omega (arith, c.requires.few)), c.width.ensures)
    (begun-step _ _ _ a.strip a.font.now a.text.now a.row a.colour k _ _ _ _ c.loop-code.invariant c.loop-code-test.true refl c.draw_cell.ensures refl (rw c.width.ensures at narrow))

pub returns : goal.returns
returns c =
    let x : SFits w32 c.args.x = search rules in
    begun-end _ _ _ _ _ _ _ _ _ _ (rw (to_z-of_z w32 c.args.x x) at c.loop-code.invariant) c.loop-code-test.false
