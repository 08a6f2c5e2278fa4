use Rattle.std.proofs.Common.{◌≡◌, ℤ, pos, ◌+ℤ◌, ◌-ℤ◌, ◌≤ℤ◌, ◌<ℤ◌, refl, ◌∙◌, w32, SFits, to_z, of_z, rules, arith}
use Rattle.std.proofs.lemmas.Int.{ints, to_z-of_z}
use Rattle.strokes.proofs.ShapeLemmas.{area_filled}
use Rattle.strokes.proofs.drawing.fill_area.Goals as goal

-- the code's number of columns or rows
sum_is : (low high : ℤ) → pos 0 ≤ℤ low → low ≤ℤ high → high <ℤ pos 65535 → to_z w32 (of_z w32 (to_z w32 (of_z w32 (to_z w32 (of_z w32 high) -ℤ to_z w32 (of_z w32 low))) +ℤ pos 1)) ≡ high -ℤ low +ℤ pos 1
sum_is low high from order most =
    let f : SFits w32 low = omega (arith, ints) in
    let g : SFits w32 high = omega (arith, ints) in
    let d : SFits w32 (high -ℤ low) = omega (arith, ints) in
    let s : SFits w32 (high -ℤ low +ℤ pos 1) = omega (arith, ints) in
    rw (to_z-of_z w32 high g, to_z-of_z w32 low f, to_z-of_z w32 (high -ℤ low) d, to_z-of_z w32 (high -ℤ low +ℤ pos 1) s) refl

pub draw_rows-requires-clause-origin : goal.draw_rows-requires-clause-origin
draw_rows-requires-clause-origin c =
    let area = c.args.area.now in
    let on = c.requires.area in
    let f0 : SFits w32 area.x0 = search rules in
    let f1 : SFits w32 area.y0 = search rules in
    rw (to_z-of_z w32 area.x0 f0, to_z-of_z w32 area.y0 f1)
    ((omega (arith, ints, on.left), omega (arith, ints, on.right, on.columns, c.requires.shape.most_width)), (omega (arith, ints, on.top), omega (arith, ints, on.bottom, on.rows, c.requires.shape.most_height)))

pub returns : goal.returns
returns c =
    let a = c.args in
    let area = a.area.now in
    let on = c.requires.area in
    let f0 : SFits w32 area.x0 = search rules in
    let f1 : SFits w32 area.y0 = search rules in
    area_filled a.target.now.picture c.draw_rows.new.target.picture a.assets.now area a.holes.now _ _ a.colour c.requires.shape
    (c.unsigned-width.ensures.value ∙ sum_is area.x0 area.x1 on.left on.columns (omega (arith, ints, on.right, c.requires.shape.most_width)))
    (c.unsigned-height.ensures.value ∙ sum_is area.y0 area.y1 on.top on.rows (omega (arith, ints, on.bottom, c.requires.shape.most_height)))
    (to_z-of_z w32 area.x0 f0) (to_z-of_z w32 area.y0 f1) c.draw_rows.ensures
