use Rattle.std.proofs.Common.{◌≡◌, true, false, w32, SFits, arith}
use Rattle.std.specs.Prelude.{int_le}
use Rattle.std.proofs.lemmas.Int.{ints, to_z-of_z}
use Rattle.strokes.proofs.lines.ordered_tiles.Goals as goal

pub returns-then-a-b : goal.returns-then-a-b
returns-then-a-b c =
    let a = c.args in
    let f0 : SFits w32 a.a.x = omega (arith, ints, c.requires.ends.0.0) in
    let f1 : SFits w32 a.b.x = omega (arith, ints, c.requires.ends.1.0) in
    let h : int_le a.a.x a.b.x ≡ true = simp to_z-of_z at c.if-a-b.true in
    rw h c.course_tiles.ensures

pub returns-else-a-b : goal.returns-else-a-b
returns-else-a-b c =
    let a = c.args in
    let f0 : SFits w32 a.a.x = omega (arith, ints, c.requires.ends.0.0) in
    let f1 : SFits w32 a.b.x = omega (arith, ints, c.requires.ends.1.0) in
    let h : int_le a.a.x a.b.x ≡ false = simp to_z-of_z at c.if-a-b.false in
    rw h c.course_tiles-else-a-b.ensures
