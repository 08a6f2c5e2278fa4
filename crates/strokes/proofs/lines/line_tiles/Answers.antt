use Rattle.std.proofs.Common.{◌≡◌, ◌-ℤ◌, ◌<◌, ◌≤◌, true, false, sym, ap, ◌∙◌, w32, SFits, arith}
use Rattle.std.specs.Prelude.{unsigned_abs}
use Rattle.std.proofs.lemmas.Int.{ints, to_z-of_z}
use Rattle.gfx_base.specs.declared.point.Point.{Point}
use Rattle.line_ink.specs.Lines.{flipped, left_of, right_of, is_same, is_on_wide, is_on_line}
use Rattle.strokes.specs.Parts.{turned}
use Rattle.strokes.proofs.CourseLemmas.{on-same, on-steep, on-wide, wide-apart, same-test_tiles}
use Rattle.strokes.proofs.lines.line_tiles.Goals as goal

pub returns-then-eq : goal.returns-then-eq
returns-then-eq c =
    let a = c.args in
    same-test_tiles a.width a.height a.area.now a.holes.now a.corner (λ t. is_same t a.a) (is_on_line a.a a.b) c.point_tiles.result (λ t. sym (on-same a.a a.b t (sym c.if-eq.ensures))) c.point_tiles.ensures

pub ordered_tiles-requires-clause-apart : goal.ordered_tiles-requires-clause-apart
ordered_tiles-requires-clause-apart c = λ same.
    let a = c.args in
    let f0 : SFits w32 a.a.x = omega (arith, ints, c.requires.ends.0.0) in
    let f1 : SFits w32 a.a.y = omega (arith, ints, c.requires.ends.0.1) in
    let f2 : SFits w32 a.b.x = omega (arith, ints, c.requires.ends.1.0) in
    let f3 : SFits w32 a.b.y = omega (arith, ints, c.requires.ends.1.1) in
    let dx : c.abs_diff.result ≡ unsigned_abs (a.b.x -ℤ a.a.x) = simp to_z-of_z at c.abs_diff.ensures in
    let dy : c.abs_diff-else-eq.result ≡ unsigned_abs (a.b.y -ℤ a.a.y) = simp to_z-of_z at c.abs_diff-else-eq.ensures in
    let y : a.a.y ≡ a.b.y = sym (ap (λ (p : Point). p.x) c.flipped.ensures) ∙ same ∙ ap (λ (p : Point). p.x) c.flipped-then-abs_diff.ensures in
    omega (arith, ints, dx, dy, y, c.if-abs_diff.true)

pub ordered_tiles-requires-else-abs_diff-clause-apart : goal.ordered_tiles-requires-else-abs_diff-clause-apart
ordered_tiles-requires-else-abs_diff-clause-apart c =
    let a = c.args in
    let f0 : SFits w32 a.a.x = omega (arith, ints, c.requires.ends.0.0) in
    let f1 : SFits w32 a.a.y = omega (arith, ints, c.requires.ends.0.1) in
    let f2 : SFits w32 a.b.x = omega (arith, ints, c.requires.ends.1.0) in
    let f3 : SFits w32 a.b.y = omega (arith, ints, c.requires.ends.1.1) in
    let dx : c.abs_diff.result ≡ unsigned_abs (a.b.x -ℤ a.a.x) = simp to_z-of_z at c.abs_diff.ensures in
    let dy : c.abs_diff-else-eq.result ≡ unsigned_abs (a.b.y -ℤ a.a.y) = simp to_z-of_z at c.abs_diff-else-eq.ensures in
    wide-apart a.a a.b (sym c.if-eq.ensures) (omega (arith, dx, dy, c.if-abs_diff.false))

pub returns-then-abs_diff : goal.returns-then-abs_diff
returns-then-abs_diff c =
    let a = c.args in
    let f0 : SFits w32 a.a.x = omega (arith, ints, c.requires.ends.0.0) in
    let f1 : SFits w32 a.a.y = omega (arith, ints, c.requires.ends.0.1) in
    let f2 : SFits w32 a.b.x = omega (arith, ints, c.requires.ends.1.0) in
    let f3 : SFits w32 a.b.y = omega (arith, ints, c.requires.ends.1.1) in
    let dx : c.abs_diff.result ≡ unsigned_abs (a.b.x -ℤ a.a.x) = simp to_z-of_z at c.abs_diff.ensures in
    let dy : c.abs_diff-else-eq.result ≡ unsigned_abs (a.b.y -ℤ a.a.y) = simp to_z-of_z at c.abs_diff-else-eq.ensures in
    let steep : unsigned_abs (a.b.x -ℤ a.a.x) < unsigned_abs (a.b.y -ℤ a.a.y) = omega (arith, dx, dy, c.if-abs_diff.true) in
    same-test_tiles a.width a.height a.area.now a.holes.now a.corner (λ t. is_on_wide (left_of (flipped a.a) (flipped a.b)) (right_of (flipped a.a) (flipped a.b)) (turned true t)) (is_on_line a.a a.b) c.ordered_tiles.result
    (λ t. sym (on-steep a.a a.b t (sym c.if-eq.ensures) steep)) (rw (c.flipped.ensures, c.flipped-then-abs_diff.ensures) at c.ordered_tiles.ensures)

pub returns-else-abs_diff : goal.returns-else-abs_diff
returns-else-abs_diff c =
    let a = c.args in
    let f0 : SFits w32 a.a.x = omega (arith, ints, c.requires.ends.0.0) in
    let f1 : SFits w32 a.a.y = omega (arith, ints, c.requires.ends.0.1) in
    let f2 : SFits w32 a.b.x = omega (arith, ints, c.requires.ends.1.0) in
    let f3 : SFits w32 a.b.y = omega (arith, ints, c.requires.ends.1.1) in
    let dx : c.abs_diff.result ≡ unsigned_abs (a.b.x -ℤ a.a.x) = simp to_z-of_z at c.abs_diff.ensures in
    let dy : c.abs_diff-else-eq.result ≡ unsigned_abs (a.b.y -ℤ a.a.y) = simp to_z-of_z at c.abs_diff-else-eq.ensures in
    let low : unsigned_abs (a.b.y -ℤ a.a.y) ≤ unsigned_abs (a.b.x -ℤ a.a.x) = omega (arith, dx, dy, c.if-abs_diff.false) in
    same-test_tiles a.width a.height a.area.now a.holes.now a.corner (λ t. is_on_wide (left_of a.a a.b) (right_of a.a a.b) (turned false t)) (is_on_line a.a a.b) c.ordered_tiles-else-abs_diff.result
    (λ t. sym (on-wide a.a a.b t (sym c.if-eq.ensures) low)) c.ordered_tiles-else-abs_diff.ensures
