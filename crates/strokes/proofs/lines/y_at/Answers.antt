use Rattle.std.proofs.Common.{◌≡◌, ◌+ℤ◌, ◌-ℤ◌, ◌<ℤ◌, ◌≤ℤ◌, pos, ap, sym, ◌∙◌, w32, SFits, rules, arith}
use Rattle.std.specs.Prelude.{unsigned_abs}
use Rattle.std.proofs.lemmas.Int.{ints, clamps, to_z-of_z}
use Rattle.strokes.proofs.LineLemmas.{up_is, down_is, rising, falling, y_at-between}
use Rattle.strokes.proofs.lines.y_at.Goals as goal

pub overflow_sub-result : goal.overflow_sub-result
overflow_sub-result c = omega (arith, ints, c.offset.ensures.most, c.abs_diff-rise.ensures, c.requires.ends.0.1, c.requires.ends.1.1)

pub overflow_add-result : goal.overflow_add-result
overflow_add-result c = omega (arith, ints, c.offset-else-r-l.ensures.most, c.abs_diff-rise.ensures, c.requires.ends.0.1, c.requires.ends.1.1)

pub returns-then-r-l-clause-value : goal.returns-then-r-l-clause-value
returns-then-r-l-clause-value c =
    let a = c.args in
    let f0 : SFits w32 a.l.x = omega (arith, ints, c.requires.ends.0.0) in
    let f1 : SFits w32 a.l.y = omega (arith, ints, c.requires.ends.0.1) in
    let f2 : SFits w32 a.r.x = omega (arith, ints, c.requires.ends.1.0) in
    let f3 : SFits w32 a.r.y = omega (arith, ints, c.requires.ends.1.1) in
    let f4 : SFits w32 a.x = omega (arith, ints, c.requires.ends.0.0, c.requires.ends.1.0, c.requires.between) in
    let rise : c.abs_diff-rise.result ≡ unsigned_abs (a.r.y -ℤ a.l.y) = simp to_z-of_z at c.abs_diff-rise.ensures in
    let steps : c.abs_diff-steps.result ≡ unsigned_abs (a.r.x -ℤ a.l.x) = simp to_z-of_z at c.abs_diff-steps.ensures in
    let step : c.abs_diff-step.result ≡ unsigned_abs (a.x -ℤ a.l.x) = simp to_z-of_z at c.abs_diff-step.ensures in
    let down : a.r.y <ℤ a.l.y = search rules in
    down_is a.l.y c.offset.result c.requires.ends.0.1 (omega (arith, ints, c.offset.ensures.most, c.abs_diff-rise.ensures, c.requires.ends.0.1, c.requires.ends.1.1))
    ∙ ap (λ n. a.l.y -ℤ pos n) c.offset.ensures.value
    ∙ rw (rise, step, steps) (sym (falling a.l a.r a.x c.requires.order c.requires.between.0 down))

pub returns-then-r-l-clause-short : goal.returns-then-r-l-clause-short
returns-then-r-l-clause-short c =
    let a = c.args in
    let y = y_at-between a.l a.r a.x c.requires.order c.requires.between.0 c.requires.between.1 in
    rw (returns-then-r-l-clause-value c) (omega (arith, ints, clamps, y.0, c.requires.ends.0.1, c.requires.ends.1.1), omega (arith, ints, clamps, y.1, c.requires.ends.0.1, c.requires.ends.1.1))

pub returns-else-r-l-clause-value : goal.returns-else-r-l-clause-value
returns-else-r-l-clause-value c =
    let a = c.args in
    let f0 : SFits w32 a.l.x = omega (arith, ints, c.requires.ends.0.0) in
    let f1 : SFits w32 a.l.y = omega (arith, ints, c.requires.ends.0.1) in
    let f2 : SFits w32 a.r.x = omega (arith, ints, c.requires.ends.1.0) in
    let f3 : SFits w32 a.r.y = omega (arith, ints, c.requires.ends.1.1) in
    let f4 : SFits w32 a.x = omega (arith, ints, c.requires.ends.0.0, c.requires.ends.1.0, c.requires.between) in
    let rise : c.abs_diff-rise.result ≡ unsigned_abs (a.r.y -ℤ a.l.y) = simp to_z-of_z at c.abs_diff-rise.ensures in
    let steps : c.abs_diff-steps.result ≡ unsigned_abs (a.r.x -ℤ a.l.x) = simp to_z-of_z at c.abs_diff-steps.ensures in
    let step : c.abs_diff-step.result ≡ unsigned_abs (a.x -ℤ a.l.x) = simp to_z-of_z at c.abs_diff-step.ensures in
    let up : a.l.y ≤ℤ a.r.y = search rules in
    up_is a.l.y c.offset-else-r-l.result c.requires.ends.0.1 (omega (arith, ints, c.offset-else-r-l.ensures.most, c.abs_diff-rise.ensures, c.requires.ends.0.1, c.requires.ends.1.1))
    ∙ ap (λ n. a.l.y +ℤ pos n) c.offset-else-r-l.ensures.value
    ∙ rw (rise, step, steps) (sym (rising a.l a.r a.x c.requires.order c.requires.between.0 up))

pub returns-else-r-l-clause-short : goal.returns-else-r-l-clause-short
returns-else-r-l-clause-short c =
    let a = c.args in
    let y = y_at-between a.l a.r a.x c.requires.order c.requires.between.0 c.requires.between.1 in
    rw (returns-else-r-l-clause-value c) (omega (arith, ints, clamps, y.0, c.requires.ends.0.1, c.requires.ends.1.1), omega (arith, ints, clamps, y.1, c.requires.ends.0.1, c.requires.ends.1.1))
