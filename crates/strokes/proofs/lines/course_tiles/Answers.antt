use Rattle.std.proofs.Common.{◌≡◌, ℤ, pos, ◌+ℤ◌, ◌<ℤ◌, ◌≤ℤ◌, true, false, ap, ◌∙◌, w32, SFits, to_z, of_z, rules, arith}
use Rattle.std.specs.Prelude.{int_lt}
use Rattle.std.specs.Int.{int_min, int_max}
use Rattle.std.proofs.lemmas.Int.{ints, clamps, to_z-of_z}
use Rattle.gfx_base.specs.Rects.{point_at}
use Rattle.line_ink.specs.Lines.{y_at}
use Rattle.paint_ops.specs.Panes.{point_on_screen}
use Rattle.strokes.specs.Parts.{turned}
use Rattle.strokes.proofs.TileLemmas.{on-wide_screen}
use Rattle.strokes.proofs.CourseLemmas.{course-start, course-more, course-end}
use Rattle.strokes.proofs.lines.course_tiles.Goals as goal

-- the step is at most the last one
below_end : (x last end : ℤ) → int_lt x (to_z w32 (of_z w32 (to_z w32 (of_z w32 last) +ℤ pos 1))) ≡ true → last ≡ end → end ≤ℤ pos 32767 → SFits w32 last → x ≤ℤ end
below_end x last end h e most fits =
    let s : SFits w32 (last +ℤ pos 1) = omega (arith, ints) in
    let g : int_lt x (last +ℤ pos 1) ≡ true = rw (to_z-of_z w32 last fits, to_z-of_z w32 (last +ℤ pos 1) s) at h in
    grind (arith, ints, g, e)

past_end : (x last end : ℤ) → int_lt x (to_z w32 (of_z w32 (to_z w32 (of_z w32 last) +ℤ pos 1))) ≡ false → last ≡ end → end ≤ℤ pos 32767 → SFits w32 last → end <ℤ x
past_end x last end h e most fits =
    let s : SFits w32 (last +ℤ pos 1) = omega (arith, ints) in
    let g : int_lt x (last +ℤ pos 1) ≡ false = rw (to_z-of_z w32 last fits, to_z-of_z w32 (last +ℤ pos 1) s) at h in
    grind (arith, ints, g, e)

pub loop-x-init : goal.loop-x-init
loop-x-init c =
    let a = c.args in
    let f0 : SFits w32 a.l.x = omega (arith, ints, c.requires.ends.0.0) in
    let f1 : SFits w32 c.reach-first.result.0 = search rules in
    let f2 : SFits w32 c.max-x.result = search rules in
    let start : c.max-x.result ≡ int_max a.l.x c.reach-first.result.0 = simp to_z-of_z at c.max-x.ensures.value in
    rw (to_z-of_z w32 c.max-x.result f2, to_z-of_z w32 c.reach-first.result.0 f1)
    (record {
      from = omega (arith, ints, start);
      tiles = course-start a.width a.height a.l a.r a.corner a.is_steep a.area.now a.holes.now c.reach-first.result.0 c.max-x.result c.empty-tiles.result c.reach-first.ensures.first (omega (arith, ints, start)) c.empty-tiles.ensures;
    })

pub y_at-requires-clause-between : goal.y_at-requires-clause-between
y_at-requires-clause-between c =
    let a = c.args in
    let f1 : SFits w32 c.reach-first.result.0 = search rules in
    let f2 : SFits w32 c.reach-first.result.1 = search rules in
    let f3 : SFits w32 a.r.x = omega (arith, ints, c.requires.ends.1.0) in
    let f4 : SFits w32 c.min-x-end.result = search rules in
    let from : int_max a.l.x c.reach-first.result.0 ≤ℤ to_z w32 c.loop-x.x-bits = simp to_z-of_z at c.loop-x.invariant.from in
    let last : c.min-x-end.result ≡ int_min a.r.x c.reach-first.result.1 = simp to_z-of_z at c.min-x-end.ensures.value in
    let to = below_end (to_z w32 c.loop-x.x-bits) c.min-x-end.result (int_min a.r.x c.reach-first.result.1) c.loop-x-test.true last (omega (arith, ints, clamps, c.requires.ends.1.0)) f4 in
    (omega (arith, ints, clamps, from), omega (arith, ints, clamps, to))

pub on_screen-requires-clause-point : goal.on_screen-requires-clause-point
on_screen-requires-clause-point c =
    let a = c.args in
    let x = to_z w32 c.loop-x.x-bits in
    let f1 : SFits w32 c.reach-first.result.0 = search rules in
    let f2 : SFits w32 c.reach-first.result.1 = search rules in
    let f3 : SFits w32 a.r.x = omega (arith, ints, c.requires.ends.1.0) in
    let f4 : SFits w32 c.min-x-end.result = search rules in
    let from : int_max a.l.x c.reach-first.result.0 ≤ℤ x = simp to_z-of_z at c.loop-x.invariant.from in
    let last : c.min-x-end.result ≡ int_min a.r.x c.reach-first.result.1 = simp to_z-of_z at c.min-x-end.ensures.value in
    let to = below_end x c.min-x-end.result (int_min a.r.x c.reach-first.result.1) c.loop-x-test.true last (omega (arith, ints, clamps, c.requires.ends.1.0)) f4 in
    let low : a.l.x ≤ℤ x = omega (arith, ints, clamps, from) in
    let high : x ≤ℤ a.r.x = omega (arith, ints, clamps, to) in
    let f5 : SFits w32 c.y_at.result = omega (arith, ints, c.y_at.ensures.short) in
    rw (to_z-of_z w32 c.y_at.result f5) ((omega (arith, ints, low, c.requires.ends.0.0), omega (arith, ints, high, c.requires.ends.1.0)), c.y_at.ensures.short)

pub add_free-requires : goal.add_free-requires
add_free-requires c q h = on-wide_screen c.args.width c.args.height c.args.area.now q c.requires.area c.requires.sides.0 c.requires.sides.1 h

pub loop-x-preserved : goal.loop-x-preserved
loop-x-preserved c =
    let a = c.args in
    let x = to_z w32 c.loop-x.x-bits in
    let f1 : SFits w32 c.reach-first.result.0 = search rules in
    let f2 : SFits w32 c.reach-first.result.1 = search rules in
    let f3 : SFits w32 a.r.x = omega (arith, ints, c.requires.ends.1.0) in
    let f4 : SFits w32 c.min-x-end.result = search rules in
    let from : int_max a.l.x c.reach-first.result.0 ≤ℤ x = simp to_z-of_z at c.loop-x.invariant.from in
    let last : c.min-x-end.result ≡ int_min a.r.x c.reach-first.result.1 = simp to_z-of_z at c.min-x-end.ensures.value in
    let to = below_end x c.min-x-end.result (int_min a.r.x c.reach-first.result.1) c.loop-x-test.true last (omega (arith, ints, clamps, c.requires.ends.1.0)) f4 in
    let low : a.l.x ≤ℤ x = omega (arith, ints, clamps, from) in
    let high : x ≤ℤ a.r.x = omega (arith, ints, clamps, to) in
    let f5 : SFits w32 c.y_at.result = omega (arith, ints, c.y_at.ensures.short) in
    let f6 : SFits w32 (x +ℤ pos 1) = omega (arith, ints, low, high, c.requires.ends.0.0, c.requires.ends.1.0) in
    let y : to_z w32 (of_z w32 c.y_at.result) ≡ y_at a.l a.r x = to_z-of_z w32 c.y_at.result f5 ∙ c.y_at.ensures.value in
    let p = c.on_screen.ensures ∙ ap (λ (v : ℤ). point_on_screen a.corner (turned a.is_steep (point_at x v))) y in
    rw (to_z-of_z w32 (x +ℤ pos 1) f6, to_z-of_z w32 c.reach-first.result.0 f1)
    (record {
      from = omega (arith, ints, from);
      tiles = course-more a.width a.height a.l a.r a.corner c.on_screen.result a.is_steep a.area.now a.holes.now x c.loop-x.tiles c.add_free.new.tiles c.requires.area low high p c.loop-x.invariant.tiles c.add_free.ensures;
    })

pub returns : goal.returns
returns c =
    let a = c.args in
    let f2 : SFits w32 c.reach-first.result.1 = search rules in
    let f3 : SFits w32 a.r.x = omega (arith, ints, c.requires.ends.1.0) in
    let f4 : SFits w32 c.min-x-end.result = search rules in
    let last : c.min-x-end.result ≡ int_min a.r.x c.reach-first.result.1 = simp to_z-of_z at c.min-x-end.ensures.value in
    let past = past_end (to_z w32 c.loop-x.x-bits) c.min-x-end.result (int_min a.r.x c.reach-first.result.1) c.loop-x-test.false last (omega (arith, ints, clamps, c.requires.ends.1.0)) f4 in
    course-end a.width a.height a.l a.r a.corner a.is_steep a.area.now a.holes.now c.reach-first.result.1 (to_z w32 c.loop-x.x-bits) c.loop-x.tiles c.reach-first.ensures.last past c.loop-x.invariant.tiles
