use Rattle.std.proofs.Common.{sym, ◌∙◌, w32, SFits, rules, arith}
use Rattle.std.proofs.lemmas.Int.{ints, to_z-of_z}
use Rattle.scene.specs.Looks.{screen_with}
use Rattle.strokes.proofs.InkLemmas.{has-sides}
use Rattle.strokes.proofs.points.add_free.Goals as goal

pub unsigned-requires-clause-low : goal.unsigned-requires-clause-low
unsigned-requires-clause-low c =
    let p = c.args.p in
    let s = has-sides (screen_with 1024 768) p.x p.y (c.requires p (sym c.has.ensures ∙ c.if-has.true)) in
    let f : SFits w32 p.x = search rules in
    rw (to_z-of_z w32 p.x f) s.left

pub unsigned-requires-clause-high : goal.unsigned-requires-clause-high
unsigned-requires-clause-high c =
    let p = c.args.p in
    let s = has-sides (screen_with 1024 768) p.x p.y (c.requires p (sym c.has.ensures ∙ c.if-has.true)) in
    let f : SFits w32 p.x = search rules in
    rw (to_z-of_z w32 p.x f) (omega (arith, ints, s.right))

pub unsigned-requires-then-not-hides-clause-low : goal.unsigned-requires-then-not-hides-clause-low
unsigned-requires-then-not-hides-clause-low c =
    let p = c.args.p in
    let s = has-sides (screen_with 1024 768) p.x p.y (c.requires p (sym c.has.ensures ∙ c.if-has.true)) in
    let f : SFits w32 p.y = search rules in
    rw (to_z-of_z w32 p.y f) s.top

pub unsigned-requires-then-not-hides-clause-high : goal.unsigned-requires-then-not-hides-clause-high
unsigned-requires-then-not-hides-clause-high c =
    let p = c.args.p in
    let s = has-sides (screen_with 1024 768) p.x p.y (c.requires p (sym c.has.ensures ∙ c.if-has.true)) in
    let f : SFits w32 p.y = search rules in
    rw (to_z-of_z w32 p.y f) (omega (arith, ints, s.bottom))

pub tile_of-requires : goal.tile_of-requires
tile_of-requires c =
    let p = c.args.p in
    let s = has-sides (screen_with 1024 768) p.x p.y (c.requires p (sym c.has.ensures ∙ c.if-has.true)) in
    let f : SFits w32 p.x = search rules in
    let g : SFits w32 p.y = search rules in
    let x = simp to_z-of_z at c.unsigned.ensures.value in
    let y = simp to_z-of_z at c.unsigned-then-not-hides.ensures.value in
    (omega (arith, ints, s.right, x), omega (arith, ints, s.bottom, y))

pub add-requires : goal.add-requires
add-requires c =
    let p = c.args.p in
    let s = has-sides (screen_with 1024 768) p.x p.y (c.requires p (sym c.has.ensures ∙ c.if-has.true)) in
    let f : SFits w32 p.x = search rules in
    let g : SFits w32 p.y = search rules in
    let x = simp to_z-of_z at c.unsigned.ensures.value in
    let y = simp to_z-of_z at c.unsigned-then-not-hides.ensures.value in
    (omega (arith, ints, s.right, x, c.tile_of.ensures.0), omega (arith, ints, s.bottom, y, c.tile_of.ensures.1))
