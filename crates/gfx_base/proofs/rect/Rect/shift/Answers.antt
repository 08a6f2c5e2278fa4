use Rattle.std.proofs.Common.{◌≡◌, refl, ap, ◌∙◌, rules, w32, arith}
use Rattle.std.proofs.lemmas.Int.{ints}
use mir.Val.{SFits}
use Rattle.gfx_base.specs.Rects.{canonical, shift}
use Rattle.gfx_base.proofs.RectLemmas.{same_rect, has-shift, shift-empty}
use Rattle.gfx_base.proofs.rect.Rect.shift.Goals as goal

pub returns : goal.returns
unfolding shift
returns c =
    let r = c.args.self.now in
    let a0 : SFits w32 r.x0 = search rules in
    let a1 : SFits w32 r.x1 = search rules in
    let a2 : SFits w32 r.y0 = search rules in
    let a3 : SFits w32 r.y1 = search rules in
    let v : c.canonical.result ≡ shift r c.args.dx c.args.dy = c.canonical.ensures ∙ ap canonical (same_rect _ _ _ _ _ _ _ _ (omega (arith, ints)) (omega (arith, ints)) (omega (arith, ints)) (omega (arith, ints))) in
    rw v (record { value = refl; points = has-shift r c.args.dx c.args.dy; empty = shift-empty r c.args.dx c.args.dy })
