use Rattle.std.proofs.Common.{rules, w16, w32, Fits, SFits, arith}
use Rattle.std.proofs.lemmas.Int.{ints}
use Rattle.gfx_base.proofs.CallerLemmas.{same_rect}
use Rattle.scene.proofs.place.frame.Goals as goal

pub returns : goal.returns
returns c =
    let w = c.args.w.now in
    let f : Fits w16 w.w = search rules in
    let g : Fits w16 w.h = search rules in
    let h : SFits w32 c.args.corner.x = search rules in
    let k : SFits w32 c.args.corner.y = search rules in
    same_rect _ _ _ _ _ _ _ _ (omega (arith, ints)) (omega (arith, ints)) (omega (arith, ints)) (omega (arith, ints))
