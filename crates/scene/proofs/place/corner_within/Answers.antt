use Rattle.std.proofs.Common.{rules, w16, w32, SFits, arith}
use Rattle.std.proofs.lemmas.Int.{ints}
use Rattle.gfx_base.proofs.CallerLemmas.{same_point}
use Rattle.scene.proofs.place.corner_within.Goals as goal

pub returns : goal.returns
returns c =
    let w = c.args.w.now in
    let f : SFits w16 w.x = search rules in
    let g : SFits w16 w.y = search rules in
    let h : SFits w32 c.args.outer.x = search rules in
    let k : SFits w32 c.args.outer.y = search rules in
    record {
      value = same_point _ _ _ _ (omega (arith, ints)) (omega (arith, ints));
      fits = λ levels h. (
        (omega (arith, ints, h.0.0), omega (arith, ints, h.0.1)),
        (omega (arith, ints, h.1.0), omega (arith, ints, h.1.1)),
      );
    }
