use Rattle.std.proofs.Common.{refl}
use Rattle.frame.proofs.SpanLemmas.{drawn-point, has_count}
use Rattle.frame.proofs.frame.Frame.put.Goals as goal

pub returns : goal.returns
returns c =
    let f = c.self.inside in
    let shape = has_count f.width f.height f.points.len f.points.items c.self.invariant f.points.ok.0 in
    drawn-point c.args.self.now f.width f.height f.points.items _ f.writes c.args.x c.args.y c.args.c _ c.self.view_is shape c.requires.inside.0 c.requires.inside.1 c.place-at.ensures.value refl
