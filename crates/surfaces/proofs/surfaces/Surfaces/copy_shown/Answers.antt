use Rattle.std.proofs.Common.{sym, ap, ◌∙◌}
use Rattle.std.specs.Option.{option_copied}
use Rattle.desk.specs.Devices.{picture_on}
use Rattle.surfaces.specs.Panes.{Panes}
use Rattle.std.specs.Int.{w16}
use Rattle.std.proofs.lemmas.Int.{to_z-of_z}
use Rattle.strokes.specs.Strokes.{colour_of_copy}
use Rattle.surfaces.proofs.DeviceLemmas.{unseen, seen}
use Rattle.surfaces.proofs.SurfaceLemmas.{drawn_by, copied_on}
use Rattle.surfaces.proofs.surfaces.Surfaces.copy_shown.Goals as goal

pub returns-in_default : goal.returns-in_default
returns-in_default c =
    let none = ap (λ (p : Panes). picture_on p.devices.live c.args.device) (sym c.self.view_is) ∙ unseen c.self.inside.devices c.args.device (sym c.get.ensures.frame ∙ ap option_copied c.in_default.is) in
    rw none tt

pub returns-in-Some : goal.returns-in-Some
returns-in-Some c =
    let there = ap (λ (p : Panes). picture_on p.devices.live c.args.device) (sym c.self.view_is) ∙ seen c.self.inside.devices c.args.device c.in-Some.from.now (sym c.get.ensures.frame ∙ ap option_copied c.in-Some.is) in
    let b = c.self.inside.buffers in
    rw there
    (drawn_by b c.self.inside.devices c.self.inside.marked c.args.self.now c.copy.new.target _ c.self.view_is (c.target.ensures.screen c.copy.new.target)
    (copied_on c.args.assets.now c.args.stack.now b c.self.inside.devices c.self.inside.marked c.args.self.now c.target.result.now c.args.at (colour_of_copy c.in-Some.from.now.picture c.args.x c.args.y) _ c.self.view_is c.target.ensures.sides c.target.ensures.picture (rw (to_z-of_z w16 c.args.x c.ranges.x, to_z-of_z w16 c.args.y c.ranges.y) at c.copy.ensures.picture)))
