use Rattle.std.proofs.Common.{None, sym, ap, ◌∙◌}
use Rattle.std.specs.Option.{option_copied_mut}
use Rattle.strokes.specs.Strokes.{colour_of_stroke, inked_whole}
use Rattle.calls.specs.declared.reply.Refusal.TheVariants.{NoDevice}
use Rattle.desk.specs.Devices.{DevicePictures, picture_on, with_drawing}
use Rattle.surfaces.specs.Panes.{Panes}
use Rattle.surfaces.proofs.DeviceLemmas.{unseen, seen, seen-drawn}
use Rattle.surfaces.proofs.SurfaceLemmas.{nothing_on, something_on}
use Rattle.surfaces.specs.contracts.surfaces.Surfaces.{the_view}
use Rattle.surfaces.proofs.surfaces.Surfaces.draw_on_device.Goals as goal

pub returns-in_default : goal.returns-in_default
returns-in_default c =
    let d = c.args.context.now.device in
    let none = unseen c.self.inside.devices d (sym c.get_mut.ensures.frame ∙ ap option_copied_mut c.in_default.is) in
    (nothing_on (picture_on c.args.self.now.devices.live d) (NoDevice d) None (ap (λ (s : Panes). picture_on s.devices.live d) (sym c.self.view_is) ∙ none), c.self.view_is)

pub returns : goal.returns
returns c =
    let d = c.args.context.now.device in
    let ink = colour_of_stroke c.args.assets.now c.args.context.now c.args.shape.now in
    let old = c.in-Some.device.now in
    let live = sym c.get_mut.ensures.frame ∙ ap option_copied_mut c.in-Some.is in
    let there = ap (λ (s : Panes). picture_on s.devices.live d) (sym c.self.view_is) ∙ seen c.self.inside.devices d old live in (
      something_on (picture_on c.args.self.now.devices.live d) old.picture (NoDevice d) None there,
      ap (λ (ds : DevicePictures). record (the_view c.self.inside) { devices = ds }) (seen-drawn c.self.inside.devices d old c.on_device.new.device (inked_whole ink) live c.on_device.ensures)
          ∙ ap (λ (s : Panes). record s { devices = with_drawing d (inked_whole ink) s.devices }) c.self.view_is,
    )
