use Rattle.std.proofs.Common.{sym, ap, ◌∙◌}
use Rattle.std.specs.Prelude.{is_some}
use Rattle.desk.specs.Devices.{picture_on}
use Rattle.surfaces.specs.Panes.{Panes}
use Rattle.surfaces.proofs.DeviceLemmas.{lent_is_some, is_some-seen}
use Rattle.surfaces.proofs.surfaces.Surfaces.has_device.Goals as goal

pub returns : goal.returns
returns c =
    c.is_some.ensures
    ∙ lent_is_some c.get.result
    ∙ ap is_some c.get.ensures.frame
    ∙ sym (is_some-seen c.self.inside.devices c.args.device)
    ∙ ap (λ (s : Panes). is_some (picture_on s.devices.live c.args.device)) c.self.view_is
