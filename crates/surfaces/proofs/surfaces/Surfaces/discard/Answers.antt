use Rattle.surfaces.proofs.DeviceLemmas.{discarded, not_discarded}
use Rattle.surfaces.proofs.surfaces.Surfaces.discard.Goals.{in-Ok, in-Err}
use Rattle.surfaces.specs.contracts.surfaces.Surfaces.{the_view}
use Rattle.surfaces.proofs.surfaces.Surfaces.discard.Goals as goal

pub returns : goal.returns
returns c =
    elim c.match-delete.branch [
      | in-Ok w ↦ rw w.result-is (discarded (the_view c.self.inside) c.self.inside.devices c.delete.new.self c.args.self.now c.args.device c.delete.result c.self.view_is w.in-Ok.is c.delete.ensures.refused w.in-Ok.ensures.deleted)
      | in-Err w ↦ rw w.result-is (not_discarded (the_view c.self.inside) c.self.inside.devices c.delete.new.self c.args.self.now c.args.device c.delete.result w.in-Err.refused w.device_refusal.result c.self.view_is w.in-Err.is c.delete.ensures.refused w.in-Err.ensures.only w.in-Err.ensures.unchanged w.device_refusal.ensures)
    ]
