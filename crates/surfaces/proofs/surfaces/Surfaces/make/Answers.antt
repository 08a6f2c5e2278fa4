use Rattle.surfaces.proofs.DeviceLemmas.{made_seen}
use Rattle.surfaces.proofs.surfaces.Surfaces.make.Goals.{in-Ok, in-Err}
use Rattle.surfaces.specs.contracts.surfaces.Surfaces.{the_view}
use Rattle.surfaces.proofs.surfaces.Surfaces.make.Goals as goal

pub returns-clause-made : goal.returns-clause-made
returns-clause-made c =
    elim c.match-create.branch [
      | in-Ok w ↦ rw w.result-is (made_seen (the_view c.self.inside) c.self.inside.devices c.create.new.self c.args.self.now c.args.w c.args.h c.args.colour c.self.view_is w.in-Ok.ensures.created)
      | in-Err w ↦ rw w.result-is tt
    ]
