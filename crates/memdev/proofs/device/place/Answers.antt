use Rattle.memdev.proofs.SlotLemmas.{absent_of, found_of}
use Rattle.memdev.proofs.device.place.Goals as goal

pub returns-clause-found : goal.returns-clause-found
returns-clause-found c = found_of c.args.handle c.args.slots.now c.first_place.result c.first_place.ensures

pub returns-clause-absent : goal.returns-clause-absent
returns-clause-absent c = absent_of c.args.handle c.args.slots.now c.first_place.result c.first_place.ensures
