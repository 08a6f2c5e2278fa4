use Rattle.std.proofs.Common.{ap, ◌∙◌}
use Rattle.std.specs.Prelude.{is_some}
use Rattle.desk.proofs.FirstLemmas.{found_alike}
use Rattle.desk.proofs.places.has_window.Goals as goal

pub returns : goal.returns
returns c = c.is_some.ensures ∙ ap is_some c.place_of.ensures ∙ found_alike c.args.stack.now c.args.h
