use Rattle.std.proofs.lemmas.List.{get_or_default}
use Rattle.scene.specs.Places.{no_window}
use Rattle.exec_paint.proofs.layer.window_of.Goals as goal

pub returns : goal.returns
returns c = get_or_default c.args.stack.now c.args.at _ no_window c.requires
