use Rattle.std.proofs.Common.{set, ap}
use Rattle.std.proofs.lemmas.Option.{get_or_from_slice_get}
use Rattle.scene.specs.declared.win.Win.{Win}
use Rattle.scene.specs.Places.{no_window}
use Rattle.desk.specs.Windows.{with_memdev}
use Rattle.window_list.proofs.windows.put_memdev.Goals as goal

pub returns : goal.returns
returns c = λ w is. ap (λ (u : Win). set c.args.windows.now c.args.at (with_memdev c.args.memdev u)) (get_or_from_slice_get c.args.windows.now c.args.at w no_window is)
