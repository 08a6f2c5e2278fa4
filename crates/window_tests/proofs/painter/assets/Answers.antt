use Rattle.std.proofs.Common.{arith}
use Rattle.window_tests.proofs.painter.assets.Goals as goal

pub class-requires-2-clause-ops : goal.class-requires-2-clause-ops
class-requires-2-clause-ops c = λ assets. (c.bar.ensures assets, tt)

pub class-requires-3-clause-ops : goal.class-requires-3-clause-ops
class-requires-3-clause-ops c = λ assets. (c.middle.ensures assets, tt)

pub assets_of-requires : goal.assets_of-requires
assets_of-requires c = (omega arith, (omega arith, λ assets. (c.in_ok-plain.ensures.sound assets, (c.in_ok-barred.ensures.sound assets, (c.in_ok-overlay.ensures.sound assets, (c.in_ok-blue.ensures.sound assets, tt))))))
