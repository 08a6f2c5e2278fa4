use Rattle.scene.specs.Places.{place_of}
use Rattle.scene.proofs.TreeLemmas.{below-away}
use Rattle.scene.proofs.laws.windows_lie_inside.Goals as goal

pub returns : goal.returns
returns c screen ws w v p known below away = below-away screen ws w.handle (place_of w) (place_of v) p known away below
