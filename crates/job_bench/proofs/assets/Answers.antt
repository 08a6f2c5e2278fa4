use Rattle.std.proofs.Common.{ℕ, zero, suc, replicate, arith}
use Rattle.std.specs.List.{AllByRecursion}
use Rattle.paint_ops.specs.Soundness.{IsOperation}
use Rattle.job_bench.proofs.assets.Goals as goal

all_alike : {X : Type 0} (P : X → Type 0) (x : X) (count : ℕ) → P x → AllByRecursion P (replicate count x)
all_alike P x zero holds = tt
all_alike P x (suc count) holds = (holds, all_alike P x count holds)

pub class-requires-3-clause-ops : goal.class-requires-3-clause-ops
class-requires-3-clause-ops c = λ assets. all_alike (IsOperation assets) c.whole.result 20 (c.whole.ensures assets)

pub assets_of-requires : goal.assets_of-requires
assets_of-requires c = (omega arith, (omega arith, λ assets. (c.in_ok-black.ensures.sound assets, (c.in_ok-plain.ensures.sound assets, (c.in_ok-busy.ensures.sound assets, tt)))))
