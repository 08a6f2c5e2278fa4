use Rattle.std.proofs.Common.{refl}
use Rattle.std.proofs.lemmas.List.{take_all}
use Rattle.std.proofs.lemmas.List.Elements.{recursion_from_All}
use Rattle.scene.specs.Looks.{IsPaintable}
use Rattle.samples.proofs.setups.are_paintable.Goals as goal

pub returns : goal.returns
returns c =
    let ws = c.args.stack.now in
    let all = rw (take_all c.loop-w.w-index ws c.loop-w-test.false) at c.loop-w.invariant in
    (λ _. recursion_from_All (IsPaintable c.args.assets.now) ws all, λ _. refl)
