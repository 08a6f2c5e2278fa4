use Rattle.std.proofs.Common.{◌≡◌, true, subst}
use Rattle.std.specs.Prelude.{IfOk}
use Rattle.surfaces.specs.Panes.{Panes}
use Rattle.surfaces.proofs.SurfaceLemmas.{opened}
use Rattle.surfaces.proofs.surfaces.Surfaces.open_alone.Goals as goal

pub returns : goal.returns
returns c =
    subst (λ (p : Panes). IfOk c.around.result (λ s. s ≡ p)) (opened true c.args.w c.args.h c.args.buffers c.in_ok-buffers.buffers c.in_ok-buffers.ensures)
    c.around.ensures
