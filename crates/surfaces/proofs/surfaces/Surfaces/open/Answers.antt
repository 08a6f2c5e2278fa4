use Rattle.std.proofs.Common.{false, ◌∙◌}
use Rattle.surfaces.proofs.SurfaceLemmas.{opened}
use Rattle.surfaces.proofs.surfaces.Surfaces.open.Goals as goal

pub returns : goal.returns
returns c = record {
  surfaces = c.in_ok-surfaces.ensures ∙ opened false c.args.w c.args.h c.args.buffers c.in_ok-buffers.buffers c.in_ok-buffers.ensures.buffers;
  controller = c.in_ok-buffers.ensures.controller;
}
