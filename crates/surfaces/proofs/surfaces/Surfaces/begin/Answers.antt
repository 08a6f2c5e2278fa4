use Rattle.std.proofs.Common.{Err, refl, ap, ◌∙◌}
use Rattle.multibuf.specs.declared.refusals.BeginRefused.{BeginRefused}
use Rattle.multibuf.specs.declared.refusals.BeginRefused.TheVariants as begin
use Rattle.calls.specs.declared.reply.Refusal.TheVariants.{OpenDepth, Waiting}
use Rattle.surfaces.proofs.SurfaceLemmas.{Tells, begins, not_begun}
use Rattle.surfaces.proofs.surfaces.Surfaces.begin.Goals.{in-Ok, in-Err-OpenDepth, in-Err-Waiting}
use Rattle.surfaces.proofs.surfaces.Surfaces.begin.Goals as goal

pub returns : goal.returns
returns c =
    let b = c.self.inside.buffers in
    let t = c.self.inside.devices in
    let mark = c.self.inside.marked in
    let tells : Tells c.begin.result b = record { deep = c.begin.ensures.deep; waits = c.begin.ensures.waits } in
    elim c.match-begin.branch [
      | in-Ok w ↦ rw w.result-is (begins c.begin.result b c.begin.new.self t mark c.args.self.now w.in-Ok.is tells c.self.view_is c.begin.ensures.drawer c.begin.ensures.sides w.in-Ok.ensures.screen)
      | in-Err-OpenDepth w ↦ rw w.result-is (not_begun c.begin.result b c.begin.new.self t mark c.args.self.now begin.OpenDepth OpenDepth (w.in-Err-OpenDepth.is ∙ ap (λ (why : BeginRefused). Err why) w.in-Err-OpenDepth.field-0-is) tells c.self.view_is w.in-Err-OpenDepth.ensures.err refl)
      | in-Err-Waiting w ↦ rw w.result-is (not_begun c.begin.result b c.begin.new.self t mark c.args.self.now (begin.Waiting w.in-Err-Waiting.switch) (Waiting w.in-Err-Waiting.switch) (w.in-Err-Waiting.is ∙ ap (λ (why : BeginRefused). Err why) w.in-Err-Waiting.field-0-is) tells c.self.view_is w.in-Err-Waiting.ensures.err refl)
    ]
