use Rattle.std.proofs.Common.{◌≡◌, ℕ, List, get_or, take, length, sym, ap, subst, ◌∙◌, ◌<◌, ◌≤◌}
use Rattle.std.specs.List.{AllByRecursion}
use Rattle.frame.specs.Pictures.{Picture, HasShape}
use Rattle.paint_ops.specs.declared.op.Op.{Op}
use Rattle.paint_ops.specs.Kinds.{Class}
use Rattle.paint_ops.specs.Soundness.{IsOperation}
use Rattle.scene.specs.Looks.{inputs_of}
use Rattle.scene.proofs.CallerLemmas.{all-at, drawn_over}
use Rattle.exec_paint.specs.Rows.{in_run, FitsIn}
use Rattle.exec_paint.proofs.RowLemmas.{has_shape-row_mapped}
use Rattle.exec_paint.proofs.RunLemmas.{class-start, class-step, class-end, fits-mapped}
use Rattle.exec_paint.proofs.run.draw_class.Goals as goal

pub loop-op-init : goal.loop-op-init
loop-op-init c = class-start c.args.target.now.picture c.args.assets.now (inputs_of c.args.window.now) c.args.corner c.args.class.now.ops c.args.run c.requires.shape

pub draw_run-requires : goal.draw_run-requires
draw_run-requires c =
    let same : c.deref-op-items.result.now ≡ c.args.class.now.ops = c.deref-op-items.ensures.value ∙ ap (λ (k : Class). k.ops) c.class.view_is in
    let ops = subst (AllByRecursion (IsOperation c.args.assets.now)) (sym same) c.requires.operations in
    let f : ℕ → ℕ → ℕ = λ u old. drawn_over c.args.assets.now (inputs_of c.args.window.now) c.args.corner (take c.loop-op.op-index c.args.class.now.ops) u c.args.run.y old in
    record {
      assets = c.requires.assets;
      operation = subst (IsOperation c.args.assets.now) (sym c.op-item.is) (all-at (IsOperation c.args.assets.now) c.deref-op-items.result.now c.loop-op.op-index c.op-item.result ops c.loop-op-test.true);
      size = c.requires.size;
      corner = c.requires.corner;
      shape = subst HasShape (sym c.loop-op.invariant) (has_shape-row_mapped c.args.target.now.picture c.args.run.y (in_run c.args.run) f c.requires.shape);
      run = subst (λ (p : Picture). FitsIn p c.args.run) (sym c.loop-op.invariant) (fits-mapped c.args.target.now.picture c.args.run.y (in_run c.args.run) f c.args.run c.requires.run);
    }

pub loop-op-preserved : goal.loop-op-preserved
loop-op-preserved c =
    let same : c.deref-op-items.result.now ≡ c.args.class.now.ops = c.deref-op-items.ensures.value ∙ ap (λ (k : Class). k.ops) c.class.view_is in
    let lt : c.loop-op.op-index < length c.args.class.now.ops = subst (λ (ops : List Op). c.loop-op.op-index < length ops) same c.loop-op-test.true in
    class-step c.args.target.now.picture c.loop-op.target.picture _ c.args.assets.now (inputs_of c.args.window.now) c.args.corner c.args.class.now.ops c.op-item.result c.loop-op.op-index c.args.run
    c.requires.shape lt (c.op-item.is ∙ ap (λ (ops : List Op). get_or ops c.loop-op.op-index c.op-item.result) same) c.loop-op.invariant c.draw_run.ensures

pub returns : goal.returns
returns c =
    let same : c.deref-op-items.result.now ≡ c.args.class.now.ops = c.deref-op-items.ensures.value ∙ ap (λ (k : Class). k.ops) c.class.view_is in
    class-end c.args.target.now.picture c.loop-op.target.picture c.args.assets.now (inputs_of c.args.window.now) c.args.corner c.args.class.now.ops c.loop-op.op-index c.args.run
    (subst (λ (ops : List Op). length ops ≤ c.loop-op.op-index) same c.loop-op-test.false) c.loop-op.invariant
