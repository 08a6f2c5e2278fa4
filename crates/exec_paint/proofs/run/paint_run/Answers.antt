use Rattle.std.proofs.Common.{◌≡◌, ◌<◌, ℕ, List, None, cond, length, get_or, sym, ap, subst, ◌∙◌, arith, rules}
use Rattle.std.specs.Prelude.{unwrap_or, vec_len}
use Rattle.std.proofs.lemmas.List.{get_or_read}
use Rattle.frame.specs.Pictures.{Picture, HasShape}
use Rattle.paint_ops.specs.Kinds.{Class, Assets}
use Rattle.paint_ops.specs.Soundness.{IsClass}
use Rattle.scene.specs.Looks.{no_class}
use Rattle.scene.proofs.CallerLemmas.{all-at}
use Rattle.exec_paint.specs.Rows.{in_run, FitsIn}
use Rattle.exec_paint.proofs.RowLemmas.{has_shape-row_mapped}
use Rattle.exec_paint.proofs.RunLemmas.{window-mapped, fits-mapped}
use Rattle.exec_paint.proofs.run.paint_run.Goals as goal

pub index-class-requires : goal.index-class-requires
index-class-requires c =
    let same : c.assets.inside.classes.items ≡ c.args.assets.now.classes = ap (λ (a : Assets). a.classes) c.assets.view_is in
    let long : vec_len c.assets.inside.classes ≡ length c.assets.inside.classes.items = search rules in
    let lt : c.args.window.now.class < length c.assets.inside.classes.items = subst (λ (cs : List Class). c.args.window.now.class < length cs) (sym same) c.requires.window.class in
    omega (arith, long, lt, c.from.ensures)

pub draw_class-requires : goal.draw_class-requires
draw_class-requires c =
    let assets = c.args.assets.now in
    let same : c.assets.inside.classes.items ≡ assets.classes = ap (λ (a : Assets). a.classes) c.assets.view_is in
    let class : c.index-class.result.now ≡ get_or assets.classes c.args.window.now.class c.index-class.result.now =
    c.index-class.ensures ∙ ap (λ (i : ℕ). get_or c.assets.inside.classes.items i c.index-class.result.now) c.from.ensures ∙ ap (λ (cs : List Class). get_or cs c.args.window.now.class c.index-class.result.now) same in
    let sound = subst (IsClass assets) (sym class) (all-at (IsClass assets) assets.classes c.args.window.now.class c.index-class.result.now c.requires.assets.classes c.requires.window.class) in
    let back : ℕ → ℕ → ℕ = λ u old. unwrap_or (cond c.args.window.now.trans None c.index-class.result.now.back) old in
    record {
      assets = c.requires.assets;
      operations = sound.ops;
      size = (c.requires.window.width, c.requires.window.height);
      corner = c.requires.corner;
      shape = subst HasShape (sym c.put_back.ensures) (has_shape-row_mapped c.args.target.now.picture c.args.run.y (in_run c.args.run) back c.requires.shape);
      run = subst (λ (p : Picture). FitsIn p c.args.run) (sym c.put_back.ensures) (fits-mapped c.args.target.now.picture c.args.run.y (in_run c.args.run) back c.args.run c.requires.run);
    }

pub returns : goal.returns
returns c =
    let assets = c.args.assets.now in
    let same : c.assets.inside.classes.items ≡ assets.classes = ap (λ (a : Assets). a.classes) c.assets.view_is in
    let class : c.index-class.result.now ≡ get_or assets.classes c.args.window.now.class c.index-class.result.now =
    c.index-class.ensures ∙ ap (λ (i : ℕ). get_or c.assets.inside.classes.items i c.index-class.result.now) c.from.ensures ∙ ap (λ (cs : List Class). get_or cs c.args.window.now.class c.index-class.result.now) same in
    window-mapped c.args.target.now.picture c.put_back.new.target.picture _ assets c.args.window.now c.index-class.result.now c.args.corner c.args.run c.requires.shape
    (get_or_read assets.classes c.args.window.now.class c.index-class.result.now c.requires.window.class class no_class) c.put_back.ensures c.draw_class.ensures
