use Rattle.std.proofs.Common.{◌≡◌, None, cond, refl, sym, ap, ◌∙◌}
use Rattle.paint_ops.specs.Kinds.{Class}
use Rattle.scene.proofs.PainterLemmas.{dotted-none}
use Rattle.scene.proofs.painter.put_back.Goals as goal

pub returns-then-window : goal.returns-then-window
returns-then-window c = dotted-none c.args.target.now.picture c.args.dot.x c.args.dot.y (cond c.args.window.now.trans None c.args.class.now.back) c.requires.shape (rw c.if-window.true refl)

pub returns-in_default : goal.returns-in_default
returns-in_default c =
    let none : c.args.class.now.back ≡ None = sym (ap (λ (k : Class). k.back) c.class.view_is) ∙ c.in_default.is in
    dotted-none c.args.target.now.picture c.args.dot.x c.args.dot.y (cond c.args.window.now.trans None c.args.class.now.back) c.requires.shape (rw (c.if-window.false, none) refl)
