use Rattle.std.proofs.Common.{◌≡◌, List, Some, sym, ap, ◌∙◌, arith}
use Rattle.scene.specs.declared.win.Win.{Win}
use Rattle.scene.specs.Places.{window_of}
use Rattle.win_tree.specs.Trees.{Scene}
use Rattle.desk.specs.Windows.{with_class}
use Rattle.desk.proofs.CallerLemmas.{put_changed}
use Rattle.window_list.proofs.ToldLemmas.{class_reason, class_replaces}
use Rattle.window_list.proofs.change.set_class.Goals as goal

pub put-requires : goal.put-requires
put-requires c = class_replaces c.args.tree.now.windows c.args.h c.args.class c.in-Some.win.now (sym c.in-Some.ensures.found) c.if-h-eq-DESKTOP.false c.in-Some.ensures.window

pub returns : goal.returns
returns c =
    let ws = c.args.tree.now.windows in
    let w = c.in-Some.win.now in
    let live : window_of ws c.args.h ≡ Some w = sym c.in-Some.ensures.found in
    let scene : List Win → Scene = λ vs. record { windows = vs; handles = c.args.tree.now.handles } in
    (class_reason ws c.args.h w c.args.class c.args.classes live c.if-h-eq-DESKTOP.false (omega arith), c.put.ensures ∙ ap scene (put_changed c.args.h (with_class c.args.class) w ws live c.requires.single))
