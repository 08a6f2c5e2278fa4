use Rattle.std.proofs.Common.{◌≡◌, List, Some, sym, ap, ◌∙◌}
use Rattle.scene.specs.declared.win.Win.{Win}
use Rattle.scene.specs.Places.{window_of}
use Rattle.win_tree.specs.Trees.{Scene}
use Rattle.desk.specs.Windows.{with_trans}
use Rattle.desk.proofs.CallerLemmas.{put_changed}
use Rattle.window_list.proofs.ToldLemmas.{trans_reason, trans_replaces}
use Rattle.window_list.proofs.change.set_trans.Goals as goal

pub put-requires : goal.put-requires
put-requires c = trans_replaces c.args.tree.now.windows c.args.h c.args.trans c.in-Some.win.now (sym c.in-Some.ensures.found) c.if-h-eq-DESKTOP.false c.in-Some.ensures.window

pub returns : goal.returns
returns c =
    let ws = c.args.tree.now.windows in
    let w = c.in-Some.win.now in
    let live : window_of ws c.args.h ≡ Some w = sym c.in-Some.ensures.found in
    let scene : List Win → Scene = λ vs. record { windows = vs; handles = c.args.tree.now.handles } in
    (trans_reason ws c.args.h w live c.if-h-eq-DESKTOP.false, c.put.ensures ∙ ap scene (put_changed c.args.h (with_trans c.args.trans) w ws live c.requires.single))
