use Rattle.std.proofs.Common.{List, ◌++◌, get_or, drop, sym, ap, subst, ◌∙◌, arith}
use Rattle.std.proofs.lemmas.List.{append-nil, take_all, drop_all}
use Rattle.scene.specs.declared.win.Win.{Win}
use Rattle.scene.specs.Places.{window_of, no_window}
use Rattle.scene.specs.Families.{window_changed}
use Rattle.win_tree.specs.Trees.{Scene, IsReplacement}
use Rattle.window_list.proofs.StepLemmas.{length_same, AreAt, put_step, stay_step, put_replaces}
use Rattle.window_list.proofs.windows.put_back.Goals as goal
use Rattle.window_list.proofs.windows.put_back.Goals.{then-not-are_alike, else-not-are_alike}

pub loop-i-init : goal.loop-i-init
loop-i-init c = ap (λ (vs : List Win). record c.args.tree.now { windows = vs }) c.requires.tree

pub put-requires : goal.put-requires
put-requires c =
    let w = get_or c.args.new.now c.loop-i.i no_window in
    let a : AreAt c.args.new.now c.args.old.now c.loop-i.i = record { stack = c.requires.stack; rest = c.requires.rest; there = c.loop-i-test.true } in
    subst (λ (s : Scene). IsReplacement (window_of s.windows w.handle) w) (sym c.loop-i.invariant) (put_replaces c.args.new.now c.args.old.now c.loop-i.i a)

pub loop-i-preserved : goal.loop-i-preserved
loop-i-preserved c =
    let new = c.args.new.now in
    let old = c.args.old.now in
    let i = c.loop-i.i in
    let w = get_or new i no_window in
    let a : AreAt new old i = record { stack = c.requires.stack; rest = c.requires.rest; there = c.loop-i-test.true } in
    let scene : List Win → Scene = λ vs. record { windows = vs; handles = c.args.tree.now.handles } in
    elim c.if-not-are_alike.branch [
      | then-not-are_alike b ↦ b.tree-is ∙ b.put.ensures ∙ ap (λ (s : Scene). record { windows = window_changed w.handle (λ u. w) s.windows; handles = s.handles }) c.loop-i.invariant ∙ ap scene (put_step new old i a)
      | else-not-are_alike b ↦ b.tree-is ∙ c.loop-i.invariant ∙ ap scene (stay_step new old i a b.if-not-are_alike.ensures.0 b.if-not-are_alike.ensures.1)
    ]

pub returns : goal.returns
returns c =
    let new = c.args.new.now in
    let old = c.args.old.now in
    let i = c.loop-i.i in
    let same = length_same old new c.requires.rest in
    c.loop-i.invariant
    ∙ ap (λ (vs : List Win). record c.args.tree.now { windows = vs })
    (ap (λ (vs : List Win). vs ++ drop i old) (take_all i new (omega arith)) ∙ ap (λ (vs : List Win). new ++ vs) (drop_all i old (omega arith)) ∙ append-nil new)
