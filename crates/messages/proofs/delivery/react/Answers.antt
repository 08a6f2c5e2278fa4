use Rattle.std.proofs.Common.{◌≡◌, ap, ◌∙◌}
use Rattle.std.proofs.lemmas.Int.{to_z-of_z}
use Rattle.paint_ops.specs.Kinds.{Class, Assets}
use Rattle.scene.specs.Looks.{class_of, no_class}
use Rattle.std.specs.Int.{w16}
use Rattle.std.specs.Prelude.{slice_set}
use Rattle.messages.specs.Reactions.{reactions_to, first_up}
use Rattle.messages.proofs.WindowLemmas.{class_is, no_class_there, no_reactions, nothing_handed_on, reacted_so}
use Rattle.messages.proofs.delivery.react.Goals as goal

pub returns-in_err-class-clause-stack : goal.returns-in_err-class-clause-stack
returns-in_err-class-clause-stack c = λ w at.
    let all : c.deref.result.now ≡ c.args.assets.now.classes = c.deref.ensures.value ∙ ap (λ (a : Assets). a.classes) c.assets.view_is in
    no_reactions c.args.assets.now c.args.screen.now c.args.stack.now c.args.i c.args.msg c.args.arg w at
    (no_class_there c.args.assets.now c.deref.result.now c.args.stack.now c.args.i c.from.result w _ at c.from.ensures all c.in_err-class.ensures.lookup.3)

pub returns-in_err-class-clause-up : goal.returns-in_err-class-clause-up
returns-in_err-class-clause-up c = λ w at.
    let all : c.deref.result.now ≡ c.args.assets.now.classes = c.deref.ensures.value ∙ ap (λ (a : Assets). a.classes) c.assets.view_is in
    c.from_residual.ensures
    ∙ nothing_handed_on c.args.assets.now c.args.msg w
    (no_class_there c.args.assets.now c.deref.result.now c.args.stack.now c.args.i c.from.result w _ at c.from.ensures all c.in_err-class.ensures.lookup.3)

pub returns-clause-stack : goal.returns-clause-stack
returns-clause-stack c = λ w at.
    let all : c.deref.result.now ≡ c.args.assets.now.classes = c.deref.ensures.value ∙ ap (λ (a : Assets). a.classes) c.assets.view_is in
    let class : c.in_ok-class.class.now ≡ class_of c.args.assets.now w =
    c.in_ok-class.ensures.lookup.3.1 no_class ∙ class_is c.args.assets.now c.deref.result.now c.args.stack.now c.args.i c.from.result w _ at c.from.ensures all in
    let reactions : c.deref-2.result.now ≡ (class_of c.args.assets.now w).reactions =
    c.deref-2.ensures.value ∙ ap (λ (k : Class). k.reactions) (c.class.view_is ∙ class) in
    c.put_values.ensures w at
    ∙ ap (λ v. slice_set c.args.stack.now c.args.i v)
    (reacted_so c.args.assets.now c.args.screen.now c.args.stack.now c.args.i c.args.msg c.args.arg _ w _ c.values_after-values.result c.deref-2.result.now at
    (to_z-of_z w16 c.args.arg c.ranges.arg) reactions c.values_after-values.ensures)

pub returns-clause-up : goal.returns-clause-up
returns-clause-up c = λ w at.
    let all : c.deref.result.now ≡ c.args.assets.now.classes = c.deref.ensures.value ∙ ap (λ (a : Assets). a.classes) c.assets.view_is in
    let class : c.in_ok-class.class.now ≡ class_of c.args.assets.now w =
    c.in_ok-class.ensures.lookup.3.1 no_class ∙ class_is c.args.assets.now c.deref.result.now c.args.stack.now c.args.i c.from.result w _ at c.from.ensures all in
    let reactions : c.deref-3.result.now ≡ (class_of c.args.assets.now w).reactions =
    c.deref-3.ensures.value ∙ ap (λ (k : Class). k.reactions) (c.class.view_is ∙ class) in
    c.first_up.ensures ∙ ap (λ rs. first_up (reactions_to c.args.msg rs)) reactions
