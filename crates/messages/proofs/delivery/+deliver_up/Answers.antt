use Rattle.std.proofs.Common.{◌-◌, get_or, ap, sym, ◌∙◌, arith}
use Rattle.std.specs.Int.{w16}
use Rattle.std.proofs.lemmas.Int.{to_z-of_z}
use Rattle.std.proofs.lemmas.Option.{slice_get-get_or}
use Rattle.scene.specs.Places.{no_window}
use Rattle.messages.specs.Delivery.{lineage, delivered_along}
use Rattle.messages.proofs.DeliveryLemmas.{HasReacted, has_reacted, still_single, ends_here, no_parent, found, parent_found}
use Rattle.messages.proofs.delivery.+deliver_up.Goals as goal

pub returns-in_default : goal.returns-in_default
returns-in_default t c = λ w at.
    let ws = c.args.stack.now in
    let reacted : HasReacted c.args.assets.now c.args.screen.now c.args.msg c.args.arg ws c.args.i w c.react.new.stack =
    has_reacted c.args.assets.now c.args.screen.now c.args.msg c.args.arg _ ws c.args.i w c.react.new.stack c.requires.single at (to_z-of_z w16 c.args.arg c.ranges.arg) (c.react.ensures.stack w at) in
    ends_here c.args.assets.now c.args.screen.now c.args.msg c.args.arg ws c.args.i w c.react.new.stack c.args.levels (c.args.levels - 1) reacted (omega arith) (c.in_default.ensures.up w at)

pub returns-in_default-place_of : goal.returns-in_default-place_of
returns-in_default-place_of t c = λ w at.
    let ws = c.args.stack.now in
    let reacted : HasReacted c.args.assets.now c.args.screen.now c.args.msg c.args.arg ws c.args.i w c.react.new.stack =
    has_reacted c.args.assets.now c.args.screen.now c.args.msg c.args.arg _ ws c.args.i w c.react.new.stack c.requires.single at (to_z-of_z w16 c.args.arg c.ranges.arg) (c.react.ensures.stack w at) in
    no_parent c.args.assets.now c.args.screen.now c.args.msg c.args.arg ws c.args.i w _ c.react.new.stack c.args.levels (c.args.levels - 1) c.in-Some.up reacted (omega arith)
    (c.in-Some.ensures.up w at) (sym c.in_default-place_of.ensures)

pub deliver_up-requires : goal.deliver_up-requires
deliver_up-requires t c =
    let ws = c.args.stack.now in
    let w = get_or ws c.args.i no_window in
    let at = slice_get-get_or ws c.args.i no_window c.requires.place in
    let reacted : HasReacted c.args.assets.now c.args.screen.now c.args.msg c.args.arg ws c.args.i w c.react.new.stack =
    has_reacted c.args.assets.now c.args.screen.now c.args.msg c.args.arg _ ws c.args.i w c.react.new.stack c.requires.single at (to_z-of_z w16 c.args.arg c.ranges.arg) (c.react.ensures.stack w at) in
    (omega (arith, c.decreases), ((found c.react.new.stack _ c.in-Some-place_of.parent (sym c.in-Some-place_of.ensures)).0, (still_single c.args.assets.now c.args.screen.now c.args.msg c.args.arg ws c.args.i w c.react.new.stack reacted, c.requires.assets)))

pub returns : goal.returns
returns t c = λ w at.
    let ws = c.args.stack.now in
    let reacted : HasReacted c.args.assets.now c.args.screen.now c.args.msg c.args.arg ws c.args.i w c.react.new.stack =
    has_reacted c.args.assets.now c.args.screen.now c.args.msg c.args.arg _ ws c.args.i w c.react.new.stack c.requires.single at (to_z-of_z w16 c.args.arg c.ranges.arg) (c.react.ensures.stack w at) in
    parent_found c.args.assets.now c.args.screen.now c.args.msg c.args.arg ws c.args.i w _ c.react.new.stack c.args.levels (c.args.levels - 1) c.in-Some.up c.in-Some-place_of.parent c.deliver_up.new.stack
    reacted (omega arith) (c.in-Some.ensures.up w at) (sym c.in-Some-place_of.ensures)
    (λ u there.
    c.deliver_up.ensures u there
    ∙ ap (λ a. delivered_along c.args.assets.now c.args.screen.now c.in-Some.up a (lineage (c.args.levels - 1) c.react.new.stack u) c.react.new.stack) (to_z-of_z w16 c.args.arg c.ranges.arg))
