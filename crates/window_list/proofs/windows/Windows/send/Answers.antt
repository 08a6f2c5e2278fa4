use Rattle.std.proofs.Common.{List, None, get_or, map, refl, sym, ap, subst, ◌∙◌}
use Rattle.std.specs.Prelude.{position}
use Rattle.std.specs.Int.{w16}
use Rattle.std.proofs.lemmas.Int.{to_z-of_z}
use Rattle.scene.specs.declared.win.Win.{Win}
use Rattle.scene.specs.Places.{window_of, no_window}
use Rattle.scene.specs.Stacks.{IsStack}
use Rattle.win_tree.specs.Trees.{Scene}
use Rattle.messages.specs.Delivery.{rest_of}
use Rattle.desk.specs.Windows.{with_message}
use Rattle.desk.proofs.CallerLemmas.{has_the, found_at, none_found, none_refused, is_there, message_is, message_valid, rest_message}
use Rattle.window_list.proofs.PlaceLemmas.{in_step_rest, view_rest}
use Rattle.window_list.proofs.windows.Windows.send.Goals as goal

pub returns-in_default : goal.returns-in_default
returns-in_default c =
    let ws = c.self.inside.stack.items in
    let none = none_found ws c.args.h (ap (λ (us : List Win). position (has_the c.args.h) us) (sym c.deref.ensures.0) ∙ sym c.place_of.ensures ∙ c.in_default.is) in
    (none_refused (window_of c.args.self.now.windows c.args.h) _ None (ap (λ (s : Scene). window_of s.windows c.args.h) (sym c.self.view_is) ∙ none), refl)

pub put_back-requires-clause-stack : goal.put_back-requires-clause-stack
put_back-requires-clause-stack c =
    let ws = c.self.inside.stack.items in
    let is = found_at ws c.args.h c.in-Some.at (ap (λ (us : List Win). position (has_the c.args.h) us) (sym c.deref.ensures.0) ∙ sym c.place_of.ensures ∙ c.in-Some.is) in
    subst IsStack (sym (c.deref-3.ensures.0 ∙ message_is c.args.assets.now c.args.screen.now c.args.h c.args.message c.in-Some.at c.args.argument _ ws c.deliver_at.new.stack.items (to_z-of_z w16 c.args.argument c.ranges.argument) is c.deliver_at.ensures)) (message_valid c.args.assets.now c.args.screen.now c.args.h c.args.message c.args.argument ws c.self.invariant.stack)

pub put_back-requires-clause-rest : goal.put_back-requires-clause-rest
put_back-requires-clause-rest c =
    let ws = c.self.inside.stack.items in
    let is = found_at ws c.args.h c.in-Some.at (ap (λ (us : List Win). position (has_the c.args.h) us) (sym c.deref.ensures.0) ∙ sym c.place_of.ensures ∙ c.in-Some.is) in
    ap (map rest_of) (c.deref-3.ensures.0 ∙ message_is c.args.assets.now c.args.screen.now c.args.h c.args.message c.in-Some.at c.args.argument _ ws c.deliver_at.new.stack.items (to_z-of_z w16 c.args.argument c.ranges.argument) is c.deliver_at.ensures) ∙ rest_message c.args.assets.now c.args.screen.now c.args.h c.args.message c.args.argument ws ∙ sym (ap (map rest_of) (c.deref-2.ensures.0 ∙ c.take_over.ensures ∙ c.as_slice.ensures.value))

pub invariant_of-self : goal.invariant_of-self
invariant_of-self c =
    let ws = c.self.inside.stack.items in
    let is = found_at ws c.args.h c.in-Some.at (ap (λ (us : List Win). position (has_the c.args.h) us) (sym c.deref.ensures.0) ∙ sym c.place_of.ensures ∙ c.in-Some.is) in
    let now = message_is c.args.assets.now c.args.screen.now c.args.h c.args.message c.in-Some.at c.args.argument _ ws c.deliver_at.new.stack.items (to_z-of_z w16 c.args.argument c.ranges.argument) is c.deliver_at.ensures in
    in_step_rest c.self.inside.tree c.put_back.new.tree ws c.deliver_at.new.stack.items c.self.invariant.given (ap (map rest_of) now ∙ rest_message c.args.assets.now c.args.screen.now c.args.h c.args.message c.args.argument ws) (subst IsStack (sym now) (message_valid c.args.assets.now c.args.screen.now c.args.h c.args.message c.args.argument ws c.self.invariant.stack)) (c.put_back.ensures ∙ ap (λ (us : List Win). record c.self.inside.tree { windows = us }) c.deref-3.ensures.0)

pub returns : goal.returns
returns c =
    let ws = c.self.inside.stack.items in
    let is = found_at ws c.args.h c.in-Some.at (ap (λ (us : List Win). position (has_the c.args.h) us) (sym c.deref.ensures.0) ∙ sym c.place_of.ensures ∙ c.in-Some.is) in
    let now = message_is c.args.assets.now c.args.screen.now c.args.h c.args.message c.in-Some.at c.args.argument _ ws c.deliver_at.new.stack.items (to_z-of_z w16 c.args.argument c.ranges.argument) is c.deliver_at.ensures in (
      is_there (window_of c.args.self.now.windows c.args.h) (get_or ws c.in-Some.at no_window) _ None (ap (λ (s : Scene). window_of s.windows c.args.h) (sym c.self.view_is) ∙ is.live),
      view_rest c.self.inside.tree c.put_back.new.tree c.args.self.now ws c.deliver_at.new.stack.items (with_message c.args.assets.now c.args.screen.now c.args.h c.args.message c.args.argument) now (c.put_back.ensures ∙ ap (λ (us : List Win). record c.self.inside.tree { windows = us }) c.deref-3.ensures.0) c.self.view_is,
    )
