use Rattle.std.proofs.Common.{List, map, refl, sym, ap, subst, ◌∙◌, arith}
use Rattle.std.specs.Prelude.{position}
use Rattle.std.specs.Int.{w16}
use Rattle.std.proofs.lemmas.Int.{to_z-of_z}
use Rattle.scene.specs.declared.win.Win.{Win}
use Rattle.scene.specs.Places.{window_of}
use Rattle.scene.specs.Stacks.{IsStack}
use Rattle.win_tree.specs.Trees.{Scene}
use Rattle.messages.specs.Delivery.{rest_of}
use Rattle.desk.specs.Windows.{with_value}
use Rattle.desk.proofs.CallerLemmas.{has_the, found_at, none_found, values_are, value_is, value_valid, rest_value}
use Rattle.window_list.proofs.ToldLemmas.{value_known, value_unknown, value_nowhere}
use Rattle.window_list.proofs.PlaceLemmas.{in_step_rest, view_rest}
use Rattle.window_list.proofs.windows.Windows.set_value.Goals as goal

pub returns-in_default : goal.returns-in_default
returns-in_default c =
    let ws = c.self.inside.stack.items in
    let none = none_found ws c.args.h (ap (λ (us : List Win). position (has_the c.args.h) us) (sym c.deref.ensures.0) ∙ sym c.place_of.ensures ∙ c.in_default.is) in
    (value_nowhere c.args.self.now.windows c.args.h c.args.index (ap (λ (s : Scene). window_of s.windows c.args.h) (sym c.self.view_is) ∙ none), refl)

pub returns-then-index-ge-VALUES : goal.returns-then-index-ge-VALUES
returns-then-index-ge-VALUES c =
    let ws = c.self.inside.stack.items in
    let is = found_at ws c.args.h c.in-Some.at (ap (λ (us : List Win). position (has_the c.args.h) us) (sym c.deref.ensures.0) ∙ sym c.place_of.ensures ∙ c.in-Some.is) in
    (value_unknown c.args.self.now.windows c.args.h c.args.index _ (ap (λ (s : Scene). window_of s.windows c.args.h) (sym c.self.view_is) ∙ is.live) c.if-index-ge-VALUES.true, refl)

pub put_back-requires-clause-stack : goal.put_back-requires-clause-stack
put_back-requires-clause-stack c =
    let ws = c.self.inside.stack.items in
    let is = found_at ws c.args.h c.in-Some.at (ap (λ (us : List Win). position (has_the c.args.h) us) (sym c.deref.ensures.0) ∙ sym c.place_of.ensures ∙ c.in-Some.is) in
    subst IsStack (sym (c.deref-4.ensures.0 ∙ value_is c.args.screen.now c.args.h c.args.index c.in-Some.at c.args.value c.with_one-values.result ws c.put_values_at.new.stack.items c.self.invariant.stack (values_are c.args.index c.in-Some.at c.args.value _ ws _ _ (to_z-of_z w16 c.args.value c.ranges.value) c.deref-2.ensures.0 c.with_one-values.ensures) is c.put_values_at.ensures)) (value_valid c.args.screen.now c.args.h c.args.index c.args.value ws c.self.invariant.stack)

pub put_back-requires-clause-rest : goal.put_back-requires-clause-rest
put_back-requires-clause-rest c =
    let ws = c.self.inside.stack.items in
    let is = found_at ws c.args.h c.in-Some.at (ap (λ (us : List Win). position (has_the c.args.h) us) (sym c.deref.ensures.0) ∙ sym c.place_of.ensures ∙ c.in-Some.is) in
    ap (map rest_of) (c.deref-4.ensures.0 ∙ value_is c.args.screen.now c.args.h c.args.index c.in-Some.at c.args.value c.with_one-values.result ws c.put_values_at.new.stack.items c.self.invariant.stack (values_are c.args.index c.in-Some.at c.args.value _ ws _ _ (to_z-of_z w16 c.args.value c.ranges.value) c.deref-2.ensures.0 c.with_one-values.ensures) is c.put_values_at.ensures) ∙ rest_value c.args.screen.now c.args.h c.args.index c.args.value ws ∙ sym (ap (map rest_of) (c.deref-3.ensures.0 ∙ c.take_over.ensures ∙ c.as_slice.ensures.value))

pub invariant_of-self : goal.invariant_of-self
invariant_of-self c =
    let ws = c.self.inside.stack.items in
    let is = found_at ws c.args.h c.in-Some.at (ap (λ (us : List Win). position (has_the c.args.h) us) (sym c.deref.ensures.0) ∙ sym c.place_of.ensures ∙ c.in-Some.is) in
    let now = value_is c.args.screen.now c.args.h c.args.index c.in-Some.at c.args.value c.with_one-values.result ws c.put_values_at.new.stack.items c.self.invariant.stack (values_are c.args.index c.in-Some.at c.args.value _ ws _ _ (to_z-of_z w16 c.args.value c.ranges.value) c.deref-2.ensures.0 c.with_one-values.ensures) is c.put_values_at.ensures in
    in_step_rest c.self.inside.tree c.put_back.new.tree ws c.put_values_at.new.stack.items c.self.invariant.given (ap (map rest_of) now ∙ rest_value c.args.screen.now c.args.h c.args.index c.args.value ws) (subst IsStack (sym now) (value_valid c.args.screen.now c.args.h c.args.index c.args.value ws c.self.invariant.stack)) (c.put_back.ensures ∙ ap (λ (us : List Win). record c.self.inside.tree { windows = us }) c.deref-4.ensures.0)

pub returns : goal.returns
returns c =
    let ws = c.self.inside.stack.items in
    let is = found_at ws c.args.h c.in-Some.at (ap (λ (us : List Win). position (has_the c.args.h) us) (sym c.deref.ensures.0) ∙ sym c.place_of.ensures ∙ c.in-Some.is) in
    let now = value_is c.args.screen.now c.args.h c.args.index c.in-Some.at c.args.value c.with_one-values.result ws c.put_values_at.new.stack.items c.self.invariant.stack (values_are c.args.index c.in-Some.at c.args.value _ ws _ _ (to_z-of_z w16 c.args.value c.ranges.value) c.deref-2.ensures.0 c.with_one-values.ensures) is c.put_values_at.ensures in (
      value_known c.args.self.now.windows c.args.h c.args.index _ (ap (λ (s : Scene). window_of s.windows c.args.h) (sym c.self.view_is) ∙ is.live) (omega arith),
      view_rest c.self.inside.tree c.put_back.new.tree c.args.self.now ws c.put_values_at.new.stack.items (with_value c.args.screen.now c.args.h c.args.index c.args.value) now (c.put_back.ensures ∙ ap (λ (us : List Win). record c.self.inside.tree { windows = us }) c.deref-4.ensures.0) c.self.view_is,
    )
