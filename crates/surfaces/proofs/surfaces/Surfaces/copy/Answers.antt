use Rattle.std.proofs.Common.{◌≡◌, Some, refl, sym, ap, ◌∙◌, get_or}
use Rattle.std.specs.Int.{w16}
use Rattle.std.proofs.lemmas.Int.{to_z-of_z}
use Rattle.std.proofs.lemmas.Result.{err_from_is_err_and}
use Rattle.scene.specs.Places.{window_of, no_window}
use Rattle.strokes.specs.Strokes.{colour_of_copy}
use Rattle.calls.specs.declared.reply.Refusal.TheVariants.{NoDevice, NoWindow}
use Rattle.desk.specs.Devices.{picture_on}
use Rattle.surfaces.specs.Panes.{Panes, with_turn, switched}
use Rattle.surfaces.proofs.MarkLemmas.{finds_as_before}
use Rattle.desk.proofs.CallerLemmas.{found_at, none_found, none_refused, is_there}
use Rattle.surfaces.proofs.SurfaceLemmas.{something_on, some_picture, inked, turned, found_before, copied, unbegun, refused_alike}
use Rattle.surfaces.proofs.surfaces.Surfaces.copy.Goals as goal

pub returns-in_default : goal.returns-in_default
returns-in_default c =
    let ws = c.args.stack.now in
    let h = c.args.context.now.window in
    let there = some_picture (picture_on c.args.self.now.devices.live c.args.device) (sym c.has_device.ensures ∙ c.if-not-has_device.false) in
    record {
      finds = finds_as_before c.args.self.now c.args.self.now refl refl c.requires.fresh;
      copied = (something_on (picture_on c.args.self.now.devices.live c.args.device) there.0 (NoDevice c.args.device) _ there.1 ∙ none_refused (window_of ws h) (NoWindow h) _ (none_found ws h (sym c.place_of.ensures ∙ c.in_default.is)), refl);
    }

pub returns-in_err-own : goal.returns-in_err-own
returns-in_err-own c =
    let ws = c.args.stack.now in
    let h = c.args.context.now.window in
    let there = some_picture (picture_on c.args.self.now.devices.live c.args.device) (sym c.has_device.ensures ∙ c.if-not-has_device.false) in
    let is = found_at ws h c.in-Some.at (sym c.place_of.ensures ∙ c.in-Some.is) in
    let p = err_from_is_err_and c.from_residual.result c.from_residual.ensures.1 in
    let same = unbegun c.args.self.now c.begin_own.new.self c.in_err-own.field-0.0 c.in_err-own.ensures.rest c.in_err-own.ensures.screen in
    record {
      finds = finds_as_before c.args.self.now c.begin_own.new.self (ap (λ (q : Panes). q.drawer) same) (ap (λ (q : Panes). q.marked) same) c.requires.fresh;
      copied =
          refused_alike c.from_residual.result p.0 c.in_err-own.field-0.0 _ _ c.args.self.now c.begin_own.new.self p.1 p.2
          (something_on (picture_on c.args.self.now.devices.live c.args.device) there.0 (NoDevice c.args.device) _ there.1 ∙ is_there (window_of ws h) (get_or ws c.in-Some.at no_window) (NoWindow h) _ is.live ∙ c.in_err-own.ensures.screen.0)
          same;
    }

pub returns : goal.returns
returns c =
    let old = c.args.self.now in
    let mid = c.begin_own.new.self in
    let last = c.end_own.new.self in
    let assets = c.args.assets.now in
    let ws = c.args.stack.now in
    let context = c.args.context.now in
    let h = context.window in
    let d = c.args.device in
    let there = some_picture (picture_on old.devices.live d) (sym c.has_device.ensures ∙ c.if-not-has_device.false) in
    let first = sym c.place_of.ensures ∙ c.in-Some.is in
    let is = found_at ws h c.in-Some.at first in
    let found : picture_on mid.devices.live d ≡ Some there.0 = ap (λ (p : Panes). picture_on p.devices.live d) c.in_ok-own.ensures.rest ∙ there.1 in
    let shown = rw (found, to_z-of_z w16 c.args.x c.ranges.x, to_z-of_z w16 c.args.y c.ranges.y) at c.copy_shown.ensures in
    record {
      finds = found_before old mid c.copy_shown.new.self last _ _ c.in_ok-own.ensures.rest c.in_ok-own.ensures.screen shown c.end_own.ensures.finds;
      copied = (
        something_on (picture_on old.devices.live d) there.0 (NoDevice d) _ there.1 ∙ is_there (window_of ws h) (get_or ws c.in-Some.at no_window) (NoWindow h) _ is.live ∙ c.in_ok-own.ensures.screen.0,
        turned old mid c.copy_shown.new.self last _ _ c.requires.pictures c.in_ok-own.ensures.rest c.in_ok-own.ensures.screen shown c.end_own.ensures.finds c.end_own.ensures.ended
            ∙ ap (with_turn (switched last old)) (inked assets ws context (colour_of_copy there.0 c.args.x c.args.y) old mid last _ c.in-Some.at c.in_ok-own.ensures.rest c.in_ok-own.ensures.screen first)
            ∙ copied assets ws context d c.args.x c.args.y (switched last old) there.0 there.1,
      );
    }
