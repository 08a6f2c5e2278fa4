use Rattle.std.proofs.Common.{refl, sym, ap, ◌∙◌, get_or}
use Rattle.std.proofs.lemmas.Result.{err_from_is_err_and}
use Rattle.scene.specs.Places.{window_of, no_window}
use Rattle.strokes.specs.Strokes.{colour_of_stroke}
use Rattle.surfaces.specs.Panes.{Panes, with_turn, switched}
use Rattle.surfaces.proofs.MarkLemmas.{finds_as_before}
use Rattle.desk.proofs.CallerLemmas.{found_at, none_found, none_refused, is_there}
use Rattle.surfaces.proofs.SurfaceLemmas.{inked, turned, found_before, unbegun, refused_alike}
use Rattle.surfaces.proofs.surfaces.Surfaces.draw_on_screen.Goals as goal

pub returns-in_default : goal.returns-in_default
returns-in_default c =
    let ws = c.args.stack.now in
    let h = c.args.context.now.window in
    record {
      finds = finds_as_before c.args.self.now c.args.self.now refl refl c.requires.fresh;
      drawn = (none_refused (window_of ws h) _ _ (none_found ws h (sym c.place_of.ensures ∙ c.in_default.is)), refl);
    }

pub returns-in_err-own : goal.returns-in_err-own
returns-in_err-own c =
    let ws = c.args.stack.now in
    let h = c.args.context.now.window in
    let is = found_at ws h c.in-Some.at (sym c.place_of.ensures ∙ c.in-Some.is) in
    let p = err_from_is_err_and c.from_residual.result c.from_residual.ensures.1 in
    let same = unbegun c.args.self.now c.begin_own.new.self c.in_err-own.field-0.0 c.in_err-own.ensures.rest c.in_err-own.ensures.screen in
    record {
      finds = finds_as_before c.args.self.now c.begin_own.new.self (ap (λ (p : Panes). p.drawer) same) (ap (λ (p : Panes). p.marked) same) c.requires.fresh;
      drawn =
          refused_alike c.from_residual.result p.0 c.in_err-own.field-0.0 _ _ c.args.self.now c.begin_own.new.self p.1 p.2
          (is_there (window_of ws h) (get_or ws c.in-Some.at no_window) _ _ is.live ∙ c.in_err-own.ensures.screen.0) same;
    }

pub returns : goal.returns
returns c =
    let ws = c.args.stack.now in
    let h = c.args.context.now.window in
    let first = sym c.place_of.ensures ∙ c.in-Some.is in
    let is = found_at ws h c.in-Some.at first in
    let old = c.args.self.now in
    let mid = c.begin_own.new.self in
    let last = c.end_own.new.self in
    let ink = colour_of_stroke c.args.assets.now c.args.context.now c.args.shape.now in
    record {
      finds = found_before old mid c.draw_shape.new.self last _ _ c.in_ok-own.ensures.rest c.in_ok-own.ensures.screen c.draw_shape.ensures c.end_own.ensures.finds;
      drawn = (
        is_there (window_of ws h) (get_or ws c.in-Some.at no_window) _ _ is.live ∙ c.in_ok-own.ensures.screen.0,
        turned old mid c.draw_shape.new.self last _ _ c.requires.pictures c.in_ok-own.ensures.rest c.in_ok-own.ensures.screen c.draw_shape.ensures c.end_own.ensures.finds c.end_own.ensures.ended
            ∙ ap (with_turn (switched last old)) (inked c.args.assets.now ws c.args.context.now ink old mid last _ c.in-Some.at c.in_ok-own.ensures.rest c.in_ok-own.ensures.screen first),
      );
    }
