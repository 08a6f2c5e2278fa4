use Rattle.std.proofs.Common.{Some, get_or, sym, ap, ◌∙◌}
use Rattle.std.specs.Prelude.{option_map}
use Rattle.scene.specs.Places.{no_window}
use Rattle.scene.specs.Clips.{clip_in}
use Rattle.desk.proofs.CallerLemmas.{found_at, none_found}
use Rattle.window_list.proofs.windows.clip_at.Goals as goal

pub returns-in_err-at : goal.returns-in_err-at
returns-in_err-at c = c.from_residual.ensures ∙ sym (ap (option_map (clip_in c.args.screen.now c.args.stack.now)) (none_found c.args.stack.now c.args.h (sym c.place_of.ensures ∙ c.in_err-at.was)))

pub returns : goal.returns
returns c =
    let ws = c.args.stack.now in
    let f = found_at ws c.args.h c.in_ok-at.at (sym c.place_of.ensures ∙ c.in_ok-at.was) in
    ap Some (c.ground.ensures (get_or ws c.in_ok-at.at no_window) f.place) ∙ sym (ap (option_map (clip_in c.args.screen.now ws)) f.live)
