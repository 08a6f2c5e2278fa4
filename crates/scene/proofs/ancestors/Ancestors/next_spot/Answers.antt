use Rattle.std.proofs.Common.{get_or, ap, ◌∙◌}
use Rattle.std.proofs.lemmas.Option.{slice_get-get_or, get_or_from_slice_get}
use Rattle.scene.specs.Places.{no_window}
use Rattle.scene.specs.Clips.{corner_in, clip_in}
use Rattle.scene.proofs.PathLemmas.{place_at-single}
use Rattle.scene.proofs.ancestors.Ancestors.next_spot.Goals as goal

pub spot_on-requires-clause-known : goal.spot_on-requires-clause-known
spot_on-requires-clause-known c =
    let ws = c.args.stack.now in
    place_at-single ws c.args.i (get_or ws c.args.i no_window) (slice_get-get_or ws c.args.i no_window c.requires.place) (c.requires.single _)

pub returns-clause-corner : goal.returns-clause-corner
returns-clause-corner c = λ w at. c.spot_on.ensures.corner ∙ ap (corner_in c.args.stack.now) (get_or_from_slice_get c.args.stack.now c.args.i w no_window at)

pub returns-clause-clip : goal.returns-clause-clip
returns-clause-clip c = λ w at. c.spot_on.ensures.clip ∙ ap (clip_in c.args.screen.now c.args.stack.now) (get_or_from_slice_get c.args.stack.now c.args.i w no_window at)
