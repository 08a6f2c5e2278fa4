use Rattle.std.proofs.Common.{◌++◌, ◌∷◌, [], map, take, get_or, length, sym, ap, ◌∙◌, arith}
use Rattle.std.proofs.lemmas.Option.{slice_get-get_or}
use Rattle.std.proofs.lemmas.List.{length-map, map_more, length-take}
use Rattle.scene.specs.Places.{no_window}
use Rattle.scene.specs.Clips.{clip_in}
use Rattle.scene.proofs.clips.put_clips.Goals as goal

pub push_reserved-requires : goal.push_reserved-requires
push_reserved-requires c =
    let ws = c.args.stack.now in
    let count = ap length c.loop-i.invariant.clips ∙ length-map (take c.loop-i.i ws) (clip_in c.args.screen.now ws) ∙ length-take c.loop-i.i ws in
    omega (arith, count, c.loop-i.invariant.room, c.requires.room, c.loop-i-test.true)

pub loop-i-preserved : goal.loop-i-preserved
loop-i-preserved c =
    let ws = c.args.stack.now in
    let i = c.loop-i.i in
    record {
      clips =
          c.push_reserved.ensures.items
          ∙ ap (λ clips. clips ++ c.next_spot.result.clip ∷ []) c.loop-i.invariant.clips
          ∙ ap (λ clip. map (clip_in c.args.screen.now ws) (take i ws) ++ clip ∷ []) (c.next_spot.ensures.clip (get_or ws i no_window) (slice_get-get_or ws i no_window c.loop-i-test.true))
          ∙ sym (map_more (clip_in c.args.screen.now ws) ws i no_window c.loop-i-test.true);
      room = c.push_reserved.ensures.capacity ∙ c.loop-i.invariant.room;
      ancestors = c.next_spot.ensures.ancestors;
    }
