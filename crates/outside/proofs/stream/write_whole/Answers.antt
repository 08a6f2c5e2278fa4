use Rattle.std.proofs.Common.{◌≡◌, ◌++◌, take, arith, sym, ap, ◌∙◌, append_assoc}
use Rattle.std.proofs.lemmas.Grind.{common_steps}
use Rattle.std.proofs.lemmas.List.{take-append-drop}
use Rattle.outside.proofs.KnownBytes.{Appends-then, Appends-kept}
use Rattle.outside.proofs.stream.write_whole.Goals.{in-Ok, in-Err}
use Rattle.outside.proofs.stream.write_whole.Goals as goal

pub loop-preserved : goal.loop-preserved
loop-preserved g c =
    let done = c.loop.invariant in
    elim c.match-write.branch [
      | in-Ok w ↦
          let piece = take w.in-Ok.count c.loop.rest.now in
          let left : c.loop.rest.now ≡ piece ++ c.match-write.rest.now = grind (arith, common_steps, take-append-drop) in
          (done.0 ++ piece, done.1 ∙ ap (λ rest. done.0 ++ rest) left ∙ sym (append_assoc done.0 piece c.match-write.rest.now), Appends-then _ _ _ _ _ done.2 w.in-Ok.ensures.bytes)
      | in-Err w ↦ (done.0, rw w.rest-is done.1, Appends-kept _ _ _ _ done.2 w.in-Err.ensures.bytes)
    ]
