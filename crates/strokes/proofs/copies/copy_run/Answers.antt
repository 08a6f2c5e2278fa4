use Rattle.std.proofs.Common.{◌≡◌, ◌+◌, pos, ◌-ℤ◌, sym, ap, ◌∙◌, arith}
use Rattle.std.proofs.lemmas.Int.{ints}
use Rattle.frame.specs.Areas.{is_at}
use Rattle.frame.specs.Canvases.{Canvas}
use Rattle.frame.proofs.CallerLemmas.{changed-none}
use Rattle.strokes.specs.Parts.{colour_copied}
use Rattle.strokes.proofs.CopyLemmas.{changed-more, changed-whole, run_before, run-start, run-more, run-end, at-point, column_is, column_inside, copied_at, copied-same}
use Rattle.strokes.proofs.copies.copy_run.Goals as goal

pub loop-x-init : goal.loop-x-init
loop-x-init c =
    let a = c.args in
    sym (changed-none a.target.now.picture (run_before a.y a.left a.left) (colour_copied a.from.now.picture a.corner) c.requires.shape (λ u v _ _. run-start a.y a.left u v))

pub loop-x-preserved : goal.loop-x-preserved
loop-x-preserved c =
    let a = c.args in
    let p = a.target.now.picture in
    let x = c.loop-x.x in
    let colours = colour_copied a.from.now.picture a.corner in
    let column = column_inside _ (pos x -ℤ a.corner.x) (column_is c.from-in-loop-x.result a.corner.x x c.from-in-loop-x.ensures c.requires.corner.0 (omega (arith, c.loop-x-test.true, c.requires.inside.0, c.requires.shape.most_width))) (omega (arith, ints, c.requires.left.0, c.loop-x.auto.x)) in
    let row = column_inside _ (pos a.y -ℤ a.corner.y) (column_is c.from.result a.corner.y a.y c.from.ensures c.requires.corner.1 (omega (arith, c.requires.inside.1, c.requires.shape.most_height))) (omega (arith, ints, c.requires.row.0)) in
    let here : c.get.result ≡ colours x a.y = c.get.ensures ∙ copied_at a.from.now.picture a.corner x a.y _ _ column row in
    changed-more p c.loop-x.target.picture c.put.new.self.picture (run_before a.y a.left x) (is_at x a.y) (run_before a.y a.left (x + 1)) (λ u v. c.get.result) colours c.requires.shape
    (λ u v _ _. run-more a.y a.left x u v c.loop-x.auto.x) (λ u v _ _ h. let at = at-point x a.y u v h in here ∙ copied-same a.from.now.picture a.corner x a.y u v at.0 at.1) c.loop-x.invariant (ap (λ (f : Canvas). f.picture) c.put.ensures)

pub returns : goal.returns
returns c =
    let a = c.args in
    let end : c.loop-x.x ≡ a.right + 1 = omega (arith, c.requires.some) in
    changed-whole a.target.now.picture c.loop-x.target.picture (run_before a.y a.left c.loop-x.x) _ (colour_copied a.from.now.picture a.corner) c.requires.shape (λ u v _ _. run-end a.y a.left a.right c.loop-x.x u v end) c.loop-x.invariant
