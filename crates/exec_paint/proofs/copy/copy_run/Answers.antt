use Rattle.std.proofs.Common.{◌∙◌}
use Rattle.frame.specs.Pictures.{colour_at}
use Rattle.exec_paint.proofs.CopyLemmas.{written-run}
use Rattle.exec_paint.proofs.copy.copy_run.Goals as goal

pub returns : goal.returns
returns c =
    let run = c.args.run in
    let f = c.args.target.now in
    c.copy_span.ensures ∙ written-run f run (colour_at c.args.device.now.picture) (c.changes_only_there.ensures.span f.picture run.y run.left run.right c.requires.shape c.requires.run.within c.requires.run.row)
