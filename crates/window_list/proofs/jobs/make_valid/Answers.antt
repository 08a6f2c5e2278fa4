use Rattle.desk.proofs.CallerLemmas.{windows-set}
use Rattle.window_list.proofs.jobs.make_valid.Goals as goal

pub returns : goal.returns
returns c = windows-set c.args.windows.now c.args.which c.requires
