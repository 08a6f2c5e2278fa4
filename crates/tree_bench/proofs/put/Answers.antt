use Rattle.std.proofs.Common.{sym}
use Rattle.win_tree.proofs.CallerLemmas.{replacement_itself}
use Rattle.tree_bench.proofs.put.Goals as goal

pub put-requires : goal.put-requires
put-requires c = replacement_itself c.loop.tree.windows c.args.handle c.in-Some.found.now (sym c.in-Some.ensures.found) c.in-Some.ensures.window
