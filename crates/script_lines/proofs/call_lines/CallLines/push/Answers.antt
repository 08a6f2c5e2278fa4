use Rattle.std.proofs.Common.{◌<◌}
use Rattle.script_lines.specs.Counts.{count_alike}
use Rattle.script_lines.proofs.CountLaws.{counted_task}
use Rattle.script_lines.proofs.call_lines.CallLines.push.Goals as goal

pub invariant_of-self-in-Continue-branch-2 : goal.invariant_of-self-in-Continue-branch-2
invariant_of-self-in-Continue-branch-2 c =
    let room : count_alike c.args.line c.self.inside.lines.items < 400000 = rw c.self.view_is c.requires in
    let more = counted_task c.self.inside.lines.items c.self.inside.ticks c.in-Task-default-Call.task c.in-Task-default-Call.act c.self.invariant (rw (← c.in-Task-default-Call.is) room) in
    rw (c.in_ok-push-in-Task-default-Call.ensures.items, c.in-Task-default-Call.is) more
