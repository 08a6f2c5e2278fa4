use Rattle.std.proofs.Common.{arith}
use Rattle.std.proofs.lemmas.Grind.{common_steps}
use Rattle.outside.proofs.PrefixLemmas.{Broken-take}
use Rattle.outside.proofs.mem_sink.MemSinkSink.write.Goals as goal

pub returns-then-is_to_fail-2-clause-wrote : goal.returns-then-is_to_fail-2-clause-wrote
returns-then-is_to_fail-2-clause-wrote c =
    Broken-take _ _ _ _ _ c.if-is_to_fail.room (grind (arith, common_steps)) (grind (arith, common_steps)) (grind (arith, common_steps))
