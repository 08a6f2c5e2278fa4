use Rattle.std.proofs.Common.{refl, inl, inr}
use Rattle.gui_lock.proofs.PassesAfterCalls.{waits_next, still_of}
use Rattle.gui_lock.proofs.pass.Pass.wait_until.Goals as goal

pub loop-init : goal.loop-init
loop-init g c = inl refl

pub ask_once-requires : goal.ask_once-requires
ask_once-requires g c = still_of _ _ _ c.loop.invariant c.requires

pub returns-then-ask_once-clause-waits : goal.returns-then-ask_once-clause-waits
returns-then-ask_once-clause-waits g c = waits_next _ _ _ _ c.loop.invariant c.ask_once.ensures.waits

pub loop-preserved : goal.loop-preserved
loop-preserved g c = inr (waits_next _ _ _ _ c.loop.invariant c.ask_once.ensures.waits)
