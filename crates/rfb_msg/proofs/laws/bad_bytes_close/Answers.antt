use Rattle.std.proofs.Common.{[]}
use Rattle.rfb_msg.specs.Grammar.{AtVersion}
use Rattle.rfb_msg.proofs.BreakLemmas.{bad_closes, closed_broken, closed_later}
use Rattle.rfb_msg.proofs.laws.bad_bytes_close.Goals as goal

pub returns-clause-first : goal.returns-clause-first
returns-clause-first c = bad_closes

pub returns-clause-only : goal.returns-clause-only
returns-clause-only c = λ old new bytes steps why s f closed. closed_broken bytes AtVersion [] old new steps why s f closed

pub returns-clause-later : goal.returns-clause-later
returns-clause-later c = λ old new bytes steps why closed f. closed_later bytes old new steps why closed f
