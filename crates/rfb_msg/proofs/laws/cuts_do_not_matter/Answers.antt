use Rattle.rfb_msg.proofs.BreakLemmas.{feeds_parted}
use Rattle.rfb_msg.proofs.StreamLemmas.{feeds_cut}
use Rattle.rfb_msg.proofs.laws.cuts_do_not_matter.Goals as goal

pub returns-clause-joined : goal.returns-clause-joined
returns-clause-joined c = feeds_cut

pub returns-clause-parted : goal.returns-clause-parted
returns-clause-parted c = feeds_parted
