use Rattle.rfb_msg.proofs.ReadingLemmas.{reader_stays}
use Rattle.rfb_msg.proofs.reader.Reader.advance.Goals as goal

pub invariant_of-self : goal.invariant_of-self
invariant_of-self c = (c.next-outcome.ensures.left, reader_stays _ _ c.args.byte _ _ c.self.invariant.1 c.next-outcome.ensures.outcome)
