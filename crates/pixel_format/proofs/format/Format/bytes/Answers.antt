use Rattle.pixel_format.proofs.SoundLemmas.{is_format, some_bytes}
use Rattle.pixel_format.proofs.format.Format.bytes.Goals as goal

pub returns-clause-within : goal.returns-clause-within
returns-clause-within c = rw c.from.ensures (some_bytes _ (is_format _ c.self.invariant))

pub returns-clause-format : goal.returns-clause-format
returns-clause-format c = rw (← c.self.view_is) (is_format _ c.self.invariant)
