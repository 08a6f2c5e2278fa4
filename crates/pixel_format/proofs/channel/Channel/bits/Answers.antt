use Rattle.std.proofs.Common.{arith}
use Rattle.pixel_format.specs.Formats.{bits_of}
use Rattle.pixel_format.proofs.BitLemmas.{shifted_below, shifted_fits}
use Rattle.pixel_format.proofs.channel.Channel.bits.Goals as goal

pub returns-clause-value : goal.returns-clause-value
unfolding bits_of
returns-clause-value c = rw c.from.ensures (shifted_fits c.args.self.now.max c.args.self.now.shift (omega arith) c.requires.shift)

pub returns-clause-within : goal.returns-clause-within
returns-clause-within c =
    rw c.from.ensures (rw (shifted_fits c.args.self.now.max c.args.self.now.shift (omega arith) c.requires.shift) (shifted_below c.args.self.now.max c.args.self.now.shift (omega arith) c.requires.shift))
