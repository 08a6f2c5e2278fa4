use Rattle.std.proofs.Common.{arith}
use Rattle.pixel_format.specs.Formats.{fits}
use Rattle.pixel_format.proofs.BitLemmas.{bit_fits}
use Rattle.pixel_format.proofs.channel.Channel.fits.Goals as goal

pub returns-then-self-le-MOST_SHIFT-clause-value : goal.returns-then-self-le-MOST_SHIFT-clause-value
unfolding fits
returns-then-self-le-MOST_SHIFT-clause-value c = rw (bit_fits c.args.bits c.requires.bits, c.bits.ensures.value) (grind (arith))
