use Rattle.std.proofs.Common.{◌<◌, ◌^◌, ◌*◌, ◌≤◌, arith}
use Rattle.pixel_format.specs.Formats.{bits_of, part_of}
use Rattle.pixel_format.proofs.BitLemmas.{part_most, part_fits, product_fits}
use Rattle.pixel_format.proofs.channel.Channel.part.Goals as goal

pub overflow_mul-number : goal.overflow_mul-number
overflow_mul-number c =
    let few : c.args.self.now.max < 2 ^ 16 = omega arith in
    let p : c.args.level * c.args.self.now.max ≤ 16711425 = product_fits c.args.level c.args.self.now.max c.requires.level few in
    rw c.from.ensures (omega arith)

pub overflow_add-number : goal.overflow_add-number
overflow_add-number c =
    let few : c.args.self.now.max < 2 ^ 16 = omega arith in
    let p : c.args.level * c.args.self.now.max ≤ 16711425 = product_fits c.args.level c.args.self.now.max c.requires.level few in
    rw c.from.ensures (omega arith)

pub returns-clause-value : goal.returns-clause-value
unfolding bits_of part_of
returns-clause-value c = rw c.from.ensures (part_fits c.args.level c.args.self.now.max c.args.self.now.shift c.requires.level c.requires.bits)

pub returns-clause-within : goal.returns-clause-within
unfolding bits_of
returns-clause-within c =
    rw c.from.ensures (rw (part_fits c.args.level c.args.self.now.max c.args.self.now.shift c.requires.level c.requires.bits) (part_most c.args.level c.args.self.now.max c.args.self.now.shift c.requires.level))
