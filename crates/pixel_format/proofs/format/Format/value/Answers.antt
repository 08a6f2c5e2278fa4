use Rattle.std.proofs.Common.{◌≡◌, ap, arith}
use Rattle.pixel_format.specs.Formats.{Layout}
use Rattle.pixel_format.proofs.SoundLemmas.{is_format, below_all}
use Rattle.pixel_format.proofs.format.Format.value.Goals as goal

pub part-red-requires-clause-shift : goal.part-red-requires-clause-shift
part-red-requires-clause-shift c = (is_format _ c.self.invariant).shifts.0

pub part-red-requires-clause-bits : goal.part-red-requires-clause-bits
part-red-requires-clause-bits c = let k = below_all _ (is_format _ c.self.invariant) in omega (arith, k)

pub part-green-requires-clause-shift : goal.part-green-requires-clause-shift
part-green-requires-clause-shift c = (is_format _ c.self.invariant).shifts.1

pub part-green-requires-clause-bits : goal.part-green-requires-clause-bits
part-green-requires-clause-bits c = let k = below_all _ (is_format _ c.self.invariant) in omega (arith, k)

pub part-blue-requires-clause-shift : goal.part-blue-requires-clause-shift
part-blue-requires-clause-shift c = (is_format _ c.self.invariant).shifts.2

pub part-blue-requires-clause-bits : goal.part-blue-requires-clause-bits
part-blue-requires-clause-bits c = let k = below_all _ (is_format _ c.self.invariant) in omega (arith, k)

pub overflow_add-result : goal.overflow_add-result
overflow_add-result c = let k = below_all _ (is_format _ c.self.invariant) in omega (arith, k)

pub overflow_add-result-2 : goal.overflow_add-result-2
overflow_add-result-2 c = let k = below_all _ (is_format _ c.self.invariant) in omega (arith, k)

pub returns-clause-within : goal.returns-clause-within
returns-clause-within c =
    let same : c.self.inside.bits ≡ c.args.self.now.bits = ap (λ (f : Layout). f.bits) c.self.view_is in
    let k = rw same at (is_format _ c.self.invariant).within in
    omega (arith, k)
