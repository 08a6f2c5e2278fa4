use Rattle.std.proofs.Common.{◌≡◌, cond, None, take, arith}
use Rattle.hextile.specs.Reading.{has_bit}
use Rattle.hextile.proofs.StepLemmas.{listed_fit, painted_reads, rows_of, few_points}
use Rattle.hextile.proofs.reading.read_painted.Goals as goal
use Rattle.hextile.proofs.reading.read_painted.Goals.{then-coloured, else-coloured}

pub paint-requires-clause-inside : goal.paint-requires-clause-inside
paint-requires-clause-inside c =
    let a = c.args in
    let few = few_points a.width a.height c.requires.sides.1 c.requires.sides.3 in
    let read = rw (c.has_bit-listed.ensures, c.has_bit-coloured.ensures) at c.in_ok-count.ensures.subs in
    rw (rows_of a.width a.height a.points.now c.requires.sides.0 (omega (arith, few, c.requires.work.0))) (listed_fit a.format.now (has_bit a.mask 8) (has_bit a.mask 16) c.in_ok-fore.fore a.width a.height c.in_ok-fore.last.now (take c.in_ok-count.count c.read_listed.new.subs) c.in_ok-count.rest.now read)

pub returns : goal.returns
returns c =
    let a = c.args in
    let few = few_points a.width a.height c.requires.sides.1 c.requires.sides.3 in
    let one = rw c.has_bit.ensures at c.in_ok-back.ensures in
    let two = rw c.has_bit-2.ensures at c.in_ok-fore.ensures in
    let three = rw (c.has_bit-listed.ensures, c.has_bit-coloured.ensures) at c.in_ok-count.ensures.subs in
    let kept : c.if-coloured.after ≡ cond (has_bit a.mask 16) None c.in_ok-fore.fore = elim c.if-coloured.branch [
      | then-coloured w ↦ rw (← c.has_bit-coloured.ensures, w.if-coloured.true) w.after-is
      | else-coloured w ↦ rw (← c.has_bit-coloured.ensures, w.if-coloured.false) w.after-is
    ] in
    painted_reads a.format.now a.known a.mask a.width a.height a.bytes.now c.in_ok-back.back c.in_ok-back.after.now c.in_ok-fore.fore c.in_ok-fore.last.now (take c.in_ok-count.count c.read_listed.new.subs) c.in_ok-count.rest.now c.paint.new.points a.points.now c.unwrap_or-background.result c.if-coloured.after one two three (omega (arith, few, c.requires.work.0)) c.paint.ensures c.unwrap_or-background.ensures kept
