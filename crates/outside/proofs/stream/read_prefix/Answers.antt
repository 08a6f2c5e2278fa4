use Rattle.std.proofs.Common.{◌≡◌, ◌+◌, ◌++◌, take, vec_len, arith}
use Rattle.std.specs.Io.Take.{take_limit}
use Rattle.std.proofs.lemmas.Grind.{common_steps}
use Rattle.outside.proofs.KnownBytes.{read-end, Consumes-then, Consumes-kept}
use Rattle.outside.proofs.stream.read_prefix.Goals.{in-Ok+else-is_err, in-Err}
use Rattle.outside.proofs.stream.read_prefix.Goals as goal

pub returns-in-Ok-eq0-clause-bytes : goal.returns-in-Ok-eq0-clause-bytes
returns-in-Ok-eq0-clause-bytes g c =
    let gave = rw (c.in-Ok-eq0.is, c.in-Ok-eq0.field-0-test) at c.read.ensures.bytes in
    read-end c.args.limit (g.F.Read.remaining c.args.file) _ _ _ c.read.new.buf c.loop.invariant.read gave.0 (grind (arith, common_steps))

pub loop-preserved : goal.loop-preserved
loop-preserved g c =
    elim c.match-read.branch [
      | in-Ok+else-is_err w ↦
          let items : c.match-read.bytes.items ≡ c.loop.bytes.items ++ take w.in-Ok.count c.read.new.buf = grind (arith, common_steps) in
          let room : vec_len c.match-read.bytes + take_limit c.read.new.self ≡ c.args.limit = grind (arith, common_steps) in
          record { room = room; read = rw items (Consumes-then _ _ _ _ _ c.loop.invariant.read w.in-Ok.ensures.bytes.0) }
      | in-Err w ↦
          let room : vec_len c.match-read.bytes + take_limit c.read.new.self ≡ c.args.limit = grind (arith, common_steps) in
          record { room = room; read = rw w.bytes-is (Consumes-kept _ _ _ _ c.loop.invariant.read w.in-Err.ensures.bytes) }
    ]
