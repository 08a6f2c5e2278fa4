use Rattle.std.proofs.Common.{◌≡◌, ◌+◌, take, option_map, vec_len}
use Rattle.std.specs.Io.KnownBytes.{Consumes}
use Rattle.std.specs.Io.Take.{take_limit, take_remaining}
use Rattle.outside.proofs.stream.read_prefix.Given as goal

-- what was read and what may still be read are `limit` bytes
abbrev pub invariant-loop : goal.invariant-loop
invariant-loop g l = record {
  room : vec_len l.bytes + take_limit l.prefix ≡ l.fn.limit;
  read : Consumes (option_map (take l.fn.limit) (g.F.Read.remaining l.fn.file)) (take_remaining g.F.Read.remaining l.prefix) l.bytes.items;
}
