use Rattle.std.proofs.Common.{◌≡◌, ◌-◌, [], take}
use Rattle.hextile.specs.Reading.{read_subs}
use Rattle.hextile.proofs.reading.read_listed.Given as goal

-- going on from here reads what reading all reads
abbrev pub invariant-loop-i : goal.invariant-loop-i
invariant-loop-i l = record {
  told : read_subs l.format l.coloured l.foreground l.width l.height (take l.i l.subs) (l.count - l.i) l.rest ≡ read_subs l.format l.coloured l.foreground l.width l.height [] l.count l.initial.rest;
}
