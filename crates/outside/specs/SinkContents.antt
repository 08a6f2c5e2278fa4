-- What a sink in memory holds, and what a write does to it.
use Rattle.std.specs.Prelude.{ℕ, ◌+◌, ◌-◌, Bool, ◌&&◌, not, nat_le, if◌then◌else◌, List, [], ◌++◌, length, take, Some}
use Rattle.outside.specs.Counts.{one_more, Plan, plan_of, fails, after_call}
use Rattle.outside.specs.Logs.{SinkLog}

-- the bytes that were written, how many there may be, which writes are to fail, and how many failed
pub record SinkContents : Type 0 where
  pub bytes : List ℕ
  pub most : ℕ
  pub plan : Plan
  pub faults : ℕ

-- a sink before its first write
abbrev pub new_sink : ℕ → List ℕ → SinkContents
new_sink most failing = record { bytes = []; most = most; plan = plan_of failing; faults = 0 }

-- whether the next write takes all of a piece
abbrev pub takes : SinkContents → List ℕ → Bool
takes sink piece = not (fails sink.plan) && nat_le (length sink.bytes + length piece) sink.most

-- the prefix of a piece that the next write takes
abbrev pub prefix_of : SinkContents → List ℕ → List ℕ
prefix_of sink piece = if fails sink.plan then [] else take (sink.most - length sink.bytes) piece

-- the sink after the next write
abbrev pub after_write : SinkContents → List ℕ → SinkContents
after_write sink piece = record sink {
  bytes = sink.bytes ++ prefix_of sink piece;
  plan = after_call sink.plan;
  faults = if takes sink piece then sink.faults else one_more sink.faults;
}

-- what it tells
abbrev pub log_of_sink : SinkContents → SinkLog
log_of_sink sink = record { faults = sink.faults; written = Some sink.bytes }
