use Rattle.calls.proofs.CallLaws.{line_read, line_spelled}
use Rattle.calls.proofs.laws.lines_are_read.Goals as goal

pub returns : goal.returns
returns c = λ text line. (λ e. line_read text line e, λ h. line_spelled text line h.0 h.1)
