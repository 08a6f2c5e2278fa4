use Rattle.class_lines.proofs.ClassLineLaws.{class_line_read, class_line_spelled}
use Rattle.class_lines.proofs.laws.class_lines_are_read.Goals as goal

pub returns : goal.returns
returns c = λ text line. (λ e. class_line_read text line e, λ h. class_line_spelled text line h.0 h.1)
