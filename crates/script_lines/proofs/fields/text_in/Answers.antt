use Rattle.std.proofs.Common.{rules}
use Rattle.script_lines.proofs.StringLaws.{text_given}
use Rattle.script_lines.proofs.fields.text_in.Goals as goal

pub returns : goal.returns
returns c = text_given c.new.result c.args.rest c.in_ok-rest.field-0 (search rules) c.new.ensures.valid c.new.ensures.value
