use Rattle.script.proofs.ReadingLaws.{is_found, is_ready, only_script, is_error}
use Rattle.script.proofs.reader.read.Goals as goal

pub returns-clause-found : goal.returns-clause-found
returns-clause-found c = is_found c.args.text.now c.read_lines.result c.read_lines.ensures

pub returns-clause-ready : goal.returns-clause-ready
returns-clause-ready c = is_ready c.args.text.now c.read_lines.result c.read_lines.ensures

pub returns-clause-only : goal.returns-clause-only
returns-clause-only c = λ s is. only_script c.args.text.now c.read_lines.result s c.read_lines.ensures is

pub returns-clause-fault : goal.returns-clause-fault
returns-clause-fault c = is_error c.args.text.now c.read_lines.result c.read_lines.ensures
