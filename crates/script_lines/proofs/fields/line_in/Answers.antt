use Rattle.std.proofs.Common.{◌≡◌, ◌∙◌, false, rules}
use Rattle.std.specs.Prelude.{bytes_eq, codes}
use Rattle.spelling.specs.Words.{words_of}
use Rattle.calls.specs.Words.{are_tick, line_of}
use Rattle.calls.proofs.CallerLemmas.{tick_line}
use Rattle.script_lines.proofs.fields.line_in.Goals as goal

pub returns-else-eq-clause-value : goal.returns-else-eq-clause-value
unfolding line_of
returns-else-eq-clause-value c =
    let other : bytes_eq c.args.line.now (codes "display tick") ≡ false = (search rules) in
    let no_tick : are_tick (words_of c.args.line.now) ≡ false = tick_line c.args.line.now ∙ other in
    rw no_tick c.task_line_in.ensures.value
