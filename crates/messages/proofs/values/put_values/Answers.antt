use Rattle.std.proofs.Common.{sym, ◌∙◌}
use Rattle.messages.proofs.WindowLemmas.{put_same, put_other}
use Rattle.messages.proofs.values.put_values.Goals as goal

pub returns-then-eq : goal.returns-then-eq
returns-then-eq c = λ w at.
    put_same c.args.screen.now c.args.stack.now c.args.i w _ c.args.values.now at (sym c.eq.ensures ∙ c.if-eq.true)

pub returns : goal.returns
returns c = λ w at.
    put_other c.args.screen.now c.args.stack.now c.args.i w _ c.args.values.now at (sym c.eq.ensures ∙ c.if-eq.false) _ c.window.ensures
