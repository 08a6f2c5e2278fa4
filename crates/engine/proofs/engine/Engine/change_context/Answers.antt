use Rattle.desk.specs.Changes.{context_call}
use Rattle.desk.proofs.CallerLemmas.{on_a_context}
use Rattle.engine.proofs.CallLemmas.{context_replied}
use Rattle.engine.specs.contracts.engine.Engine.{the_view}
use Rattle.engine.proofs.engine.Engine.change_context.Goals as goal

pub returns : goal.returns
returns c =
    let m = the_view c.self.inside in
    context_replied _ m c.args.task (context_call c.args.change) c.change_context.result c.change_context.new.contexts _ (on_a_context c.args.change) c.self.view_is c.answered.ensures (rw (c.font_count.ensures, c.stack.ensures) at c.change_context.ensures)
