use Rattle.std.proofs.Common.{List, length, sym, subst, ◌≤◌}
use Rattle.std.specs.List.{AllByRecursion}
use Rattle.paint_ops.specs.declared.op.Op.{Op}
use Rattle.paint_ops.specs.declared.class.Reaction.{Reaction}
use Rattle.paint_ops.specs.Soundness.{IsOperation, IsReact}
use Rattle.samples.proofs.setups.class.Goals as goal

pub returns-clause-sound : goal.returns-clause-sound
returns-clause-sound c = λ assets.
    let ops = sym c.in-Ok.ensures.items in
    let reactions = sym c.in-Ok-from_slice.ensures.items in
    record {
      few_ops = subst (λ (os : List Op). length os ≤ 64) ops c.requires.few_ops;
      few_reactions = subst (λ (rs : List Reaction). length rs ≤ 16) reactions c.requires.few_reactions;
      ops = subst (AllByRecursion (IsOperation assets)) ops (c.requires.ops assets);
      reactions = subst (AllByRecursion (λ (r : Reaction). IsReact r.react)) reactions c.requires.reactions;
    }
