use Rattle.std.proofs.Common.{refl}
use Rattle.scene.specs.Families.{without_family, on_top_of, right_after, parent_of, raised, lowered}
use Rattle.scene.specs.Stacks.{has_ancestors}
use Rattle.win_tree.proofs.laws.changes_in_numbers.Goals as goal

pub returns-clause-raised : goal.returns-clause-raised
unfolding raised on_top_of without_family parent_of
returns-clause-raised c = refl

pub returns-clause-lowered : goal.returns-clause-lowered
unfolding lowered right_after without_family parent_of
returns-clause-lowered c = refl

pub returns-clause-deleted : goal.returns-clause-deleted
unfolding without_family
returns-clause-deleted c = refl

pub returns-clause-created : goal.returns-clause-created
unfolding on_top_of
returns-clause-created c = refl

pub returns-clause-level : goal.returns-clause-level
unfolding has_ancestors
returns-clause-level c = refl

pub returns-clause-no_deeper : goal.returns-clause-no_deeper
unfolding has_ancestors
returns-clause-no_deeper c = refl
