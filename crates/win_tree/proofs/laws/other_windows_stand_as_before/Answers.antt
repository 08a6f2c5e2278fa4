use Rattle.std.proofs.Common.{◌≡◌, [], ◌∷◌, filter, sym, ◌∙◌}
use Rattle.scene.specs.Families.{family_of, without_family, on_top_of, raised, lowered}
use Rattle.win_tree.proofs.BlockLemmas.{filter-block}
use Rattle.win_tree.proofs.ValidLemmas.{placed, family_stands, raised_stands, lowered_stands, created_stands}
use Rattle.win_tree.proofs.laws.other_windows_stand_as_before.Goals as goal

pub returns-clause-created : goal.returns-clause-created
returns-clause-created c = λ ws w over' test stack live fails.
    let none : filter test (w ∷ []) ≡ [] = rw fails in
    filter-block test (w ∷ []) ws (on_top_of w.parent (w ∷ []) ws) (created_stands ws w (placed ws w.parent over' stack live)) none

pub returns-clause-deleted : goal.returns-clause-deleted
returns-clause-deleted c = λ ws h w test stack live none.
    sym (filter-block test (family_of h ws) (without_family h ws) ws (family_stands ws h (placed ws h w stack live)) none)

pub returns-clause-raised : goal.returns-clause-raised
returns-clause-raised c = λ ws h w test stack live other none.
    let s = placed ws h w stack live in
    filter-block test (family_of h ws) (without_family h ws) (raised h ws) (raised_stands ws h s stack other) none
    ∙ sym (filter-block test (family_of h ws) (without_family h ws) ws (family_stands ws h s) none)

pub returns-clause-lowered : goal.returns-clause-lowered
returns-clause-lowered c = λ ws h w test stack live other none.
    let s = placed ws h w stack live in
    filter-block test (family_of h ws) (without_family h ws) (lowered h ws) (lowered_stands ws h s stack other) none
    ∙ sym (filter-block test (family_of h ws) (without_family h ws) ws (family_stands ws h s) none)
