use Rattle.std.proofs.Common.{rules, ◌≡◌, true, ◌∙◌}
use Rattle.lock_tests.specs.Pairs.{is_added_lem}
use Rattle.lock_tests.proofs.Ranges.{mine_added, next_mine}
use Rattle.lock_tests.proofs.tests.call_numbers.Goals as goal

pub loop-number-preserved : goal.loop-number-preserved
loop-number-preserved g c =
    let i = c.loop-number.invariant in
    let a = c.in-Ok.ensures.acts in
    let sure : is_added_lem c.in-Ok.answer ≡ true = search (rules, c.is_added.ensures, c.if-not-is_added.false) in (
      (a.same.0 ∙ i.0.0, a.same.2 ∙ i.0.1),
      a.depth ∙ i.1,
      a.same.1 ∙ i.2,
      next_mine c.loop-number.number-counter _ _ i.3 (mine_added _ _ c.loop-number.number-counter 0 c.loop-number.pass c.call-done.new.self c.in-Ok.answer 0 c.call-done.new.room a sure),
    )
