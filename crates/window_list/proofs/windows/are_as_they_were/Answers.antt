use Rattle.std.proofs.Common.{◌+◌, Bool, ◌&&◌, List, [], drop, sym, ap, ◌∙◌, arith}
use Rattle.std.proofs.lemmas.List.{drop_all}
use Rattle.scene.specs.declared.win.Win.{Win}
use Rattle.desk.specs.Windows.{are_as_they_were}
use Rattle.window_list.proofs.StepLemmas.{as_step}
use Rattle.window_list.proofs.windows.are_as_they_were.Goals as goal

pub returns-then-not-is_as_it_was : goal.returns-then-not-is_as_it_was
returns-then-not-is_as_it_was c =
    let ws = c.args.old.now in
    let vs = c.args.new.now in
    let i = c.loop-i.i in
    let same = c.loop-i.invariant.same in
    sym (c.loop-i.invariant.rest ∙ as_step ws vs i c.loop-i-test.true (omega arith) ∙ ap (λ (b : Bool). b && are_as_they_were (drop (i + 1) ws) (drop (i + 1) vs)) (sym c.if-not-is_as_it_was.ensures))

pub returns : goal.returns
returns c =
    let ws = c.args.old.now in
    let vs = c.args.new.now in
    let i = c.loop-i.i in
    let same = c.loop-i.invariant.same in
    sym (c.loop-i.invariant.rest ∙ ap (λ (us : List Win). are_as_they_were us (drop i vs)) (drop_all i ws (omega arith)) ∙ ap (are_as_they_were []) (drop_all i vs (omega arith)))

pub loop-i-preserved : goal.loop-i-preserved
loop-i-preserved c =
    let ws = c.args.old.now in
    let vs = c.args.new.now in
    let i = c.loop-i.i in
    let same = c.loop-i.invariant.same in
    record {
      same = same;
      rest = c.loop-i.invariant.rest ∙ as_step ws vs i c.loop-i-test.true (omega arith) ∙ ap (λ (b : Bool). b && are_as_they_were (drop (i + 1) ws) (drop (i + 1) vs)) (sym c.if-not-is_as_it_was.ensures);
    }
