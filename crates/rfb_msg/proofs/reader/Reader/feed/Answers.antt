use Rattle.rfb_msg.proofs.OneLemmas.{brings_bad, brings_item, brings_nothing}
use Rattle.rfb_msg.proofs.ReadingLemmas.{advance_brings, advance_closes, advance_stands}
use Rattle.std.proofs.Common.{subst}
use Rattle.rfb_msg.specs.Standing.{IsReader}
use Rattle.rfb_msg.proofs.reader.Reader.feed.Goals as goal

pub returns-clause-bad : goal.returns-clause-bad
returns-clause-bad c = λ stage before why s. brings_bad _ _ _ _ _ _ (advance_brings _ _ _ _ c.advance.ensures stage before s)

pub returns-clause-item : goal.returns-clause-item
returns-clause-item c = λ stage before item s good at. brings_item _ _ _ _ _ _ (advance_brings _ _ _ _ c.advance.ensures stage before s) at good

pub returns-clause-nothing : goal.returns-clause-nothing
returns-clause-nothing c = λ stage before s. brings_nothing _ _ _ _ _ (advance_brings _ _ _ _ c.advance.ensures stage before s)

pub returns-clause-brings : goal.returns-clause-brings
returns-clause-brings c = advance_brings _ _ _ _ c.advance.ensures

pub returns-clause-closed : goal.returns-clause-closed
returns-clause-closed c = advance_closes _ _ _ _ c.advance.ensures

pub returns-clause-stands : goal.returns-clause-stands
returns-clause-stands c =
    let before : IsReader c.args.self.now = subst IsReader c.self.view_is c.self.invariant.1 in
    (before, advance_stands _ _ _ _ before c.advance.ensures)
