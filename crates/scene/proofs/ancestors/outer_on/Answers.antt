use Rattle.std.proofs.Common.{◌+◌, sym}
use Rattle.scene.specs.Places.{place_of, place_at}
use Rattle.scene.proofs.PathLemmas.{AreOnLevels-take, IsOuter-at}
use Rattle.scene.proofs.ancestors.outer_on.Goals as goal

pub returns-clause-path : goal.returns-clause-path
returns-clause-path c =
    rw c.truncate.ensures.items (AreOnLevels-take (place_at c.args.stack.now) c.args.screen.now 1 (c.in_ok-place.place + 1) c.args.path.now.items c.requires)

pub returns-clause-outer : goal.returns-clause-outer
returns-clause-outer c =
    rw c.deref-2.ensures.0
    (IsOuter-at (place_at c.args.stack.now) c.args.screen.now (place_of c.args.w.now) c.args.path.now.items c.truncate.new.self.items _ c.in_ok-place.place (rw c.deref.ensures.0 at (sym c.in_ok-place.ensures)) c.requires c.if-w-eq0.false c.truncate.ensures.items)
