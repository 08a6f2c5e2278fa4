use Rattle.std.proofs.Common.{◌≤◌, ap, sym, subst, ◌∙◌, arith, ◌∷◌, []}
use Rattle.gui_lock.specs.Entries.{AreByPasses}
use Rattle.gui_lock.specs.Passes.{AreFree, HasNumber, HasAll}
use Rattle.gui_lock.specs.Seats.{Gathered}
use Rattle.gui_lock.proofs.PassesGathered.{same_some, taken_all, no_items, free_at, gathered_first, gathered_more, gathered_acts, gathered_has, taken_more}
use Rattle.gui_lock.proofs.lock.GuiLock.close.Goals as goal

pub unreachable-requires : goal.unreachable-requires
unreachable-requires g c =
    let k = c.in_default.ensures.cases in
    let none = no_items c.args.passes.items (omega arith) in
    subst (HasNumber 1) none (c.requires.all 1 (omega arith) (subst (λ l. 1 ≤ l.passes) c.self.view_is (let s = c.self.invariant.2 in omega arith)))

pub into_seat-seat-requires : goal.into_seat-seat-requires
into_seat-seat-requires g c = (free_at c.args.self c.pop-last.new.self.items c.in-Some.pass [] (subst (AreFree c.args.self) c.in-Some.ensures.items c.requires.free)).1

pub loop-pass-init : goal.loop-pass-init
loop-pass-init g c =
    let f = free_at c.args.self c.pop-last.new.self.items c.in-Some.pass [] (subst (AreFree c.args.self) c.in-Some.ensures.items c.requires.free) in
    let s = c.into_seat-seat.ensures in
    (c.in-Some.pass ∷ [], c.in-Some.ensures.items, gathered_first c.in-Some.pass c.into_seat-seat.result.me.0 s.same.0 s.mine, s.free.0, s.free.1, s.table ∙ f.0.0)

pub into_seat-requires : goal.into_seat-requires
into_seat-requires g c =
    let i = c.loop-pass.invariant in
    (free_at c.args.self c.pop.new.self.items c.in-Some-pop.pass i.0 (subst (AreFree c.args.self) (taken_more _ _ _ _ c.in-Some-pop.pass i.1 c.in-Some-pop.ensures.items) c.requires.free)).1

pub gather-requires-clause-other_table : goal.gather-requires-clause-other_table
gather-requires-clause-other_table g c =
    let i = c.loop-pass.invariant in
    let f = free_at c.args.self c.pop.new.self.items c.in-Some-pop.pass i.0 (subst (AreFree c.args.self) (taken_more _ _ _ _ c.in-Some-pop.pass i.1 c.in-Some-pop.ensures.items) c.requires.free) in
    c.into_seat.ensures.table ∙ f.0.0

pub loop-pass-preserved : goal.loop-pass-preserved
loop-pass-preserved g c =
    let i = c.loop-pass.invariant in
    let s = c.into_seat.ensures in
    let b = c.gather.ensures in (
      c.in-Some-pop.pass ∷ i.0,
      taken_more _ _ _ _ c.in-Some-pop.pass i.1 c.in-Some-pop.ensures.items,
      subst (λ m. Gathered (c.in-Some-pop.pass ∷ i.0) m.0) (sym b.both) (gathered_more c.in-Some-pop.pass i.0 c.loop-pass.seat.me.0 c.into_seat.result.me.0 s.same.0 s.mine b.begins i.2),
      (let t = i.3 in let u = s.free.0 in ap (λ m. m.0.turns) b.both ∙ omega arith),
      ap (λ m. m.1) b.both ∙ i.4,
      b.table ∙ i.5,
    )

pub take_out-value-requires-clause-all : goal.take_out-value-requires-clause-all
take_out-value-requires-clause-all g c = λ k pos le.
    let i = c.loop-pass.invariant in
    let e = c.in_default-pop.ensures.cases in
    gathered_acts k i.0 c.loop-pass.seat.me.0 i.2 (subst (HasNumber k) (taken_all _ c.loop-pass.passes.items i.0 i.1 (omega arith)) (c.requires.all k pos le))

pub returns-clause-all : goal.returns-clause-all
returns-clause-all g c =
    let i = c.loop-pass.invariant in
    let e = c.in_default-pop.ensures.cases in
    let t = c.take_out-value.ensures in
    let same = same_some c.take_out-value.result t.0 c.in-Some-value.value t.1 c.in-Some-value.is in
    subst (λ x. HasAll (g.V.Kept.entries x) c.args.passes.items) same
    (subst (HasAll (g.V.Kept.entries t.0)) (sym (taken_all _ c.loop-pass.passes.items i.0 i.1 (omega arith))) (gathered_has (g.V.Kept.entries t.0) i.0 c.loop-pass.seat.me.0 t.3 t.4 i.2))

pub returns-clause-others : goal.returns-clause-others
returns-clause-others g c =
    let t = c.take_out-value.ensures in
    subst (λ x. AreByPasses c.args.self.passes (g.V.Kept.entries x)) (same_some c.take_out-value.result t.0 c.in-Some-value.value t.1 c.in-Some-value.is) t.5
