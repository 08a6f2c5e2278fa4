use Rattle.std.proofs.Common.{rules, ◌≡◌, ap, ◌∙◌}
use Rattle.gui_lock.proofs.ApplyAddsOwn.{applied_more}
use Rattle.gui_lock.proofs.lock.apply_out.Goals as goal

pub announce-requires-clause-more : goal.announce-requires-clause-more
announce-requires-clause-more g c =
    let o = c.requires.out in
    let same : c.in-Some.inner.now ≡ o.0 = search (rules, o.1, c.in-Some.ensures.value) in
    applied_more _ _ _ _ _ _ _ c.args.seat.now.me.0.seen _ _ _ c.args.seat.now.me.0.mine c.apply-reply.ensures.outcome (ap g.V.Kept.entries same ∙ o.2.seen) c.requires.named
