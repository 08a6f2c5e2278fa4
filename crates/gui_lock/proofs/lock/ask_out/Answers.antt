use Rattle.std.proofs.Common.{rules, ◌≡◌, ◌++◌, ap, ◌∙◌}
use Rattle.gui_lock.proofs.CallerLemmas.{marks_none}
use Rattle.gui_lock.proofs.lock.ask_out.Goals as goal

pub announce-requires-clause-more : goal.announce-requires-clause-more
announce-requires-clause-more g c =
    let o = c.requires.out in
    let same : c.in-Some.inner.now ≡ o.0 = search (rules, o.1, c.in-Some.ensures.value) in
    let m = c.ask-answer.ensures.marks in
    (m.0, m.2 ∙ ap (λ l. l ++ m.0) (ap g.V.Kept.entries same ∙ o.2.seen), λ k z. marks_none k m.0 m.1)
