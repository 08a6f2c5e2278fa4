use Rattle.std.proofs.Common.{◌≡◌, ◌-◌, ◌≤◌, length, ap, ◌∙◌, arith}
use Rattle.std.proofs.lemmas.List.{get_or-replicate}
use Rattle.frame.specs.Canvases.{Canvas}
use Rattle.frame.proofs.SpanLemmas.{IsSpan, size_of_span, length-part, refilled, drawn-span, has_count}
use Rattle.frame.proofs.frame.Frame.fill_span.Goals as goal

pub returns : goal.returns
returns c =
    let f = c.self.inside in
    let a = c.args in
    let p = a.self.now.picture in
    let first = c.span-start.result.0 in
    let end = c.span-start.result.1 in
    let shape = has_count f.width f.height f.points.len f.points.items c.self.invariant f.points.ok.0 in
    let span : IsSpan p.width a.y a.x0 a.x1 first end = record { first_is = c.span-start.ensures.first; end_is = c.span-start.ensures.end } in
    let size = size_of_span p.width a.y a.x0 a.x1 first end span in
    let within : (first ≤ end) × (end ≤ length f.points.items) = (omega (arith, span.first_is, span.end_is), omega (arith, c.span-start.ensures.within, ap (λ (g : Canvas). length g.picture.points) c.self.view_is)) in
    let part = length-part first end f.points.items _ c.deref_mut.ensures.value within in
    let filled = c.fill.ensures.after (λ v same. same) in
    let count : length c.fill.new.self ≡ end - first = c.fill.ensures.len ∙ part in
    drawn-span a.self.now f.width f.height f.points.items _ c.fill.new.self f.writes a.y a.x0 a.x1 first end (λ _ _. a.c) c.self.view_is shape c.requires.inside.0 c.requires.inside.1 span (count ∙ size) (λ i lt. rw filled (get_or-replicate _ i a.c 0 (omega (arith, part, size)))) (refilled f.points.len first end f.points.items _ c.fill.new.self f.points.ok.0 c.deref_mut.ensures.value within count)
