use Rattle.std.proofs.Common.{◌≡◌, ◌-◌, ◌≤◌, length, ap, ◌∙◌, arith}
use Rattle.frame.specs.Canvases.{Canvas}
use Rattle.frame.proofs.SpanLemmas.{IsSpan, size_of_span, length-part, get_or-cut, refilled, drawn-span, has_count}
use Rattle.frame.proofs.frame.Frame.copy_span.Goals as goal

pub returns : goal.returns
returns c =
    let f = c.self.inside in
    let a = c.args in
    let p = a.self.now.picture in
    let first = c.span-start.result.0 in
    let end = c.span-start.result.1 in
    let shape = has_count f.width f.height f.points.len f.points.items c.self.invariant f.points.ok.0 in
    let span : IsSpan p.width a.y a.x0 a.x1 first end = record { first_is = c.span-start.ensures.first; end_is = c.span-start.ensures.end } in
    let size = size_of_span p.width a.y a.x0 a.x1 first end span in
    let within : (first ≤ end) × (end ≤ length f.points.items) = (omega (arith, span.first_is, span.end_is), omega (arith, c.span-start.ensures.within, ap (λ (g : Canvas). length g.picture.points) c.self.view_is)) in
    let part = length-part first end f.points.items _ c.deref_mut.ensures.value within in
    let copied = c.copy_from_slice.ensures.after in
    let count : length c.copy_from_slice.new.self ≡ end - first = c.copy_from_slice.ensures.len ∙ part in
    drawn-span a.self.now f.width f.height f.points.items _ c.copy_from_slice.new.self f.writes a.y a.x0 a.x1 first end _ c.self.view_is shape c.requires.inside.0 c.requires.inside.1 span (count ∙ size) (λ i lt. rw copied (get_or-cut a.from.now.picture p.width a.y a.x0 a.x1 first end _ (c.deref.ensures.value ∙ ap (λ (g : Canvas). g.picture.points) c.from.view_is) c.requires.same_sides.0 span i lt)) (refilled f.points.len first end f.points.items _ c.copy_from_slice.new.self f.points.ok.0 c.deref_mut.ensures.value within count)
