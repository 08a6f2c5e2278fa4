use Rattle.std.proofs.Common.{◌+◌, ◌&&◌, pos, get_or, refl, sym, subst}
use Rattle.std.specs.Prelude.{◌==◌}
use Rattle.frame.specs.Pictures.{HasShape}
use Rattle.frame.proofs.CallerLemmas.{changed-none, has_shape-changed}
use Rattle.region.specs.declared.span.Span.{Span}
use Rattle.region.specs.Spans.{in_span}
use Rattle.paint_ops.proofs.CallerLemmas.{in_first}
use Rattle.strokes.specs.Parts.{colour_copied}
use Rattle.strokes.proofs.CopyLemmas.{changed-more, changed-whole, span-start, span-more, span-has, spans-end}
use Rattle.strokes.proofs.copies.copy_spans.Goals as goal

abbrev no_span : Span
no_span = record { x0 = pos 0; x1 = pos 0 }

pub loop-span-init : goal.loop-span-init
loop-span-init c =
    let a = c.args in
    sym (changed-none a.target.now.picture (λ u v. v == a.y && in_first a.spans.now 0 u) (colour_copied a.from.now.picture a.corner) c.requires.shape (λ u v _ _. span-start a.spans.now a.y u v))

pub copy_span-requires-clause-shape : goal.copy_span-requires-clause-shape
copy_span-requires-clause-shape c =
    let a = c.args in
    subst HasShape (sym c.loop-span.invariant) (has_shape-changed a.target.now.picture (λ u v. v == a.y && in_first a.spans.now c.loop-span.span-index u) (colour_copied a.from.now.picture a.corner) c.requires.shape)

pub copy_span-requires-clause-below : goal.copy_span-requires-clause-below
copy_span-requires-clause-below c = rw c.loop-span.invariant c.requires.below

pub copy_span-requires-clause-columns : goal.copy_span-requires-clause-columns
copy_span-requires-clause-columns c x h = rw c.loop-span.invariant (c.requires.columns x (span-has c.args.spans.now c.loop-span.span-index no_span x c.loop-span-test.true h))

pub loop-span-preserved : goal.loop-span-preserved
loop-span-preserved c =
    let a = c.args in
    let k = c.loop-span.span-index in
    let colours = colour_copied a.from.now.picture a.corner in
    changed-more a.target.now.picture c.loop-span.target.picture c.copy_span.new.target.picture (λ u v. v == a.y && in_first a.spans.now k u) (λ u v. v == a.y && in_span (get_or a.spans.now k no_span) (pos u)) (λ u v. v == a.y && in_first a.spans.now (k + 1) u) colours colours c.requires.shape
    (λ u v _ _. span-more a.spans.now k no_span a.y u v c.loop-span-test.true) (λ u v _ _ _. refl) c.loop-span.invariant c.copy_span.ensures

pub returns : goal.returns
returns c =
    let a = c.args in
    changed-whole a.target.now.picture c.loop-span.target.picture (λ u v. v == a.y && in_first a.spans.now c.loop-span.span-index u) _ (colour_copied a.from.now.picture a.corner) c.requires.shape (λ u v _ _. spans-end a.spans.now c.loop-span.span-index a.y u v c.loop-span-test.false) c.loop-span.invariant
