use Rattle.std.proofs.Common.{◌≡◌, pos, ◌≤ℤ◌, ◌<ℤ◌, ◌&&◌, nat_le, sym, w32, SFits, rules, arith}
use Rattle.std.specs.Prelude.{◌==◌}
use Rattle.std.proofs.lemmas.Int.{ints, to_z-of_z}
use Rattle.frame.proofs.CallerLemmas.{changed-none}
use Rattle.region.specs.Spans.{in_span}
use Rattle.strokes.specs.Parts.{colour_copied}
use Rattle.strokes.proofs.CopyLemmas.{changed-whole, span-none, span-ends, run-columns}
use Rattle.strokes.proofs.copies.copy_span.Goals as goal

pub returns-then-span : goal.returns-then-span
returns-then-span c =
    let a = c.args in
    let f0 : SFits w32 a.span.x0 = search rules in
    let f1 : SFits w32 a.span.x1 = search rules in
    let t = simp to_z-of_z at c.if-span.true in
    let none : a.span.x1 <ℤ a.span.x0 = omega (arith, ints, t) in
    sym (changed-none a.target.now.picture (λ u v. v == a.y && in_span a.span (pos u)) (colour_copied a.from.now.picture a.corner) c.requires.shape (λ u v _ _. span-none a.span a.y u v none))

pub unsigned-left-requires-clause-low : goal.unsigned-left-requires-clause-low
unsigned-left-requires-clause-low c =
    let a = c.args in
    let f0 : SFits w32 a.span.x0 = search rules in
    let f1 : SFits w32 a.span.x1 = search rules in
    let t = simp to_z-of_z at c.if-span.false in
    let order : a.span.x0 ≤ℤ a.span.x1 = omega (arith, ints, t) in
    let ends = span-ends a.span order in
    let inside = (c.requires.columns a.span.x0 ends.0).1 in
    rw (to_z-of_z w32 a.span.x0 f0) inside.0

pub unsigned-left-requires-clause-high : goal.unsigned-left-requires-clause-high
unsigned-left-requires-clause-high c =
    let a = c.args in
    let f0 : SFits w32 a.span.x0 = search rules in
    let f1 : SFits w32 a.span.x1 = search rules in
    let t = simp to_z-of_z at c.if-span.false in
    let order : a.span.x0 ≤ℤ a.span.x1 = omega (arith, ints, t) in
    let ends = span-ends a.span order in
    let inside = (c.requires.columns a.span.x0 ends.0).1 in
    rw (to_z-of_z w32 a.span.x0 f0) (omega (arith, ints, inside.1, c.requires.shape.most_width))

pub unsigned-right-requires-clause-high : goal.unsigned-right-requires-clause-high
unsigned-right-requires-clause-high c =
    let a = c.args in
    let f0 : SFits w32 a.span.x0 = search rules in
    let f1 : SFits w32 a.span.x1 = search rules in
    let t = simp to_z-of_z at c.if-span.false in
    let order : a.span.x0 ≤ℤ a.span.x1 = omega (arith, ints, t) in
    let ends = span-ends a.span order in
    let inside = (c.requires.columns a.span.x1 ends.1).1 in
    rw (to_z-of_z w32 a.span.x1 f1) (omega (arith, ints, inside.1, c.requires.shape.most_width))

pub copy_run-requires-clause-left : goal.copy_run-requires-clause-left
copy_run-requires-clause-left c =
    let a = c.args in
    let f0 : SFits w32 a.span.x0 = search rules in
    let f1 : SFits w32 a.span.x1 = search rules in
    let t = simp to_z-of_z at c.if-span.false in
    let order : a.span.x0 ≤ℤ a.span.x1 = omega (arith, ints, t) in
    let ends = span-ends a.span order in
    let left : pos c.unsigned-left.result ≡ a.span.x0 = simp to_z-of_z at c.unsigned-left.ensures.value in
    rw left (c.requires.columns a.span.x0 ends.0).0

pub copy_run-requires-clause-right : goal.copy_run-requires-clause-right
copy_run-requires-clause-right c =
    let a = c.args in
    let f0 : SFits w32 a.span.x0 = search rules in
    let f1 : SFits w32 a.span.x1 = search rules in
    let t = simp to_z-of_z at c.if-span.false in
    let order : a.span.x0 ≤ℤ a.span.x1 = omega (arith, ints, t) in
    let ends = span-ends a.span order in
    let right : pos c.unsigned-right.result ≡ a.span.x1 = simp to_z-of_z at c.unsigned-right.ensures.value in
    rw right (c.requires.columns a.span.x1 ends.1).0

pub copy_run-requires-clause-inside : goal.copy_run-requires-clause-inside
copy_run-requires-clause-inside c =
    let a = c.args in
    let f0 : SFits w32 a.span.x0 = search rules in
    let f1 : SFits w32 a.span.x1 = search rules in
    let t = simp to_z-of_z at c.if-span.false in
    let order : a.span.x0 ≤ℤ a.span.x1 = omega (arith, ints, t) in
    let ends = span-ends a.span order in
    let right : pos c.unsigned-right.result ≡ a.span.x1 = simp to_z-of_z at c.unsigned-right.ensures.value in
    let inside = (c.requires.columns a.span.x1 ends.1).1 in
    (omega (arith, ints, right, inside.1), c.requires.below)

pub returns : goal.returns
returns c =
    let a = c.args in
    let f0 : SFits w32 a.span.x0 = search rules in
    let f1 : SFits w32 a.span.x1 = search rules in
    let left : pos c.unsigned-left.result ≡ a.span.x0 = simp to_z-of_z at c.unsigned-left.ensures.value in
    let right : pos c.unsigned-right.result ≡ a.span.x1 = simp to_z-of_z at c.unsigned-right.ensures.value in
    changed-whole a.target.now.picture c.copy_run.new.target.picture (λ u v. v == a.y && (nat_le c.unsigned-left.result u && nat_le u c.unsigned-right.result)) (λ u v. v == a.y && in_span a.span (pos u)) (colour_copied a.from.now.picture a.corner) c.requires.shape
    (λ u v _ _. run-columns c.unsigned-left.result c.unsigned-right.result a.y u v a.span left right) c.copy_run.ensures
