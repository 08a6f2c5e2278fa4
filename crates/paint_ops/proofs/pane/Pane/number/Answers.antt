use Rattle.std.proofs.Common.{◌≡◌, ◌∙◌, ◌+ℤ◌, rules, w32, w16, refl, arith}
use Rattle.std.proofs.lemmas.Int.{ints, to_z-of_z}
use mir.Val.{SFits}
use Rattle.paint_ops.proofs.pane.Pane.number.Goals as goal

pub overflow_add-result : goal.overflow_add-result
overflow_add-result c =
    let p : SFits w16 c.args.num.plus = search rules in
    omega (arith, ints)

pub returns-clause-value : goal.returns-clause-value
returns-clause-value c =
    let p : SFits w16 c.args.num.plus = search rules in
    let e : c.from.result ≡ c.args.num.plus = c.from.ensures ∙ to_z-of_z w16 c.args.num.plus p in
    let f : SFits w32 c.base.result = search rules in
    let g : SFits w32 c.from.result = search rules in
    let s : SFits w32 (c.base.result +ℤ c.from.result) = omega (arith, ints) in
    rw (to_z-of_z w32 c.base.result f, to_z-of_z w32 c.from.result g, to_z-of_z w32 (c.base.result +ℤ c.from.result) s, e, c.base.ensures.value) refl

pub returns-clause-range : goal.returns-clause-range
returns-clause-range c =
    let p : SFits w16 c.args.num.plus = search rules in
    let e : c.from.result ≡ c.args.num.plus = c.from.ensures ∙ to_z-of_z w16 c.args.num.plus p in
    (omega (arith, ints), omega (arith, ints))
