use Rattle.std.proofs.Common.{◌≡◌, ℕ, ℤ, pos, ◌-ℤ◌, ◌<ℤ◌, w32, SFits, to_z, of_z, ◌∙◌, ap, rules, arith}
use Rattle.std.specs.Int.{int_max, int_min}
use Rattle.std.proofs.lemmas.Int.{ints, to_z-of_z}
use Rattle.exec_paint.proofs.RunLemmas.{run-columns, run-nothing}
use Rattle.exec_paint.proofs.run.run_of.Goals as goal

last : (b x1 e : ℤ) (w : ℕ) → b ≡ int_min x1 e → e ≡ pos w -ℤ pos 1 → b ≡ int_min x1 (pos w -ℤ pos 1)
last b x1 e w f g = f ∙ ap (int_min x1) g

pub returns-then-right-left-clause-columns : goal.returns-then-right-left-clause-columns
returns-then-right-left-clause-columns c u u_in =
    let f0 : SFits w32 c.args.x0 = c.ranges.x0 in
    let f1 : SFits w32 c.args.x1 = c.ranges.x1 in
    let g0 : SFits w32 c.max-left.result = search rules in
    let g1 : SFits w32 c.min-right.result = search rules in
    let e : to_z w32 (of_z w32 (to_z w32 (of_z w32 c.from.result) -ℤ pos 1)) ≡ pos c.args.width -ℤ pos 1 = omega (arith, ints, c.from.ensures) in
    let left : c.max-left.result ≡ int_max c.args.x0 (pos 0) = simp to_z-of_z at c.max-left.ensures.value in
    let right : c.min-right.result ≡ int_min c.args.x1 (pos c.args.width -ℤ pos 1) = c.min-right.ensures.value ∙ rw (to_z-of_z w32 c.args.x1 f1) (ap (int_min c.args.x1) e) in
    let none : c.min-right.result <ℤ c.max-left.result = grind (arith, ints, to_z-of_z, c.if-right-left.true) in
    run-nothing c.args.x0 c.args.x1 c.max-left.result c.min-right.result u c.args.width left right none u_in

pub returns-clause-columns : goal.returns-clause-columns
returns-clause-columns c u u_in =
    let f0 : SFits w32 c.args.x0 = c.ranges.x0 in
    let f1 : SFits w32 c.args.x1 = c.ranges.x1 in
    let g0 : SFits w32 c.max-left.result = search rules in
    let g1 : SFits w32 c.min-right.result = search rules in
    let e : to_z w32 (of_z w32 (to_z w32 (of_z w32 c.from.result) -ℤ pos 1)) ≡ pos c.args.width -ℤ pos 1 = omega (arith, ints, c.from.ensures) in
    let left : c.max-left.result ≡ int_max c.args.x0 (pos 0) = simp to_z-of_z at c.max-left.ensures.value in
    let right : c.min-right.result ≡ int_min c.args.x1 (pos c.args.width -ℤ pos 1) = c.min-right.ensures.value ∙ rw (to_z-of_z w32 c.args.x1 f1) (ap (int_min c.args.x1) e) in
    run-columns c.args.x0 c.args.x1 c.max-left.result c.min-right.result c.unsigned.result c.unsigned-2.result u c.args.width left right
    (simp to_z-of_z at c.unsigned.ensures.value) (simp to_z-of_z at c.unsigned-2.ensures.value) u_in
