use Rattle.std.proofs.Common.{◌≡◌, ℕ, ℤ, pos, arith}
use Rattle.std.specs.Prelude.{IsTrue, ◌≤ℤ◌, ◌<ℤ◌}
use Rattle.std.proofs.lemmas.Int.{ints}
use Rattle.gfx_base.specs.Range.{is_within}
use Rattle.draw_bench.proofs.draw_case.Goals as goal

inside : (width : ℕ) (x : ℤ) → width ≡ 1024 → IsTrue (is_within (pos 0) (pos 1023) x) → (pos 0 ≤ℤ x) × (x <ℤ pos width)
unfolding is_within
inside width x e h = (grind (arith, ints), grind (arith, ints))

pub draw-requires-clause-spans : goal.draw-requires-clause-spans
draw-requires-clause-spans c = (λ x here. inside c.loop-y.target.picture.width x c.loop-y.invariant.width here, tt)
