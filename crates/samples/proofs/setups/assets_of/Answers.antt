use Rattle.std.proofs.Common.{◌≡◌, List, [], length, ap, sym, subst, arith, ◌≤◌}
use Rattle.std.specs.List.{AllByRecursion}
use Rattle.paint_ops.specs.Kinds.{Class}
use Rattle.paint_ops.specs.Soundness.{IsClass}
use Rattle.samples.proofs.setups.assets_of.Goals as goal

none : {X : Type 0} (xs : List X) → xs ≡ [] → length xs ≡ 0
none xs e = ap length e

pub returns-in-Ok-clause-sound : goal.returns-in-Ok-clause-sound
returns-in-Ok-clause-sound n c = record {
  few_classes = subst (λ (cs : List Class). length cs ≤ 64) (sym c.in-Ok.ensures.items) c.requires.few;
  few_fonts = omega (arith, none c.new.result.items c.new.ensures.items);
  few_bitmaps = omega (arith, none c.new-in-Ok.result.items c.new-in-Ok.ensures.items);
  few_strings = omega (arith, none c.new-in-Ok-2.result.items c.new-in-Ok-2.ensures.items);
  classes = subst (AllByRecursion (IsClass _)) (sym c.in-Ok.ensures.items) (c.requires.classes _);
}
