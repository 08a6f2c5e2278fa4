use Rattle.std.proofs.Common.{◌≡◌, Bool, true, false, sym, ◌∙◌, refl}
use Rattle.std.specs.Bool.{OnTrue}
use Rattle.std.specs.Cmp.Rules.{signed_items}
use Rattle.window_list.proofs.StepLemmas.{option_same, rect_same}
use Rattle.window_list.proofs.windows.are_alike.Goals as goal

on_true : (b : Bool) (P : Type 0) → (b ≡ true → P) → OnTrue b P
on_true true P p = p refl
on_true false P p = tt

pub returns-then-eq : goal.returns-then-eq
returns-then-eq c =
    on_true c.eq-then-eq.result _ (λ e. (
      option_same _ c.args.w.now.invalid c.args.v.now.invalid rect_same (sym c.eq.ensures ∙ c.if-eq.true),
      (signed_items c.args.w.now.values c.args.v.now.values).0 (sym c.eq-then-eq.ensures ∙ e),
    ))
