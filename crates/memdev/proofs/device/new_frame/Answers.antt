use Rattle.std.proofs.Common.{◌≡◌, ℕ, ◌-◌, sym, ap, ◌∙◌, subst, arith}
use Rattle.frame.specs.Areas.{in_span}
use Rattle.frame.specs.Canvases.{Canvas}
use Rattle.frame.specs.Pictures.{Picture, HasShape, colour_at, changed}
use Rattle.frame.proofs.CallerLemmas.{colour_at-changed, has_shape-changed}
use Rattle.memdev.proofs.FrameLemmas.{whole_row, picked, one_row_more, is_filled}
use Rattle.memdev.proofs.device.new_frame.Goals as goal

pub loop-y-preserved : goal.loop-y-preserved
loop-y-preserved c =
    let held = c.loop-y.invariant in
    let before = c.loop-y.frame.picture in
    let row = in_span c.loop-y.y 0 (c.args.w - 1) in
    let colour : ℕ → ℕ → ℕ = λ _ _. c.args.colour in
    let after : c.fill_span.new.self.picture ≡ changed before row colour = ap (λ (f : Canvas). f.picture) c.fill_span.ensures in
    record {
      shape = subst (λ (p : Picture). HasShape p) (sym after) (has_shape-changed before row colour held.shape);
      width = ap (λ (p : Picture). p.width) after ∙ held.width;
      height = ap (λ (p : Picture). p.height) after ∙ held.height;
      rows = λ x v inside up.
          let here = colour_at-changed before row colour x v (omega arith) (omega arith) in
          picked (row x v) _ c.args.colour _ (ap (λ (p : Picture). colour_at p x v) after ∙ here) (λ off. held.rows x v inside (whole_row c.loop-y.y _ x v (omega arith) up off));
      writes = ap (λ (f : Canvas). f.writes) c.fill_span.ensures ∙ one_row_more _ c.loop-y.y c.args.w c.args.h _ held.writes (omega arith) (omega arith) (omega arith) (omega arith);
    }

pub returns : goal.returns
returns c =
    let held = c.loop-y.invariant in
    let at_end : c.loop-y.y ≡ c.args.h = omega arith in
    is_filled c.loop-y.frame c.args.w c.args.h c.args.colour held.shape held.width held.height (λ x v inside up. held.rows x v inside (omega arith)) (rw (← at_end) held.writes)
