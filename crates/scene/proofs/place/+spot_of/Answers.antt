use Rattle.std.proofs.Common.{◌≡◌, ℕ, ◌-◌, ◌<◌, Some, None, sym, ap, subst, ◌∙◌, arith}
use Rattle.std.specs.Prelude.{option_map}
use Rattle.scene.specs.Places.{place_of, place_at, parent_in}
use Rattle.scene.specs.Clips.{FitsLevels}
use Rattle.scene.proofs.SpotLemmas.{corner_in_parent, corner_without_parent, clip_in_parent, clip_without_parent, FitsLevels-top_left}
use Rattle.scene.proofs.place.+spot_of.Goals as goal

pub returns-in-Some : goal.returns-in-Some
returns-in-Some t c =
    let levels = c.args.levels in
    let some : 0 < levels = omega arith in
    let found = place_at c.args.stack.now in
    let q = place_of c.args.w.now in
    let is : parent_in found q ≡ Some (place_of c.in-Some.parent.now) = sym c.parent_of.ensures ∙ ap (option_map (λ p. place_of p.now)) c.in-Some.is in
    let corner = c.spot_within.ensures.corner ∙ corner_in_parent levels found q _ _ some is c.spot_of.ensures.corner in
    record {
      corner = corner;
      fits = subst (λ (n : ℕ). FitsLevels n c.spot_within.result.corner) (omega arith) (c.spot_within.ensures.fits (levels - 1) c.spot_of.ensures.fits);
      clip = c.spot_within.ensures.clip ∙ clip_in_parent levels c.args.screen.now found q _ _ _ some is corner c.spot_of.ensures.clip;
    }

pub returns-in-None : goal.returns-in-None
returns-in-None t c =
    let levels = c.args.levels in
    let some : 0 < levels = omega arith in
    let found = place_at c.args.stack.now in
    let q = place_of c.args.w.now in
    let is : parent_in found q ≡ None = sym c.parent_of.ensures ∙ ap (option_map (λ p. place_of p.now)) c.in-None.is in
    let corner = c.spot_within-in-None.ensures.corner ∙ corner_without_parent levels found q _ some is c.outermost.ensures.corner in
    record {
      corner = corner;
      fits = subst (λ (n : ℕ). FitsLevels n c.spot_within-in-None.result.corner) (omega arith) (c.spot_within-in-None.ensures.fits (levels - 1) (FitsLevels-top_left (levels - 1) c.outermost.result.corner c.outermost.ensures.corner));
      clip = c.spot_within-in-None.ensures.clip ∙ clip_without_parent levels c.args.screen.now found q _ _ some is corner c.outermost.ensures.clip;
    }
