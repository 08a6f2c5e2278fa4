use Rattle.std.proofs.Common.{◌≡◌, refl, ap, ◌∙◌, rules, w32}
use Rattle.std.proofs.lemmas.Int.{to_z-of_z}
use mir.Val.{SFits}
use Rattle.gfx_base.specs.Rects.{canonical, meet}
use Rattle.gfx_base.proofs.RectLemmas.{same_rect, has-meet, meet-empty}
use Rattle.gfx_base.proofs.rect.Rect.meet.Goals as goal

pub returns : goal.returns
unfolding meet
returns c =
    let a = c.args.self.now in
    let b = c.args.other.now in
    let a0 : SFits w32 a.x0 = search rules in
    let a1 : SFits w32 a.x1 = search rules in
    let a2 : SFits w32 a.y0 = search rules in
    let a3 : SFits w32 a.y1 = search rules in
    let b0 : SFits w32 b.x0 = search rules in
    let b1 : SFits w32 b.x1 = search rules in
    let b2 : SFits w32 b.y0 = search rules in
    let b3 : SFits w32 b.y1 = search rules in
    let f0 : SFits w32 c.max.result = search rules in
    let f1 : SFits w32 c.max-2.result = search rules in
    let f2 : SFits w32 c.min.result = search rules in
    let f3 : SFits w32 c.min-2.result = search rules in
    let v : c.canonical.result ≡ meet a b = c.canonical.ensures ∙ ap canonical (same_rect _ _ _ _ _ _ _ _ (to_z-of_z w32 c.max.result f0 ∙ simp to_z-of_z at c.max.ensures.value) (to_z-of_z w32 c.max-2.result f1 ∙ simp to_z-of_z at c.max-2.ensures.value) (to_z-of_z w32 c.min.result f2 ∙ simp to_z-of_z at c.min.ensures.value) (to_z-of_z w32 c.min-2.result f3 ∙ simp to_z-of_z at c.min-2.ensures.value)) in
    rw v (record { value = refl; points = has-meet a b; empty = meet-empty a b })
