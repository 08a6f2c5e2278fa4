-- Where a window lies, from where its parent lies.
use Rattle.std.proofs.Common.{◌≡◌, ℕ, zero, suc, ◌-◌, ◌<◌, Bool, true, false, cond, eqb, pos, Option, Some, None, refl, sym, ap, ◌∙◌, arith}
use Rattle.std.specs.Prelude.{unwrap_or, option_map}
use Rattle.gfx_base.specs.declared.point.Point.{Point}
use Rattle.gfx_base.specs.declared.rect.Rect.{Rect}
use Rattle.gfx_base.specs.Rects.{point_at}
use Rattle.scene.specs.Places.{Place, parent_in}
use Rattle.std.proofs.lemmas.Int.{ints}
use Rattle.scene.specs.Clips.{FitsLevels, corner_of, corner_from, clip_from, clip_of, outer_clip}

corner_of-more : (levels : ℕ) (found : ℕ → Option Place) (q : Place) → 0 < levels → corner_of levels found q ≡ corner_from q (unwrap_or (option_map (corner_of (levels - 1) found) (parent_in found q)) (point_at (pos 0) (pos 0)))
corner_of-more zero found q some = absurd (omega arith)
corner_of-more (suc levels) found q some = let one : suc levels - 1 ≡ levels = omega arith in rw one refl

clip_of-more : (levels : ℕ) (screen : Rect) (found : ℕ → Option Place) (q : Place) → 0 < levels
    → clip_of levels screen found q ≡ clip_from q (corner_of levels found q) (outer_clip screen (eqb q.parent 0) (option_map (clip_of (levels - 1) screen found) (parent_in found q)))
clip_of-more zero screen found q some = absurd (omega arith)
clip_of-more (suc levels) screen found q some = let one : suc levels - 1 ≡ levels = omega arith in rw one refl

-- a window with a parent has its handle
pub has_parent : (b : Bool) (o : Option Place) (parent : Place) → cond b None o ≡ Some parent → b ≡ false
has_parent true o parent e = absurd cc
has_parent false o parent e = refl

pub corner_in_parent : (levels : ℕ) (found : ℕ → Option Place) (q parent : Place) (outer : Point) → 0 < levels → parent_in found q ≡ Some parent → outer ≡ corner_of (levels - 1) found parent → corner_from q outer ≡ corner_of levels found q
corner_in_parent levels found q parent outer some is at = sym (corner_of-more levels found q some ∙ rw is (ap (corner_from q) (sym at)))

pub corner_without_parent : (levels : ℕ) (found : ℕ → Option Place) (q : Place) (outer : Point) → 0 < levels → parent_in found q ≡ None → outer ≡ point_at (pos 0) (pos 0) → corner_from q outer ≡ corner_of levels found q
corner_without_parent levels found q outer some is at = sym (corner_of-more levels found q some ∙ rw is (ap (corner_from q) (sym at)))

pub clip_in_parent : (levels : ℕ) (screen : Rect) (found : ℕ → Option Place) (q parent : Place) (corner : Point) (outer : Rect) → 0 < levels → parent_in found q ≡ Some parent → corner ≡ corner_of levels found q
    → outer ≡ clip_of (levels - 1) screen found parent → clip_from q corner outer ≡ clip_of levels screen found q
clip_in_parent levels screen found q parent corner outer some is here at =
    sym (clip_of-more levels screen found q some ∙ rw (is, has_parent (eqb q.parent 0) (found q.parent) parent is, ← here, ← at) refl)

pub clip_without_parent : (levels : ℕ) (screen : Rect) (found : ℕ → Option Place) (q : Place) (corner : Point) (outer : Rect) → 0 < levels → parent_in found q ≡ None → corner ≡ corner_of levels found q
    → outer ≡ outer_clip screen (eqb q.parent 0) None → clip_from q corner outer ≡ clip_of levels screen found q
clip_without_parent levels screen found q corner outer some is here at = sym (clip_of-more levels screen found q some ∙ rw (is, ← here, ← at) refl)

-- any number of places can add up to the screen's corner
pub FitsLevels-top_left : (levels : ℕ) (p : Point) → p ≡ point_at (pos 0) (pos 0) → FitsLevels levels p
FitsLevels-top_left levels p e =
    let x : p.x ≡ pos 0 = ap (λ (q : Point). q.x) e in
    let y : p.y ≡ pos 0 = ap (λ (q : Point). q.y) e in
    ((omega (arith, ints), omega (arith, ints)), (omega (arith, ints), omega (arith, ints)))
