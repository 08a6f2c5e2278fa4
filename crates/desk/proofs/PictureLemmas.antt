-- Pictures, and what jobs show: outside the damage the picture stays the painter's.
use Rattle.std.proofs.Common.{◌≡◌, ℕ, pos, zero, suc, ◌+◌, ◌*◌, ◌/◌, ◌%◌, ◌<◌, ◌≤◌, Bool, true, false, ◌&&◌, cond, List, ◌∷◌, map, Option, Some, None, refl, sym, ap, ◌∙◌, inl, inr, arith}
use Rattle.std.specs.Prelude.{position}
use Rattle.std.specs.Option.{option_map_or}
use Rattle.std.specs.List.{range_with_len}
use Rattle.std.proofs.lemmas.Bool.{cases_Bool, or_from}
use Rattle.std.proofs.lemmas.Nat.{div_below}
use Rattle.std.proofs.Math.Nat.{mod-lt, mul-zero}
use Rattle.gfx_base.specs.declared.point.Point.{Point}
use Rattle.gfx_base.specs.Rects.{point_at}
use Rattle.scene.specs.declared.win.Win.{Win}
use Rattle.scene.specs.Painting.{Looks, painted}
use Rattle.scene.specs.Damage.{in_patch_at, is_damaged, repainted}
use Rattle.scene.proofs.CallerLemmas.{painted-same}
use Rattle.frame.specs.Pictures.{Picture, picture_of, colour_at, changed}
use Rattle.frame.proofs.CallerLemmas.{colour_at-changed, changed-picture_of}
use Rattle.desk.specs.Setups.{Setup, screen_of, looks_of}
use Rattle.invalidate.specs.Invalidation.{is_invalid}
use Rattle.desk.specs.Jobs.{windows_after_job, picture_after_job}
use Rattle.desk.specs.Desks.{Desk, after_job}
use Rattle.desk.specs.Stains.{Stain, job_paints, without_patch}
use Rattle.desk.specs.Promises.{IsRightOutside}
use Rattle.desk.proofs.JobLemmas.{damage-job, windows-no_job}
use Rattle.desk.proofs.IgnoreLemmas.{bare-job}

-- ---- pictures

same_list : (a n : ℕ) (f g : ℕ → ℕ) → ((i : ℕ) → a ≤ i → i < a + n → f i ≡ g i) → map f (range_with_len a n) ≡ map g (range_with_len a n)
same_list a zero f g same = refl
same_list a (suc n) f g same =
    ap (λ (c : ℕ). c ∷ map f (range_with_len (a + 1) n)) (same a (omega arith) (omega arith))
    ∙ ap (λ (cs : List ℕ). g a ∷ cs) (same_list (a + 1) n f g (λ i low high. same i (omega arith) (omega arith)))

abbrev picture_with : ℕ → ℕ → List ℕ → Picture
picture_with w h points = record { width = w; height = h; points = points }

wide_of : (w h i : ℕ) → i < h * w → 0 < w
wide_of zero h i less = let none : h * 0 ≡ 0 = mul-zero h in absurd (omega arith)
wide_of (suc w) h i less = omega arith

pub picture_of-same : (w h : ℕ) (f g : ℕ → ℕ → ℕ) → ((x y : ℕ) → x < w → y < h → f x y ≡ g x y) → picture_of w h f ≡ picture_of w h g
picture_of-same w h f g same =
    ap (picture_with w h) (same_list 0 (h * w) (λ i. f (i % w) (i / w)) (λ i. g (i % w) (i / w)) (λ i low high.
    let inside : i < h * w = omega arith in
    let wide : 0 < w = wide_of w h i inside in
    same (i % w) (i / w) (mod-lt i wide) (div_below i w h wide inside)))

-- ---- a job

-- a picture of these sides, with a colour at each point
pub record IsPictured (w h : ℕ) (p : Picture) : Type 0 where
  pub colours : ℕ → ℕ → ℕ
  pub is : p ≡ picture_of w h colours

pub pictured_changed : (w h : ℕ) (here : ℕ → ℕ → Bool) (new : ℕ → ℕ → ℕ) (p : Picture) → IsPictured w h p → IsPictured w h (changed p here new)
pictured_changed w h here new p is =
    let colours : ℕ → ℕ → ℕ = λ x y. cond (here x y) (new x y) (colour_at p x y) in
    record {
      colours = colours;
      is =
          changed-picture_of p here new
          ∙ ap (λ (n : ℕ). picture_of n p.height colours) (ap (λ (q : Picture). q.width) is.is)
          ∙ ap (λ (n : ℕ). picture_of w n colours) (ap (λ (q : Picture). q.height) is.is);
    }

pub pictured_some : (w h : ℕ) (looks : Looks) (ws : List Win) (o : Option ℕ) (p : Picture) → IsPictured w h p → IsPictured w h (option_map_or (λ which. repainted looks ws which p) o p)
pictured_some w h looks ws None p is = is
pictured_some w h looks ws (Some which) p is = pictured_changed w h _ _ p is

-- the colour of a point after the job of the first invalid window
colour_at-job : (setup : Setup) (ws : List Win) (which : ℕ) (p : Picture) (x y : ℕ) → position is_invalid ws ≡ Some which → x < p.width → y < p.height
    → colour_at (picture_after_job setup ws p) x y ≡ cond (in_patch_at (looks_of setup ws) ws which (point_at (pos x) (pos y))) (painted (looks_of setup ws) ws (point_at (pos x) (pos y))) (colour_at p x y)
colour_at-job setup ws which p x y first x_in y_in =
    let looks = looks_of setup ws in
    ap (λ (o : Option ℕ). colour_at (option_map_or (λ k. repainted looks ws k p) o p) x y) first
    ∙ colour_at-changed p (λ u v. in_patch_at looks ws which (point_at (pos u) (pos v))) (λ u v. painted looks ws (point_at (pos u) (pos v))) x y x_in y_in

painted-job : (setup : Setup) (ws : List Win) (p : Point) → painted (looks_of setup (windows_after_job ws)) (windows_after_job ws) p ≡ painted (looks_of setup ws) ws p
painted-job setup ws p = painted-same setup.assets (screen_of setup) ws (windows_after_job ws) p (bare-job ws)

-- a job that paints the point takes it out of the stain, and another one leaves it there
job_leaves : (setup : Setup) (ws : List Win) (o : Option ℕ) (stain : Stain) (p : Point) → position is_invalid ws ≡ o → without_patch setup ws stain p ≡ false → option_map_or (λ which. in_patch_at (looks_of setup ws) ws which p) o false ≡ false → stain p ≡ false
job_leaves setup ws o stain p first clean there =
    let paints : job_paints setup ws p ≡ false = ap (λ (k : Option ℕ). option_map_or (λ which. in_patch_at (looks_of setup ws) ws which p) k false) first ∙ there in
    and_true (stain p) (rw paints at clean)
  where
    and_true : (b : Bool) → (b && true) ≡ false → b ≡ false
    and_true true e = e
    and_true false e = refl

pub job_covers : (setup : Setup) (s : Desk) (stain : Stain) (o : Option ℕ) → position is_invalid s.windows ≡ o → IsPictured setup.config.w setup.config.h s.picture → IsRightOutside setup s stain → IsRightOutside setup (after_job setup s) (without_patch setup s.windows stain)
job_covers setup s stain None none is covers x y x_in y_in outside clean =
    let p : Point = point_at (pos x) (pos y) in
    let same = windows-no_job s.windows none in
    ap (λ (o : Option ℕ). colour_at (option_map_or (λ k. repainted (looks_of setup s.windows) s.windows k s.picture) o s.picture) x y) none
    ∙ covers x y x_in y_in (ap (λ (vs : List Win). is_damaged (looks_of setup vs) vs p) (sym same) ∙ outside) (job_leaves setup s.windows None stain p none clean refl)
    ∙ sym (painted-job setup s.windows p)
job_covers setup s stain (Some which) first is covers x y x_in y_in outside clean =
    let p : Point = point_at (pos x) (pos y) in
    let wide : x < s.picture.width = rw (ap (λ (q : Picture). q.width) is.is) x_in in
    let high : y < s.picture.height = rw (ap (λ (q : Picture). q.height) is.is) y_in in
    colour_at-job setup s.windows which s.picture x y first wide high
    ∙ elim (cases_Bool (in_patch_at (looks_of setup s.windows) s.windows which p)) [
      | inl here ↦ rw here (sym (painted-job setup s.windows p))
      | inr there ↦
          rw there
          (covers x y x_in y_in
          (damage-job setup s.windows which p first ∙ or_from (in_patch_at (looks_of setup s.windows) s.windows which p) (is_damaged (looks_of setup (windows_after_job s.windows)) (windows_after_job s.windows) p) there outside)
          (job_leaves setup s.windows (Some which) stain p first clean there)
          ∙ sym (painted-job setup s.windows p))
    ]
