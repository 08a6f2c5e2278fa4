-- A job: the first invalid window, and the points that it paints.
use Rattle.std.proofs.Common.{◌≡◌, ℕ, suc, ◌+◌, true, false, ◌||◌, cond, List, [], ◌∷◌, ◌++◌, length, get_or, set, take, drop, Option, Some, None, refl, sym, ap, subst, ◌∙◌, inl, inr, arith}
use Rattle.std.specs.Prelude.{position, count_by}
use Rattle.std.specs.List.{AllByRecursion, sum_by, list_any}
use Rattle.std.proofs.lemmas.Bool.{cases_Bool, or_parts}
use Rattle.std.specs.Option.{option_map_or}
use Rattle.std.proofs.lemmas.List.Sums.{sum_by-cons, sum_by-append}
use Rattle.std.proofs.lemmas.List.{length-take-le, set_at}
use Rattle.std.proofs.lemmas.List.Quantifiers.{position-Some}
use Rattle.gfx_base.specs.declared.point.Point.{Point}
use Rattle.frame.specs.Pictures.{Picture}
use Rattle.scene.specs.declared.win.Win.{Win}
use Rattle.scene.specs.Painting.{Looks}
use Rattle.scene.specs.Damage.{with_invalid, in_patch_at, is_damaged, repainted}
use Rattle.scene.specs.Places.{no_window}
use Rattle.scene.specs.Looks.{screen_with, looks_of as looks_on}
use Rattle.scene.proofs.CallerLemmas.{is_damaged-job}
use Rattle.desk.specs.Setups.{Setup, screen_of, looks_of}
use Rattle.invalidate.specs.Invalidation.{is_invalid}
use Rattle.desk.specs.Jobs.{windows_after_job, picture_after_job}
use Rattle.desk.proofs.FirstLemmas.{splits, none_pass}

-- ---- the windows

pub windows_after_job-parts : (before : List Win) (w : Win) (after : List Win) → AllByRecursion (λ v. is_invalid v ≡ false) before → is_invalid w ≡ true → windows_after_job (before ++ w ∷ after) ≡ before ++ with_invalid w None ∷ after
windows_after_job-parts [] w after valid invalid = rw invalid refl
windows_after_job-parts (v ∷ before) w after valid invalid = rw valid.0 (ap (λ (vs : List Win). v ∷ vs) (windows_after_job-parts before w after valid.1 invalid))

-- ---- the picture

-- what the job of a window leaves
pub job_shows : (setup : Setup) (ws lent : List Win) (which width height : ℕ) (old new : Picture) → position is_invalid ws ≡ Some which → lent ≡ ws → width ≡ setup.config.w → height ≡ setup.config.h
    → new ≡ repainted (looks_on setup.assets (screen_with width height) lent) lent which old → new ≡ picture_after_job setup ws old
job_shows setup ws lent which width height old new first same wide high shows =
    shows
    ∙ ap (λ (vs : List Win). repainted (looks_on setup.assets (screen_with width height) vs) vs which old) same
    ∙ ap (λ (n : ℕ). repainted (looks_on setup.assets (screen_with n height) ws) ws which old) wide
    ∙ ap (λ (n : ℕ). repainted (looks_on setup.assets (screen_with setup.config.w n) ws) ws which old) high
    ∙ sym (ap (λ (o : Option ℕ). option_map_or (λ k. repainted (looks_of setup ws) ws k old) o old) first)

width_of-some : (looks : Looks) (ws : List Win) (o : Option ℕ) (old : Picture) → (option_map_or (λ k. repainted looks ws k old) o old).width ≡ old.width
width_of-some looks ws None old = refl
width_of-some looks ws (Some which) old = refl

height_of-some : (looks : Looks) (ws : List Win) (o : Option ℕ) (old : Picture) → (option_map_or (λ k. repainted looks ws k old) o old).height ≡ old.height
height_of-some looks ws None old = refl
height_of-some looks ws (Some which) old = refl

pub width-job : (setup : Setup) (ws : List Win) (old : Picture) → (picture_after_job setup ws old).width ≡ old.width
width-job setup ws old = width_of-some (looks_of setup ws) ws (position is_invalid ws) old

pub height-job : (setup : Setup) (ws : List Win) (old : Picture) → (picture_after_job setup ws old).height ≡ old.height
height-job setup ws old = height_of-some (looks_of setup ws) ws (position is_invalid ws) old

-- ---- the damage

-- what was damaged before the job of the first invalid window lies in its patch, or is damaged after it
pub damage-job : (setup : Setup) (ws : List Win) (which : ℕ) (p : Point) → position is_invalid ws ≡ Some which
    → is_damaged (looks_of setup ws) ws p ≡ (in_patch_at (looks_of setup ws) ws which p || is_damaged (looks_of setup (windows_after_job ws)) (windows_after_job ws) p)
damage-job setup ws which p first =
    let s = splits is_invalid ws which first in
    let before = take which ws in
    let w = get_or ws which no_window in
    let after = drop (which + 1) ws in
    let all = before ++ w ∷ after in
    let lt = (position-Some is_invalid ws which no_window first).0 in
    let long : length before ≡ which = length-take-le which ws (omega arith) in
    let valid = windows_after_job-parts before w after s.others s.passes in
    let parts : is_damaged (looks_of setup all) all p ≡ (in_patch_at (looks_of setup all) all which p || is_damaged (looks_of setup (windows_after_job all)) (windows_after_job all) p) =
    is_damaged-job setup.assets (screen_of setup) before w after p
    ∙ ap (λ (n : ℕ). in_patch_at (looks_of setup all) all n p || is_damaged (looks_of setup (before ++ with_invalid w None ∷ after)) (before ++ with_invalid w None ∷ after) p) long
    ∙ ap (λ (vs : List Win). in_patch_at (looks_of setup all) all which p || is_damaged (looks_of setup vs) vs p) (sym valid) in
    subst (λ (us : List Win). is_damaged (looks_of setup us) us p ≡ (in_patch_at (looks_of setup us) us which p || is_damaged (looks_of setup (windows_after_job us)) (windows_after_job us) p)) (sym s.parts) parts

-- without an invalid window nothing is done
all_valid : (ws : List Win) → AllByRecursion (λ v. is_invalid v ≡ false) ws → windows_after_job ws ≡ ws
all_valid [] valid = refl
all_valid (w ∷ ws) valid = rw valid.0 (ap (λ (vs : List Win). w ∷ vs) (all_valid ws valid.1))

-- ---- how many jobs are left

pub jobs-parts : (before : List Win) (w : Win) (after : List Win) → is_invalid w ≡ true → count_by is_invalid (before ++ w ∷ after) ≡ suc (count_by is_invalid (before ++ with_invalid w None ∷ after))
jobs-parts before w after invalid =
    let f = λ (v : Win). cond (is_invalid v) 1 0 in
    let one : sum_by f (w ∷ after) ≡ 1 + sum_by f after = sum_by-cons f w after ∙ rw invalid refl in
    let none : sum_by f (with_invalid w None ∷ after) ≡ 0 + sum_by f after = sum_by-cons f (with_invalid w None) after in
    let all = sum_by-append f before (w ∷ after) in
    let left = sum_by-append f before (with_invalid w None ∷ after) in
    omega (arith, all, left, one, none)

none_counts : (ws : List Win) → AllByRecursion (λ v. is_invalid v ≡ false) ws → count_by is_invalid ws ≡ 0
none_counts [] valid = refl
none_counts (w ∷ ws) valid =
    let f = λ (v : Win). cond (is_invalid v) 1 0 in
    let one : sum_by f (w ∷ ws) ≡ 0 + sum_by f ws = sum_by-cons f w ws ∙ rw valid.0 refl in
    let left : sum_by f ws ≡ 0 = none_counts ws valid.1 in
    omega (arith, one, left)

pub none_invalid : (ws : List Win) → position is_invalid ws ≡ None → AllByRecursion (λ v. is_invalid v ≡ false) ws
none_invalid ws e = none_pass is_invalid ws e

pub windows-no_job : (ws : List Win) → position is_invalid ws ≡ None → windows_after_job ws ≡ ws
windows-no_job ws e = all_valid ws (none_invalid ws e)

pub no_jobs : (ws : List Win) → position is_invalid ws ≡ None → count_by is_invalid ws ≡ 0
no_jobs ws e = none_counts ws (none_invalid ws e)

-- ---- by places

pub windows-set : (ws : List Win) (which : ℕ) → position is_invalid ws ≡ Some which → set ws which (with_invalid (get_or ws which no_window) None) ≡ windows_after_job ws
windows-set ws which e =
    let s = splits is_invalid ws which e in
    let before = take which ws in
    let w = get_or ws which no_window in
    let after = drop (which + 1) ws in
    let lt = (position-Some is_invalid ws which no_window e).0 in
    ap (λ (vs : List Win). set vs which (with_invalid w None)) s.parts
    ∙ set_at before w after (with_invalid w None) which (length-take-le which ws (omega arith))
    ∙ sym (windows_after_job-parts before w after s.others s.passes)
    ∙ ap windows_after_job (sym s.parts)

pub jobs-more : (ws : List Win) (which : ℕ) → position is_invalid ws ≡ Some which → count_by is_invalid ws ≡ suc (count_by is_invalid (windows_after_job ws))
jobs-more ws which e =
    let s = splits is_invalid ws which e in
    let before = take which ws in
    let w = get_or ws which no_window in
    let after = drop (which + 1) ws in
    ap (count_by is_invalid) s.parts
    ∙ jobs-parts before w after s.passes
    ∙ ap (λ (vs : List Win). suc (count_by is_invalid vs)) (sym (windows_after_job-parts before w after s.others s.passes) ∙ ap windows_after_job (sym s.parts))

-- ---- whether there is a job

pub none_any : (ws : List Win) → list_any is_invalid ws ≡ false → count_by is_invalid ws ≡ 0
none_any [] none = refl
none_any (w ∷ ws) none =
    let parts = or_parts (is_invalid w) (list_any is_invalid ws) none in
    let f = λ (v : Win). cond (is_invalid v) 1 0 in
    let one : sum_by f (w ∷ ws) ≡ 0 + sum_by f ws = sum_by-cons f w ws ∙ rw parts.0 refl in
    let left : sum_by f ws ≡ 0 = none_any ws parts.1 in
    omega (arith, one, left)

pub any_none : (ws : List Win) → AllByRecursion (λ v. is_invalid v ≡ false) ws → list_any is_invalid ws ≡ false
any_none [] all = refl
any_none (w ∷ ws) all = rw (all.0, any_none ws all.1) refl

any_midst : (before : List Win) (w : Win) (after : List Win) → is_invalid w ≡ true → list_any is_invalid (before ++ w ∷ after) ≡ true
any_midst [] w after invalid = rw invalid refl
any_midst (v ∷ before) w after invalid =
    elim (cases_Bool (is_invalid v)) [
      | inl e ↦ rw e refl
      | inr e ↦ rw e (any_midst before w after invalid)
    ]

pub none_invalid_any : (ws : List Win) → position is_invalid ws ≡ None → list_any is_invalid ws ≡ false
none_invalid_any ws e = any_none ws (none_invalid ws e)

pub some_invalid : (ws : List Win) (which : ℕ) → position is_invalid ws ≡ Some which → list_any is_invalid ws ≡ true
some_invalid ws which e =
    let s = splits is_invalid ws which e in
    ap (list_any is_invalid) s.parts ∙ any_midst (take which ws) (get_or ws which no_window) (drop (which + 1) ws) s.passes
