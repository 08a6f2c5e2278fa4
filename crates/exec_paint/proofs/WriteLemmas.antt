-- Points that are written once: two writings, one after the other, as one.
use Rattle.std.proofs.Common.{◌≡◌, ℕ, ◌+◌, ◌%◌, ◌^◌, ◌<◌, Bool, true, false, cond, ◌||◌, refl, sym, ap, ◌∙◌}
use Rattle.frame.specs.Areas.{points_in}
use Rattle.frame.specs.Canvases.{Canvas}
use Rattle.frame.specs.Pictures.{Picture, HasShape, changed}
use Rattle.frame.proofs.CallerLemmas.{changed-none, changed-same, changed-changed, points_in-same, points_in-none, points_in-or, canvas_is, no_more, some_more}
use Rattle.exec_paint.specs.Writes.{written_once}

-- a change keeps the sides, and so what a test names
points_in-changed : (p : Picture) (here there : ℕ → ℕ → Bool) (colour : ℕ → ℕ → ℕ) → points_in (changed p here colour) there ≡ points_in p there
unfolding points_in
points_in-changed p here there colour = refl

-- nothing is written where the test names no point
pub written-none : (f : Canvas) (here : ℕ → ℕ → Bool) (colour : ℕ → ℕ → ℕ) → HasShape f.picture → f.writes < 2 ^ 64 → ((x y : ℕ) → x < f.picture.width → y < f.picture.height → here x y ≡ false) → f ≡ written_once f here colour
written-none f here colour shape below none = canvas_is f.picture _ f.writes _ (sym (changed-none f.picture here colour shape none)) (no_more f.writes _ below (points_in-none f.picture here shape none))

-- tests and colours that agree inside
pub written-same : (f : Canvas) (here there : ℕ → ℕ → Bool) (colour other : ℕ → ℕ → ℕ) → HasShape f.picture → ((x y : ℕ) → x < f.picture.width → y < f.picture.height → here x y ≡ there x y)
    → ((x y : ℕ) → x < f.picture.width → y < f.picture.height → there x y ≡ true → colour x y ≡ other x y) → written_once f here colour ≡ written_once f there other
written-same f here there colour other shape same_test same_colour =
    canvas_is _ _ _ _ (changed-same f.picture here there colour other shape same_test same_colour) (ap (λ (n : ℕ). (f.writes + n) % 2 ^ 64) (points_in-same f.picture here there shape same_test))

either : (b : Bool) (c : ℕ) → cond b c c ≡ c
either true c = refl
either false c = refl

swap : (a b : Bool) → (b || a) ≡ (a || b)
swap true true = refl
swap true false = refl
swap false true = refl
swap false false = refl

-- two writings, one after the other, of points of which none is in both, write the points of both once
pub written-more : (f g h : Canvas) (first second both : ℕ → ℕ → Bool) (colour : ℕ → ℕ → ℕ) → HasShape f.picture
    → ((x y : ℕ) → x < f.picture.width → y < f.picture.height → (first x y || second x y) ≡ both x y)
    → ((x y : ℕ) → x < f.picture.width → y < f.picture.height → first x y ≡ true → second x y ≡ false)
    → g ≡ written_once f first colour → h ≡ written_once g second colour → h ≡ written_once f both colour
written-more f g h first second both colour shape agree apart before step =
    let p = f.picture in
    let count : points_in p both ≡ points_in p first + points_in p second = sym (points_in-same p (λ x y. first x y || second x y) both shape agree) ∙ points_in-or p first second shape apart in
    step ∙ ap (λ (k : Canvas). written_once k second colour) before
    ∙ canvas_is (changed (changed p first colour) second colour) (changed p both colour) _ _
    (changed-changed p first second colour colour shape
    ∙ changed-same p (λ x y. second x y || first x y) both (λ x y. cond (second x y) (colour x y) (colour x y)) colour shape (λ x y x_in y_in. swap (first x y) (second x y) ∙ agree x y x_in y_in) (λ x y x_in y_in h. either (second x y) (colour x y)))
    (ap (λ (n : ℕ). ((f.writes + points_in p first) % 2 ^ 64 + n) % 2 ^ 64) (points_in-changed p first second colour) ∙ some_more f.writes (points_in p first) (points_in p second) (points_in p both) count)
