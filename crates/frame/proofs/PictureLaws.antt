-- The points of pictures: pictures are equal where their points are, and what a change does to a point.
use Rattle.std.proofs.Common.{◌≡◌, ℕ, ◌+◌, ◌*◌, ◌/◌, ◌%◌, ◌<◌, ◌≤◌, Bool, true, false, cond, ◌||◌, List, length, get_or, replicate, map, drop, refl, sym, ap, ◌∙◌, arith}
use Rattle.std.specs.List.{range_with_len}
use Rattle.std.proofs.lemmas.List.{ext_get_or, get_or-take, get_or-drop, get_or-replicate, length-take-le, length-drop}
use Rattle.std.proofs.lemmas.List.FromFn.{fill_by_all, get_or-map-range_with_len, length-map-range_with_len}
use Rattle.std.proofs.lemmas.Nat.{div-add-mod', div-mul-add, mod-mul-add, mul-add-lt, div_below, mod_below, row_fits}
use Rattle.frame.specs.Pictures.{Picture, IsShape, HasShape, colour_at, row_at, picture_of, changed, changed_points}

-- ---- pictures by their points

-- pictures of the same sides and points
same_parts : (w h v k : ℕ) (ps qs : List ℕ) → w ≡ v → h ≡ k → ps ≡ qs → ◌≡◌ {A = Picture} (record { width = w; height = h; points = ps }) (record { width = v; height = k; points = qs })
same_parts w h v k ps qs e f g = rw (e, f, g) refl

-- the colour at a place is the colour of the point in its column and row
colour_at-place : (p : Picture) (i : ℕ) → get_or p.points i 0 ≡ colour_at p (i % p.width) (i / p.width)
colour_at-place p i = ap (λ (k : ℕ). get_or p.points k 0) (sym (div-add-mod' i p.width))

-- pictures of the same sides are equal where they agree at each point inside
pub equal_by_points : (p q : Picture) → HasShape p → HasShape q → p.width ≡ q.width → p.height ≡ q.height → ((x y : ℕ) → x < p.width → y < p.height → colour_at p x y ≡ colour_at q x y) → p ≡ q
equal_by_points p q shape other same_width same_height same =
    let count : length p.points ≡ length q.points = shape.count_is ∙ rw (same_height, same_width) (sym other.count_is) in
    let points : p.points ≡ q.points = ext_get_or 0 p.points q.points count (λ i lt.
    colour_at-place p i
    ∙ same (i % p.width) (i / p.width) (mod_below i p.width shape.some_width) (div_below i p.width p.height shape.some_width (rw shape.count_is at lt))
    ∙ rw same_width (sym (colour_at-place q i))) in
    same_parts _ _ _ _ _ _ same_width same_height points

-- the picture of a function has the function's colour at each point
pub colour_at-picture_of : (w h : ℕ) (f : ℕ → ℕ → ℕ) (x y : ℕ) → x < w → y < h → colour_at (picture_of w h f) x y ≡ f x y
colour_at-picture_of w h f x y x_in y_in =
    get_or-map-range_with_len (λ i. f (i % w) (i / w)) 0 (h * w) (y * w + x) (y * w + x) 0 (omega (arith, mul-add-lt y w x h y_in x_in)) (omega arith)
    ∙ rw (mod-mul-add y w x x_in, div-mul-add y w x x_in) refl

pub length-picture_of : (w h : ℕ) (f : ℕ → ℕ → ℕ) → length (picture_of w h f).points ≡ h * w
length-picture_of w h f = length-map-range_with_len (λ i. f (i % w) (i / w)) 0 (h * w)

-- the picture of a function has the shape of its sides
pub has_shape-picture_of : (w h count : ℕ) (f : ℕ → ℕ → ℕ) → IsShape w h count → HasShape (picture_of w h f)
has_shape-picture_of w h count f shape = record {
  some_width = shape.some_width;
  most_width = shape.most_width;
  some_height = shape.some_height;
  most_height = shape.most_height;
  count_is = length-picture_of w h f;
}

-- each point of a black picture is black
pub colour_at-black : (p : Picture) (x y : ℕ) → p.points ≡ replicate (p.height * p.width) 0 → x < p.width → y < p.height → colour_at p x y ≡ 0
colour_at-black p x y black x_in y_in = rw black (get_or-replicate (p.height * p.width) (y * p.width + x) 0 0 (omega (arith, mul-add-lt y p.width x p.height y_in x_in)))

-- a picture is the picture of its own colours
pub picture_of-colour_at : (p : Picture) → HasShape p → p ≡ picture_of p.width p.height (colour_at p)
picture_of-colour_at p shape = equal_by_points p (picture_of p.width p.height (colour_at p)) shape (has_shape-picture_of p.width p.height (length p.points) (colour_at p) shape) refl refl (λ x y x_in y_in. sym (colour_at-picture_of p.width p.height (colour_at p) x y x_in y_in))

-- a picture that has a function's colour at each point is the function's picture
pub picture_of-from_points : (p : Picture) (f : ℕ → ℕ → ℕ) → HasShape p → ((x y : ℕ) → x < p.width → y < p.height → colour_at p x y ≡ f x y) → p ≡ picture_of p.width p.height f
picture_of-from_points p f shape same = equal_by_points p (picture_of p.width p.height f) shape (has_shape-picture_of p.width p.height (length p.points) f shape) refl refl (λ x y x_in y_in. same x y x_in y_in ∙ sym (colour_at-picture_of p.width p.height f x y x_in y_in))

-- a row is the list of its points' colours
pub row_at-points : (p : Picture) (y : ℕ) → HasShape p → y < p.height → row_at p y ≡ map (λ x. colour_at p x y) (range_with_len 0 p.width)
row_at-points p y shape y_in =
    let fits : y * p.width + p.width ≤ p.height * p.width = row_fits y p.width p.height p.width y_in (omega arith) in
    fill_by_all (λ x. colour_at p x y) (row_at p y) p.width 0 (length-take-le p.width (drop (y * p.width) p.points) (omega (arith, length-drop (y * p.width) p.points, shape.count_is))) (λ x x_in. get_or-take p.width (drop (y * p.width) p.points) x 0 x_in ∙ get_or-drop (y * p.width) p.points x 0)

-- ---- changes

-- a changed picture is the picture of a choice at each point
pub changed-picture_of : (p : Picture) (here : ℕ → ℕ → Bool) (colour : ℕ → ℕ → ℕ) → changed p here colour ≡ picture_of p.width p.height (λ x y. cond (here x y) (colour x y) (colour_at p x y))
unfolding changed_points
changed-picture_of p here colour = refl

-- a changed picture has its new colour at the points that the test names, and its old colour at the others
pub colour_at-changed : (p : Picture) (here : ℕ → ℕ → Bool) (colour : ℕ → ℕ → ℕ) (x y : ℕ) → x < p.width → y < p.height → colour_at (changed p here colour) x y ≡ cond (here x y) (colour x y) (colour_at p x y)
unfolding changed_points
colour_at-changed p here colour x y x_in y_in = colour_at-picture_of p.width p.height (λ u v. cond (here u v) (colour u v) (colour_at p u v)) x y x_in y_in

-- it keeps its shape
pub has_shape-changed : (p : Picture) (here : ℕ → ℕ → Bool) (colour : ℕ → ℕ → ℕ) → HasShape p → HasShape (changed p here colour)
unfolding changed_points
has_shape-changed p here colour shape = has_shape-picture_of p.width p.height (length p.points) (λ u v. cond (here u v) (colour u v) (colour_at p u v)) shape

-- a picture that has the new colour at the points that the test names, and the old one at the others, is the changed one
pub changed-from_points : (p q : Picture) (here : ℕ → ℕ → Bool) (colour : ℕ → ℕ → ℕ) → HasShape p → HasShape q → q.width ≡ p.width → q.height ≡ p.height
    → ((x y : ℕ) → x < p.width → y < p.height → colour_at q x y ≡ cond (here x y) (colour x y) (colour_at p x y)) → q ≡ changed p here colour
changed-from_points p q here colour shape other same_width same_height same =
    sym (equal_by_points (changed p here colour) q (has_shape-changed p here colour shape) other (sym same_width) (sym same_height) (λ x y x_in y_in. colour_at-changed p here colour x y x_in y_in ∙ sym (same x y x_in y_in)))

-- a test that names no point inside changes nothing
pub changed-none : (p : Picture) (here : ℕ → ℕ → Bool) (colour : ℕ → ℕ → ℕ) → HasShape p → ((x y : ℕ) → x < p.width → y < p.height → here x y ≡ false) → changed p here colour ≡ p
changed-none p here colour shape none = sym (changed-from_points p p here colour shape shape refl refl (λ x y x_in y_in. rw (none x y x_in y_in) refl))

-- a choice depends on its first value only where the test holds
cond-same : (test : Bool) (a b old : ℕ) → (test ≡ true → a ≡ b) → cond test a old ≡ cond test b old
cond-same true a b old same = same refl
cond-same false a b old same = refl

-- tests and colours that agree inside make the same change
pub changed-same : (p : Picture) (here there : ℕ → ℕ → Bool) (colour other : ℕ → ℕ → ℕ) → HasShape p → ((x y : ℕ) → x < p.width → y < p.height → here x y ≡ there x y) → ((x y : ℕ) → x < p.width → y < p.height → there x y ≡ true → colour x y ≡ other x y)
    → changed p here colour ≡ changed p there other
changed-same p here there colour other shape same_test same_colour =
    changed-from_points p (changed p here colour) there other shape (has_shape-changed p here colour shape) refl refl (λ x y x_in y_in.
    colour_at-changed p here colour x y x_in y_in ∙ rw (same_test x y x_in y_in) (cond-same (there x y) (colour x y) (other x y) (colour_at p x y) (same_colour x y x_in y_in)))

last_choice : (second first : Bool) (a b old : ℕ) → cond second a (cond first b old) ≡ cond (second || first) (cond second a b) old
last_choice true first a b old = refl
last_choice false first a b old = refl

-- two changes, one after the other, are one
pub changed-changed : (p : Picture) (here there : ℕ → ℕ → Bool) (colour other : ℕ → ℕ → ℕ) → HasShape p
    → changed (changed p here colour) there other ≡ changed p (λ x y. there x y || here x y) (λ x y. cond (there x y) (other x y) (colour x y))
changed-changed p here there colour other shape =
    let first = has_shape-changed p here colour shape in
    changed-from_points p (changed (changed p here colour) there other) (λ x y. there x y || here x y) (λ x y. cond (there x y) (other x y) (colour x y)) shape
    (has_shape-changed (changed p here colour) there other first)
    refl refl
    (λ x y x_in y_in.
    colour_at-changed (changed p here colour) there other x y x_in y_in
    ∙ rw (colour_at-changed p here colour x y x_in y_in) (last_choice (there x y) (here x y) (other x y) (colour x y) (colour_at p x y)))
