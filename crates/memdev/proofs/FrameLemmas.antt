-- A frame that is filled row by row.
use Rattle.std.proofs.Common.{◌≡◌, ℕ, ◌+◌, ◌*◌, ◌^◌, ◌%◌, ◌<◌, ◌≤◌, Bool, true, false, cond, refl, sym, ◌∙◌, arith}
use Rattle.std.proofs.lemmas.Bool.Decides.{nat_tests}
use Rattle.std.proofs.lemmas.List.{get_or-replicate, length-replicate}
use Rattle.std.proofs.lemmas.Nat.{mul-add-lt}
use Rattle.std.proofs.Math.Nat.{mul-le-mul_right}
use Rattle.frame.specs.Areas.{in_span}
use Rattle.frame.specs.Canvases.{Canvas}
use Rattle.frame.specs.Pictures.{Picture, HasShape, colour_at}
use Rattle.frame.proofs.CallerLemmas.{equal_by_points}
use Rattle.memdev.specs.Frames.{filled}

-- a point of the whole row y, or not in that row
pub whole_row : (y last x v : ℕ) → x ≤ last → v < y + 1 → in_span y 0 last x v ≡ false → v < y
unfolding in_span
whole_row y last x v within up off = grind (arith, nat_tests)

-- a point has the colour where it has it as a new one, or had it before
pub picked : (test : Bool) (new colour old : ℕ) → new ≡ cond test colour old → (test ≡ false → old ≡ colour) → new ≡ colour
picked true new colour old is else_ = is
picked false new colour old is else_ = is ∙ else_ refl

few_points : (rows width : ℕ) → rows ≤ 768 → width ≤ 1024 → rows * width ≤ 786432
few_points rows width few narrow = omega (arith, mul-le-mul_right width few, narrow)

-- so many points were written after one row more
pub one_row_more : (writes y width height count : ℕ) → writes ≡ y * width → count ≡ width → y < height → height ≤ 768 → width ≤ 1024 → (writes + count) % 2 ^ 64 ≡ (y + 1) * width
one_row_more writes y width height count so_far row within few narrow =
    let sum : y * width + width ≡ (y + 1) * width = grind arith in
    let fits = few_points (y + 1) width (omega arith) narrow in
    omega arith

-- a frame with one colour at each point is filled with it
pub is_filled : (frame : Canvas) (w h colour : ℕ) → HasShape frame.picture → frame.picture.width ≡ w → frame.picture.height ≡ h → ((x y : ℕ) → x < w → y < h → colour_at frame.picture x y ≡ colour) → frame.writes ≡ h * w → frame ≡ filled w h colour
is_filled frame w h colour shape width height same writes =
    let whole : Picture = (filled w h colour).picture in
    let whole_shape : HasShape whole = record {
      some_width = rw (← width) shape.some_width;
      most_width = rw (← width) shape.most_width;
      some_height = rw (← height) shape.some_height;
      most_height = rw (← height) shape.most_height;
      count_is = length-replicate (h * w) colour;
    } in
    let picture : frame.picture ≡ whole = equal_by_points frame.picture whole shape whole_shape width height (λ x y x_in y_in.
    let left : x < w = omega (arith, width, x_in) in
    let up : y < h = omega (arith, height, y_in) in
    same x y left up ∙ sym (get_or-replicate (h * w) (y * w + x) colour 0 (omega (arith, mul-add-lt y w x h up left)))) in
    λ i. record { picture = picture i; writes = writes i }
