-- One row more of a picture is copied.
use Rattle.std.proofs.Common.{◌≡◌, ℕ, ◌+◌, ◌*◌, ◌^◌, ◌%◌, ◌<◌, ◌≤◌, Bool, true, false, refl, sym, ap, ◌∙◌, arith}
use Rattle.std.specs.Prelude.{if◌then◌else◌}
use Rattle.std.proofs.lemmas.Bool.Decides.{nat_tests}
use native.Mathlib.Nat.{mod-add-mod}
use Rattle.frame.specs.Areas.{in_span}
use Rattle.frame.specs.Pictures.{Picture}
use Rattle.frame.specs.Canvases.{Canvas}

-- a point of the whole row y, or not in that row
pub whole_row : (y last x v : ℕ) → x ≤ last → v < y + 1 → in_span y 0 last x v ≡ false → v < y
unfolding in_span
whole_row y last x v within up off = grind (arith, nat_tests)

pub picked : (test : Bool) (new from old : ℕ) → new ≡ (if test then from else old) → (test ≡ false → old ≡ from) → new ≡ from
picked true new from old is else_ = is
picked false new from old is else_ = is ∙ else_ refl

-- so many points were written after one row more
pub one_row_more : (writes start y width count : ℕ) → writes ≡ (start + y * width) % 2 ^ 64 → count ≡ width → (writes + count) % 2 ^ 64 ≡ (start + (y + 1) * width) % 2 ^ 64
one_row_more writes start y width count so_far row =
    let sum : start + y * width + count ≡ start + (y + 1) * width = grind arith in
    ap (λ k. (k + count) % 2 ^ 64) so_far ∙ mod-add-mod (start + y * width) (2 ^ 64) count ∙ rw sum refl

-- so many points were written after all rows
pub all_rows : (writes start y width w h : ℕ) → writes ≡ (start + y * width) % 2 ^ 64 → y ≡ h → width ≡ w → writes ≡ (start + h * w) % 2 ^ 64
all_rows writes start y width w h so_far rows columns = rw (sym rows, sym columns) so_far

-- a canvas is its picture and its count
pub same_canvas : (c : Canvas) (p : Picture) (n : ℕ) → c.picture ≡ p → c.writes ≡ n → c ≡ record { picture = p; writes = n }
same_canvas c p n picture writes = rw (sym picture, sym writes) refl
