-- Windows' coordinates on the screen.
use Rattle.std.proofs.Common.{◌≡◌, ℕ, ◌<◌, ◌≤◌, ℤ, ◌+ℤ◌, ◌-ℤ◌, ◌≤ℤ◌, pos, refl, sym, ap, ◌∙◌, w32, to_z, of_z, arith}
use Rattle.std.proofs.lemmas.Int.{ints, to_z-of_z}
use Rattle.std.specs.Prelude.{unsigned_abs}
use mir.Val.{SFits}
use Rattle.gfx_base.specs.Range.{IsNear}
use Rattle.paint_ops.specs.Rows.{IsOrigin}
use Rattle.paint_ops.specs.Panes.{IsCoordinate}

-- the code's sum of an origin and a coordinate is the exact one
pub sum_is : (o n z : ℤ) → IsOrigin o → IsCoordinate n → n ≡ z → to_z w32 (of_z w32 (to_z w32 (of_z w32 o) +ℤ to_z w32 (of_z w32 n))) ≡ o +ℤ z
sum_is o n z origin coordinate e =
    let f : SFits w32 o = omega (arith, ints) in
    let g : SFits w32 n = omega (arith, ints) in
    let s : SFits w32 (o +ℤ n) = omega (arith, ints) in
    rw (to_z-of_z w32 o f, to_z-of_z w32 n g, to_z-of_z w32 (o +ℤ n) s, e) refl

pub sum_near : (o n z : ℤ) → IsOrigin o → IsCoordinate n → n ≡ z → IsNear (o +ℤ z)
sum_near o n z origin coordinate e = (omega (arith, ints), omega (arith, ints))

-- numbers whose bits are the same are the same
pub same_from_bits : (a b : ℤ) → SFits w32 a → SFits w32 b → of_z w32 a ≡ of_z w32 b → a ≡ b
same_from_bits a b f g e = sym (to_z-of_z w32 a f) ∙ ap (to_z w32) e ∙ to_z-of_z w32 b g

pub other_from_bits : (a b z : ℤ) → a ≡ z → (of_z w32 a ≡ of_z w32 b → ⊥) → z ≡ b → ⊥
other_from_bits a b z is other e = other (ap (of_z w32) (is ∙ e))

-- the code's column of a point, counted from x
pub column_is : (from x : ℤ) (u : ℕ) → from ≡ pos u → IsNear x → u < 65536 → to_z w32 (of_z w32 (to_z w32 (of_z w32 from) -ℤ to_z w32 (of_z w32 x))) ≡ pos u -ℤ x
column_is from x u e near small =
    let f : SFits w32 from = omega (arith, ints) in
    let g : SFits w32 x = omega (arith, ints) in
    let s : SFits w32 (from -ℤ x) = omega (arith, ints) in
    rw (to_z-of_z w32 from f, to_z-of_z w32 x g, to_z-of_z w32 (from -ℤ x) s, e) refl

-- as a natural number, where it isn't negative
pub column-inside : (c z : ℤ) → c ≡ z → pos 0 ≤ℤ z → z ≡ pos (unsigned_abs c)
column-inside c z e h = omega (arith, ints)

-- the code's last column of what begins at x and has some width
pub last_is : (from x : ℤ) (w : ℕ) → from ≡ pos w → w ≤ 65535 → IsNear x
    → to_z w32 (of_z w32 (to_z w32 (of_z w32 (to_z w32 (of_z w32 x) +ℤ to_z w32 (of_z w32 from))) -ℤ pos 1)) ≡ x +ℤ pos w -ℤ pos 1
last_is from x w e small near =
    let f : SFits w32 from = omega (arith, ints) in
    let g : SFits w32 x = omega (arith, ints) in
    let s : SFits w32 (x +ℤ from) = omega (arith, ints) in
    let t : SFits w32 (x +ℤ from -ℤ pos 1) = omega (arith, ints) in
    rw (to_z-of_z w32 from f, to_z-of_z w32 x g, to_z-of_z w32 (x +ℤ from) s, to_z-of_z w32 (x +ℤ from -ℤ pos 1) t, e) refl
