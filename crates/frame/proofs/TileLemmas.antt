-- A tile that is written row by row.
use Rattle.std.proofs.Common.{◌≡◌, ◌≢◌, ℕ, ◌+◌, ◌-◌, ◌*◌, ◌/◌, ◌^◌, ◌<◌, ◌≤◌, min, Bool, true, false, cond, ◌&&◌, ◌||◌, List, length, nat_lt, subst, refl, sym, ap, ◌∙◌, inl, inr, arith}
use Rattle.std.specs.Prelude.{nat_le, ◌==◌}
use Rattle.std.proofs.Math.Bool.{and-true}
use Rattle.std.proofs.lemmas.Bool.{cases_order}
use Rattle.std.proofs.lemmas.Bool.Decides.{nat_tests}
use native.Mathlib.Nat.{mul_comm}
use Rattle.frame.specs.Pictures.{Picture, IsShape, HasShape}
use Rattle.frame.specs.Areas.{in_span, in_tile, span_count, tile_count}
use Rattle.frame.specs.Canvases.{Canvas, canvas, drawn}
use Rattle.frame.proofs.PictureLaws.{changed-same, changed-changed, changed-none}
use Rattle.frame.proofs.WriteLemmas.{canvas_is, no_more, some_more}

-- the points of the tile above row y
abbrev pub tile_above : ℕ → ℕ → ℕ → ℕ → ℕ → Bool
tile_above col row y u v = in_tile col row u v && nat_lt v y

-- the columns and rows of a tile, as far as it lies on the picture
pub record IsTile (p : Picture) (col row x0 x1 y0 end : ℕ) : Type 0 where
  pub left : x0 ≡ col * 16
  pub right : x1 + 1 ≡ min (x0 + 16) p.width
  pub top : y0 ≡ row * 16
  pub bottom : end ≡ min (y0 + 16) p.height
  pub columns : x0 < p.width
  pub rows : y0 < p.height

column_test : (u col x0 x1 w : ℕ) → x0 ≡ col * 16 → x1 + 1 ≡ min (x0 + 16) w → u < w → (u / 16 == col) ≡ (nat_le x0 u && nat_le u x1)
column_test u col x0 x1 w left right u_in = grind (arith, nat_tests)

row_test : (v row y0 end h : ℕ) → y0 ≡ row * 16 → end ≡ min (y0 + 16) h → y0 ≤ v → v < end → (v / 16 == row) ≡ true
row_test v row y0 end h top bottom low high = grind (arith, nat_tests)

own_row : (b : Bool) → (b || (b && false)) ≡ (b && true)
own_row true = refl
own_row false = refl

-- a row of the tile is a span
row_of_tile : (p : Picture) (col row x0 x1 y0 end y u : ℕ) → IsTile p col row x0 x1 y0 end → u < p.width → y0 ≤ y → y < end → in_tile col row u y ≡ in_span y x0 x1 u y
unfolding in_tile in_span
row_of_tile p col row x0 x1 y0 end y u tile u_in low high =
    let own : (y == y) ≡ true = grind (arith, nat_tests) in
    let turned : (x b : Bool) → x ≡ b → (x && true) ≡ (true && b) = λ x b e. rw e (and-true b) in
    rw (row_test y row y0 end p.height tile.top tile.bottom low high, own) (turned _ _ (column_test u col x0 x1 p.width tile.left tile.right u_in))

off_span : (y x0 x1 u v : ℕ) → v ≢ y → in_span y x0 x1 u v ≡ false
unfolding in_span
off_span y x0 x1 u v off = let other : (v == y) ≡ false = grind (arith, nat_tests) in rw other refl

-- one row more
pub next_row : (p : Picture) (col row x0 x1 y0 end y u v : ℕ) → IsTile p col row x0 x1 y0 end → u < p.width → y0 ≤ y → y < end → (in_span y x0 x1 u v || tile_above col row y u v) ≡ tile_above col row (y + 1) u v
next_row p col row x0 x1 y0 end y u v tile u_in low high =
    elim (cases_order v y) [
      | inl e ↦
          let above : nat_lt y y ≡ false = grind (arith, nat_tests) in
          let own : nat_lt y (y + 1) ≡ true = grind (arith, nat_tests) in
          rw (e, above, own, row_of_tile p col row x0 x1 y0 end y u tile u_in low high) (own_row (in_span y x0 x1 u y))
      | inr off ↦
          elim off [
            | inl before ↦
                let above : nat_lt v y ≡ true = grind (arith, nat_tests) in
                let next : nat_lt v (y + 1) ≡ true = grind (arith, nat_tests) in
                rw (off_span y x0 x1 u v (omega arith), above, next) refl
            | inr after ↦
                let above : nat_lt v y ≡ false = grind (arith, nat_tests) in
                let next : nat_lt v (y + 1) ≡ false = grind (arith, nat_tests) in
                rw (off_span y x0 x1 u v (omega arith), above, next) refl
          ]
    ]

-- no row lies above the first one, and all of them above the end
pub above_first : (col row u v : ℕ) → tile_above col row (row * 16) u v ≡ false
unfolding in_tile
above_first col row u v = grind (arith, nat_tests)

pub above_end : (p : Picture) (col row x0 x1 y0 end u v : ℕ) → IsTile p col row x0 x1 y0 end → v < p.height → tile_above col row end u v ≡ in_tile col row u v
unfolding in_tile
above_end p col row x0 x1 y0 end u v tile v_in = grind (arith, nat_tests)

same_choice : (test : Bool) (a : ℕ) → cond test a a ≡ a
same_choice true a = refl
same_choice false a = refl

-- nothing is written above the first row
pub tile-start : (f : Canvas) (col row y0 n : ℕ) (colour : ℕ → ℕ → ℕ) → y0 ≡ row * 16 → HasShape f.picture → f.writes < 2 ^ 64 → n ≡ 0 → f ≡ drawn f (tile_above col row y0) colour n
tile-start f col row y0 n colour top shape fits none =
    let picture = changed-none f.picture (tile_above col row y0) colour shape (λ u v u_in v_in. rw top (above_first col row u v)) in
    canvas_is _ _ _ _ (sym picture) (no_more f.writes n fits none)

pub tile-row : (f : Canvas) (col row x0 x1 y0 end y n m : ℕ) (colour : ℕ → ℕ → ℕ) → IsTile f.picture col row x0 x1 y0 end → HasShape f.picture → y0 ≤ y → y < end → n + span_count x0 x1 ≡ m
    → drawn (drawn f (tile_above col row y) colour n) (in_span y x0 x1) colour (span_count x0 x1) ≡ drawn f (tile_above col row (y + 1)) colour m
tile-row f col row x0 x1 y0 end y n m colour tile shape low high count =
    let p = f.picture in
    canvas_is _ _ _ _
    (changed-changed p (tile_above col row y) (in_span y x0 x1) colour colour shape
    ∙ changed-same p _ (tile_above col row (y + 1)) _ colour shape (λ u v u_in v_in. next_row p col row x0 x1 y0 end y u v tile u_in low high) (λ u v u_in v_in h. same_choice (in_span y x0 x1 u v) (colour u v)))
    (some_more f.writes n (span_count x0 x1) m (sym count))

-- so many points as its rows have together
pub tile_count-rows : (p : Picture) (col row x0 x1 y0 end : ℕ) → IsTile p col row x0 x1 y0 end → (end - y0) * span_count x0 x1 ≡ tile_count p col row
tile_count-rows p col row x0 x1 y0 end tile =
    let rows : end - y0 ≡ min 16 (p.height - row * 16) = omega (arith, tile.top, tile.bottom, tile.rows) in
    let columns : span_count x0 x1 ≡ min 16 (p.width - col * 16) = omega (arith, tile.left, tile.right, tile.columns) in
    rw (rows, columns) (mul_comm _ _)

pub tile-end : (f : Canvas) (col row x0 x1 y0 end n : ℕ) (colour : ℕ → ℕ → ℕ) → IsTile f.picture col row x0 x1 y0 end → HasShape f.picture → n ≡ (end - y0) * span_count x0 x1
    → drawn f (tile_above col row end) colour n ≡ drawn f (in_tile col row) colour (tile_count f.picture col row)
tile-end f col row x0 x1 y0 end n colour tile shape count =
    let p = f.picture in
    let points : n ≡ tile_count p col row = count ∙ tile_count-rows p col row x0 x1 y0 end tile in
    canvas_is _ _ _ _ (changed-same p (tile_above col row end) (in_tile col row) colour colour shape (λ u v u_in v_in. above_end p col row x0 x1 y0 end u v tile v_in) (λ u v u_in v_in h. refl)) (rw points refl)

-- what the call computes: the columns and rows of the tile
pub tile-of : (f : Canvas) (w h n a b right end col row : ℕ) (ps : List ℕ) → canvas w h ps n ≡ f → a ≡ col → b ≡ row → right ≡ min (a * 16 + 16) w → end ≡ min (b * 16 + 16) h → (col * 16 < f.picture.width) × (row * 16 < f.picture.height)
    → IsTile f.picture col row (a * 16) (right - 1) (b * 16) end
tile-of f w h n a b right end col row ps view is_col is_row is_right is_end inside =
    let width : w ≡ f.picture.width = ap (λ (g : Canvas). g.picture.width) view in
    let height : h ≡ f.picture.height = ap (λ (g : Canvas). g.picture.height) view in
    record {
      left = rw is_col refl;
      right = omega (arith, inside.0);
      top = rw is_row refl;
      bottom = omega arith;
      columns = rw is_col inside.0;
      rows = rw is_row inside.1;
    }

pub shape-of : (f : Canvas) (w h n : ℕ) (ps : List ℕ) → canvas w h ps n ≡ f → IsShape w h (length ps) → HasShape f.picture
shape-of f w h n ps view shape = subst (λ (g : Canvas). HasShape g.picture) view shape

pub writes-of : (f : Canvas) (w h n : ℕ) (ps : List ℕ) → canvas w h ps n ≡ f → n < 2 ^ 64 → f.writes < 2 ^ 64
writes-of f w h n ps view fits = subst (λ (g : Canvas). g.writes < 2 ^ 64) view fits
