-- Bytes mean at most one rectangle of values.
use Rattle.std.proofs.Common.{◌≡◌, ℕ, zero, suc, ◌+◌, ◌-◌, ◌*◌, ◌/◌, ◌%◌, ◌<◌, ◌≤◌, List, [], length, get_or, refl, sym, ap, ◌∙◌, arith}
use Rattle.std.proofs.lemmas.List.{ext_get_or}
use Rattle.std.proofs.lemmas.List.FromFn.{get_or-map-range_with_len}
use Rattle.std.proofs.lemmas.Nat.{div-mul-add, mod-mul-add, div-add-mod', mod_below, div_below, mul-add-lt}
use Rattle.pixel_format.specs.Formats.{Layout}
use Rattle.hextile.specs.Tiles.{TileValues, tiles_along, tile_side, tile_at, tiles_of, spot_of}
use Rattle.hextile.specs.Meaning.{DecodesTo}
use Rattle.hextile.specs.Joining.{no_tile}
use Rattle.hextile.proofs.ReaderLemmas.{ok_same}
use Rattle.hextile.proofs.SoundLemmas.{Tells}
use Rattle.hextile.proofs.RectangleLemmas.{rectangle_complete}

-- the tile and the point of a place, in numbers
record Found (w h k : ℕ) : Type 0 where
  number : ℕ
  point : ℕ
  in_rectangle : number < tiles_along h * tiles_along w
  in_tile : point < tile_side h (number / tiles_along w) * tile_side w (number % tiles_along w)
  place : spot_of w number point ≡ k

found_at : (w h u v : ℕ) → u < w → v < h → Found w h (v * w + u)
found_at w h u v u_in v_in =
    let columns = tiles_along w in
    let col = u / 16 in
    let row = v / 16 in
    let number = row * columns + col in
    let col_in : col < columns = omega arith in
    let row_in : row < tiles_along h = omega arith in
    let d : number / columns ≡ row = div-mul-add row columns col col_in in
    let m : number % columns ≡ col = mod-mul-add row columns col col_in in
    let width = tile_side w col in
    let x_in : u - col * 16 < width = omega arith in
    let y_in : v - row * 16 < tile_side h row = omega arith in
    let point = (v - row * 16) * width + (u - col * 16) in
    let y : point / width ≡ v - row * 16 = div-mul-add (v - row * 16) width (u - col * 16) x_in in
    let x : point % width ≡ u - col * 16 = mod-mul-add (v - row * 16) width (u - col * 16) x_in in
    let down : row * 16 + (v - row * 16) ≡ v = omega arith in
    let across : col * 16 + (u - col * 16) ≡ u = omega arith in
    let first : number < tiles_along h * tiles_along w = omega (arith, mul-add-lt row columns col (tiles_along h) row_in col_in) in
    let second : point < tile_side h row * width = omega (arith, mul-add-lt (v - row * 16) width (u - col * 16) (tile_side h row) y_in x_in) in
    record {
      number = number;
      point = point;
      in_rectangle = first;
      in_tile = rw (d, m) second;
      place = rw (d, m, y, x, down, across) refl;
    }

width_some : (w h k : ℕ) → k < h * w → 1 ≤ w
width_some zero h k lt = absurd (omega arith)
width_some (suc w) h k lt = omega arith

found : (w h k : ℕ) → k < h * w → Found w h k
found w h k lt =
    let some = width_some w h k lt in
    rw (div-add-mod' k w) at (found_at w h (k % w) (k / w) (mod_below k w some) (div_below k w h some lt))

value_in_tile : (w h number i : ℕ) (values : List ℕ) → i < tile_side h (number / tiles_along w) * tile_side w (number % tiles_along w) → get_or (tile_at w h values number).values i 0 ≡ get_or values (spot_of w number i) 0
unfolding tile_at
value_in_tile w h number i values lt = get_or-map-range_with_len (λ i. get_or values (spot_of w number i) 0) 0 (tile_side h (number / tiles_along w) * tile_side w (number % tiles_along w)) i i 0 lt (omega arith)

-- rectangles with the same tiles are equal
tiles_tell : (w h : ℕ) (values others : List ℕ) → length values ≡ h * w → length others ≡ h * w → tiles_of w h values ≡ tiles_of w h others → values ≡ others
tiles_tell w h values others long long_too same =
    ext_get_or 0 values others (long ∙ sym long_too) (λ k lt.
    let f = found w h k (omega (arith, lt, long)) in
    let all = tiles_along h * tiles_along w in
    let tile = λ (vs : List ℕ). get_or-map-range_with_len (tile_at w h vs) 0 all f.number f.number no_tile f.in_rectangle (omega arith) in
    let both : tile_at w h values f.number ≡ tile_at w h others f.number = sym (tile values) ∙ (ap (λ (ts : List TileValues). get_or ts f.number no_tile) same ∙ tile others) in
    ap (λ (n : ℕ). get_or values n 0) (sym f.place)
    ∙ (sym (value_in_tile w h f.number f.point values f.in_tile)
    ∙ (ap (λ (t : TileValues). get_or t.values f.point 0) both
    ∙ (value_in_tile w h f.number f.point others f.in_tile
    ∙ ap (λ (n : ℕ). get_or others n 0) f.place))))

pub one_meaning : (f : Layout) (w h : ℕ) (bytes values others : List ℕ) → Tells f → DecodesTo f w h bytes values → DecodesTo f w h bytes others → values ≡ others
one_meaning f w h bytes values others tells one other =
    let same = ok_same (sym (rectangle_complete f w h bytes values tells one []) ∙ rectangle_complete f w h bytes others tells other []) in
    tiles_tell w h values others one.count_is other.count_is same.0
