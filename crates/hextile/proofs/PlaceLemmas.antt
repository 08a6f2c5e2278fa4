-- Tiles put into their rectangle, one after the other.
use Rattle.std.proofs.Common.{◌≡◌, ◌≢◌, ℕ, zero, suc, ◌+◌, ◌-◌, ◌*◌, ◌/◌, ◌%◌, ◌<◌, ◌≤◌, List, [], ◌∷◌, ◌++◌, length, get_or, set, map, Ok, Err, refl, sym, ap, subst, ◌∙◌, arith, below_more}
use Rattle.std.specs.List.{range_with_len}
use Rattle.std.proofs.lemmas.List.{ext_get_or, get_or-set_same, get_or-set_other}
use Rattle.std.proofs.lemmas.List.FromFn.{get_or-map-range_with_len, length-map-range_with_len, map-range_with_len_more}
use Rattle.std.proofs.lemmas.Nat.{div-mul-add, mod-mul-add, div-add-mod', mod_below, div_below}
use Rattle.pixel_format.specs.Formats.{Layout}
use Rattle.hextile.specs.declared.known.Known.{Known}
use Rattle.hextile.specs.Tiles.{TileValues, tiles_along, tile_side, tile_at, tiles_of, spot_of, nothing_known}
use Rattle.hextile.specs.Joining.{no_tile}
use Rattle.hextile.specs.Reading.{Read, on_read, read_tile, read_tiles, read_rectangle}
use Rattle.hextile.proofs.TilingLemmas.{side_some, side_most, place_within}
use Rattle.hextile.proofs.ReaderLemmas.{on_ok, on_err}

abbrev tile_with : ℕ → List ℕ → TileValues
tile_with width values = record { width = width; values = values }

columns_some : (rows columns number : ℕ) → number < rows * columns → 1 ≤ columns
columns_some rows zero number lt = absurd (omega arith)
columns_some rows (suc columns) number lt = omega arith

abbrev pub area_of : ℕ → ℕ → ℕ → ℕ
area_of w h number = tile_side h (number / tiles_along w) * tile_side w (number % tiles_along w)

-- the column and the row of a tile
pub col_in : (w h number : ℕ) → number < tiles_along h * tiles_along w → number % tiles_along w < tiles_along w
col_in w h number lt = mod_below number (tiles_along w) (columns_some (tiles_along h) (tiles_along w) number lt)

pub row_in : (w h number : ℕ) → number < tiles_along h * tiles_along w → number / tiles_along w < tiles_along h
row_in w h number lt = div_below number (tiles_along w) (tiles_along h) (columns_some (tiles_along h) (tiles_along w) number lt) lt

pub spot_within : (w h number i : ℕ) → number < tiles_along h * tiles_along w → i < area_of w h number
    → (number % tiles_along w * 16 + i % tile_side w (number % tiles_along w) < w) × (number / tiles_along w * 16 + i / tile_side w (number % tiles_along w) < h) × (spot_of w number i < h * w)
spot_within w h number i lt i_in = place_within w h (number % tiles_along w) (number / tiles_along w) i (col_in w h number lt) (row_in w h number lt) i_in

-- ---- the tile and the point of a place

pub number_at : ℕ → ℕ → ℕ
number_at w k = k / w / 16 * tiles_along w + k % w / 16

tile_of_spot : (w h number i : ℕ) → number < tiles_along h * tiles_along w → i < area_of w h number → number_at w (spot_of w number i) ≡ number
unfolding number_at
tile_of_spot w h number i lt i_in =
    let columns = tiles_along w in
    let col = number % columns in
    let row = number / columns in
    let width = tile_side w col in
    let within = spot_within w h number i lt i_in in
    let across = side_some w col (col_in w h number lt) in
    let u : i % width < 16 = omega (arith, mod_below i width across.0, side_most w col) in
    let v : i / width < 16 = omega (arith, div_below i width (tile_side h row) across.0 i_in, side_most h row) in
    rw (div-mul-add (row * 16 + i / width) w (col * 16 + i % width) within.0, mod-mul-add (row * 16 + i / width) w (col * 16 + i % width) within.0, div-mul-add row 16 (i / width) v, div-mul-add col 16 (i % width) u) (div-add-mod' number columns)

point_at : ℕ → ℕ → ℕ → ℕ
point_at w number k = (k / w - number / tiles_along w * 16) * tile_side w (number % tiles_along w) + (k % w - number % tiles_along w * 16)

point_of_spot : (w h number i : ℕ) → number < tiles_along h * tiles_along w → i < area_of w h number → point_at w number (spot_of w number i) ≡ i
unfolding point_at
point_of_spot w h number i lt i_in =
    let columns = tiles_along w in
    let col = number % columns in
    let row = number / columns in
    let width = tile_side w col in
    let within = spot_within w h number i lt i_in in
    let down : row * 16 + i / width - row * 16 ≡ i / width = omega arith in
    let across : col * 16 + i % width - col * 16 ≡ i % width = omega arith in
    rw (div-mul-add (row * 16 + i / width) w (col * 16 + i % width) within.0, mod-mul-add (row * 16 + i / width) w (col * 16 + i % width) within.0, down, across) (div-add-mod' i width)

-- ---- placing a tile

-- the first points of a tile are placed, and all other values are the old ones
pub record IsPlaced (w h number count : ℕ) (points old values : List ℕ) : Type 0 where
  pub long : length values ≡ h * w
  pub placed : (k : ℕ) → k < count → get_or values (spot_of w number k) 0 ≡ get_or points k 0
  pub kept : (k : ℕ) → number_at w k ≢ number → get_or values k 0 ≡ get_or old k 0

pub place_start : (w h number : ℕ) (points old : List ℕ) → length old ≡ h * w → IsPlaced w h number 0 points old old
place_start w h number points old long = record { long = long; placed = λ k lt. absurd (omega arith); kept = λ k other. refl }

pub place_step : (w h number i at : ℕ) (points old values now : List ℕ) → number < tiles_along h * tiles_along w → i < area_of w h number → at ≡ spot_of w number i → now ≡ set values at (get_or points i 0) → length now ≡ length values
    → IsPlaced w h number i points old values → IsPlaced w h number (i + 1) points old now
place_step w h number i at points old values now lt i_in place put same is =
    let within = (spot_within w h number i lt i_in).2 in
    let all : IsPlaced w h number (i + 1) points old (set values (spot_of w number i) (get_or points i 0)) = record {
      long = rw (← place, ← put) (same ∙ is.long);
      placed = below_more (λ k. get_or (set values (spot_of w number i) (get_or points i 0)) (spot_of w number k) 0 ≡ get_or points k 0) i
          (λ k k_lt. get_or-set_other values (spot_of w number i) (spot_of w number k) (get_or points i 0) 0 (λ e. apart k k_lt e) ∙ is.placed k k_lt)
          (get_or-set_same values (spot_of w number i) (get_or points i 0) 0 (omega (arith, within, is.long)));
      kept = λ k other. get_or-set_other values (spot_of w number i) k (get_or points i 0) 0 (λ e. other (e_to k e)) ∙ is.kept k other;
    } in
    rw (put, place) all
  where
    apart : (k : ℕ) → k < i → spot_of w number k ≡ spot_of w number i → ⊥
    apart k k_lt e =
        let same_point : k ≡ i = sym (point_of_spot w h number k lt (omega (arith, k_lt, i_in))) ∙ (ap (point_at w number) e ∙ point_of_spot w h number i lt i_in) in
        absurd (omega (arith, k_lt, same_point))

    e_to : (k : ℕ) → k ≡ spot_of w number i → number_at w k ≡ number
    e_to k e = ap (number_at w) e ∙ tile_of_spot w h number i lt i_in

abbrev values_at : ℕ → ℕ → ℕ → List ℕ → List ℕ
values_at w h number values = map (λ i. get_or values (spot_of w number i) 0) (range_with_len 0 (area_of w h number))

pub placed_tile : (w h number : ℕ) (points old values : List ℕ) → length points ≡ area_of w h number → IsPlaced w h number (length points) points old values → (tile_at w h values number).values ≡ points
unfolding tile_at
placed_tile w h number points old values count is =
    let long = length-map-range_with_len (λ i. get_or values (spot_of w number i) 0) 0 (area_of w h number) in
    ext_get_or 0 (values_at w h number values) points (long ∙ sym count) (λ k lt.
    let k_in : k < area_of w h number = omega (arith, lt, long) in
    get_or-map-range_with_len (λ i. get_or values (spot_of w number i) 0) 0 (area_of w h number) k k 0 k_in (omega arith) ∙ is.placed k (omega (arith, k_in, count)))

pub placed_others : (w h number count : ℕ) (points old values : List ℕ) → IsPlaced w h number count points old values → (other : ℕ) → other < tiles_along h * tiles_along w → other ≢ number → tile_at w h values other ≡ tile_at w h old other
unfolding tile_at
placed_others w h number count points old values is other lt apart =
    let long = λ (vs : List ℕ). length-map-range_with_len (λ i. get_or vs (spot_of w other i) 0) 0 (area_of w h other) in
    let same : values_at w h other values ≡ values_at w h other old = ext_get_or 0 (values_at w h other values) (values_at w h other old) (long values ∙ sym (long old)) (λ k k_lt.
    let k_in : k < area_of w h other = omega (arith, k_lt, long values) in
    let here : number_at w (spot_of w other k) ≡ other = tile_of_spot w h other k lt k_in in
    get_or-map-range_with_len (λ i. get_or values (spot_of w other i) 0) 0 (area_of w h other) k k 0 k_in (omega arith)
    ∙ (is.kept (spot_of w other k) (λ e. apart (sym here ∙ e))
    ∙ sym (get_or-map-range_with_len (λ i. get_or old (spot_of w other i) 0) 0 (area_of w h other) k k 0 k_in (omega arith)))) in
    ap (λ (vs : List ℕ). tile_with (tile_side w (other % tiles_along w)) vs) same

-- ---- reading all tiles

abbrev pub tiles_before : ℕ → ℕ → List ℕ → ℕ → List TileValues
tiles_before w h values number = map (tile_at w h values) (range_with_len 0 number)

same_before : (w h number : ℕ) (old now : List ℕ) → number ≤ tiles_along h * tiles_along w → ((other : ℕ) → other < tiles_along h * tiles_along w → other ≢ number → tile_at w h now other ≡ tile_at w h old other) → tiles_before w h now number ≡ tiles_before w h old number
same_before w h number old now few others =
    let long = λ (vs : List ℕ). length-map-range_with_len (tile_at w h vs) 0 number in
    ext_get_or no_tile (tiles_before w h now number) (tiles_before w h old number) (long now ∙ sym (long old)) (λ k lt.
    let k_in : k < number = omega (arith, lt, long now) in
    get_or-map-range_with_len (tile_at w h now) 0 number k k no_tile k_in (omega arith)
    ∙ (others k (omega (arith, k_in, few)) (λ e. absurd (omega (arith, k_in, e)))
    ∙ sym (get_or-map-range_with_len (tile_at w h old) 0 number k k no_tile k_in (omega arith))))

tile_is : (w h number : ℕ) (values points : List ℕ) → (tile_at w h values number).values ≡ points → tile_at w h values number ≡ tile_with (tile_side w (number % tiles_along w)) points
unfolding tile_at
tile_is w h number values points e = ap (λ (vs : List ℕ). tile_with (tile_side w (number % tiles_along w)) vs) e

opened : (f : Layout) (w h : ℕ) (known : Known) (found : List TileValues) (left m number : ℕ) (rest : List ℕ) (whole : Read (List TileValues)) → left ≡ suc m → length found ≡ number → read_tiles f w h known found left rest ≡ whole
    → on_read (read_tile f known (tile_side w (number % tiles_along w)) (tile_side h (number / tiles_along w)) rest) (λ read rest. read_tiles f w h read.after (found ++ ((tile_with (tile_side w (number % tiles_along w)) read.values) ∷ [])) m rest) ≡ whole
unfolding read_tiles
opened f w h known found left m number rest whole more long told =
    subst (λ (n : ℕ). on_read (read_tile f known (tile_side w (n % tiles_along w)) (tile_side h (n / tiles_along w)) rest) (λ read rest. read_tiles f w h read.after (found ++ ((tile_with (tile_side w (n % tiles_along w)) read.values) ∷ [])) m rest) ≡ whole) long (rw more at told)

pub tiles_step : (f : Layout) (w h : ℕ) (known : Known) (old now points : List ℕ) (number all : ℕ) (after : Known) (rest left : List ℕ) (whole : Read (List TileValues)) → number < all → all ≡ tiles_along h * tiles_along w
    → read_tile f known (tile_side w (number % tiles_along w)) (tile_side h (number / tiles_along w)) rest ≡ Ok (record { values = points; after = after }, left)
    → (tile_at w h now number).values ≡ points → ((other : ℕ) → other < tiles_along h * tiles_along w → other ≢ number → tile_at w h now other ≡ tile_at w h old other)
    → read_tiles f w h known (tiles_before w h old number) (all - number) rest ≡ whole → read_tiles f w h after (tiles_before w h now (number + 1)) (all - (number + 1)) left ≡ whole
tiles_step f w h known old now points number all after rest left whole lt all_is read placed others told =
    let width = tile_side w (number % tiles_along w) in
    let found = tiles_before w h old number in
    let more : all - number ≡ suc (all - (number + 1)) = omega arith in
    let open_ = opened f w h known found (all - number) (all - (number + 1)) number rest whole more (length-map-range_with_len (tile_at w h old) 0 number) told in
    let next = sym (on_ok (read_tile f known width (tile_side h (number / tiles_along w)) rest) (λ read rest. read_tiles f w h read.after (found ++ ((tile_with width read.values) ∷ [])) (all - (number + 1)) rest) (record { values = points; after = after }) left read) ∙ open_ in
    let grown : tiles_before w h now (number + 1) ≡ found ++ ((tile_with width points) ∷ []) =
    map-range_with_len_more (tile_at w h now) 0 number number (omega arith) ∙ (ap (λ (ts : List TileValues). ts ++ (tile_at w h now number ∷ [])) (same_before w h number old now (omega (arith, lt, all_is)) others) ∙ ap (λ (t : TileValues). found ++ (t ∷ [])) (tile_is w h number now points placed)) in
    rw grown next

pub tiles_stop : (f : Layout) (w h : ℕ) (known : Known) (old : List ℕ) (number all fault : ℕ) (rest : List ℕ) (whole : Read (List TileValues)) → number < all
    → read_tile f known (tile_side w (number % tiles_along w)) (tile_side h (number / tiles_along w)) rest ≡ Err fault
    → read_tiles f w h known (tiles_before w h old number) (all - number) rest ≡ whole → whole ≡ Err fault
tiles_stop f w h known old number all fault rest whole lt read told =
    let width = tile_side w (number % tiles_along w) in
    let found = tiles_before w h old number in
    let more : all - number ≡ suc (all - (number + 1)) = omega arith in
    let open_ = opened f w h known found (all - number) (all - (number + 1)) number rest whole more (length-map-range_with_len (tile_at w h old) 0 number) told in
    sym open_ ∙ on_err (read_tile f known width (tile_side h (number / tiles_along w)) rest) (λ read rest. read_tiles f w h read.after (found ++ ((tile_with width read.values) ∷ [])) (all - (number + 1)) rest) fault read

pub tiles_end : (f : Layout) (w h : ℕ) (known : Known) (values : List ℕ) (number : ℕ) (rest : List ℕ) (whole : Read (List TileValues)) → number ≡ tiles_along h * tiles_along w
    → read_tiles f w h known (tiles_before w h values number) (tiles_along h * tiles_along w - number) rest ≡ whole → whole ≡ Ok (tiles_of w h values, rest)
unfolding read_tiles
tiles_end f w h known values number rest whole last told =
    let none : tiles_along h * tiles_along w - number ≡ 0 = omega (arith, last) in
    sym (rw none at told) ∙ ap (λ (n : ℕ). Ok (tiles_before w h values n, rest)) last

pub tiles_start : (f : Layout) (w h all : ℕ) (bytes : List ℕ) → all ≡ tiles_along h * tiles_along w → read_tiles f w h nothing_known [] (all - 0) bytes ≡ read_rectangle f w h bytes
unfolding read_rectangle
tiles_start f w h all bytes e = let same : all - 0 ≡ tiles_along h * tiles_along w = omega (arith, e) in rw same refl

pub ruleset tiles = (tiles_step, tiles_stop, tiles_end, tiles_start)
