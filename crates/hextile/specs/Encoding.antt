-- The bytes that the encoder writes for a rectangle of values.
use Rattle.std.specs.Prelude.{ℕ, zero, suc, ◌+◌, ◌-◌, ◌*◌, ◌/◌, ◌%◌, Bool, false, not, ◌&&◌, ◌==◌, nat_lt, if◌then◌else◌, List, [], ◌∷◌, ◌++◌, length, take, drop, replicate, slice_index, count_by, find, Option, Some, None}
use Rattle.std.specs.List.{flat_map, prefix_len}
use Rattle.pixel_format.specs.Formats.{Layout, byte_count, pixel_bytes}
use Rattle.hextile.specs.declared.sub.Sub.{Sub}
use Rattle.hextile.specs.Tiles.{TileValues, tiles_of}
use Rattle.hextile.specs.declared.known.Known.{Known}
use Rattle.hextile.specs.Tiles.{nothing_known}

-- ---- subrectangles

-- how many points of this value stand side by side at the front
abbrev pub run_length : ℕ → List ℕ → ℕ
run_length value points = prefix_len (λ x. x == value) points

-- Of at most so many rows, the first of which has its points at a place, how many come first whose
-- points all have this value: so many points in each, and each row w points after the one before.
unfoldable pub run_height : ℕ → ℕ → ℕ → List ℕ → ℕ → ℕ → ℕ
run_height w value width points at zero = 0
run_height w value width points at (suc rows) =
    if run_length value (take width (drop at points)) == width
    then run_height w value width points (at + w) rows + 1
    else 0

-- the list with so many points from a place on made this value
abbrev pub overwritten : ℕ → ℕ → ℕ → List ℕ → List ℕ
overwritten value at width points =
    take at points ++ (replicate width value ++ drop (at + width) points)

-- the same in so many rows
unfoldable pub cleared : ℕ → ℕ → ℕ → ℕ → ℕ → List ℕ → List ℕ
cleared w value at width zero points = points
cleared w value at width (suc rows) points =
    cleared w value (at + w) width rows (overwritten value at width points)

-- the points side by side that have the value of the one at this place, from it to the end of its
-- row at most
abbrev pub width_at : ℕ → List ℕ → ℕ → ℕ
width_at w points at = run_length (slice_index points at) (take (w - at % w) (drop at points))

-- The subrectangle whose first point stands at a place of a tile of rows of w points: that point's
-- run to the right, as far down as it goes. A tile has at most 16 rows.
unfoldable pub sub_at : ℕ → List ℕ → ℕ → Sub
sub_at w points at =
    record {
      value = slice_index points at;
      x = at % w;
      y = at / w;
      width = width_at w points at;
      height = run_height w (slice_index points at) (width_at w points at) points at 16;
    }

-- The subrectangles of the points from a place on, which are so many. Points that were taken count
-- as background.
unfoldable pub subrects_from : ℕ → ℕ → List ℕ → ℕ → ℕ → List Sub
subrects_from w background points at zero = []
subrects_from w background points at (suc left) =
    let s : Sub = sub_at w points at in
    if slice_index points at == background
    then subrects_from w background points (at + 1) left
    else (s ∷ subrects_from w background (cleared w background at s.width s.height points)
    (at + 1) left)

unfoldable pub subrects : ℕ → ℕ → List ℕ → List Sub
subrects w background values = subrects_from w background values 0 (length values)

-- ---- one tile

-- whether it is known to be this value
abbrev pub is_known : Option ℕ → ℕ → Bool
is_known None value = false
is_known (Some known) value = known == value

-- of two values the one that more points have, and on a tie the first one
abbrev pub more_common : List ℕ → ℕ → ℕ → ℕ
more_common all best x =
    if nat_lt (count_by (λ y. y == best) all) (count_by (λ y. y == x) all) then x else best

-- the value that most points have; of those with as many points the one whose first point comes
-- first
abbrev pub most_from : List ℕ → List ℕ → ℕ → ℕ
most_from all [] best = best
most_from all (x ∷ xs) best = most_from all xs (more_common all best x)

unfoldable pub most_common : List ℕ → ℕ
most_common values = most_from values values (slice_index values 0)

-- the bytes of a tile, and what is known after it
pub record Coded : Type 0 where
  pub bytes : List ℕ
  pub after : Known

-- the pixel where it isn't known, with the bit of the mask that announces it
abbrev pub pixel_unless : Layout → Bool → ℕ → List ℕ
pixel_unless f known value = if known then [] else pixel_bytes f value

-- how many bytes that pixel takes
abbrev pub pixel_size : Layout → Bool → ℕ
pixel_size f known = if known then 0 else byte_count f

abbrev pub bit_unless : Bool → ℕ → ℕ
bit_unless known bit = if known then 0 else bit

-- a subrectangle: its place and its sides
abbrev pub sub_bytes : Sub → List ℕ
sub_bytes s = (s.x * 16 + s.y) ∷ (((s.width - 1) * 16 + (s.height - 1)) ∷ [])

abbrev pub plain_subs : List Sub → List ℕ
plain_subs subs = length subs ∷ flat_map sub_bytes subs

-- the same after its pixel
abbrev pub coloured_sub : Layout → Sub → List ℕ
coloured_sub f s = pixel_bytes f s.value ++ sub_bytes s

abbrev pub coloured_subs : Layout → List Sub → List ℕ
coloured_subs f subs = length subs ∷ flat_map (coloured_sub f) subs

-- the tile of these values
abbrev pub tile_of : ℕ → List ℕ → TileValues
tile_of w values = record { width = w; values = values }

-- one value
abbrev pub one_value : Layout → Known → ℕ → Coded
one_value f known c =
    let same = is_known known.background c in
    record {
      bytes = bit_unless same 2 ∷ pixel_unless f same c;
      after = record { background = Some c; foreground = known.foreground };
    }

-- two values
abbrev pub two_values : Layout → Known → TileValues → ℕ → ℕ → Coded
two_values f known tile back fore =
    let same = is_known known.background back in
    let fore_same = is_known known.foreground fore in
    record {
      bytes = (8 + bit_unless same 2 + bit_unless fore_same 4)
          ∷ (pixel_unless f same back
          ++ (pixel_unless f fore_same fore
          ++ plain_subs (subrects tile.width back tile.values)));
      after = record { background = Some back; foreground = Some fore };
    }

-- more values
abbrev pub more_values : Layout → Known → TileValues → ℕ → Coded
more_values f known tile back =
    let same = is_known known.background back in
    record {
      bytes = (24 + bit_unless same 2)
          ∷ (pixel_unless f same back ++ coloured_subs f (subrects tile.width back tile.values));
      after = record { background = Some back; foreground = None };
    }

-- the pixels themselves
abbrev pub raw : Layout → TileValues → Coded
raw f tile = record { bytes = 1 ∷ flat_map (pixel_bytes f) tile.values; after = nothing_known }

-- the tile as it is, or raw where that is shorter
abbrev pub or_shorter : Layout → TileValues → Coded → Coded
or_shorter f tile coded =
    if nat_lt (1 + length tile.values * byte_count f) (length coded.bytes) then raw f tile
    else coded

-- two values, or more where there is a third
abbrev pub coded_by_third : Layout → Known → TileValues → ℕ → ℕ → Option ℕ → Coded
coded_by_third f known tile a b None =
    let back = more_common tile.values a b in
    or_shorter f tile (two_values f known tile back (if back == a then b else a))
coded_by_third f known tile a b (Some _) =
    or_shorter f tile (more_values f known tile (most_common tile.values))

-- the tile whose first value is a, with b as the next other value
abbrev pub coded_by : Layout → Known → TileValues → ℕ → Option ℕ → Coded
coded_by f known tile a None = one_value f known a
coded_by f known tile a (Some b) =
    coded_by_third f known tile a b (find (λ x. not (x == a) && not (x == b)) tile.values)

unfoldable pub coded : Layout → Known → TileValues → Coded
coded f known tile =
    let a = slice_index tile.values 0 in
    coded_by f known tile a (find (λ x. not (x == a)) tile.values)

-- ---- a rectangle

abbrev pub coded_all : Layout → Known → List TileValues → List ℕ
coded_all f known [] = []
coded_all f known (tile ∷ tiles) =
    (coded f known tile).bytes ++ coded_all f (coded f known tile).after tiles

-- the bytes that the encoder writes for a rectangle of w by h values
unfoldable pub encoding_of : Layout → ℕ → ℕ → List ℕ → List ℕ
encoding_of f w h values = coded_all f nothing_known (tiles_of w h values)
