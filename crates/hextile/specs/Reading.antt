-- Reading hextile data from left to right. A reader gives a value and the bytes after it, or how
-- many bytes are left at the first one that can't stand there.
use Rattle.std.specs.Prelude.{◌≡◌, ℕ, zero, suc, ◌+◌, ◌*◌, ◌/◌, ◌%◌, Bool, true, false, not, ◌&&◌, ◌||◌, ◌==◌, nat_lt, nat_le, if◌then◌else◌, List, [], ◌∷◌, ◌++◌, length, take, drop, Option, Some, None, is_some, unwrap_or, Result, Ok, Err}
use Rattle.pixel_format.specs.Formats.{Layout, byte_count, pixel_value}
use denote.Ref.{Bor}
use Rattle.hextile.specs.declared.pixels.Fault.{Fault}
use Rattle.hextile.specs.declared.sub.Sub.{Sub}
use Rattle.hextile.specs.declared.known.Known.{Known}
use Rattle.hextile.specs.Painting.{with_subs}
use Rattle.hextile.specs.Tiles.{TileValues, tiles_along, tile_side, nothing_known}

abbrev pub Read : Type 0 → Type 0
Read A = Result (A × List ℕ) ℕ

-- what a function returned, its value seen by view, is what reading gives
abbrev pub ReadGives : {X A : Type 0} → (X → A) → Result (X × Bor (List ℕ)) Fault → Read A → Type 0
ReadGives view (Ok x) read = read ≡ Ok (view x.0, x.1.now)
ReadGives view (Err fault) read = read ≡ Err fault.left

-- goes on with what was read
abbrev pub on_read : {A B : Type 0} → Read A → (A → List ℕ → Read B) → Read B
on_read (Ok x) next = next x.0 x.1
on_read (Err left) next = Err left

-- the next byte, which a test has to let pass
abbrev pub read_byte : (ℕ → Bool) → List ℕ → Read ℕ
read_byte passes [] = Err 0
read_byte passes (b ∷ rest) = if passes b then Ok (b, rest) else Err (length rest + 1)

-- the value of the next pixel
unfoldable pub read_pixel : Layout → List ℕ → Read ℕ
read_pixel f bytes =
    if nat_lt (length bytes) (byte_count f) then Err 0
    else Ok (pixel_value f (take (byte_count f) bytes), drop (byte_count f) bytes)

-- a pixel where one is announced, and otherwise the known value
abbrev pub read_given : Layout → Bool → Option ℕ → List ℕ → Read (Option ℕ)
read_given f true known bytes = on_read (read_pixel f bytes) (λ value rest. Ok (Some value, rest))
read_given f false known bytes = Ok (known, bytes)

-- so many pixels, after those that were read
unfoldable pub read_pixels : Layout → List ℕ → ℕ → List ℕ → Read (List ℕ)
read_pixels f found zero bytes = Ok (found, bytes)
read_pixels f found (suc left) bytes =
    on_read (read_pixel f bytes) (λ value rest. read_pixels f (found ++ (value ∷ [])) left rest)

-- ---- subrectangles

-- the byte tells a place in a tile of these sides
abbrev pub is_place : ℕ → ℕ → ℕ → Bool
is_place width height place = nat_lt (place / 16) width && nat_lt (place % 16) height

-- the byte tells sides that fit into the tile from that place on
abbrev pub is_extent : ℕ → ℕ → ℕ → ℕ → Bool
is_extent width height place size =
    nat_le (place / 16 + (size / 16 + 1)) width && nat_le (place % 16 + (size % 16 + 1)) height

abbrev pub sub_from : Option ℕ → ℕ → ℕ → Sub
sub_from value place size =
    record {
      value = unwrap_or value 0;
      x = place / 16;
      y = place % 16;
      width = size / 16 + 1;
      height = size % 16 + 1;
    }

unfoldable pub read_sub : Layout → Bool → Option ℕ → ℕ → ℕ → List ℕ → Read Sub
read_sub f coloured fore width height bytes =
    on_read (read_given f coloured fore bytes) (λ value after.
    on_read (read_byte (is_place width height) after) (λ place last.
    on_read (read_byte (is_extent width height place) last) (λ size rest.
    Ok (sub_from value place size, rest))))

-- so many subrectangles, after those that were read
unfoldable pub read_subs : Layout → Bool → Option ℕ → ℕ → ℕ → List Sub → ℕ → List ℕ
    → Read (List Sub)
read_subs f coloured fore width height found zero bytes = Ok (found, bytes)
read_subs f coloured fore width height found (suc left) bytes =
    on_read (read_sub f coloured fore width height bytes) (λ s rest.
    read_subs f coloured fore width height (found ++ (s ∷ [])) left rest)

-- the subrectangles where the mask announces them, after their count
abbrev pub read_listed : Layout → Bool → Bool → Option ℕ → ℕ → ℕ → List ℕ → Read (List Sub)
read_listed f true coloured fore width height bytes =
    on_read (read_byte (λ _. true) bytes) (λ count rest.
    read_subs f coloured fore width height [] count rest)
read_listed f false coloured fore width height bytes = Ok ([], bytes)

-- ---- tiles

-- whether the mask has this bit
abbrev pub has_bit : ℕ → ℕ → Bool
has_bit mask bit = mask / bit % 2 == 1

-- A tile may begin with the mask where this much is known: it is raw, or it has no bit that means
-- nothing, and what it needs of the background and the foreground is announced or known.
unfoldable pub is_mask : Known → ℕ → Bool
is_mask known mask =
    has_bit mask 1
    || (nat_lt mask 32 && not (has_bit mask 4 && has_bit mask 16)
    && (has_bit mask 8 || not (has_bit mask 16))
    && (has_bit mask 2 || is_some known.background)
    && (not (has_bit mask 8) || has_bit mask 16 || has_bit mask 4 || is_some known.foreground))

-- a tile's values, and what is known after it
pub record TileRead : Type 0 where
  pub values : List ℕ
  pub after : Known

abbrev pub painted_tile : ℕ → ℕ → Bool → Option ℕ → Option ℕ → List Sub → TileRead
painted_tile width height coloured back fore subs =
    record {
      values = with_subs width (height * width) (unwrap_or back 0) subs;
      after = record {
        background = Some (unwrap_or back 0);
        foreground = if coloured then None else fore;
      };
    }

unfoldable pub read_painted : Layout → Known → ℕ → ℕ → ℕ → List ℕ → Read TileRead
read_painted f known mask width height bytes =
    on_read (read_given f (has_bit mask 2) known.background bytes) (λ back after.
    on_read (read_given f (has_bit mask 4) known.foreground after) (λ fore last.
    on_read (read_listed f (has_bit mask 8) (has_bit mask 16) fore width height last) (λ subs rest.
    Ok (painted_tile width height (has_bit mask 16) back fore subs, rest))))

unfoldable pub read_raw : Layout → ℕ → ℕ → List ℕ → Read TileRead
read_raw f width height bytes =
    on_read (read_pixels f [] (height * width) bytes) (λ values rest.
    Ok (record { values = values; after = nothing_known }, rest))

unfoldable pub read_tile : Layout → Known → ℕ → ℕ → List ℕ → Read TileRead
read_tile f known width height bytes =
    on_read (read_byte (is_mask known) bytes) (λ mask rest.
    if has_bit mask 1 then read_raw f width height rest
    else read_painted f known mask width height rest)

-- the tiles from one with a number on, so many, after those that were read
unfoldable pub read_tiles : Layout → ℕ → ℕ → Known → List TileValues → ℕ → List ℕ
    → Read (List TileValues)
read_tiles f w h known found zero bytes = Ok (found, bytes)
read_tiles f w h known found (suc left) bytes =
    let width = tile_side w (length found % tiles_along w) in
    let height = tile_side h (length found / tiles_along w) in
    on_read (read_tile f known width height bytes) (λ read rest.
    read_tiles f w h read.after
    (found ++ ((record { width = width; values = read.values }) ∷ [])) left rest)

-- all tiles of a rectangle of w by h values
unfoldable pub read_rectangle : Layout → ℕ → ℕ → List ℕ → Read (List TileValues)
read_rectangle f w h bytes =
    read_tiles f w h nothing_known [] (tiles_along h * tiles_along w) bytes
