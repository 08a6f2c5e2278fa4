-- The parts of hextile data are read by readers: each can be completed wherever it is cut.
use Rattle.std.proofs.Common.{◌≡◌, ℕ, zero, suc, ◌+◌, ◌*◌, ◌/◌, ◌%◌, ◌<◌, ◌≤◌, Bool, true, false, cond, Option, List, [], ◌∷◌, ◌++◌, length, Ok, refl, arith}
use Rattle.std.proofs.lemmas.Bool.{and_parts, ltb-true}
use Rattle.std.proofs.lemmas.Bool.Decides.{nat_tests}
use Rattle.std.proofs.lemmas.List.{length-append}
use Rattle.pixel_format.specs.Formats.{Layout}
use Rattle.hextile.specs.declared.sub.Sub.{Sub}
use Rattle.hextile.specs.declared.known.Known.{Known}
use Rattle.hextile.specs.Tiles.{TileValues, tiles_along, tile_side, nothing_known}
use Rattle.hextile.specs.Reading.{on_read, read_byte, read_pixel, read_given, read_pixels, is_place, is_extent, sub_from, read_sub, read_subs, read_listed, has_bit, is_mask, TileRead, painted_tile, read_painted, read_raw, read_tile, read_tiles, read_rectangle}
use Rattle.hextile.proofs.TilingLemmas.{side_some}
use Rattle.std.proofs.lemmas.Nat.{mod_below, div_below}
use Rattle.hextile.proofs.ReaderLemmas.{HasWord, then_has, has_nothing, has_byte, has_pixel, byte_passed}

pub has_given : (f : Layout) (announced : Bool) (known : Option ℕ) → HasWord (read_given f announced known)
has_given f true known = then_has (read_pixel f) _ (has_pixel f) (λ x _. has_nothing _)
has_given f false known = has_nothing known

pub has_pixels : (f : Layout) (found : List ℕ) (left : ℕ) → HasWord (read_pixels f found left)
unfolding read_pixels
has_pixels f found zero = has_nothing found
has_pixels f found (suc left) = then_has (read_pixel f) (λ value rest. read_pixels f (found ++ (value ∷ [])) left rest) (has_pixel f) (λ x _. has_pixels f (found ++ (x ∷ [])) left)

first_place : (width height : ℕ) → 1 ≤ width → 1 ≤ height → is_place width height 0 ≡ true
first_place width height wide high = grind (arith, nat_tests)

least_size : (width height place : ℕ) → is_place width height place ≡ true → is_extent width height place 0 ≡ true
least_size width height place there =
    let parts = and_parts _ _ there in
    let left : place / 16 < width = ltb-true _ _ parts.0 in
    let top : place % 16 < height = ltb-true _ _ parts.1 in
    grind (arith, nat_tests)

pub has_sub : (f : Layout) (coloured : Bool) (fore : Option ℕ) (width height : ℕ) → 1 ≤ width → 1 ≤ height → HasWord (read_sub f coloured fore width height)
unfolding read_sub
has_sub f coloured fore width height wide high =
    then_has (read_given f coloured fore) (λ value after. on_read (read_byte (is_place width height) after) (λ place last. on_read (read_byte (is_extent width height place) last) (λ size rest. Ok (sub_from value place size, rest)))) (has_given f coloured fore) (λ value _.
    then_has (read_byte (is_place width height)) (λ place last. on_read (read_byte (is_extent width height place) last) (λ size rest. Ok (sub_from value place size, rest))) (has_byte (is_place width height) 0 (first_place width height wide high) (omega arith)) (λ place gives.
    then_has (read_byte (is_extent width height place)) (λ size rest. Ok (sub_from value place size, rest)) (has_byte (is_extent width height place) 0 (least_size width height place (byte_passed (is_place width height) place gives)) (omega arith)) (λ size _.
    has_nothing (sub_from value place size))))

pub has_subs : (f : Layout) (coloured : Bool) (fore : Option ℕ) (width height : ℕ) (found : List Sub) (left : ℕ) → 1 ≤ width → 1 ≤ height → HasWord (read_subs f coloured fore width height found left)
unfolding read_subs
has_subs f coloured fore width height found zero wide high = has_nothing found
has_subs f coloured fore width height found (suc left) wide high =
    then_has (read_sub f coloured fore width height) (λ s rest. read_subs f coloured fore width height (found ++ (s ∷ [])) left rest) (has_sub f coloured fore width height wide high) (λ s _. has_subs f coloured fore width height (found ++ (s ∷ [])) left wide high)

pub has_listed : (f : Layout) (listed coloured : Bool) (fore : Option ℕ) (width height : ℕ) → 1 ≤ width → 1 ≤ height → HasWord (read_listed f listed coloured fore width height)
has_listed f true coloured fore width height wide high =
    then_has (read_byte (λ _. true)) (λ count rest. read_subs f coloured fore width height [] count rest) (has_byte (λ _. true) 0 refl (omega arith)) (λ count _. has_subs f coloured fore width height [] count wide high)
has_listed f false coloured fore width height wide high = has_nothing []

pub has_painted : (f : Layout) (known : Known) (mask width height : ℕ) → 1 ≤ width → 1 ≤ height → HasWord (read_painted f known mask width height)
unfolding read_painted
has_painted f known mask width height wide high =
    then_has (read_given f (has_bit mask 2) known.background) (λ back after. on_read (read_given f (has_bit mask 4) known.foreground after) (λ fore last. on_read (read_listed f (has_bit mask 8) (has_bit mask 16) fore width height last) (λ subs rest. Ok (painted_tile width height (has_bit mask 16) back fore subs, rest)))) (has_given f (has_bit mask 2) known.background) (λ back _.
    then_has (read_given f (has_bit mask 4) known.foreground) (λ fore last. on_read (read_listed f (has_bit mask 8) (has_bit mask 16) fore width height last) (λ subs rest. Ok (painted_tile width height (has_bit mask 16) back fore subs, rest))) (has_given f (has_bit mask 4) known.foreground) (λ fore _.
    then_has (read_listed f (has_bit mask 8) (has_bit mask 16) fore width height) (λ subs rest. Ok (painted_tile width height (has_bit mask 16) back fore subs, rest)) (has_listed f (has_bit mask 8) (has_bit mask 16) fore width height wide high) (λ subs _.
    has_nothing (painted_tile width height (has_bit mask 16) back fore subs))))

raw_tile : List ℕ → TileRead
raw_tile values = record { values = values; after = nothing_known }

pub has_raw : (f : Layout) (width height : ℕ) → HasWord (read_raw f width height)
unfolding read_raw raw_tile
has_raw f width height = then_has (read_pixels f [] (height * width)) (λ values rest. Ok (raw_tile values, rest)) (has_pixels f [] (height * width)) (λ values _. has_nothing (raw_tile values))

raw_mask : (known : Known) → is_mask known 1 ≡ true
unfolding is_mask
raw_mask known = refl

pub has_tile : (f : Layout) (known : Known) (width height : ℕ) → 1 ≤ width → 1 ≤ height → HasWord (read_tile f known width height)
unfolding read_tile
has_tile f known width height wide high =
    then_has (read_byte (is_mask known)) (λ mask rest. cond (has_bit mask 1) (read_raw f width height rest) (read_painted f known mask width height rest)) (has_byte (is_mask known) 1 (raw_mask known) (omega arith)) (λ mask _. by_bit (has_bit mask 1) mask)
  where
    by_bit : (raw : Bool) (mask : ℕ) → HasWord (λ rest. cond raw (read_raw f width height rest) (read_painted f known mask width height rest))
    by_bit true mask = has_raw f width height
    by_bit false mask = has_painted f known mask width height wide high

-- a tile with a number that is low enough has points
pub sides_some : (w h number : ℕ) → number < tiles_along h * tiles_along w → (1 ≤ tile_side w (number % tiles_along w)) × (1 ≤ tile_side h (number / tiles_along w))
sides_some w h number lt =
    let wide : 1 ≤ tiles_along w = some_columns (tiles_along h) (tiles_along w) lt in
    ((side_some w (number % tiles_along w) (mod_below number (tiles_along w) wide)).0, (side_some h (number / tiles_along w) (div_below number (tiles_along w) (tiles_along h) wide lt)).0)
  where
    some_columns : (rows columns : ℕ) → number < rows * columns → 1 ≤ columns
    some_columns rows zero lt = absurd (omega arith)
    some_columns rows (suc columns) lt = omega arith

pub has_tiles : (f : Layout) (w h : ℕ) (known : Known) (found : List TileValues) (left : ℕ) → length found + left ≡ tiles_along h * tiles_along w → HasWord (read_tiles f w h known found left)
unfolding read_tiles
has_tiles f w h known found zero count = has_nothing found
has_tiles f w h known found (suc left) count =
    let number = length found in
    let width = tile_side w (number % tiles_along w) in
    let height = tile_side h (number / tiles_along w) in
    let some = sides_some w h number (omega arith) in
    then_has (read_tile f known width height) (λ read rest. read_tiles f w h read.after (found ++ ((record { width = width; values = read.values }) ∷ [])) left rest) (has_tile f known width height some.0 some.1) (λ read _.
    let next : TileValues = record { width = width; values = read.values } in
    has_tiles f w h read.after (found ++ (next ∷ [])) left (omega (arith, length-append found (next ∷ []))))

pub has_rectangle : (f : Layout) (w h : ℕ) → HasWord (read_rectangle f w h)
unfolding read_rectangle
has_rectangle f w h = has_tiles f w h nothing_known [] (tiles_along h * tiles_along w) (omega arith)
