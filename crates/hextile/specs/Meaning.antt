-- What bytes mean as hextile data of a rectangle of values, told without the encoder.
use Rattle.std.specs.Prelude.{◌≡◌, ℕ, ◌+◌, ◌-◌, ◌*◌, ◌/◌, ◌%◌, ◌^◌, ◌<◌, ◌≤◌, ◌⊎◌, Bool, true, false, if◌then◌else◌, List, [], ◌∷◌, ◌++◌, length, Option, Some, None, IsSome}
use Rattle.std.specs.List.{flat_map, AllByRecursion}
use Rattle.pixel_format.specs.Formats.{Layout, pixel_bytes}
use Rattle.hextile.specs.declared.sub.Sub.{Sub}
use Rattle.hextile.specs.declared.known.Known.{Known}
use Rattle.hextile.specs.Painting.{with_subs}
use Rattle.hextile.specs.Tiles.{TileValues, tiles_of, nothing_known}

-- which parts a tile has: the bits 2, 4, 8 and 16 of its mask
pub record Parts : Type 0 where
  pub background : Bool
  pub foreground : Bool
  pub subrects : Bool
  pub coloured : Bool

-- bits 4 and 16 aren't set together, and bit 16 is set only with bit 8
pub record IsMask (parts : Parts) (mask : ℕ) : Type 0 where
  pub not_both : parts.foreground ≡ true → parts.coloured ≡ false
  pub only_with : parts.coloured ≡ true → parts.subrects ≡ true
  pub mask_is : mask ≡ (if parts.background then 2 else 0) + (if parts.foreground then 4 else 0)
      + (if parts.subrects then 8 else 0) + (if parts.coloured then 16 else 0)

-- a pixel that the mask announces, and otherwise the known one
abbrev pub IsGiven : Layout → Bool → Option ℕ → ℕ → List ℕ → Type 0
IsGiven f true known value bytes = (value < 2 ^ f.bits) × (bytes ≡ pixel_bytes f value)
IsGiven f false known value bytes = (known ≡ Some value) × (bytes ≡ [])

-- the foreground that the mask announces, and otherwise the known one, if any
abbrev pub IsForeground : Layout → Bool → Option ℕ → Option ℕ → List ℕ → Type 0
IsForeground f true known fore bytes =
    (value : ℕ) × (value < 2 ^ f.bits) × (fore ≡ Some value) × (bytes ≡ pixel_bytes f value)
IsForeground f false known fore bytes = (fore ≡ known) × (bytes ≡ [])

-- the value of a subrectangle: its own where they are coloured, and otherwise the foreground
abbrev pub HasValue : Layout → Bool → Option ℕ → ℕ → Type 0
HasValue f true fore value = value < 2 ^ f.bits
HasValue f false fore value = fore ≡ Some value

-- a subrectangle that lies in a tile of these sides
pub record IsSub (f : Layout) (coloured : Bool) (fore : Option ℕ) (width height : ℕ) (s : Sub)
    : Type 0 where
  pub value : HasValue f coloured fore s.value
  pub some_width : 1 ≤ s.width
  pub some_height : 1 ≤ s.height
  pub across : s.x + s.width ≤ width
  pub down : s.y + s.height ≤ height

-- its bytes: its pixel where they are coloured, its place, its sides
abbrev pub bytes_of_sub : Layout → Bool → Sub → List ℕ
bytes_of_sub f coloured s =
    (if coloured then pixel_bytes f s.value else [])
    ++ ((s.x * 16 + s.y) ∷ (((s.width - 1) * 16 + (s.height - 1)) ∷ []))

-- the subrectangles where the mask announces them, with their count; there are none otherwise
abbrev pub AreListed : Layout → Bool → Bool → List Sub → List ℕ → Type 0
AreListed f true coloured subs bytes =
    (length subs < 256) × (bytes ≡ length subs ∷ flat_map (bytes_of_sub f coloured) subs)
AreListed f false coloured subs bytes = (subs ≡ []) × (bytes ≡ [])

-- the tile is painted: a background, a foreground, and subrectangles
pub record IsPainted (f : Layout) (known : Known) (tile : TileValues) (bytes : List ℕ)
    (after : Known) : Type 0 where
  pub parts : Parts
  pub mask : ℕ
  pub is_mask : IsMask parts mask
  pub back : ℕ
  pub back_bytes : List ℕ
  pub is_back : IsGiven f parts.background known.background back back_bytes
  pub fore : Option ℕ
  pub fore_bytes : List ℕ
  pub is_fore : IsForeground f parts.foreground known.foreground fore fore_bytes
  pub needs_fore : parts.subrects ≡ true → parts.coloured ≡ false → IsSome fore
  pub subs : List Sub
  pub sub_bytes : List ℕ
  pub listed : AreListed f parts.subrects parts.coloured subs sub_bytes
  pub each : AllByRecursion
      (IsSub f parts.coloured fore tile.width (length tile.values / tile.width)) subs
  pub spelled : bytes ≡ mask ∷ (back_bytes ++ (fore_bytes ++ sub_bytes))
  pub shown : tile.values ≡ with_subs tile.width (length tile.values) back subs
  pub after_is : after
      ≡ record { background = Some back; foreground = if parts.coloured then None else fore }

-- the tile's pixels follow. The other bits of the mask have no meaning
pub record IsRaw (f : Layout) (tile : TileValues) (bytes : List ℕ) (after : Known) : Type 0 where
  pub mask : ℕ
  pub bit : mask % 2 ≡ 1
  pub byte : mask < 256
  pub each : AllByRecursion (λ value. value < 2 ^ f.bits) tile.values
  pub spelled : bytes ≡ mask ∷ flat_map (pixel_bytes f) tile.values
  pub after_is : after ≡ nothing_known

-- the bytes mean the tile where this much is known, and that much is known after it
abbrev pub MeansTile : Layout → Known → TileValues → List ℕ → Known → Type 0
MeansTile f known tile bytes after = IsRaw f tile bytes after ⊎ IsPainted f known tile bytes after

-- the bytes are those of the tiles, one after the other
abbrev pub MeansTiles : Layout → Known → List TileValues → List ℕ → Type 0
MeansTiles f known [] bytes = bytes ≡ []
MeansTiles f known (tile ∷ tiles) bytes =
    (prefix rest : List ℕ) × (after : Known) × (bytes ≡ prefix ++ rest)
    × MeansTile f known tile prefix after × MeansTiles f after tiles rest

-- the bytes are hextile data of a rectangle of w by h values
pub record DecodesTo (f : Layout) (w h : ℕ) (bytes values : List ℕ) : Type 0 where
  pub count_is : length values ≡ h * w
  pub tiles : MeansTiles f nothing_known (tiles_of w h values) bytes
