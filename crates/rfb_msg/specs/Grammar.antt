-- What a viewer's bytes say, by RFC 6143: a version, one byte, and then messages. All numbers
-- have their most significant byte first.
use Rattle.std.specs.Prelude.{◌≡◌, ◌≢◌, ℕ, ◌+◌, ◌*◌, ◌<◌, Bool, true, not, ◌&&◌, ◌==◌, nat_lt, nat_le, if◌then◌else◌, List, [], ◌∷◌, ◌++◌, length, drop, slice_index, codes, Option, Some, None, Ok, Err}
use Rattle.byteorder.specs.Endian.{big_number}
use Rattle.pixel_format.specs.Formats.{format_of}
use Rattle.pixel_format.specs.declared.fault.FormatFault.{FormatFault}
use Rattle.rfb_msg.specs.declared.message.Encoding.{Encoding}
use Rattle.rfb_msg.specs.declared.message.Encoding.TheVariants.{Raw, Hextile}
use Rattle.rfb_msg.specs.declared.message.Message.{Message}
use Rattle.rfb_msg.specs.declared.message.Message.TheVariants.{SetFormat, SetEncodings, Request, Key, Pointer, Cut}
use Rattle.rfb_msg.specs.declared.message.Why.{Why}
use Rattle.rfb_msg.specs.declared.message.Why.TheVariants.{Left, Version as BadVersion, Kind as BadKind, Format as BadFormat}
use Rattle.rfb_msg.specs.declared.message.Step.{Step}
use Rattle.rfb_msg.specs.declared.message.Step.TheVariants.{Version as VersionIsWhole, Init as InitIsWhole, Message as Says, Closed}

-- what comes next of a viewer's bytes
pub data Stage : Type 0 where
  AtVersion : Stage
  AtInit : Stage
  AtMessage : Stage

-- What bytes spell. The last is a SetPixelFormat whose format has this fault.
pub data Item : Type 0 where
  Version : Item
  Init : Item
  Said : Message → Item
  Faulty : FormatFault → Item

-- the stage in which an item stands, and the one after it
abbrev pub stage_of : Item → Stage
stage_of Version = AtVersion
stage_of Init = AtInit
stage_of (Said m) = AtMessage
stage_of (Faulty e) = AtMessage

abbrev pub stage_after : Item → Stage
stage_after Version = AtInit
stage_after Init = AtMessage
stage_after (Said m) = AtMessage
stage_after (Faulty e) = AtMessage

-- whether a version may have this byte at this place: `RFB 003.`, three digits and byte 10
unfoldable pub is_version_byte : ℕ → ℕ → Bool
is_version_byte place b =
    if nat_lt place 8 then b == slice_index (codes "RFB 003.") place else
    if nat_lt place 11 then nat_le 48 b && nat_le b 57 else b == 10

-- the first bytes of a version, as far as they go
abbrev pub BeginsVersion : List ℕ → Type 0
BeginsVersion bytes = (i : ℕ) → i < length bytes → is_version_byte i (slice_index bytes i) ≡ true

-- the fields of a message, each at its place
abbrev pub flag_at : ℕ → List ℕ → Bool
flag_at place bytes = not (slice_index bytes place == 0)

abbrev pub u16_at : ℕ → List ℕ → ℕ
u16_at place bytes = big_number 2 (drop place bytes)

abbrev pub u32_at : ℕ → List ℕ → ℕ
u32_at place bytes = big_number 4 (drop place bytes)

-- the numbers of four bytes each
abbrev pub numbers : List ℕ → List ℕ
numbers (a ∷ b ∷ c ∷ d ∷ bytes) = big_number 4 (a ∷ b ∷ c ∷ d ∷ []) ∷ numbers bytes
numbers _ = []

-- the encoding of this number, if it is served here
unfoldable pub known : ℕ → Option Encoding
known number =
    if number == 0 then Some Raw else
    if number == 5 then Some Hextile else None

-- the first one of two options that is there
abbrev pub first_of_two : Option Encoding → Option Encoding → Option Encoding
first_of_two (Some e) other = Some e
first_of_two None other = other

abbrev pub first_known : List ℕ → Option Encoding
first_known [] = None
first_known (number ∷ more) = first_of_two (known number) (first_known more)

abbrev pub or_raw : Option Encoding → Encoding
or_raw (Some e) = e
or_raw None = Raw

-- the bytes are as many as a message of this type has
abbrev pub IsMessage : ℕ → ℕ → List ℕ → Type 0
IsMessage type size bytes = (slice_index bytes 0 ≡ type) × (length bytes ≡ size)

-- The bytes spell the message. Bytes that no line speaks of may be any: padding, and those of a
-- text.
abbrev pub SpellsMessage : List ℕ → Message → Type 0
SpellsMessage bytes (SetFormat f) =
    IsMessage 0 20 bytes × (format_of (drop 4 bytes) ≡ Ok f)
SpellsMessage bytes (SetEncodings e) =
    IsMessage 2 (4 + 4 * u16_at 2 bytes) bytes
    × (e ≡ or_raw (first_known (numbers (drop 4 bytes))))
SpellsMessage bytes (Request incremental x y w h) =
    IsMessage 3 10 bytes × (incremental ≡ flag_at 1 bytes) × (x ≡ u16_at 2 bytes)
    × (y ≡ u16_at 4 bytes) × (w ≡ u16_at 6 bytes) × (h ≡ u16_at 8 bytes)
SpellsMessage bytes (Key down key) =
    IsMessage 4 8 bytes × (down ≡ flag_at 1 bytes) × (key ≡ u32_at 4 bytes)
SpellsMessage bytes (Pointer mask x y) =
    IsMessage 5 6 bytes × (mask ≡ slice_index bytes 1) × (x ≡ u16_at 2 bytes)
    × (y ≡ u16_at 4 bytes)
SpellsMessage bytes Cut = IsMessage 6 (8 + u32_at 4 bytes) bytes

-- the bytes spell the item
abbrev pub Spells : List ℕ → Item → Type 0
Spells bytes Version = (length bytes ≡ 12) × BeginsVersion bytes
Spells bytes Init = length bytes ≡ 1
Spells bytes (Said m) = SpellsMessage bytes m
Spells bytes (Faulty e) = IsMessage 0 20 bytes × (format_of (drop 4 bytes) ≡ Err e)

-- no item of the stage has a spelling that begins so
abbrev pub NoneBegins : Stage → List ℕ → Type 0
NoneBegins stage bytes =
    (more : List ℕ) (item : Item) → stage_of item ≡ stage → Spells (bytes ++ more) item → ⊥

-- less than an item of the stage: its spelling goes on
abbrev pub IsBegun : Stage → List ℕ → Type 0
IsBegun stage bytes =
    (more : List ℕ) × (item : Item) × (more ≢ []) × (stage_of item ≡ stage)
    × Spells (bytes ++ more) item

-- After the first bytes of an item this byte is bad, and why: no spelling begins so, or the byte
-- ends a faulty format.
abbrev pub IsBad : Stage → List ℕ → ℕ → Why → Type 0
IsBad stage before b Left = ⊥
IsBad stage before b (BadVersion c) =
    (stage ≡ AtVersion) × (c ≡ b) × NoneBegins stage (before ++ b ∷ [])
IsBad stage before b (BadKind c) =
    (stage ≡ AtMessage) × (before ≡ []) × (c ≡ b) × NoneBegins stage (before ++ b ∷ [])
IsBad stage before b (BadFormat e) =
    (stage ≡ AtMessage) × Spells (before ++ b ∷ []) (Faulty e)

-- after the first bytes of an item this byte isn't bad
abbrev pub IsGood : Stage → List ℕ → ℕ → Type 0
IsGood stage before b = (why : Why) → IsBad stage before b why → ⊥

-- the bytes are no item of the stage
abbrev pub IsPart : Stage → List ℕ → Type 0
IsPart stage bytes = (item : Item) → stage_of item ≡ stage → Spells bytes item → ⊥

-- what the last byte of an item brings
abbrev pub step_of : Item → Step
step_of Version = VersionIsWhole
step_of Init = InitIsWhole
step_of (Said m) = Says m
step_of (Faulty e) = Closed (BadFormat e)
