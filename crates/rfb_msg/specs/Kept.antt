-- What a reader keeps, and how much of each kind of message.
use Rattle.std.specs.Prelude.{ℕ, ◌==◌, if◌then◌else◌, List, Option, Some, None}
use Rattle.rfb_msg.specs.declared.place.Place.{Place}
use Rattle.rfb_msg.specs.declared.head.Kind.{Kind}
use Rattle.rfb_msg.specs.declared.head.Kind.TheVariants.{SetFormat as AFormat, SetEncodings as SomeEncodings, Request as ARequest, Key as AKey, Pointer as APointer, Cut as ACut}

-- what comes next, and the bytes that are kept
pub record Held : Type 0 where
  pub place : Place
  pub kept : List ℕ

-- the kind of message that begins with this byte
unfoldable pub kind_of : ℕ → Option Kind
kind_of b =
    if b == 0 then Some AFormat else
    if b == 2 then Some SomeEncodings else
    if b == 3 then Some ARequest else
    if b == 4 then Some AKey else
    if b == 5 then Some APointer else
    if b == 6 then Some ACut else None

-- how many bytes a message has but for the encodings that it lists and the text that was cut
abbrev pub head_length : Kind → ℕ
head_length AFormat = 20
head_length SomeEncodings = 4
head_length ARequest = 10
head_length AKey = 8
head_length APointer = 6
head_length ACut = 8
