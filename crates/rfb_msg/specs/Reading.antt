-- The program's way of reading: what it keeps of the bytes, and what the next byte makes of that.
use Rattle.std.specs.Prelude.{ℕ, ◌-◌, ◌==◌, not, nat_lt, if◌then◌else◌, List, [], ◌∷◌, ◌++◌, length, drop, slice_index, Option, Some, None, Result, Ok, Err}
use Rattle.byteorder.specs.Endian.{big_number}
use Rattle.pixel_format.specs.Formats.{Layout, format_of}
use Rattle.pixel_format.specs.declared.fault.FormatFault.{FormatFault}
use Rattle.rfb_msg.specs.declared.message.Encoding.{Encoding}
use Rattle.rfb_msg.specs.declared.message.Encoding.TheVariants.{Raw}
use Rattle.rfb_msg.specs.declared.message.Message.{Message}
use Rattle.rfb_msg.specs.declared.message.Message.TheVariants.{SetFormat, SetEncodings, Request, Key, Pointer, Cut}
use Rattle.rfb_msg.specs.declared.message.Why.{Why}
use Rattle.rfb_msg.specs.declared.message.Why.TheVariants.{Version as BadVersion, Kind as BadKind, Format as BadFormat}
use Rattle.rfb_msg.specs.declared.message.Step.{Step}
use Rattle.rfb_msg.specs.declared.message.Step.TheVariants.{Nothing, Version as VersionIsWhole, Init as InitIsWhole, Message as Says, Closed}
use Rattle.rfb_msg.specs.declared.place.Place.{Place}
use Rattle.rfb_msg.specs.declared.place.Place.TheVariants.{Version as InVersion, Init as InInit, Head as InHead, Encodings as InEncodings, Text as InText, Closed as InClosed}
use Rattle.rfb_msg.specs.declared.place.Outcome.{Outcome}
use Rattle.rfb_msg.specs.Kept.{Held, kind_of, head_length}
use Rattle.rfb_msg.specs.declared.head.Kind.{Kind}
use Rattle.rfb_msg.specs.declared.head.Kind.TheVariants.{SetFormat as AFormat, SetEncodings as SomeEncodings, Request as ARequest, Key as AKey, Pointer as APointer, Cut as ACut}
use Rattle.rfb_msg.specs.Grammar.{is_version_byte, flag_at, u16_at, u32_at, known, first_of_two, or_raw}

abbrev pub begun : Place → Outcome
begun place = record { step = Nothing; place = place }

abbrev pub said : Message → Outcome
said m = record { step = Says m; place = InHead }

abbrev pub closed : Why → Outcome
closed why = record { step = Closed why; place = InClosed why }

unfoldable pub after_version : List ℕ → ℕ → Outcome × List ℕ
after_version kept b =
    if not (is_version_byte (length kept) b) then (closed (BadVersion b), kept) else
    if nat_lt (length (kept ++ b ∷ [])) 12 then (begun InVersion, kept ++ b ∷ []) else
    (record { step = VersionIsWhole; place = InInit }, [])

abbrev pub on_format : Result Layout FormatFault → Outcome
on_format (Ok f) = said (SetFormat f)
on_format (Err e) = closed (BadFormat e)

abbrev pub asked_format : List ℕ → Outcome
asked_format head = on_format (format_of (drop 4 head))

abbrev pub listed : ℕ → Outcome
listed count =
    if count == 0 then said (SetEncodings Raw) else begun (InEncodings count None)

abbrev pub cut_off : ℕ → Outcome
cut_off count = if count == 0 then said Cut else begun (InText count)

abbrev pub whole_head : Kind → List ℕ → Outcome
whole_head AFormat head = asked_format head
whole_head SomeEncodings head = listed (u16_at 2 head)
whole_head ARequest head =
    said (Request (flag_at 1 head) (u16_at 2 head) (u16_at 4 head) (u16_at 6 head) (u16_at 8 head))
whole_head AKey head = said (Key (flag_at 1 head) (u32_at 4 head))
whole_head APointer head = said (Pointer (slice_index head 1) (u16_at 2 head) (u16_at 4 head))
whole_head ACut head = cut_off (u32_at 4 head)

abbrev pub on_kind : List ℕ → ℕ → Option Kind → Outcome × List ℕ
on_kind head b None = (closed (BadKind b), [])
on_kind head b (Some kind) =
    if nat_lt (length head) (head_length kind) then (begun InHead, head)
    else (whole_head kind head, [])

unfoldable pub after_head : List ℕ → ℕ → Outcome × List ℕ
after_head kept b = on_kind (kept ++ b ∷ []) b (kind_of (slice_index (kept ++ b ∷ []) 0))

abbrev pub on_number : ℕ → Option Encoding → Outcome
on_number left chosen =
    if nat_lt 1 left then begun (InEncodings (left - 1) chosen)
    else said (SetEncodings (or_raw chosen))

unfoldable pub after_encodings : List ℕ → ℕ → Option Encoding → ℕ → Outcome × List ℕ
after_encodings kept left chosen b =
    if nat_lt (length (kept ++ b ∷ [])) 4
    then (begun (InEncodings left chosen), kept ++ b ∷ []) else
    (on_number left (first_of_two chosen (known (big_number 4 (kept ++ b ∷ [])))), [])

unfoldable pub after_text : ℕ → Outcome
after_text left = if nat_lt 1 left then begun (InText (left - 1)) else said Cut

-- what a byte brings and what comes next, and the bytes that are kept after it
abbrev pub outcome_at : Place → List ℕ → ℕ → Outcome × List ℕ
outcome_at InVersion kept b = after_version kept b
outcome_at InInit kept b = (record { step = InitIsWhole; place = InHead }, kept)
outcome_at InHead kept b = after_head kept b
outcome_at (InEncodings left chosen) kept b = after_encodings kept left chosen b
outcome_at (InText left) kept b = (after_text left, kept)
outcome_at (InClosed why) kept b = (closed why, kept)

abbrev pub after_outcome : Outcome × List ℕ → Step × Held
after_outcome t = (t.0.step, record { place = t.0.place; kept = t.1 })

unfoldable pub advance : Held → ℕ → Step × Held
advance held b = after_outcome (outcome_at held.place held.kept b)
