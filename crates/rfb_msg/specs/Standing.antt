-- What a reader stands for: a stage, and the bytes since the last item. The reader forgets most of
-- them, so this is a relation between what it keeps and the bytes.
use Rattle.std.specs.Prelude.{◌≡◌, ◌⊎◌, ℕ, ◌+◌, ◌*◌, ◌<◌, ◌≤◌, List, [], ◌∷◌, ◌++◌, length, drop, slice_index, Option, Some}
use Rattle.rfb_msg.specs.declared.message.Encoding.{Encoding}
use Rattle.rfb_msg.specs.declared.message.Why.{Why}
use Rattle.rfb_msg.specs.declared.message.Step.{Step}
use Rattle.rfb_msg.specs.declared.message.Step.TheVariants.{Nothing, Version as VersionIsWhole, Init as InitIsWhole, Message as Says, Closed}
use Rattle.rfb_msg.specs.declared.place.Place.{Place}
use Rattle.rfb_msg.specs.declared.place.Place.TheVariants.{Version as InVersion, Init as InInit, Head as InHead, Encodings as InEncodings, Text as InText, Closed as InClosed}
use Rattle.rfb_msg.specs.declared.head.Kind.{Kind}
use Rattle.rfb_msg.specs.Grammar.{Stage, AtVersion, AtInit, AtMessage, Item, Version, Init, Said, stage_of, stage_after, BeginsVersion, u16_at, u32_at, numbers, first_known, Spells, IsBegun, IsBad}
use Rattle.rfb_msg.specs.Kept.{Held, kind_of, head_length}

-- less than the head of a message
abbrev pub IsHead : List ℕ → Type 0
IsHead [] = Unit {0}
IsHead (b ∷ more) = (kind : Kind) × (kind_of b ≡ Some kind) × (length (b ∷ more) < head_length kind)

-- The head of a SetEncodings and some of its encodings. As many are left, and of those that came
-- this one is the first that is served here.
pub record IsListed (bytes : List ℕ) (left : ℕ) (chosen : Option Encoding) : Type 0 where
  pub type : slice_index bytes 0 ≡ 2
  pub came : ℕ
  pub whole : length bytes ≡ 4 + 4 * came
  pub all : came + left ≡ u16_at 2 bytes
  pub more : 0 < left
  pub first : chosen ≡ first_known (numbers (drop 4 bytes))

-- the head of a text that was cut, and some of its bytes: as many are left
pub record IsText (bytes : List ℕ) (left : ℕ) : Type 0 where
  pub type : slice_index bytes 0 ≡ 6
  pub head : 8 ≤ length bytes
  pub all : length bytes + left ≡ 8 + u32_at 4 bytes
  pub more : 0 < left

-- What is kept stands for the stage and the bytes.
abbrev pub StandsAt : Place → List ℕ → Stage → List ℕ → Type 0
StandsAt InVersion kept stage bytes =
    (stage ≡ AtVersion) × (bytes ≡ kept) × (length kept < 12) × BeginsVersion kept
StandsAt InInit kept stage bytes = (stage ≡ AtInit) × (bytes ≡ []) × (kept ≡ [])
StandsAt InHead kept stage bytes = (stage ≡ AtMessage) × (bytes ≡ kept) × IsHead kept
StandsAt (InEncodings left chosen) kept stage bytes =
    (stage ≡ AtMessage) × (prefix : List ℕ) × (bytes ≡ prefix ++ kept) × IsListed prefix left chosen
    × (length kept < 4)
StandsAt (InText left) kept stage bytes = (stage ≡ AtMessage) × (kept ≡ []) × IsText bytes left
StandsAt (InClosed why) kept stage bytes = ⊥

abbrev pub Stands : Held → Stage → List ℕ → Type 0
Stands held stage bytes = StandsAt held.place held.kept stage bytes

-- nothing more is read, for this reason
abbrev pub IsClosed : Held → Why → Type 0
IsClosed held why = held.place ≡ InClosed why

-- What is kept stands for a stage and some bytes, or nothing more is read.
abbrev pub IsReader : Held → Type 0
IsReader held =
    ((stage : Stage) × (before : List ℕ) × Stands held stage before)
    ⊎ ((why : Why) × IsClosed held why)

-- the bytes are an item of the stage, after which what is kept stands for the next stage and no
-- bytes
abbrev pub Gives : Stage → List ℕ → Item → Held → Type 0
Gives stage bytes item new =
    (stage_of item ≡ stage) × Spells bytes item × Stands new (stage_after item) []

-- After these bytes of the stage, the byte brings this step, and this is kept.
abbrev pub Brings : Stage → List ℕ → ℕ → Step → Held → Type 0
Brings stage before b Nothing new =
    IsBegun stage (before ++ b ∷ []) × Stands new stage (before ++ b ∷ [])
Brings stage before b VersionIsWhole new = Gives stage (before ++ b ∷ []) Version new
Brings stage before b InitIsWhole new = Gives stage (before ++ b ∷ []) Init new
Brings stage before b (Says m) new = Gives stage (before ++ b ∷ []) (Said m) new
Brings stage before b (Closed why) new = IsBad stage before b why × IsClosed new why
