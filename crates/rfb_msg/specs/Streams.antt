-- All bytes of a viewer, and a reader that is fed with them.
use Rattle.std.specs.Prelude.{◌≡◌, ℕ, List, [], ◌∷◌, ◌++◌}
use Rattle.rfb_msg.specs.declared.message.Why.{Why}
use Rattle.rfb_msg.specs.declared.message.Step.{Step}
use Rattle.rfb_msg.specs.declared.message.Step.TheVariants.{Nothing, Version as VersionIsWhole, Init as InitIsWhole, Message as Says, Closed}
use Rattle.rfb_msg.specs.Grammar.{Stage, AtVersion, Item, Version, Init, Said, Faulty, stage_of, stage_after, Spells, IsBegun, IsBad}
use Rattle.rfb_msg.specs.Kept.{Held}
use Rattle.rfb_msg.specs.Standing.{Stands, IsClosed, Brings}

-- the item has no fault
abbrev pub IsServed : Item → Type 0
IsServed (Faulty e) = ⊥
IsServed item = Unit {0}

-- From the one stage on, the bytes are these items, and then in the other stage the rest.
abbrev pub StreamFrom : Stage → List ℕ → List Item → Stage → List ℕ → Type 0
StreamFrom stage bytes [] end rest = (end ≡ stage) × (rest ≡ bytes)
StreamFrom stage bytes (item ∷ items) end rest =
    (first more : List ℕ) × (bytes ≡ first ++ more) × (stage_of item ≡ stage) × IsServed item
    × Spells first item × StreamFrom (stage_after item) more items end rest

-- The bytes are a version, then one byte, then messages, cut off anywhere: these are the whole
-- items, and the rest is less than one.
abbrev pub Stream : List ℕ → List Item → List ℕ → Type 0
Stream bytes items rest =
    (end : Stage) × StreamFrom AtVersion bytes items end rest × IsBegun end rest

-- The bytes are such items, then less than one more, and then a byte that is bad for this reason.
-- What follows it may be anything.
pub record BreaksOff (stage : Stage) (bytes : List ℕ) (items : List Item) (why : Why) : Type 0 where
  pub prefix : List ℕ
  pub bad : ℕ
  pub back : List ℕ
  pub end : Stage
  pub rest : List ℕ
  pub parts : bytes ≡ prefix ++ bad ∷ back
  pub stream : StreamFrom stage prefix items end rest
  pub begun : IsBegun end rest
  pub is_bad : IsBad end rest bad why

-- What a call of `feed` promises: of what is kept before it, the byte, its answer, and what is
-- kept after it.
abbrev pub Answers : Held → ℕ → Step → Held → Type 0
Answers old b step new =
    ((stage : Stage) (before : List ℕ) → Stands old stage before → Brings stage before b step new)
    × ((why : Why) → IsClosed old why → (step ≡ Closed why) × IsClosed new why)

-- Calls of `feed`, one for each of the bytes, answer so and lead from the one reader to the other.
abbrev pub Feeds : Held → List ℕ → List Step → Held → Type 0
Feeds old [] steps new = (steps ≡ []) × (new ≡ old)
Feeds old (b ∷ bytes) steps new =
    (step : Step) × (mid : Held) × (more : List Step) × (steps ≡ step ∷ more)
    × Answers old b step mid × Feeds mid bytes more new

-- the items among the answers
abbrev pub items_of : List Step → List Item
items_of [] = []
items_of (Nothing ∷ steps) = items_of steps
items_of (VersionIsWhole ∷ steps) = Version ∷ items_of steps
items_of (InitIsWhole ∷ steps) = Init ∷ items_of steps
items_of (Says m ∷ steps) = Said m ∷ items_of steps
items_of (Closed why ∷ steps) = items_of steps

-- no answer is that the reader is closed
abbrev pub NoneCloses : List Step → Type 0
NoneCloses [] = Unit {0}
NoneCloses (Closed why ∷ steps) = ⊥
NoneCloses (step ∷ steps) = NoneCloses steps
