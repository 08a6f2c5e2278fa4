-- Bytes spell one item of a stage, and no spelling begins another.
use Rattle.std.proofs.Common.{◌≡◌, ℕ, ◌+◌, ◌*◌, ◌<◌, ◌==◌, if◌then◌else◌, List, [], ◌∷◌, ◌++◌, length, drop, slice_index, refl, sym, ◌∙◌, ap, subst, arith, append-nil}
use Rattle.std.proofs.Common.{lit<}
use Rattle.std.proofs.lemmas.List.{length-append}
use Rattle.pixel_format.specs.Formats.{format_of}
use Rattle.pixel_format.specs.declared.fault.FormatFault.{FormatFault}
use Rattle.rfb_msg.specs.declared.message.Encoding.{Encoding}
use Rattle.rfb_msg.specs.declared.message.Message.{Message}
use Rattle.rfb_msg.specs.declared.message.Message.TheVariants.{SetFormat, SetEncodings, Request, Key, Pointer, Cut}
use Rattle.rfb_msg.specs.declared.message.Why.{Why}
use Rattle.rfb_msg.specs.declared.message.Why.TheVariants.{Left, Version as BadVersion, Kind as BadKind, Format as BadFormat}
use Rattle.rfb_msg.specs.declared.message.Step.{Step}
use Rattle.rfb_msg.specs.declared.message.Step.TheVariants.{Nothing, Version as VersionIsWhole, Init as InitIsWhole, Message as Says, Closed}
use Rattle.rfb_msg.specs.Grammar.{Stage, AtVersion, AtMessage, Item, Version, Init, Said, Faulty, stage_of, stage_after, step_of, flag_at, u16_at, u32_at, numbers, first_known, or_raw, Spells, NoneBegins, IsBegun, IsBad}
use Rattle.rfb_msg.specs.Kept.{Held}
use Rattle.rfb_msg.specs.Standing.{Stands, IsClosed, Brings}
use Rattle.rfb_msg.proofs.FieldLemmas.{first_stays, u16_stays, u32_stays}
use Rattle.rfb_msg.proofs.BegunLemmas.{format_item}

-- the type of a message
abbrev type_of_message : Message → ℕ
type_of_message (SetFormat f) = 0
type_of_message (SetEncodings e) = 2
type_of_message (Request i x y w h) = 3
type_of_message (Key d k) = 4
type_of_message (Pointer m x y) = 5
type_of_message Cut = 6

abbrev type_of : Item → ℕ
type_of Version = 0
type_of Init = 0
type_of (Said m) = type_of_message m
type_of (Faulty e) = 0

-- how many bytes a message of this type has
abbrev size_of : ℕ → List ℕ → ℕ
size_of type bytes =
    if type == 0 then 20 else if type == 2 then 4 + 4 * u16_at 2 bytes else if type == 3 then 10 else
    if type == 4 then 8 else if type == 5 then 6 else 8 + u32_at 4 bytes

abbrev item_at : ℕ → List ℕ → Item
item_at type bytes =
    if type == 0 then format_item (format_of (drop 4 bytes)) else
    if type == 2 then Said (SetEncodings (or_raw (first_known (numbers (drop 4 bytes))))) else
    if type == 3 then Said (Request (flag_at 1 bytes) (u16_at 2 bytes) (u16_at 4 bytes) (u16_at 6 bytes) (u16_at 8 bytes)) else
    if type == 4 then Said (Key (flag_at 1 bytes) (u32_at 4 bytes)) else
    if type == 5 then Said (Pointer (slice_index bytes 1) (u16_at 2 bytes) (u16_at 4 bytes)) else Said Cut

-- the type, the size and the item of bytes that spell an item of a message's stage
shape : (bytes : List ℕ) (item : Item) → stage_of item ≡ AtMessage → Spells bytes item
    → (slice_index bytes 0 ≡ type_of item) × (length bytes ≡ size_of (type_of item) bytes) × (item ≡ item_at (type_of item) bytes)
shape bytes Version s h = cc
shape bytes Init s h = cc
shape bytes (Said (SetFormat f)) s h = (h.0.0, h.0.1, ap format_item (sym h.1))
shape bytes (Said (SetEncodings e)) s h = (h.0.0, h.0.1, ap (λ (x : Encoding). Said (SetEncodings x)) h.1)
shape bytes (Said (Request i x y w k)) s h = (h.0.0, h.0.1, cc)
shape bytes (Said (Key d k)) s h = (h.0.0, h.0.1, cc)
shape bytes (Said (Pointer m x y)) s h = (h.0.0, h.0.1, cc)
shape bytes (Said Cut) s h = (h.0, h.1, refl)
shape bytes (Faulty e) s h = (h.0.0, h.0.1, ap format_item (sym h.1))

item_by_type : (bytes : List ℕ) (a b : ℕ) → a ≡ b → item_at a bytes ≡ item_at b bytes
item_by_type bytes a b e = ap (λ (t : ℕ). item_at t bytes) e

one_message : (bytes : List ℕ) (i j : Item) → stage_of i ≡ AtMessage → stage_of j ≡ AtMessage → Spells bytes i → Spells bytes j → i ≡ j
one_message bytes i j si sj hi hj =
    let a = shape bytes i si hi in
    let b = shape bytes j sj hj in
    a.2 ∙ item_by_type bytes (type_of i) (type_of j) (sym a.0 ∙ b.0) ∙ sym b.2

-- bytes spell one item of a stage
pub one_item : (bytes : List ℕ) (i j : Item) → stage_of i ≡ stage_of j → Spells bytes i → Spells bytes j → i ≡ j
one_item bytes Version Version s hi hj = refl
one_item bytes Version Init s hi hj = cc
one_item bytes Version (Said m) s hi hj = cc
one_item bytes Version (Faulty e) s hi hj = cc
one_item bytes Init Version s hi hj = cc
one_item bytes Init Init s hi hj = refl
one_item bytes Init (Said m) s hi hj = cc
one_item bytes Init (Faulty e) s hi hj = cc
one_item bytes (Said m) j s hi hj = one_message bytes (Said m) j refl (sym s) hi hj
one_item bytes (Faulty e) j s hi hj = one_message bytes (Faulty e) j refl (sym s) hi hj

-- the size is told by the bytes of the message
size_stays : (item : Item) (bytes more : List ℕ) → stage_of item ≡ AtMessage → Spells bytes item → size_of (type_of item) (bytes ++ more) ≡ size_of (type_of item) bytes
size_stays Version bytes more s h = cc
size_stays Init bytes more s h = cc
size_stays (Said (SetFormat f)) bytes more s h = refl
size_stays (Said (SetEncodings e)) bytes more s h =
    let l : length bytes ≡ 4 + 4 * u16_at 2 bytes = h.0.1 in ap (λ (n : ℕ). 4 + 4 * n) (u16_stays 2 bytes more (omega arith))
size_stays (Said (Request i x y w k)) bytes more s h = refl
size_stays (Said (Key d k)) bytes more s h = refl
size_stays (Said (Pointer m x y)) bytes more s h = refl
size_stays (Said Cut) bytes more s h =
    let l : length bytes ≡ 8 + u32_at 4 bytes = h.1 in ap (λ (n : ℕ). 8 + n) (u32_stays 4 bytes more (omega arith))
size_stays (Faulty e) bytes more s h = refl

some_size : (item : Item) (bytes : List ℕ) → stage_of item ≡ AtMessage → 0 < size_of (type_of item) bytes
some_size Version bytes s = lit< tt
some_size Init bytes s = lit< tt
some_size (Said (SetFormat f)) bytes s = lit< tt
some_size (Said (SetEncodings e)) bytes s = omega arith
some_size (Said (Request i x y w k)) bytes s = lit< tt
some_size (Said (Key d k)) bytes s = lit< tt
some_size (Said (Pointer m x y)) bytes s = lit< tt
some_size (Said Cut) bytes s = omega arith
some_size (Faulty e) bytes s = lit< tt

none_from_length : (more : List ℕ) → length more ≡ 0 → more ≡ []
none_from_length [] h = refl
none_from_length (b ∷ more) h = absurd (omega arith)

message_ends : (bytes more : List ℕ) (i j : Item) → stage_of i ≡ AtMessage → stage_of j ≡ AtMessage → Spells bytes i → Spells (bytes ++ more) j → more ≡ []
message_ends bytes more i j si sj hi hj =
    let a = shape bytes i si hi in
    let b = shape (bytes ++ more) j sj hj in
    let some : 0 < size_of (type_of i) bytes = some_size i bytes si in
    let long : length bytes ≡ size_of (type_of i) bytes = a.1 in
    let first : slice_index (bytes ++ more) 0 ≡ slice_index bytes 0 = first_stays bytes more (omega arith) in
    let same : type_of j ≡ type_of i = sym b.0 ∙ first ∙ a.0 in
    let all : length (bytes ++ more) ≡ size_of (type_of i) bytes = b.1 ∙ ap (λ (t : ℕ). size_of t (bytes ++ more)) same ∙ size_stays i bytes more si hi in
    let both : length (bytes ++ more) ≡ length bytes + length more = length-append bytes more in
    none_from_length more (omega arith)

-- no spelling of a stage begins another
pub item_ends : (bytes more : List ℕ) (i j : Item) → stage_of i ≡ stage_of j → Spells bytes i → Spells (bytes ++ more) j → more ≡ []
item_ends bytes more Version Version s hi hj =
    let both : length (bytes ++ more) ≡ length bytes + length more = length-append bytes more in
    let a : length bytes ≡ 12 = hi.0 in
    let b : length (bytes ++ more) ≡ 12 = hj.0 in
    none_from_length more (omega arith)
item_ends bytes more Version Init s hi hj = cc
item_ends bytes more Version (Said m) s hi hj = cc
item_ends bytes more Version (Faulty e) s hi hj = cc
item_ends bytes more Init Version s hi hj = cc
item_ends bytes more Init Init s hi hj =
    let both : length (bytes ++ more) ≡ length bytes + length more = length-append bytes more in
    let a : length bytes ≡ 1 = hi in
    let b : length (bytes ++ more) ≡ 1 = hj in
    none_from_length more (omega arith)
item_ends bytes more Init (Said m) s hi hj = cc
item_ends bytes more Init (Faulty e) s hi hj = cc
item_ends bytes more (Said m) j s hi hj = message_ends bytes more (Said m) j refl (sym s) hi hj
item_ends bytes more (Faulty e) j s hi hj = message_ends bytes more (Faulty e) j refl (sym s) hi hj

-- what is whole isn't less than whole
pub not_begun : (stage : Stage) (bytes : List ℕ) (item : Item) → stage_of item ≡ stage → Spells bytes item → IsBegun stage bytes → ⊥
not_begun stage bytes item s h g = g.2 (item_ends bytes g.0 item g.1 (s ∙ sym g.3) h g.4)

-- ---- what a byte brings is the one thing that it may bring

spelled_whole : (stage : Stage) (bytes : List ℕ) (item : Item) → stage_of item ≡ stage → Spells bytes item → NoneBegins stage bytes → ⊥
spelled_whole stage bytes item s h none = none [] item s (subst (λ (bs : List ℕ). Spells bs item) (sym (append-nil bytes)) h)

begun_some : (stage : Stage) (bytes : List ℕ) → IsBegun stage bytes → NoneBegins stage bytes → ⊥
begun_some stage bytes g none = none g.0 g.1 g.3 g.4

faulty_apart : (m : Message) (e : FormatFault) → Said m ≡ Faulty e → ⊥
faulty_apart m e h = cc

faulty_same : (d e : FormatFault) → Faulty d ≡ Faulty e → d ≡ e
faulty_same d e h = cc

-- a bad byte doesn't go on with an item
bad_not_begun : (stage : Stage) (before : List ℕ) (b : ℕ) (why : Why) → IsBad stage before b why → IsBegun stage (before ++ b ∷ []) → ⊥
bad_not_begun stage before b Left h g = h
bad_not_begun stage before b (BadVersion c) h g = begun_some stage (before ++ b ∷ []) g h.2
bad_not_begun stage before b (BadKind c) h g = begun_some stage (before ++ b ∷ []) g h.3
bad_not_begun stage before b (BadFormat e) h g = not_begun stage (before ++ b ∷ []) (Faulty e) (sym h.0) h.1 g

-- a bad byte ends no item but a faulty format
pub bad_item : (stage : Stage) (before : List ℕ) (b : ℕ) (why : Why) (item : Item) → IsBad stage before b why → stage_of item ≡ stage → Spells (before ++ b ∷ []) item → step_of item ≡ Closed why
bad_item stage before b Left item h s g = absurd h
bad_item stage before b (BadVersion c) item h s g = absurd (spelled_whole stage (before ++ b ∷ []) item s g h.2)
bad_item stage before b (BadKind c) item h s g = absurd (spelled_whole stage (before ++ b ∷ []) item s g h.3)
bad_item stage before b (BadFormat e) item h s g = ap step_of (one_item (before ++ b ∷ []) item (Faulty e) (s ∙ h.0) g h.1)

-- a byte is bad for one reason
one_why : (stage : Stage) (before : List ℕ) (b : ℕ) (v w : Why) → IsBad stage before b v → IsBad stage before b w → v ≡ w
one_why stage before b Left w g h = absurd g
one_why stage before b (BadVersion c) Left g h = absurd h
one_why stage before b (BadVersion c) (BadVersion d) g h = ap BadVersion (g.1 ∙ sym h.1)
one_why stage before b (BadVersion c) (BadKind d) g h = let e : AtVersion ≡ AtMessage = sym g.0 ∙ h.0 in cc
one_why stage before b (BadVersion c) (BadFormat e) g h = let e : AtVersion ≡ AtMessage = sym g.0 ∙ h.0 in cc
one_why stage before b (BadKind c) Left g h = absurd h
one_why stage before b (BadKind c) (BadVersion d) g h = let e : AtVersion ≡ AtMessage = sym h.0 ∙ g.0 in cc
one_why stage before b (BadKind c) (BadKind d) g h = ap BadKind (g.2 ∙ sym h.2)
one_why stage before b (BadKind c) (BadFormat e) g h = absurd (spelled_whole stage (before ++ b ∷ []) (Faulty e) (sym h.0) h.1 g.3)
one_why stage before b (BadFormat e) Left g h = absurd h
one_why stage before b (BadFormat e) (BadVersion d) g h = let e : AtVersion ≡ AtMessage = sym h.0 ∙ g.0 in cc
one_why stage before b (BadFormat e) (BadKind d) g h = absurd (spelled_whole stage (before ++ b ∷ []) (Faulty e) (sym g.0) g.1 h.3)
one_why stage before b (BadFormat d) (BadFormat e) g h = ap BadFormat (faulty_same d e (one_item (before ++ b ∷ []) (Faulty d) (Faulty e) refl g.1 h.1))

-- a bad byte is answered so
pub brings_bad : (stage : Stage) (before : List ℕ) (b : ℕ) (step : Step) (new : Held) (why : Why) → Brings stage before b step new → IsBad stage before b why → (step ≡ Closed why) × IsClosed new why
brings_bad stage before b Nothing new why h bad = absurd (bad_not_begun stage before b why bad h.0)
brings_bad stage before b VersionIsWhole new why h bad = absurd (let e : VersionIsWhole ≡ Closed why = bad_item stage before b why Version bad h.0 h.1 in cc)
brings_bad stage before b InitIsWhole new why h bad = absurd (let e : InitIsWhole ≡ Closed why = bad_item stage before b why Init bad h.0 h.1 in cc)
brings_bad stage before b (Says m) new why h bad = absurd (let e : Says m ≡ Closed why = bad_item stage before b why (Said m) bad h.0 h.1 in cc)
brings_bad stage before b (Closed w) new why h bad =
    let same : w ≡ why = one_why stage before b w why h.0 bad in
    (ap Closed same, subst (IsClosed new) same h.1)

-- a whole item is answered by its step
pub brings_item : (stage : Stage) (before : List ℕ) (b : ℕ) (step : Step) (new : Held) (item : Item) → Brings stage before b step new → stage_of item ≡ stage
    → ((why : Why) → IsBad stage before b why → ⊥) → Spells (before ++ b ∷ []) item → (step ≡ step_of item) × Stands new (stage_after item) []
brings_item stage before b Nothing new item h s fine spelled = absurd (not_begun stage (before ++ b ∷ []) item s spelled h.0)
brings_item stage before b VersionIsWhole new item h s fine spelled =
    let same : Version ≡ item = one_item (before ++ b ∷ []) Version item (h.0 ∙ sym s) h.1 spelled in
    (ap step_of same, subst (λ (i : Item). Stands new (stage_after i) []) same h.2)
brings_item stage before b InitIsWhole new item h s fine spelled =
    let same : Init ≡ item = one_item (before ++ b ∷ []) Init item (h.0 ∙ sym s) h.1 spelled in
    (ap step_of same, subst (λ (i : Item). Stands new (stage_after i) []) same h.2)
brings_item stage before b (Says m) new item h s fine spelled =
    let same : Said m ≡ item = one_item (before ++ b ∷ []) (Said m) item (h.0 ∙ sym s) h.1 spelled in
    (ap step_of same, subst (λ (i : Item). Stands new (stage_after i) []) same h.2)
brings_item stage before b (Closed w) new item h s fine spelled = absurd (fine w h.0)

-- what is neither bad nor whole is answered by nothing
pub brings_nothing : (stage : Stage) (before : List ℕ) (b : ℕ) (step : Step) (new : Held) → Brings stage before b step new
    → ((why : Why) → IsBad stage before b why → ⊥) → ((item : Item) → stage_of item ≡ stage → Spells (before ++ b ∷ []) item → ⊥)
    → (step ≡ Nothing) × Stands new stage (before ++ b ∷ [])
brings_nothing stage before b Nothing new h fine part = (refl, h.1)
brings_nothing stage before b VersionIsWhole new h fine part = absurd (part Version h.0 h.1)
brings_nothing stage before b InitIsWhole new h fine part = absurd (part Init h.0 h.1)
brings_nothing stage before b (Says m) new h fine part = absurd (part (Said m) h.0 h.1)
brings_nothing stage before b (Closed w) new h fine part = absurd (fine w h.0)
