-- A reader that is fed with bytes of which one is bad.
use Rattle.std.proofs.Common.{◌≡◌, ℕ, zero, suc, List, [], ◌∷◌, ◌++◌, length, replicate, refl, sym, ◌∙◌, ap, subst, append_assoc}
use Rattle.rfb_msg.specs.declared.message.Why.{Why}
use Rattle.rfb_msg.specs.declared.message.Step.{Step}
use Rattle.rfb_msg.specs.declared.message.Step.TheVariants.{Nothing, Version as VersionIsWhole, Init as InitIsWhole, Message as Says, Closed}
use Rattle.rfb_msg.specs.declared.place.Place.{Place}
use Rattle.rfb_msg.specs.declared.place.Place.TheVariants.{Closed as InClosed}
use Rattle.rfb_msg.specs.Grammar.{Stage, AtVersion, Item, Version, Init, Said, stage_of, stage_after, Spells, IsBegun}
use Rattle.rfb_msg.specs.Kept.{Held}
use Rattle.rfb_msg.specs.Standing.{StandsAt, Stands, IsClosed, Brings}
use Rattle.rfb_msg.specs.Streams.{IsServed, BreaksOff, Feeds, items_of, NoneCloses}
use Rattle.rfb_msg.proofs.BegunLemmas.{begun_where_standing}
use Rattle.rfb_msg.proofs.OneLemmas.{brings_bad}
use Rattle.rfb_msg.proofs.StreamLemmas.{stream_told}

-- ---- cuts

-- the answers to a prefix and those to the rest
abbrev pub Parts : List ℕ → List ℕ → Held → List Step → Held → Type 0
Parts prefix back old steps new =
    (first : List Step) × (mid : Held) × (more : List Step) × (steps ≡ first ++ more) × Feeds old prefix first mid × Feeds mid back more new

pub feeds_parted : (prefix back : List ℕ) (old new : Held) (steps : List Step) → Feeds old (prefix ++ back) steps new → Parts prefix back old steps new
feeds_parted [] back old new steps f = ([], old, steps, refl, (refl, refl), f)
feeds_parted (b ∷ prefix) back old new steps f =
    let t = feeds_parted prefix back f.1 new f.2 f.5 in
    (f.0 ∷ t.0, t.1, t.2, f.3 ∙ ap (λ (more : List Step). f.0 ∷ more) t.3, (f.0, f.1, t.0, refl, f.4, t.4), t.5)

-- ---- after a bad byte

pub closed_later : (bytes : List ℕ) (old new : Held) (steps : List Step) (why : Why) → IsClosed old why → Feeds old bytes steps new
    → (steps ≡ replicate (length bytes) (Closed why)) × IsClosed new why
closed_later [] old new steps why c f = (f.0, subst (λ (held : Held). IsClosed held why) (sym f.1) c)
closed_later (b ∷ bytes) old new steps why c f =
    let now = f.4.1 why c in
    let later = closed_later bytes f.1 new f.2 why now.1 f.5 in
    (f.3 ∙ ap (λ (step : Step). step ∷ f.2) now.0 ∙ ap (λ (more : List Step). Closed why ∷ more) later.0, later.1)

-- ---- at a bad byte

-- the answers up to the first bad byte, and after it so many more
abbrev pub Closes : List Step → List Item → ℕ → Why → Held → Type 0
Closes steps items n why new =
    (answered : List Step) × (steps ≡ answered ++ Closed why ∷ replicate n (Closed why)) × NoneCloses answered × (items_of answered ≡ items) × IsClosed new why

pub bad_closes : (old new : Held) (bytes : List ℕ) (steps : List Step) (items : List Item) (why : Why) → Stands old AtVersion [] → Feeds old bytes steps new
    → (broken : BreaksOff AtVersion bytes items why) → Closes steps items (length broken.back) why new
bad_closes old new bytes steps items why s f broken =
    let all : Feeds old (broken.prefix ++ broken.bad ∷ broken.back) steps new = subst (λ (bs : List ℕ). Feeds old bs steps new) broken.parts f in
    let t = feeds_parted broken.prefix (broken.bad ∷ broken.back) old new steps all in
    let told = stream_told broken.prefix AtVersion [] old t.1 t.0 items broken.end broken.rest s t.4 broken.stream broken.begun in
    let g : Feeds t.1 (broken.bad ∷ broken.back) t.2 new = t.5 in
    let now = brings_bad broken.end broken.rest broken.bad g.0 g.1 why (g.4.0 broken.end broken.rest told.2) broken.is_bad in
    let later = closed_later broken.back g.1 new g.2 why now.1 g.5 in
    let answers : t.2 ≡ Closed why ∷ replicate (length broken.back) (Closed why) =
    g.3 ∙ ap (λ (step : Step). step ∷ g.2) now.0 ∙ ap (λ (more : List Step). Closed why ∷ more) later.0 in
    (t.0, t.3 ∙ ap (λ (more : List Step). t.0 ++ more) answers, told.0, told.1, later.1)

-- ---- a closed reader had a bad byte

items_of_closed : (n : ℕ) (why : Why) → items_of (replicate n (Closed why)) ≡ []
items_of_closed zero why = refl
items_of_closed (suc n) why = items_of_closed n why

open_place : (place : Place) (kept : List ℕ) (stage : Stage) (before : List ℕ) (why : Why) → StandsAt place kept stage before → place ≡ InClosed why → ⊥
open_place place kept stage before why s c = subst (λ (p : Place). StandsAt p kept stage before) c s

one_why : (a b : Why) (held : Held) → IsClosed held a → IsClosed held b → a ≡ b
one_why a b held ha hb = let e : InClosed a ≡ InClosed b = sym ha ∙ hb in cc

-- an item more in prefix
broken_item : (stage : Stage) (before bytes : List ℕ) (b : ℕ) (item : Item) (items : List Item) (why : Why) → IsServed item → stage_of item ≡ stage → Spells (before ++ b ∷ []) item
    → BreaksOff (stage_after item) bytes items why → BreaksOff stage (before ++ b ∷ bytes) (item ∷ items) why
broken_item stage before bytes b item items why served s spelled broken =
    let first : List ℕ = before ++ b ∷ [] in
    record {
      prefix = first ++ broken.prefix;
      bad = broken.bad;
      back = broken.back;
      end = broken.end;
      rest = broken.rest;
      parts =
          sym (append_assoc before (b ∷ []) bytes) ∙ ap (λ (bs : List ℕ). first ++ bs) broken.parts
          ∙ sym (append_assoc first broken.prefix (broken.bad ∷ broken.back));
      stream = (first, broken.prefix, refl, s, served, spelled, broken.stream);
      begun = broken.begun;
      is_bad = broken.is_bad;
    }

-- what is told of the bytes after a byte
abbrev pub Next : List ℕ → List Step → Held → Why → Type 0
Next bytes steps mid why = (stage : Stage) (before : List ℕ) → Stands mid stage before → BreaksOff stage (before ++ bytes) (items_of steps) why

broken_step : (bytes : List ℕ) (stage : Stage) (before : List ℕ) (b : ℕ) (mid new : Held) (step : Step) (steps : List Step) (why : Why) → IsBegun stage before → Brings stage before b step mid
    → Feeds mid bytes steps new → IsClosed new why → Next bytes steps mid why → BreaksOff stage (before ++ b ∷ bytes) (items_of (step ∷ steps)) why
broken_step bytes stage before b mid new Nothing steps why g h f c next =
    subst (λ (bs : List ℕ). BreaksOff stage bs (items_of steps) why) (append_assoc before (b ∷ []) bytes) (next stage (before ++ b ∷ []) h.1)
broken_step bytes stage before b mid new VersionIsWhole steps why g h f c next = broken_item stage before bytes b Version (items_of steps) why tt h.0 h.1 (next (stage_after Version) [] h.2)
broken_step bytes stage before b mid new InitIsWhole steps why g h f c next = broken_item stage before bytes b Init (items_of steps) why tt h.0 h.1 (next (stage_after Init) [] h.2)
broken_step bytes stage before b mid new (Says m) steps why g h f c next = broken_item stage before bytes b (Said m) (items_of steps) why tt h.0 h.1 (next (stage_after (Said m)) [] h.2)
broken_step bytes stage before b mid new (Closed here) steps why g h f c next =
    let later = closed_later bytes mid new steps here h.1 f in
    let same : here ≡ why = one_why here why new later.1 c in
    let none : items_of steps ≡ [] = ap items_of later.0 ∙ items_of_closed (length bytes) here in
    subst (λ (reason : Why). BreaksOff stage (before ++ b ∷ bytes) (items_of steps) reason) same (
    subst (λ (items : List Item). BreaksOff stage (before ++ b ∷ bytes) items here) (sym none) (
    record {
      prefix = before;
      bad = b;
      back = bytes;
      end = stage;
      rest = before;
      parts = refl;
      stream = (refl, refl);
      begun = g;
      is_bad = h.0;
    }
    )
    )

pub closed_broken : (bytes : List ℕ) (stage : Stage) (before : List ℕ) (old new : Held) (steps : List Step) (why : Why) → Stands old stage before → Feeds old bytes steps new → IsClosed new why
    → BreaksOff stage (before ++ bytes) (items_of steps) why
closed_broken [] stage before old new steps why s f c = absurd (open_place old.place old.kept stage before why s (subst (λ (held : Held). IsClosed held why) f.1 c))
closed_broken (b ∷ bytes) stage before old new steps why s f c =
    subst (λ (l : List Step). BreaksOff stage (before ++ b ∷ bytes) (items_of l) why) (sym f.3) (
    broken_step bytes stage before b f.1 new f.0 f.2 why (begun_where_standing old.place old.kept stage before s) (f.4.0 stage before s) f.5 c
    (λ (st : Stage) (bs : List ℕ) (t : Stands f.1 st bs). closed_broken bytes st bs f.1 new f.2 why t f.5 c)
    )
