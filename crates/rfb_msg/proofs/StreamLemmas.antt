-- A reader that is fed with all bytes.
use Rattle.std.proofs.Common.{◌≡◌, ℕ, List, [], ◌∷◌, ◌++◌, refl, sym, ◌∙◌, ap, subst, append_assoc, append-nil}
use Rattle.std.proofs.Common.{◌⊎◌, inl, inr}
use Rattle.std.proofs.lemmas.List.{append_cancel_left}
use Rattle.rfb_msg.specs.declared.message.Why.{Why}
use Rattle.rfb_msg.specs.declared.message.Why.TheVariants.{Left, Version as BadVersion, Kind as BadKind, Format as BadFormat}
use Rattle.rfb_msg.specs.declared.message.Step.{Step}
use Rattle.rfb_msg.specs.declared.message.Step.TheVariants.{Nothing, Version as VersionIsWhole, Init as InitIsWhole, Message as Says, Closed}
use Rattle.rfb_msg.specs.Grammar.{Stage, AtInit, AtMessage, Item, Version, Init, Said, Faulty, stage_of, stage_after, step_of, Spells, IsBegun, IsBad}
use Rattle.rfb_msg.specs.Kept.{Held}
use Rattle.rfb_msg.specs.Standing.{Stands, Brings}
use Rattle.rfb_msg.specs.Streams.{IsServed, StreamFrom, Feeds, items_of, NoneCloses}
use Rattle.rfb_msg.proofs.BegunLemmas.{begun_where_standing}
use Rattle.rfb_msg.proofs.OneLemmas.{one_item, item_ends, bad_item}

-- ---- what is fed is a stream

served_from_step : (item : Item) (why : Why) → IsServed item → step_of item ≡ Closed why → ⊥
served_from_step Version why s e = cc
served_from_step Init why s e = cc
served_from_step (Said m) why s e = cc
served_from_step (Faulty f) why s e = s

-- a stream, and what the reader stands for after it
abbrev pub Heard : Stage → List ℕ → List Step → Held → Type 0
Heard stage bytes steps new = (end : Stage) × (rest : List ℕ) × StreamFrom stage bytes (items_of steps) end rest × IsBegun end rest × Stands new end rest

heard_item : (stage : Stage) (before bytes : List ℕ) (b : ℕ) (item : Item) (steps : List Step) (new : Held) → stage_of item ≡ stage → IsServed item → Spells (before ++ b ∷ []) item
    → (h : Heard (stage_after item) bytes steps new) → StreamFrom stage (before ++ b ∷ bytes) (item ∷ items_of steps) h.0 h.1
heard_item stage before bytes b item steps new s served spelled h =
    (before ++ b ∷ [], bytes, sym (append_assoc before (b ∷ []) bytes), s, served, spelled, h.2)

feeds_step : (bytes : List ℕ) (stage : Stage) (before : List ℕ) (b : ℕ) (mid new : Held) (step : Step) (steps : List Step) → Brings stage before b step mid → Feeds mid bytes steps new → NoneCloses (step ∷ steps)
    → ((st : Stage) (bs : List ℕ) → Stands mid st bs → NoneCloses steps → Heard st (bs ++ bytes) steps new) → Heard stage (before ++ b ∷ bytes) (step ∷ steps) new
feeds_step bytes stage before b mid new Nothing steps h f n next =
    subst (λ (all : List ℕ). Heard stage all steps new) (append_assoc before (b ∷ []) bytes) (next stage (before ++ b ∷ []) h.1 n)
feeds_step bytes stage before b mid new VersionIsWhole steps h f n next =
    let t = next (stage_after Version) [] h.2 n in (t.0, t.1, heard_item stage before bytes b Version steps new h.0 tt h.1 t, t.3, t.4)
feeds_step bytes stage before b mid new InitIsWhole steps h f n next =
    let t = next (stage_after Init) [] h.2 n in (t.0, t.1, heard_item stage before bytes b Init steps new h.0 tt h.1 t, t.3, t.4)
feeds_step bytes stage before b mid new (Says m) steps h f n next =
    let t = next (stage_after (Said m)) [] h.2 n in (t.0, t.1, heard_item stage before bytes b (Said m) steps new h.0 tt h.1 t, t.3, t.4)
feeds_step bytes stage before b mid new (Closed why) steps h f n next = absurd n

pub feeds_heard : (bytes : List ℕ) (stage : Stage) (before : List ℕ) (old new : Held) (steps : List Step) → Stands old stage before → Feeds old bytes steps new → NoneCloses steps → Heard stage (before ++ bytes) steps new
feeds_heard [] stage before old new [] s f n =
    (stage, before, (refl, sym (append-nil before)), begun_where_standing old.place old.kept stage before s, subst (λ (held : Held). Stands held stage before) (sym f.1) s)
feeds_heard [] stage before old new (step ∷ steps) s f n = let e = f.0 in cc
feeds_heard (b ∷ bytes) stage before old new [] s f n = let e = f.3 in cc
feeds_heard (b ∷ bytes) stage before old new (step ∷ steps) s f n =
    let same : step ≡ f.0 = let e = f.3 in cc in
    let others : steps ≡ f.2 = let e = f.3 in cc in
    let more : Feeds f.1 bytes steps new = subst (λ (t : List Step). Feeds f.1 bytes t new) (sym others) f.5 in
    let brings : Brings stage before b step f.1 = subst (λ (t : Step). Brings stage before b t f.1) (sym same) (f.4.0 stage before s) in
    feeds_step bytes stage before b f.1 new step steps brings more n (λ (st : Stage) (bs : List ℕ) (t : Stands f.1 st bs) (m : NoneCloses steps). feeds_heard bytes st bs f.1 new steps t more m)

-- ---- a stream is heard

-- of two prefixes of a list, one begins with the other
prefixes : (a b x y : List ℕ) → a ++ x ≡ b ++ y → ((z : List ℕ) × (b ≡ a ++ z)) ⊎ ((z : List ℕ) × (a ≡ b ++ z))
prefixes [] b x y e = inl (b, refl)
prefixes (c ∷ a) [] x y e = inr (c ∷ a, refl)
prefixes (c ∷ a) (d ∷ b) x y e =
    let head : c ≡ d = cc in
    let tail : a ++ x ≡ b ++ y = cc in
    elim (prefixes a b x y tail) [
      | inl t ↦ inl (t.0, ap (λ (k : ℕ). k ∷ b) (sym head) ∙ ap (λ (l : List ℕ). c ∷ l) t.1)
      | inr t ↦ inr (t.0, ap (λ (k : ℕ). k ∷ a) head ∙ ap (λ (l : List ℕ). d ∷ l) t.1)
    ]

none_right : (a b : List ℕ) → a ++ b ≡ [] → b ≡ []
none_right [] b e = e
none_right (c ∷ a) b e = cc

-- what is begun has no item in prefix
no_item_in_prefix : (stage : Stage) (bytes first more : List ℕ) (item : Item) → IsBegun stage bytes → bytes ≡ first ++ more → stage_of item ≡ stage → Spells first item → ⊥
no_item_in_prefix stage bytes first more item g e s spelled =
    let whole : Spells (first ++ (more ++ g.0)) g.1 =
    subst (λ (bs : List ℕ). Spells bs g.1) (ap (λ (bs : List ℕ). bs ++ g.0) e ∙ append_assoc first more g.0) g.4 in
    g.2 (none_right more g.0 (item_ends first (more ++ g.0) item g.1 (s ∙ sym g.3) spelled whole))

same_first : (a b x y : List ℕ) (i j : Item) → stage_of i ≡ stage_of j → Spells a i → Spells b j → a ++ x ≡ b ++ y → a ≡ b
same_first a b x y i j s hi hj e =
    elim (prefixes a b x y e) [
      | inl t ↦
          let none : t.0 ≡ [] = item_ends a t.0 i j s hi (subst (λ (bs : List ℕ). Spells bs j) t.1 hj) in
          sym (t.1 ∙ ap (λ (z : List ℕ). a ++ z) none ∙ append-nil a)
      | inr t ↦
          let none : t.0 ≡ [] = item_ends b t.0 j i (sym s) hj (subst (λ (bs : List ℕ). Spells bs i) t.1 hi) in
          t.1 ∙ ap (λ (z : List ℕ). b ++ z) none ∙ append-nil b
    ]

-- after a bad byte no item goes on, but for a faulty format
bad_ends : (stage : Stage) (before more : List ℕ) (b : ℕ) (why : Why) (item : Item) → IsBad stage before b why → stage_of item ≡ stage → Spells ((before ++ b ∷ []) ++ more) item
    → (more ≡ []) × (step_of item ≡ Closed why)
bad_ends stage before more b Left item h s spelled = absurd h
bad_ends stage before more b (BadVersion c) item h s spelled = absurd (h.2 more item s spelled)
bad_ends stage before more b (BadKind c) item h s spelled = absurd (h.3 more item s spelled)
bad_ends stage before more b (BadFormat e) item h s spelled =
    let none : more ≡ [] = item_ends (before ++ b ∷ []) more (Faulty e) item (sym h.0 ∙ sym s) h.1 spelled in
    let here : Spells (before ++ b ∷ []) item = subst (λ (bs : List ℕ). Spells bs item) (ap (λ (z : List ℕ). (before ++ b ∷ []) ++ z) none ∙ append-nil (before ++ b ∷ [])) spelled in
    (none, bad_item stage before b (BadFormat e) item h s here)

bad_in_prefix : (stage : Stage) (before bytes first more z : List ℕ) (b : ℕ) (why : Why) (item : Item) → IsBad stage before b why → IsBegun stage before → stage_of item ≡ stage → IsServed item → Spells first item
    → first ++ more ≡ before ++ b ∷ bytes → first ≡ before ++ z → ⊥
bad_in_prefix stage before bytes first more [] b why item h g s served spelled e p =
    no_item_in_prefix stage before first [] item g (sym (append-nil before) ∙ sym p ∙ sym (append-nil first)) s spelled
bad_in_prefix stage before bytes first more (c ∷ z) b why item h g s served spelled e p =
    let rest : (c ∷ z) ++ more ≡ b ∷ bytes = append_cancel_left before ((c ∷ z) ++ more) (b ∷ bytes) (sym (append_assoc before (c ∷ z) more) ∙ sym (ap (λ (bs : List ℕ). bs ++ more) p) ∙ e) in
    let head : c ≡ b = cc in
    let from : first ≡ (before ++ b ∷ []) ++ z = p ∙ ap (λ (k : ℕ). before ++ k ∷ z) head ∙ sym (append_assoc before (b ∷ []) z) in
    let ends = bad_ends stage before z b why item h s (subst (λ (bs : List ℕ). Spells bs item) from spelled) in
    served_from_step item why served ends.1

-- a bad byte is in no stream
bad_stream : (stage : Stage) (before bytes : List ℕ) (b : ℕ) (why : Why) (items : List Item) (end : Stage) (rest : List ℕ) → IsBad stage before b why → IsBegun stage before
    → StreamFrom stage (before ++ b ∷ bytes) items end rest → IsBegun end rest → ⊥
bad_stream stage before bytes b why [] end rest h g t k =
    let from : rest ++ k.0 ≡ (before ++ b ∷ []) ++ (bytes ++ k.0) =
    ap (λ (bs : List ℕ). bs ++ k.0) (t.1 ∙ sym (append_assoc before (b ∷ []) bytes)) ∙ append_assoc (before ++ b ∷ []) bytes k.0 in
    let ends = bad_ends stage before (bytes ++ k.0) b why k.1 h (k.3 ∙ t.0) (subst (λ (bs : List ℕ). Spells bs k.1) from k.4) in
    k.2 (none_right bytes k.0 ends.0)
bad_stream stage before bytes b why (item ∷ items) end rest h g t k =
    elim (prefixes t.0 before t.1 (b ∷ bytes) (sym t.2)) [
      | inl p ↦ no_item_in_prefix stage before t.0 p.0 item g p.1 t.3 t.5
      | inr p ↦ bad_in_prefix stage before bytes t.0 t.1 p.0 b why item h g t.3 t.4 t.5 (sym t.2) p.1
    ]

-- the answers tell these items, none that the reader is closed, and the reader stands for the rest
abbrev pub Tells : List Step → Held → List Item → Stage → List ℕ → Type 0
Tells steps new items end rest = NoneCloses steps × (items_of steps ≡ items) × Stands new end rest

nothing_left : (stage : Stage) (before : List ℕ) (old : Held) (items : List Item) (end : Stage) (rest : List ℕ) → Stands old stage before → StreamFrom stage (before ++ []) items end rest → Tells [] old items end rest
nothing_left stage before old [] end rest s t =
    (tt, refl, subst (λ (st : Stage). Stands old st rest) (sym t.0) (subst (λ (bs : List ℕ). Stands old stage bs) (sym (t.1 ∙ append-nil before)) s))
nothing_left stage before old (item ∷ items) end rest s t =
    absurd (no_item_in_prefix stage before t.0 t.1 item (begun_where_standing old.place old.kept stage before s) (sym (append-nil before) ∙ t.2) t.3 t.5)

-- an item that is whole is the stream's first
first_item : (stage : Stage) (before bytes : List ℕ) (b : ℕ) (item : Item) (items : List Item) (end : Stage) (rest : List ℕ) → stage_of item ≡ stage → Spells (before ++ b ∷ []) item
    → StreamFrom stage (before ++ b ∷ bytes) items end rest → IsBegun end rest → (more : List Item) × (items ≡ item ∷ more) × StreamFrom (stage_after item) bytes more end rest
first_item stage before bytes b item [] end rest s spelled t k =
    absurd (no_item_in_prefix end rest (before ++ b ∷ []) bytes item k (t.1 ∙ sym (append_assoc before (b ∷ []) bytes)) (s ∙ sym t.0) spelled)
first_item stage before bytes b item (j ∷ items) end rest s spelled t k =
    let both : (before ++ b ∷ []) ++ bytes ≡ t.0 ++ t.1 = append_assoc before (b ∷ []) bytes ∙ t.2 in
    let first : before ++ b ∷ [] ≡ t.0 = same_first (before ++ b ∷ []) t.0 bytes t.1 item j (s ∙ sym t.3) spelled t.5 both in
    let more : bytes ≡ t.1 = append_cancel_left t.0 bytes t.1 (sym (ap (λ (bs : List ℕ). bs ++ bytes) first) ∙ both) in
    let one : j ≡ item = one_item t.0 j item (t.3 ∙ sym s) t.5 (subst (λ (bs : List ℕ). Spells bs item) first spelled) in
    (items, ap (λ (i : Item). i ∷ items) one, subst (λ (i : Item). StreamFrom (stage_after i) bytes items end rest) one (subst (λ (bs : List ℕ). StreamFrom (stage_after j) bs items end rest) (sym more) t.6))

tells_more : (item : Item) (step : Step) (steps : List Step) (new : Held) (items more : List Item) (end : Stage) (rest : List ℕ) → (NoneCloses steps → NoneCloses (step ∷ steps)) → items_of (step ∷ steps) ≡ item ∷ items_of steps
    → items ≡ item ∷ more → Tells steps new more end rest → Tells (step ∷ steps) new items end rest
tells_more item step steps new items more end rest n i e t = (n t.0, i ∙ ap (λ (is : List Item). item ∷ is) t.1 ∙ sym e, t.2)

tells_step : (bytes : List ℕ) (stage : Stage) (before : List ℕ) (b : ℕ) (mid new : Held) (step : Step) (steps : List Step) (items : List Item) (end : Stage) (rest : List ℕ) → IsBegun stage before → Brings stage before b step mid
    → StreamFrom stage (before ++ b ∷ bytes) items end rest → IsBegun end rest
    → ((st : Stage) (bs : List ℕ) (is : List Item) → Stands mid st bs → StreamFrom st (bs ++ bytes) is end rest → Tells steps new is end rest) → Tells (step ∷ steps) new items end rest
tells_step bytes stage before b mid new Nothing steps items end rest g h t k next =
    next stage (before ++ b ∷ []) items h.1 (subst (λ (bs : List ℕ). StreamFrom stage bs items end rest) (sym (append_assoc before (b ∷ []) bytes)) t)
tells_step bytes stage before b mid new VersionIsWhole steps items end rest g h t k next =
    let f = first_item stage before bytes b Version items end rest h.0 h.1 t k in
    tells_more Version VersionIsWhole steps new items f.0 end rest (λ (n : NoneCloses steps). n) refl f.1 (next AtInit [] f.0 h.2 f.2)
tells_step bytes stage before b mid new InitIsWhole steps items end rest g h t k next =
    let f = first_item stage before bytes b Init items end rest h.0 h.1 t k in
    tells_more Init InitIsWhole steps new items f.0 end rest (λ (n : NoneCloses steps). n) refl f.1 (next AtMessage [] f.0 h.2 f.2)
tells_step bytes stage before b mid new (Says m) steps items end rest g h t k next =
    let f = first_item stage before bytes b (Said m) items end rest h.0 h.1 t k in
    tells_more (Said m) (Says m) steps new items f.0 end rest (λ (n : NoneCloses steps). n) refl f.1 (next AtMessage [] f.0 h.2 f.2)
tells_step bytes stage before b mid new (Closed why) steps items end rest g h t k next = absurd (bad_stream stage before bytes b why items end rest h.0 g t k)

pub stream_told : (bytes : List ℕ) (stage : Stage) (before : List ℕ) (old new : Held) (steps : List Step) (items : List Item) (end : Stage) (rest : List ℕ) → Stands old stage before → Feeds old bytes steps new
    → StreamFrom stage (before ++ bytes) items end rest → IsBegun end rest → Tells steps new items end rest
stream_told [] stage before old new steps items end rest s f t k =
    subst (λ (l : List Step). Tells l new items end rest) (sym f.0) (subst (λ (held : Held). Tells [] held items end rest) (sym f.1) (nothing_left stage before old items end rest s t))
stream_told (b ∷ bytes) stage before old new steps items end rest s f t k =
    subst (λ (l : List Step). Tells l new items end rest) (sym f.3)
    (tells_step bytes stage before b f.1 new f.0 f.2 items end rest (begun_where_standing old.place old.kept stage before s) (f.4.0 stage before s) t k
    (λ (st : Stage) (bs : List ℕ) (is : List Item) (u : Stands f.1 st bs) (v : StreamFrom st (bs ++ bytes) is end rest). stream_told bytes st bs f.1 new f.2 is end rest u f.5 v k))

-- ---- a cut anywhere

pub feeds_cut : (a b : List ℕ) (old mid new : Held) (s t : List Step) → Feeds old a s mid → Feeds mid b t new → Feeds old (a ++ b) (s ++ t) new
feeds_cut [] b old mid new s t f g =
    subst (λ (l : List Step). Feeds old b (l ++ t) new) (sym f.0) (subst (λ (held : Held). Feeds held b t new) f.1 g)
feeds_cut (x ∷ a) b old mid new s t f g =
    (f.0, f.1, f.2 ++ t, ap (λ (l : List Step). l ++ t) f.3, f.4, feeds_cut a b f.1 mid new f.2 t f.5 g)
