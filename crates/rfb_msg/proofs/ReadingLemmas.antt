-- What the next byte makes of a reader, wherever it stands.
use Rattle.std.proofs.Common.{◌≡◌, ℕ, ◌+◌, ◌-◌, ◌*◌, ◌<◌, ◌≤◌, true, false, nat_lt, List, [], ◌∷◌, ◌++◌, length, drop, slice_index, Option, refl, sym, ◌∙◌, ap, subst, arith, append_assoc, append-nil}
use Rattle.std.proofs.Common.{inl, inr, lit<}
use Rattle.std.proofs.lemmas.Bool.{ltb-true, ltb-false}
use Rattle.std.proofs.lemmas.List.{length-append, length-drop, drop-append-le}
use Rattle.byteorder.specs.Endian.{big_number}
use Rattle.rfb_msg.specs.declared.message.Encoding.{Encoding}
use Rattle.rfb_msg.specs.declared.message.Message.TheVariants.{SetEncodings}
use Rattle.rfb_msg.specs.declared.message.Why.{Why}
use Rattle.rfb_msg.specs.declared.message.Step.{Step}
use Rattle.rfb_msg.specs.declared.message.Step.TheVariants.{Nothing, Version as VersionIsWhole, Init as InitIsWhole, Message as Says, Closed}
use Rattle.rfb_msg.specs.declared.place.Place.{Place}
use Rattle.rfb_msg.specs.declared.place.Place.TheVariants.{Version as InVersion, Init as InInit, Head as InHead, Encodings as InEncodings, Text as InText, Closed as InClosed}
use Rattle.rfb_msg.specs.declared.place.Outcome.{Outcome}
use Rattle.rfb_msg.specs.Grammar.{Stage, AtVersion, AtInit, AtMessage, Said, u16_at, u32_at, numbers, known, first_of_two, first_known, or_raw, Spells}
use Rattle.rfb_msg.specs.Kept.{Held}
use Rattle.rfb_msg.specs.Reading.{closed, after_version, after_head, on_number, after_encodings, after_text, outcome_at, after_outcome, advance}
use Rattle.rfb_msg.specs.Standing.{IsHead, IsListed, IsText, StandsAt, Stands, IsClosed, IsReader, Brings}
use Rattle.rfb_msg.proofs.ChoiceLemmas.{either_way}
use Rattle.rfb_msg.proofs.FieldLemmas.{first_stays, u16_stays, u32_stays}
use Rattle.rfb_msg.proofs.ListLemmas.{numbers-append, one_number, first_known-append}
use Rattle.rfb_msg.proofs.HeadLemmas.{Does, goes_on, length_after, version_does, head_does}

-- ---- the listed encodings

-- one more encoding came
first_more : (prefix word : List ℕ) (left : ℕ) (chosen : Option Encoding) → IsListed prefix left chosen → length word ≡ 4
    → first_of_two chosen (known (big_number 4 word)) ≡ first_known (numbers (drop 4 (prefix ++ word)))
first_more prefix word left chosen l h =
    let whole : length prefix ≡ 4 + 4 * l.came = l.whole in
    let cut : drop 4 (prefix ++ word) ≡ drop 4 prefix ++ word = drop-append-le 4 prefix word (omega arith) in
    let long : length (drop 4 prefix) ≡ length prefix - 4 = length-drop 4 prefix in
    let many : length (drop 4 prefix) ≡ 4 * l.came = omega arith in
    let all : numbers (drop 4 prefix ++ word) ≡ numbers (drop 4 prefix) ++ big_number 4 word ∷ [] =
    numbers-append l.came (drop 4 prefix) word many ∙ ap (λ (ns : List ℕ). numbers (drop 4 prefix) ++ ns) (one_number word h) in
    let last : first_known (numbers (drop 4 prefix) ++ big_number 4 word ∷ []) ≡ first_of_two (first_known (numbers (drop 4 prefix))) (known (big_number 4 word)) =
    first_known-append (numbers (drop 4 prefix)) (big_number 4 word) in
    ap (λ (c : Option Encoding). first_of_two c (known (big_number 4 word))) l.first ∙ sym last ∙ sym (ap first_known all) ∙ sym (ap (λ (bs : List ℕ). first_known (numbers bs)) cut)

-- the bytes with one more encoding
list_more : (prefix word : List ℕ) (left : ℕ) (chosen : Option Encoding) → IsListed prefix left chosen → length word ≡ 4 → 1 < left
    → IsListed (prefix ++ word) (left - 1) (first_of_two chosen (known (big_number 4 word)))
list_more prefix word left chosen l h more =
    let whole : length prefix ≡ 4 + 4 * l.came = l.whole in
    let all : l.came + left ≡ u16_at 2 prefix = l.all in
    let same : u16_at 2 (prefix ++ word) ≡ u16_at 2 prefix = u16_stays 2 prefix word (omega arith) in
    let long : length (prefix ++ word) ≡ length prefix + length word = length-append prefix word in
    record {
      type = first_stays prefix word (omega arith) ∙ l.type;
      came = l.came + 1;
      whole = omega arith;
      all = omega arith;
      more = omega arith;
      first = first_more prefix word left chosen l h;
    }

list_whole : (prefix word : List ℕ) (left : ℕ) (chosen : Option Encoding) → IsListed prefix left chosen → length word ≡ 4 → left ≤ 1
    → Spells (prefix ++ word) (Said (SetEncodings (or_raw (first_of_two chosen (known (big_number 4 word))))))
list_whole prefix word left chosen l h last =
    let whole : length prefix ≡ 4 + 4 * l.came = l.whole in
    let all : l.came + left ≡ u16_at 2 prefix = l.all in
    let some : 0 < left = l.more in
    let same : u16_at 2 (prefix ++ word) ≡ u16_at 2 prefix = u16_stays 2 prefix word (omega arith) in
    let long : length (prefix ++ word) ≡ length prefix + length word = length-append prefix word in
    let size : length (prefix ++ word) ≡ 4 + 4 * u16_at 2 (prefix ++ word) = omega arith in
    ((first_stays prefix word (omega arith) ∙ l.type, size), ap or_raw (first_more prefix word left chosen l h))

number_does : (prefix kept : List ℕ) (b left : ℕ) (chosen : Option Encoding) → IsListed prefix left chosen → length (kept ++ b ∷ []) ≡ 4
    → Does AtMessage (prefix ++ kept) b (on_number left (first_of_two chosen (known (big_number 4 (kept ++ b ∷ [])))), [])
number_does prefix kept b left chosen l h =
    let word : List ℕ = kept ++ b ∷ [] in
    let regrouped : (prefix ++ kept) ++ b ∷ [] ≡ prefix ++ word = append_assoc prefix kept (b ∷ []) in
    either_way (λ (t : Outcome). Does AtMessage (prefix ++ kept) b (t, [])) (nat_lt 1 left) _ _
    (λ (e : nat_lt 1 left ≡ true).
    goes_on AtMessage (prefix ++ kept) b (InEncodings (left - 1) (first_of_two chosen (known (big_number 4 word)))) []
    (refl, prefix ++ word, regrouped ∙ sym (append-nil (prefix ++ word)), list_more prefix word left chosen l h (ltb-true _ _ e), lit< tt))
    (λ (e : nat_lt 1 left ≡ false).
    let spelled : Spells ((prefix ++ kept) ++ b ∷ []) (Said (SetEncodings (or_raw (first_of_two chosen (known (big_number 4 word)))))) =
    subst (λ (bs : List ℕ). Spells bs (Said (SetEncodings (or_raw (first_of_two chosen (known (big_number 4 word))))))) (sym regrouped) (list_whole prefix word left chosen l h (ltb-false _ _ e)) in
    (refl, spelled, (refl, refl, tt)))

encodings_does : (prefix kept : List ℕ) (b left : ℕ) (chosen : Option Encoding) → IsListed prefix left chosen → length kept < 4
    → Does AtMessage (prefix ++ kept) b (after_encodings kept left chosen b)
unfolding after_encodings
encodings_does prefix kept b left chosen l few =
    let more : length (kept ++ b ∷ []) ≡ length kept + 1 = length_after kept b in
    either_way (Does AtMessage (prefix ++ kept) b) (nat_lt (length (kept ++ b ∷ [])) 4) _ _
    (λ (e : nat_lt (length (kept ++ b ∷ [])) 4 ≡ true).
    goes_on AtMessage (prefix ++ kept) b (InEncodings left chosen) (kept ++ b ∷ []) (refl, prefix, append_assoc prefix kept (b ∷ []), l, ltb-true _ _ e))
    (λ (e : nat_lt (length (kept ++ b ∷ [])) 4 ≡ false).
    let least : 4 ≤ length (kept ++ b ∷ []) = ltb-false _ _ e in
    number_does prefix kept b left chosen l (omega arith))

-- ---- a text

text_does : (before : List ℕ) (b left : ℕ) → IsText before left → Does AtMessage before b (after_text left, [])
unfolding after_text
text_does before b left t =
    let prefix : 8 ≤ length before = t.head in
    let all : length before + left ≡ 8 + u32_at 4 before = t.all in
    let some : 0 < left = t.more in
    let same : u32_at 4 (before ++ b ∷ []) ≡ u32_at 4 before = u32_stays 4 before (b ∷ []) (omega arith) in
    let more : length (before ++ b ∷ []) ≡ length before + 1 = length_after before b in
    let type : slice_index (before ++ b ∷ []) 0 ≡ 6 = first_stays before (b ∷ []) (omega arith) ∙ t.type in
    either_way (λ (t : Outcome). Does AtMessage before b (t, [])) (nat_lt 1 left) _ _
    (λ (e : nat_lt 1 left ≡ true).
    let l : 1 < left = ltb-true _ _ e in
    goes_on AtMessage before b (InText (left - 1)) [] (refl, refl, record { type = type; head = omega arith; all = omega arith; more = omega arith }))
    (λ (e : nat_lt 1 left ≡ false).
    let l : left ≤ 1 = ltb-false _ _ e in
    let size : length (before ++ b ∷ []) ≡ 8 + u32_at 4 (before ++ b ∷ []) = omega arith in
    (refl, (type, size), (refl, refl, tt)))

-- ---- everywhere

does_along : (stage to : Stage) (before bytes : List ℕ) (b : ℕ) (t : Outcome × List ℕ) → stage ≡ to → before ≡ bytes → Does to bytes b t → Does stage before b t
does_along stage to before bytes b t s e h =
    subst (λ (st : Stage). Does st before b t) (sym s) (subst (λ (bs : List ℕ). Does to bs b t) (sym e) h)

outcome_does : (place : Place) (kept : List ℕ) (stage : Stage) (before : List ℕ) (b : ℕ) → StandsAt place kept stage before → Does stage before b (outcome_at place kept b)
outcome_does InVersion kept stage before b s = does_along stage AtVersion before kept b (after_version kept b) s.0 s.1 (version_does kept b s.2 s.3)
outcome_does InInit kept stage before b s = does_along stage AtInit before [] b (outcome_at InInit kept b) s.0 s.1 (refl, refl, (refl, sym s.2, subst IsHead (sym s.2) tt))
outcome_does InHead kept stage before b s = does_along stage AtMessage before kept b (after_head kept b) s.0 s.1 (head_does kept b s.2)
outcome_does (InEncodings left chosen) kept stage before b s = does_along stage AtMessage before (s.1 ++ kept) b (after_encodings kept left chosen b) s.0 s.2 (encodings_does s.1 kept b left chosen s.3 s.4)
outcome_does (InText left) kept stage before b s =
    does_along stage AtMessage before before b (after_text left, kept) s.0 refl (subst (λ (r : List ℕ). Does AtMessage before b (after_text left, r)) (sym s.1) (text_does before b left s.2))
outcome_does (InClosed why) kept stage before b s = absurd s

-- What a advance brings, by what is kept before it.
pub advance_brings : (held new : Held) (b : ℕ) (step : Step) → (step, new) ≡ advance held b → (stage : Stage) (before : List ℕ) → Stands held stage before → Brings stage before b step new
unfolding advance
advance_brings held new b step e stage before s =
    let P : Step × Held → Type 0 = λ (t : Step × Held). Brings stage before b t.0 t.1 in
    subst P (sym e) (outcome_does held.place held.kept stage before b s)

closed_at : (place : Place) (kept : List ℕ) (b : ℕ) (why : Why) → place ≡ InClosed why → outcome_at place kept b ≡ (closed why, kept)
closed_at place kept b why e = ap (λ (p : Place). outcome_at p kept b) e

pub advance_closes : (held new : Held) (b : ℕ) (step : Step) → (step, new) ≡ advance held b → (why : Why) → IsClosed held why → (step ≡ Closed why) × IsClosed new why
unfolding advance
advance_closes held new b step e why h =
    let same : (step, new) ≡ after_outcome (closed why, held.kept) = e ∙ ap after_outcome (closed_at held.place held.kept b why h) in
    let P : Step × Held → Type 0 = λ (t : Step × Held). (t.0 ≡ Closed why) × IsClosed t.1 why in
    subst P (sym same) (refl, refl)

brought_reader : (stage : Stage) (before : List ℕ) (b : ℕ) (step : Step) (new : Held) → Brings stage before b step new → IsReader new
brought_reader stage before b Nothing new h = inl (stage, before ++ b ∷ [], h.1)
brought_reader stage before b VersionIsWhole new h = inl (AtInit, [], h.2)
brought_reader stage before b InitIsWhole new h = inl (AtMessage, [], h.2)
brought_reader stage before b (Says m) new h = inl (AtMessage, [], h.2)
brought_reader stage before b (Closed why) new h = inr (why, h.1)

-- after each byte what is kept stands for something
pub reader_stays : (place : Place) (kept : List ℕ) (b : ℕ) (t : Outcome) (after : List ℕ) → IsReader (record { place = place; kept = kept }) → (t, after) ≡ outcome_at place kept b
    → IsReader (record { place = t.place; kept = after })
reader_stays place kept b t after (inl s) e =
    let P : Outcome × List ℕ → Type 0 = λ (x : Outcome × List ℕ). IsReader (record { place = x.0.place; kept = x.1 }) in
    let does : Does s.0 s.1 b (outcome_at place kept b) = outcome_does place kept s.0 s.1 b s.2 in
    subst P (sym e) (brought_reader s.0 s.1 b (outcome_at place kept b).0.step (after_outcome (outcome_at place kept b)).1 does)
reader_stays place kept b t after (inr c) e =
    let P : Outcome × List ℕ → Type 0 = λ (x : Outcome × List ℕ). IsReader (record { place = x.0.place; kept = x.1 }) in
    subst P (sym (e ∙ closed_at place kept b c.0 c.1)) (inr (c.0, refl))

pub advance_stands : (held new : Held) (b : ℕ) (step : Step) → IsReader held → (step, new) ≡ advance held b → IsReader new
advance_stands held new b step (inl s) e = brought_reader s.0 s.1 b step new (advance_brings held new b step e s.0 s.1 s.2)
advance_stands held new b step (inr c) e = inr (c.0, (advance_closes held new b step e c.0 c.1).1)
