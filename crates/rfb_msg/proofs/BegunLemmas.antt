-- Less than an item goes on to one.
use Rattle.std.proofs.Common.{◌≡◌, ◌≢◌, ℕ, zero, suc, ◌+◌, ◌-◌, ◌*◌, ◌<◌, ◌≤◌, true, List, [], ◌∷◌, ◌++◌, length, drop, replicate, slice_index, get_or, codes, Option, Some, Result, Ok, Err, refl, sym, ◌∙◌, ap, subst, arith, append_assoc, append-nil}
use Rattle.std.proofs.Common.{lit<, inl, inr}
use Rattle.std.proofs.lemmas.Bool.{cases_lt}
use Rattle.std.proofs.lemmas.List.{length-append, length-replicate, length-drop, get_or-drop, get_or_append_left, get_or-append_right}
use Rattle.std.proofs.lemmas.Bool.Decides.{nat_tests}
use Rattle.pixel_format.specs.Formats.{Layout, format_of}
use Rattle.pixel_format.specs.declared.fault.FormatFault.{FormatFault}
use Rattle.rfb_msg.specs.declared.message.Encoding.{Encoding}
use Rattle.rfb_msg.specs.declared.message.Message.TheVariants.{SetFormat, SetEncodings, Request, Key, Pointer, Cut}
use Rattle.rfb_msg.specs.declared.place.Place.{Place}
use Rattle.rfb_msg.specs.declared.place.Place.TheVariants.{Version as InVersion, Init as InInit, Head as InHead, Encodings as InEncodings, Text as InText, Closed as InClosed}
use Rattle.rfb_msg.specs.declared.head.Kind.{Kind}
use Rattle.rfb_msg.specs.declared.head.Kind.TheVariants.{SetFormat as AFormat, SetEncodings as SomeEncodings, Request as ARequest, Key as AKey, Pointer as APointer, Cut as ACut}
use Rattle.rfb_msg.specs.Grammar.{Stage, AtVersion, AtInit, AtMessage, Item, Version, Init, Said, Faulty, stage_of, is_version_byte, BeginsVersion, flag_at, u16_at, u32_at, numbers, first_known, or_raw, IsMessage, Spells, IsBegun}
use Rattle.rfb_msg.specs.Kept.{kind_of, head_length}
use Rattle.rfb_msg.specs.Standing.{IsHead, IsListed, IsText, StandsAt}
use Rattle.rfb_msg.proofs.FieldLemmas.{first_stays, u16_stays, u32_stays}

abbrev pub zeros : ℕ → List ℕ
zeros n = replicate n 0

abbrev pub kind_byte : Kind → ℕ
kind_byte AFormat = 0
kind_byte SomeEncodings = 2
kind_byte ARequest = 3
kind_byte AKey = 4
kind_byte APointer = 5
kind_byte ACut = 6

pub kind_byte_of : (b : ℕ) (kind : Kind) → kind_of b ≡ Some kind → b ≡ kind_byte kind
unfolding kind_of
kind_byte_of b AFormat h = grind (arith, nat_tests)
kind_byte_of b SomeEncodings h = grind (arith, nat_tests)
kind_byte_of b ARequest h = grind (arith, nat_tests)
kind_byte_of b AKey h = grind (arith, nat_tests)
kind_byte_of b APointer h = grind (arith, nat_tests)
kind_byte_of b ACut h = grind (arith, nat_tests)

-- what the 20 bytes of a SetPixelFormat are
abbrev pub format_item : Result Layout FormatFault → Item
format_item (Ok f) = Said (SetFormat f)
format_item (Err e) = Faulty e

pub format_stage : (r : Result Layout FormatFault) → stage_of (format_item r) ≡ AtMessage
format_stage (Ok f) = refl
format_stage (Err e) = refl

pub format_spelled : (r : Result Layout FormatFault) (head : List ℕ) → IsMessage 0 20 head → format_of (drop 4 head) ≡ r → Spells head (format_item r)
format_spelled (Ok f) head h e = (h, e)
format_spelled (Err f) head h e = (h, e)

-- more bytes complete an item of a message's stage
abbrev Completes : List ℕ → Type 0
Completes bytes = (more : List ℕ) × (item : Item) × (stage_of item ≡ AtMessage) × Spells (bytes ++ more) item

complete : (bytes : List ℕ) (item : Item) → stage_of item ≡ AtMessage → Spells bytes item → Completes bytes
complete bytes item s h = ([], item, s, subst (λ (bs : List ℕ). Spells bs item) (sym (append-nil bytes)) h)

list_spelled : (bytes : List ℕ) → slice_index bytes 0 ≡ 2 → length bytes ≡ 4 + 4 * u16_at 2 bytes → Spells bytes (Said (SetEncodings (or_raw (first_known (numbers (drop 4 bytes))))))
list_spelled bytes t l = ((t, l), refl)

text_spelled : (bytes : List ℕ) → slice_index bytes 0 ≡ 6 → length bytes ≡ 8 + u32_at 4 bytes → Spells bytes (Said Cut)
text_spelled bytes t l = (t, l)

-- a whole prefix of a message goes on to the message
prefix_goes_on : (kind : Kind) (head : List ℕ) → slice_index head 0 ≡ kind_byte kind → length head ≡ head_length kind → Completes head
prefix_goes_on AFormat head t l = complete head (format_item (format_of (drop 4 head))) (format_stage _) (format_spelled _ head (t, l) refl)
prefix_goes_on SomeEncodings head t l =
    let n = 4 * u16_at 2 head in
    let bytes : List ℕ = head ++ zeros n in
    let long : length bytes ≡ length head + n = length-append head (zeros n) ∙ ap (λ k. length head + k) (length-replicate n 0) in
    let same : u16_at 2 bytes ≡ u16_at 2 head = u16_stays 2 head (zeros n) (omega arith) in
    (zeros n, Said (SetEncodings (or_raw (first_known (numbers (drop 4 bytes))))), refl, list_spelled bytes (first_stays head (zeros n) (omega arith) ∙ t) (omega arith))
prefix_goes_on ARequest head t l =
    complete head (Said (Request (flag_at 1 head) (u16_at 2 head) (u16_at 4 head) (u16_at 6 head) (u16_at 8 head))) refl ((t, l), refl, refl, refl, refl, refl)
prefix_goes_on AKey head t l = complete head (Said (Key (flag_at 1 head) (u32_at 4 head))) refl ((t, l), refl, refl)
prefix_goes_on APointer head t l = complete head (Said (Pointer (slice_index head 1) (u16_at 2 head) (u16_at 4 head))) refl ((t, l), refl, refl, refl)
prefix_goes_on ACut head t l =
    let n = u32_at 4 head in
    let bytes : List ℕ = head ++ zeros n in
    let long : length bytes ≡ length head + n = length-append head (zeros n) ∙ ap (λ k. length head + k) (length-replicate n 0) in
    let same : u32_at 4 bytes ≡ u32_at 4 head = u32_stays 4 head (zeros n) (omega arith) in
    (zeros n, Said Cut, refl, text_spelled bytes (first_stays head (zeros n) (omega arith) ∙ t) (omega arith))

some_more : (pad more : List ℕ) → 0 < length pad → pad ++ more ≢ []
some_more [] more h e = absurd (omega arith)
some_more (b ∷ pad) more h e = cc

begun_by : (stage : Stage) (bytes pad more : List ℕ) (item : Item) → 0 < length pad → stage_of item ≡ stage → Spells ((bytes ++ pad) ++ more) item → IsBegun stage bytes
begun_by stage bytes pad more item h s spelled =
    (pad ++ more, item, some_more pad more h, s, subst (λ (bs : List ℕ). Spells bs item) (append_assoc bytes pad more) spelled)

begun_head : (kept : List ℕ) → IsHead kept → IsBegun AtMessage kept
begun_head [] h =
    let key : List ℕ = 4 ∷ 0 ∷ 0 ∷ 0 ∷ 0 ∷ 0 ∷ 0 ∷ 0 ∷ [] in
    begun_by AtMessage [] key [] (Said (Key (flag_at 1 key) (u32_at 4 key))) (lit< tt) refl ((refl, refl), refl, refl)
begun_head (b ∷ kept) h =
    let n = head_length h.0 - length (b ∷ kept) in
    let head : List ℕ = (b ∷ kept) ++ zeros n in
    let pad : length (zeros n) ≡ n = length-replicate n 0 in
    let few = h.2 in
    let long : length head ≡ head_length h.0 = length-append (b ∷ kept) (zeros n) ∙ (omega arith) in
    let whole = prefix_goes_on h.0 head (kind_byte_of b h.0 h.1) long in
    begun_by AtMessage (b ∷ kept) (zeros n) whole.0 whole.1 (omega arith) whole.2 whole.3

begun_list : (prefix kept : List ℕ) (left : ℕ) (chosen : Option Encoding) → IsListed prefix left chosen → length kept < 4 → IsBegun AtMessage (prefix ++ kept)
begun_list prefix kept left chosen l few =
    let n = 4 * left - length kept in
    let bytes : List ℕ = (prefix ++ kept) ++ zeros n in
    let pad : length (zeros n) ≡ n = length-replicate n 0 in
    let some : 0 < left = l.more in
    let whole : length prefix ≡ 4 + 4 * l.came = l.whole in
    let all : l.came + left ≡ u16_at 2 prefix = l.all in
    let both : length (prefix ++ kept) ≡ length prefix + length kept = length-append prefix kept in
    let long : length bytes ≡ length (prefix ++ kept) + length (zeros n) = length-append (prefix ++ kept) (zeros n) in
    let same : u16_at 2 bytes ≡ u16_at 2 prefix = u16_stays 2 (prefix ++ kept) (zeros n) (omega arith) ∙ u16_stays 2 prefix kept (omega arith) in
    let type : slice_index bytes 0 ≡ 2 = first_stays (prefix ++ kept) (zeros n) (omega arith) ∙ first_stays prefix kept (omega arith) ∙ l.type in
    begun_by AtMessage (prefix ++ kept) (zeros n) [] (Said (SetEncodings (or_raw (first_known (numbers (drop 4 bytes)))))) (omega arith) refl
    (subst (λ (bs : List ℕ). Spells bs (Said (SetEncodings (or_raw (first_known (numbers (drop 4 bytes))))))) (sym (append-nil bytes)) (list_spelled bytes type (omega arith)))

begun_text : (bytes : List ℕ) (left : ℕ) → IsText bytes left → IsBegun AtMessage bytes
begun_text bytes left t =
    let pad : length (zeros left) ≡ left = length-replicate left 0 in
    let all : length bytes + left ≡ 8 + u32_at 4 bytes = t.all in
    let prefix : 8 ≤ length bytes = t.head in
    let some : 0 < left = t.more in
    let long : length (bytes ++ zeros left) ≡ length bytes + length (zeros left) = length-append bytes (zeros left) in
    let same : u32_at 4 (bytes ++ zeros left) ≡ u32_at 4 bytes = u32_stays 4 bytes (zeros left) (omega arith) in
    let type : slice_index (bytes ++ zeros left) 0 ≡ 6 = first_stays bytes (zeros left) (omega arith) ∙ t.type in
    begun_by AtMessage bytes (zeros left) [] (Said Cut) (omega arith) refl
    (subst (λ (bs : List ℕ). Spells bs (Said Cut)) (sym (append-nil (bytes ++ zeros left))) (text_spelled (bytes ++ zeros left) type (omega arith)))

-- a version, of which any is as good
abbrev some_version : List ℕ
some_version = codes "RFB 003.003" ++ 10 ∷ []

some_version_fits : (i : ℕ) → i < 12 → is_version_byte i (get_or some_version i 0) ≡ true
unfolding is_version_byte
some_version_fits zero h = refl
some_version_fits (suc zero) h = refl
some_version_fits (suc (suc zero)) h = refl
some_version_fits (suc (suc (suc zero))) h = refl
some_version_fits (suc (suc (suc (suc zero)))) h = refl
some_version_fits (suc (suc (suc (suc (suc zero))))) h = refl
some_version_fits (suc (suc (suc (suc (suc (suc zero)))))) h = refl
some_version_fits (suc (suc (suc (suc (suc (suc (suc zero))))))) h = refl
some_version_fits (suc (suc (suc (suc (suc (suc (suc (suc zero)))))))) h = refl
some_version_fits (suc (suc (suc (suc (suc (suc (suc (suc (suc zero))))))))) h = refl
some_version_fits (suc (suc (suc (suc (suc (suc (suc (suc (suc (suc zero)))))))))) h = refl
some_version_fits (suc (suc (suc (suc (suc (suc (suc (suc (suc (suc (suc zero))))))))))) h = refl
some_version_fits (suc (suc (suc (suc (suc (suc (suc (suc (suc (suc (suc (suc i)))))))))))) h = absurd (omega arith)

begun_version : (kept : List ℕ) → length kept < 12 → BeginsVersion kept → IsBegun AtVersion kept
begun_version kept few fits =
    let n = length kept in
    let rest : List ℕ = drop n some_version in
    let long : length rest ≡ 12 - n = length-drop n some_version in
    let all : length (kept ++ rest) ≡ length kept + length rest = length-append kept rest in
    let each : BeginsVersion (kept ++ rest) = λ (i : ℕ) (h : i < length (kept ++ rest)). elim (cases_lt i n) [
      | inl before ↦ subst (λ (b : ℕ). is_version_byte i b ≡ true) (sym (get_or_append_left kept rest 0 i before)) (fits i before)
      | inr after ↦ subst (λ (b : ℕ). is_version_byte i b ≡ true) (sym (get_or-append_right kept rest n i 0 refl after ∙ get_or-drop n some_version (i - n) 0 ∙ ap (λ (k : ℕ). get_or some_version k 0) (let e : n + (i - n) ≡ i = omega arith in e))) (some_version_fits i (omega arith))
    ] in
    begun_by AtVersion kept rest [] Version (omega arith) refl
    (subst (λ (bs : List ℕ). Spells bs Version) (sym (append-nil (kept ++ rest))) (let l : length (kept ++ rest) ≡ 12 = omega arith in (l, each)))

-- Where what is kept stands for some bytes, these are less than an item.
pub begun_where_standing : (place : Place) (kept : List ℕ) (stage : Stage) (bytes : List ℕ) → StandsAt place kept stage bytes → IsBegun stage bytes
begun_where_standing InVersion kept stage bytes s =
    subst (λ (st : Stage). IsBegun st bytes) (sym s.0) (subst (λ (bs : List ℕ). IsBegun AtVersion bs) (sym s.1) (begun_version kept s.2 s.3))
begun_where_standing InInit kept stage bytes s =
    subst (λ (st : Stage). IsBegun st bytes) (sym s.0) (subst (λ (bs : List ℕ). IsBegun AtInit bs) (sym s.1) (begun_by AtInit [] (0 ∷ []) [] Init (lit< tt) refl refl))
begun_where_standing InHead kept stage bytes s =
    subst (λ (st : Stage). IsBegun st bytes) (sym s.0) (subst (λ (bs : List ℕ). IsBegun AtMessage bs) (sym s.1) (begun_head kept s.2))
begun_where_standing (InEncodings left chosen) kept stage bytes s =
    subst (λ (st : Stage). IsBegun st bytes) (sym s.0) (subst (λ (bs : List ℕ). IsBegun AtMessage bs) (sym s.2) (begun_list s.1 kept left chosen s.3 s.4))
begun_where_standing (InText left) kept stage bytes s =
    subst (λ (st : Stage). IsBegun st bytes) (sym s.0) (begun_text bytes left s.2)
begun_where_standing (InClosed why) kept stage bytes s = absurd s
