-- What the next byte makes of a reader that stands for a stage and some bytes.
use Rattle.std.proofs.Common.{◌≡◌, ◌≢◌, ℕ, ◌+◌, ◌*◌, ◌<◌, ◌≤◌, true, false, not, ◌==◌, nat_lt, List, [], ◌∷◌, ◌++◌, length, drop, slice_index, Option, Some, None, Result, Ok, Err, refl, sym, ◌∙◌, ap, subst, arith, append_assoc, append-nil}
use Rattle.std.proofs.Common.{inl, inr, lit<, lit≤}
use Rattle.std.proofs.lemmas.Bool.{cases_lt, ltb-true, ltb-false, eqb-true, eqb-false}
use Rattle.std.proofs.lemmas.List.{length-append, get_or_append_left}
use Rattle.std.proofs.Math.ListN.{drop_of_length-le}
use Rattle.std.proofs.Math.Seq.{get_or-append_seam}
use Rattle.pixel_format.specs.Formats.{Layout, format_of}
use Rattle.pixel_format.specs.declared.fault.FormatFault.{FormatFault}
use Rattle.rfb_msg.specs.declared.message.Message.TheVariants.{SetFormat, SetEncodings, Request, Key, Pointer, Cut}
use Rattle.rfb_msg.specs.declared.message.Why.TheVariants.{Kind as BadKind}
use Rattle.rfb_msg.specs.declared.place.Place.{Place}
use Rattle.rfb_msg.specs.declared.place.Place.TheVariants.{Version as InVersion, Head as InHead, Encodings as InEncodings, Text as InText}
use Rattle.rfb_msg.specs.declared.place.Outcome.{Outcome}
use Rattle.rfb_msg.specs.declared.head.Kind.{Kind}
use Rattle.rfb_msg.specs.declared.head.Kind.TheVariants.{SetFormat as AFormat, SetEncodings as SomeEncodings, Request as ARequest, Key as AKey, Pointer as APointer, Cut as ACut}
use Rattle.rfb_msg.specs.Grammar.{Stage, AtVersion, AtMessage, Version, Init, Said, Faulty, is_version_byte, BeginsVersion, u16_at, u32_at, numbers, first_known, or_raw, IsMessage, NoneBegins}
use Rattle.rfb_msg.specs.Kept.{kind_of, head_length}
use Rattle.rfb_msg.specs.Reading.{begun, closed, after_version, on_format, whole_head, on_kind, after_head, after_outcome}
use Rattle.rfb_msg.specs.Standing.{IsHead, StandsAt, Brings}
use Rattle.rfb_msg.proofs.ChoiceLemmas.{either_way, not_true, not_false}
use Rattle.rfb_msg.proofs.BegunLemmas.{kind_byte, kind_byte_of, begun_where_standing}

-- a turn brings this
abbrev pub Does : Stage → List ℕ → ℕ → Outcome × List ℕ → Type 0
Does stage before b t = Brings stage before b (after_outcome t).0 (after_outcome t).1

pub length_after : (kept : List ℕ) (b : ℕ) → length (kept ++ b ∷ []) ≡ length kept + 1
length_after kept b = length-append kept (b ∷ [])

-- something is begun
pub goes_on : (stage : Stage) (before : List ℕ) (b : ℕ) (place : Place) (kept : List ℕ) → StandsAt place kept stage (before ++ b ∷ []) → Does stage before b (begun place, kept)
goes_on stage before b place kept s = (begun_where_standing place kept stage (before ++ b ∷ []) s, s)

-- ---- the version

version_more : (kept : List ℕ) (b : ℕ) → BeginsVersion kept → is_version_byte (length kept) b ≡ true → BeginsVersion (kept ++ b ∷ [])
version_more kept b fits e = λ (i : ℕ) (h : i < length (kept ++ b ∷ [])). elim (cases_lt i (length kept)) [
  | inl before ↦ subst (λ (x : ℕ). is_version_byte i x ≡ true) (sym (get_or_append_left kept (b ∷ []) 0 i before)) (fits i before)
  | inr after ↦
      let more : length (kept ++ b ∷ []) ≡ length kept + 1 = length_after kept b in
      let same : i ≡ length kept = omega arith in
      subst (λ (k : ℕ). is_version_byte k (slice_index (kept ++ b ∷ []) k) ≡ true) (sym same) (subst (λ (x : ℕ). is_version_byte (length kept) x ≡ true) (sym (get_or-append_seam kept b [] 0)) e)
]

version_bad : (kept : List ℕ) (b : ℕ) → is_version_byte (length kept) b ≡ false → NoneBegins AtVersion (kept ++ b ∷ [])
version_bad kept b e more Version s spelled =
    let all : List ℕ = (kept ++ b ∷ []) ++ more in
    let same : all ≡ kept ++ b ∷ more = append_assoc kept (b ∷ []) more in
    let here : slice_index all (length kept) ≡ b = ap (λ (bs : List ℕ). slice_index bs (length kept)) same ∙ get_or-append_seam kept b more 0 in
    let long : length all ≡ length kept + (length more + 1) = ap length same ∙ length-append kept (b ∷ more) ∙ omega arith in
    let fits : is_version_byte (length kept) (slice_index all (length kept)) ≡ true = spelled.1 (length kept) (omega arith) in
    let fits_b : is_version_byte (length kept) b ≡ true = sym (ap (is_version_byte (length kept)) here) ∙ fits in
    let wrong : true ≡ false = sym fits_b ∙ e in cc
version_bad kept b e more Init s spelled = cc
version_bad kept b e more (Said m) s spelled = cc
version_bad kept b e more (Faulty f) s spelled = cc

pub version_does : (kept : List ℕ) (b : ℕ) → length kept < 12 → BeginsVersion kept → Does AtVersion kept b (after_version kept b)
unfolding after_version
version_does kept b few fits =
    either_way (Does AtVersion kept b) (not (is_version_byte (length kept) b)) _ _
    (λ (e : not (is_version_byte (length kept) b) ≡ true). ((refl, refl, version_bad kept b (not_true _ e)), refl))
    (λ (e : not (is_version_byte (length kept) b) ≡ false).
    let more : BeginsVersion (kept ++ b ∷ []) = version_more kept b fits (not_false _ e) in
    let long : length (kept ++ b ∷ []) ≡ length kept + 1 = length_after kept b in
    either_way (Does AtVersion kept b) (nat_lt (length (kept ++ b ∷ [])) 12) _ _
    (λ (l : nat_lt (length (kept ++ b ∷ [])) 12 ≡ true). goes_on AtVersion kept b InVersion (kept ++ b ∷ []) (refl, refl, ltb-true _ _ l, more))
    (λ (l : nat_lt (length (kept ++ b ∷ [])) 12 ≡ false).
    let least : 12 ≤ length (kept ++ b ∷ []) = ltb-false _ _ l in
    let is : length (kept ++ b ∷ []) ≡ 12 = omega arith in
    (refl, (is, more), (refl, refl, refl))))

-- ---- the prefix of a message

some_apart : (kind : Kind) → Some kind ≡ None → ⊥
some_apart kind e = cc

kind_known : (b : ℕ) (kind : Kind) → b ≡ kind_byte kind → kind_of b ≡ Some kind
unfolding kind_of
kind_known b AFormat h = ap kind_of h
kind_known b SomeEncodings h = ap kind_of h
kind_known b ARequest h = ap kind_of h
kind_known b AKey h = ap kind_of h
kind_known b APointer h = ap kind_of h
kind_known b ACut h = ap kind_of h

not_a_kind : (b : ℕ) (kind : Kind) → kind_of b ≡ None → b ≡ kind_byte kind → ⊥
not_a_kind b kind none e = some_apart kind (sym (kind_known b kind e) ∙ none)

no_kind : (b : ℕ) → kind_of b ≡ None → NoneBegins AtMessage ([] ++ b ∷ [])
no_kind b none more Version s spelled = cc
no_kind b none more Init s spelled = cc
no_kind b none more (Said (SetFormat f)) s spelled = not_a_kind b AFormat none spelled.0.0
no_kind b none more (Said (SetEncodings e)) s spelled = not_a_kind b SomeEncodings none spelled.0.0
no_kind b none more (Said (Request i x y w h)) s spelled = not_a_kind b ARequest none spelled.0.0
no_kind b none more (Said (Key d k)) s spelled = not_a_kind b AKey none spelled.0.0
no_kind b none more (Said (Pointer m x y)) s spelled = not_a_kind b APointer none spelled.0.0
no_kind b none more (Said Cut) s spelled = not_a_kind b ACut none spelled.0
no_kind b none more (Faulty f) s spelled = not_a_kind b AFormat none spelled.0.0

format_does : (kept : List ℕ) (b : ℕ) (r : Result Layout FormatFault) → IsMessage 0 20 (kept ++ b ∷ []) → format_of (drop 4 (kept ++ b ∷ [])) ≡ r → Does AtMessage kept b (on_format r, [])
format_does kept b (Ok f) h e = (refl, (h, e), (refl, refl, tt))
format_does kept b (Err f) h e = ((refl, (h, e)), refl)

pub whole_does : (kind : Kind) (kept : List ℕ) (b : ℕ) → slice_index (kept ++ b ∷ []) 0 ≡ kind_byte kind → length (kept ++ b ∷ []) ≡ head_length kind → Does AtMessage kept b (whole_head kind (kept ++ b ∷ []), [])
whole_does AFormat kept b t l = format_does kept b (format_of (drop 4 (kept ++ b ∷ []))) (t, l) refl
whole_does SomeEncodings kept b t l =
    let head : List ℕ = kept ++ b ∷ [] in
    let most : length head ≤ 4 = omega arith in
    let none : drop 4 head ≡ [] = drop_of_length-le head most in
    let first : first_known (numbers (drop 4 head)) ≡ None = ap (λ (bs : List ℕ). first_known (numbers bs)) none in
    either_way (λ (t : Outcome). Does AtMessage kept b (t, [])) (u16_at 2 head == 0) _ _
    (λ (e : (u16_at 2 head == 0) ≡ true).
    let zero : u16_at 2 head ≡ 0 = eqb-true _ _ e in
    let all : length head ≡ 4 + 4 * u16_at 2 head = omega arith in
    (refl, ((t, all), sym (ap or_raw first)), (refl, refl, tt)))
    (λ (e : (u16_at 2 head == 0) ≡ false).
    let some : u16_at 2 head ≢ 0 = eqb-false _ _ e in
    goes_on AtMessage kept b (InEncodings (u16_at 2 head) None) []
    (refl, head, sym (append-nil head), record { type = t; came = 0; whole = omega arith; all = omega arith; more = omega arith; first = sym first }, lit< tt))
whole_does ARequest kept b t l = (refl, ((t, l), refl, refl, refl, refl, refl), (refl, refl, tt))
whole_does AKey kept b t l = (refl, ((t, l), refl, refl), (refl, refl, tt))
whole_does APointer kept b t l = (refl, ((t, l), refl, refl, refl), (refl, refl, tt))
whole_does ACut kept b t l =
    let head : List ℕ = kept ++ b ∷ [] in
    either_way (λ (t : Outcome). Does AtMessage kept b (t, [])) (u32_at 4 head == 0) _ _
    (λ (e : (u32_at 4 head == 0) ≡ true).
    let zero : u32_at 4 head ≡ 0 = eqb-true _ _ e in
    let all : length head ≡ 8 + u32_at 4 head = omega arith in
    (refl, (t, all), (refl, refl, tt)))
    (λ (e : (u32_at 4 head == 0) ≡ false).
    let some : u32_at 4 head ≢ 0 = eqb-false _ _ e in
    goes_on AtMessage kept b (InText (u32_at 4 head)) []
    (refl, refl, record { type = t; head = omega arith; all = omega arith; more = omega arith }))

-- the prefix so far is one of a known kind
head_more : (kept : List ℕ) (b : ℕ) (kind : Kind) → kind_of (slice_index (kept ++ b ∷ []) 0) ≡ Some kind → length (kept ++ b ∷ []) < head_length kind → IsHead (kept ++ b ∷ [])
head_more [] b kind e l = (kind, e, l)
head_more (a ∷ kept) b kind e l = (kind, e, l)

least_prefix : (kind : Kind) → 4 ≤ head_length kind
least_prefix AFormat = lit≤ tt
least_prefix SomeEncodings = lit≤ tt
least_prefix ARequest = lit≤ tt
least_prefix AKey = lit≤ tt
least_prefix APointer = lit≤ tt
least_prefix ACut = lit≤ tt

same_kind : (a b : Kind) → Some a ≡ Some b → head_length a ≡ head_length b
same_kind a b e = let s : a ≡ b = cc in ap head_length s

-- the prefix was less than whole before the byte
head_most : (kept : List ℕ) (b : ℕ) (kind : Kind) → IsHead kept → kind_of (slice_index (kept ++ b ∷ []) 0) ≡ Some kind → length (kept ++ b ∷ []) ≤ head_length kind
head_most [] b kind h e = let l = least_prefix kind in omega arith
head_most (a ∷ kept) b kind h e =
    let s : head_length h.0 ≡ head_length kind = same_kind h.0 kind (sym h.1 ∙ e) in
    let l : length (a ∷ kept) < head_length h.0 = h.2 in
    let more : length ((a ∷ kept) ++ b ∷ []) ≡ length (a ∷ kept) + 1 = length_after (a ∷ kept) b in
    omega arith

kind_none : (kept : List ℕ) (b : ℕ) → IsHead kept → kind_of (slice_index (kept ++ b ∷ []) 0) ≡ None → Does AtMessage kept b (closed (BadKind b), [])
kind_none [] b h e = ((refl, refl, refl, no_kind b e), refl)
kind_none (a ∷ kept) b h e = absurd (some_apart h.0 (sym h.1 ∙ e))

kind_does : (kept : List ℕ) (b : ℕ) (k : Option Kind) → IsHead kept → kind_of (slice_index (kept ++ b ∷ []) 0) ≡ k → Does AtMessage kept b (on_kind (kept ++ b ∷ []) b k)
kind_does kept b None h e = kind_none kept b h e
kind_does kept b (Some kind) h e =
    either_way (Does AtMessage kept b) (nat_lt (length (kept ++ b ∷ [])) (head_length kind)) _ _
    (λ (l : nat_lt (length (kept ++ b ∷ [])) (head_length kind) ≡ true).
    goes_on AtMessage kept b InHead (kept ++ b ∷ []) (refl, refl, head_more kept b kind e (ltb-true _ _ l)))
    (λ (l : nat_lt (length (kept ++ b ∷ [])) (head_length kind) ≡ false).
    let least : head_length kind ≤ length (kept ++ b ∷ []) = ltb-false _ _ l in
    let most : length (kept ++ b ∷ []) ≤ head_length kind = head_most kept b kind h e in
    whole_does kind kept b (kind_byte_of _ kind e) (omega arith))

pub head_does : (kept : List ℕ) (b : ℕ) → IsHead kept → Does AtMessage kept b (after_head kept b)
unfolding after_head
head_does kept b h = kind_does kept b (kind_of (slice_index (kept ++ b ∷ []) 0)) h refl
