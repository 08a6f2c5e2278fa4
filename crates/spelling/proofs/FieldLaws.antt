-- The laws of fields: what is read is spelled so, and what is spelled so is read.
use Rattle.std.proofs.Common.{◌≡◌, ℕ, ◌<◌, ◌≤◌, Bool, true, false, List, [], ◌∷◌, ◌++◌, Option, Some, None, refl, sym, ap, subst, ◌∙◌, inl, inr, arith, ℤ}
use Rattle.std.specs.Prelude.{bytes_eq, not, is_some, FitsSigned}
use Rattle.std.specs.Int.{w16}
use Rattle.std.specs.Fmt.{signed_decimal}
use Rattle.std.specs.List.{AllByRecursion}
use Rattle.std.proofs.lemmas.Bool.{and_parts, ltb-true}
use Rattle.std.proofs.lemmas.List.{append-nil}
use Rattle.std.proofs.lemmas.Option.{same_Some}
use Rattle.spelling.specs.Words.{◌>>=◌, words_of, first_word, after_word, number_of, colour_of}
use Rattle.spelling.proofs.CutLemmas.{IsWhole, parts-join}
use Rattle.spelling.proofs.NumberSpellings.{number_takes, number_again}
use Rattle.spelling.proofs.CoordinateLaws.{num_at_takes, num_at_again, num_whole}
use Rattle.spelling.proofs.SpellingLaws.{bind_some, chosen, onto, word_takes, after_word_takes, after_word_again, line_from_words, named, same_name, nothing_left, number_at_takes, number_at_again, natural_at_takes, natural_at_again, colour_takes, colour_again, whole_by_test, natural_whole, number_whole, colour_whole}
use Rattle.spelling.specs.Fields.{Field, Natural, Number, NumberOr, Coordinate, Colour, Choice, number_or_word, ValueOf, text_of, IsIn, Values, texts_of, AreIn, is_word, is_field, are_fields, Makes, made, taking, number_or_of, number_or_at, colour_at, choice_of, choice_at, value_at, read_fields, all_of, values_of, text_with, line_values}

-- ---- one field

colour_at_takes : (words : List (List ℕ)) (x : ℕ × List (List ℕ)) → colour_at words ≡ Some x → (words ≡ text_of Colour x.0 ∷ x.1) × IsIn Colour x.0
unfolding colour_at
colour_at_takes words x e =
    let w = bind_some (first_word words) _ x e in
    let c = bind_some (colour_of w.0.0) _ x w.2 in
    let spelled = colour_takes w.0.0 c.0 c.1 in
    subst (λ (y : ℕ × List (List ℕ)). (words ≡ text_of Colour y.0 ∷ y.1) × IsIn Colour y.0) (same_Some (c.0, w.0.1) x c.2)
    (word_takes words w.0 w.1 ∙ ap (λ (v : List ℕ). v ∷ w.0.1) spelled.0, spelled.1)

choice_takes : (first second word : List ℕ) (b : Bool) → choice_of first second word ≡ Some b → word ≡ text_of (Choice first second) b
choice_takes first second word b e =
    elim (chosen (bytes_eq word first) (Some false) _ (Some b) e) [
      | inl one ↦ named word first one.0 ∙ ap (text_of (Choice first second)) (same_Some false b one.1)
      | inr other ↦
          elim (chosen (bytes_eq word second) (Some true) None (Some b) other.1) [
            | inl two ↦ named word second two.0 ∙ ap (text_of (Choice first second)) (same_Some true b two.1)
            | inr none ↦ absurd (cc none.1)
          ]
    ]

choice_at_takes : (first second : List ℕ) (words : List (List ℕ)) (x : Bool × List (List ℕ)) → choice_at first second words ≡ Some x → words ≡ text_of (Choice first second) x.0 ∷ x.1
unfolding choice_at
choice_at_takes first second words x e =
    let w = bind_some (first_word words) _ x e in
    let b = bind_some (choice_of first second w.0.0) _ x w.2 in
    let spelled = choice_takes first second w.0.0 b.0 b.1 in
    subst (λ (y : Bool × List (List ℕ)). words ≡ text_of (Choice first second) y.0 ∷ y.1) (same_Some (b.0, w.0.1) x b.2)
    (word_takes words w.0 w.1 ∙ ap (λ (v : List ℕ). v ∷ w.0.1) spelled)

number_or_takes : (name word : List ℕ) (v : Option ℤ) → number_or_of name word ≡ Some v → (word ≡ text_of (NumberOr name) v) × IsIn (NumberOr name) v
number_or_takes name word v e =
    elim (chosen (bytes_eq word name) (Some None) _ (Some v) e) [
      | inl same ↦ subst (λ (o : Option ℤ). (word ≡ number_or_word name o) × IsIn (NumberOr name) o) (same_Some None v same.1) (named word name same.0, tt)
      | inr other ↦
          let z = bind_some (number_of word) (λ z. Some (Some z)) v other.1 in
          subst (λ (o : Option ℤ). (word ≡ number_or_word name o) × IsIn (NumberOr name) o) (same_Some (Some z.0) v z.2) (number_takes word z.0 z.1)
    ]

number_or_at_takes : (name : List ℕ) (words : List (List ℕ)) (x : Option ℤ × List (List ℕ)) → number_or_at name words ≡ Some x → (words ≡ text_of (NumberOr name) x.0 ∷ x.1) × IsIn (NumberOr name) x.0
unfolding number_or_at
number_or_at_takes name words x e =
    let w = bind_some (first_word words) _ x e in
    let v = bind_some (number_or_of name w.0.0) _ x w.2 in
    let spelled = number_or_takes name w.0.0 v.0 v.1 in
    subst (λ (y : Option ℤ × List (List ℕ)). (words ≡ number_or_word name y.0 ∷ y.1) × IsIn (NumberOr name) y.0) (same_Some (v.0, w.0.1) x v.2)
    (word_takes words w.0 w.1 ∙ ap (λ (t : List ℕ). t ∷ w.0.1) spelled.0, spelled.1)

pub value_takes : (f : Field) (words : List (List ℕ)) (x : ValueOf f × List (List ℕ)) → value_at f words ≡ Some x → (words ≡ text_of f x.0 ∷ x.1) × IsIn f x.0
value_takes (Natural low high) words x e = let t = natural_at_takes low high words x e in (t.0, (t.1, t.2))
value_takes Number words x e = number_at_takes words x e
value_takes (NumberOr word) words x e = number_or_at_takes word words x e
value_takes Coordinate words x e = num_at_takes words x e
value_takes Colour words x e = colour_at_takes words x e
value_takes (Choice first second) words x e = (choice_at_takes first second words x e, tt)

not_true : (b : Bool) → not b ≡ true → b ≡ false
not_true true e = absurd cc
not_true false e = refl

no_test : (b : Bool) → (b ≡ true → ⊥) → b ≡ false
no_test true never = absurd (never refl)
no_test false never = refl

-- a number's spelling isn't the word
number_no_name : (name : List ℕ) (z : ℤ) → not (is_some (number_of name)) ≡ true → FitsSigned w16 z → bytes_eq (signed_decimal z) name ≡ false
number_no_name name z differ fits =
    no_test (bytes_eq (signed_decimal z) name) (λ same.
    let spelled : number_of name ≡ Some z = ap number_of (sym (named (signed_decimal z) name same)) ∙ number_again z fits in
    absurd (cc (sym differ ∙ ap (λ (o : Option ℤ). not (is_some o)) spelled)))

number_or_again : (name : List ℕ) (v : Option ℤ) → not (is_some (number_of name)) ≡ true → IsIn (NumberOr name) v → number_or_of name (text_of (NumberOr name) v) ≡ Some v
number_or_again name None differ is = rw (same_name name) refl
number_or_again name (Some z) differ is = rw (number_no_name name z differ is, number_again z is) refl

number_or_at_again : (name : List ℕ) (v : Option ℤ) (rest : List (List ℕ)) → not (is_some (number_of name)) ≡ true → IsIn (NumberOr name) v → number_or_at name (text_of (NumberOr name) v ∷ rest) ≡ Some (v, rest)
unfolding number_or_at
number_or_at_again name v rest differ is = ap (λ (o : Option (Option ℤ)). o >>= λ u. Some (u, rest)) (number_or_again name v differ is)

choice_again : (first second : List ℕ) (b : Bool) → not (bytes_eq second first) ≡ true → choice_of first second (text_of (Choice first second) b) ≡ Some b
choice_again first second false differ = rw (same_name first) refl
choice_again first second true differ = rw (not_true (bytes_eq second first) differ, same_name second) refl

choice_at_again : (first second : List ℕ) (b : Bool) (rest : List (List ℕ)) → not (bytes_eq second first) ≡ true → choice_at first second (text_of (Choice first second) b ∷ rest) ≡ Some (b, rest)
unfolding choice_at
choice_at_again first second b rest differ = ap (λ (o : Option Bool). o >>= λ v. Some (v, rest)) (choice_again first second b differ)

colour_at_again : (c : ℕ) (rest : List (List ℕ)) → IsIn Colour c → colour_at (text_of Colour c ∷ rest) ≡ Some (c, rest)
unfolding colour_at
colour_at_again c rest small = ap (λ (o : Option ℕ). o >>= λ v. Some (v, rest)) (colour_again c small)

pub value_again : (f : Field) (v : ValueOf f) (rest : List (List ℕ)) → is_field f ≡ true → IsIn f v → value_at f (text_of f v ∷ rest) ≡ Some (v, rest)
value_again (Natural low high) n rest field is = natural_at_again low high n rest is.0 is.1 (ltb-true _ _ field)
value_again Number z rest field is = number_at_again z rest is
value_again (NumberOr word) v rest field is = number_or_at_again word v rest (and_parts (is_word word) _ field).1 is
value_again Coordinate num rest field is = num_at_again num rest is
value_again Colour c rest field is = colour_at_again c rest is
value_again (Choice first second) b rest field is = choice_at_again first second b rest (and_parts (not (bytes_eq second first)) _ field).0

choice_whole : (first second : List ℕ) (b : Bool) → is_word first ≡ true → is_word second ≡ true → IsWhole 32 (text_of (Choice first second) b)
choice_whole first second false one two = whole_by_test first one
choice_whole first second true one two = whole_by_test second two

number_or_whole : (name : List ℕ) (v : Option ℤ) → is_word name ≡ true → IsIn (NumberOr name) v → IsWhole 32 (text_of (NumberOr name) v)
number_or_whole name None word is = whole_by_test name word
number_or_whole name (Some z) word is = number_whole z is

pub value_whole : (f : Field) (v : ValueOf f) → is_field f ≡ true → IsIn f v → IsWhole 32 (text_of f v)
value_whole (Natural low high) n field is =
    let small : high < 4294967296 = ltb-true _ _ field in
    let below : n ≤ high = is.1 in
    natural_whole n (omega arith)
value_whole Number z field is = number_whole z is
value_whole (NumberOr word) v field is = number_or_whole word v (and_parts (is_word word) _ field).0 is
value_whole Coordinate num field is = num_whole num is
value_whole Colour c field is = colour_whole c
value_whole (Choice first second) b field is =
    let parts = and_parts (not (bytes_eq second first)) _ field in
    let words = and_parts (is_word first) (is_word second) parts.1 in
    choice_whole first second b words.0 words.1

-- ---- a list of fields

pub fields_take : {A : Type 0} (fs : List Field) (make : Makes fs A) (words : List (List ℕ)) (x : A × List (List ℕ)) → read_fields fs make words ≡ Some x → (vs : Values fs) × (words ≡ texts_of fs vs ++ x.1) × AreIn fs vs × (made fs make vs ≡ x.0)
fields_take {A} [] make words x e =
    let same : (make, words) ≡ x = same_Some (make, words) x e in
    (tt, ap (λ (y : A × List (List ℕ)). y.1) same, tt, ap (λ (y : A × List (List ℕ)). y.0) same)
fields_take {A} (f ∷ fs) make words x e =
    let v = bind_some (value_at f words) _ x e in
    let t = value_takes f words v.0 v.1 in
    let more = fields_take fs (make v.0.0) v.0.1 x v.2 in
    ((v.0.0, more.0), t.0 ∙ onto (text_of f v.0.0) _ _ more.1, (t.1, more.2), more.3)

pub fields_again : {A : Type 0} (fs : List Field) (make : Makes fs A) (vs : Values fs) (rest : List (List ℕ)) → are_fields fs ≡ true → AreIn fs vs → read_fields fs make (texts_of fs vs ++ rest) ≡ Some (made fs make vs, rest)
fields_again [] make vs rest fields are = refl
fields_again {A} (f ∷ fs) make vs rest fields are =
    let both = and_parts (is_field f) (are_fields fs) fields in
    ap (λ (o : Option (ValueOf f × List (List ℕ))). o >>= λ v. read_fields {A = A} fs (make v.0) v.1) (value_again f vs.0 (texts_of fs vs.1 ++ rest) both.0 are.0) ∙ fields_again fs (make vs.0) vs.1 rest both.1 are.1

pub fields_whole : (fs : List Field) (vs : Values fs) → are_fields fs ≡ true → AreIn fs vs → AllByRecursion (IsWhole 32) (texts_of fs vs)
fields_whole [] vs fields are = tt
fields_whole (f ∷ fs) vs fields are =
    let both = and_parts (is_field f) (are_fields fs) fields in
    (value_whole f vs.0 both.0 are.0, fields_whole fs vs.1 both.1 are.1)

-- the values themselves
pub made_taking : {A : Type 0} (fs : List Field) (k : Values fs → A) (vs : Values fs) → made fs (taking fs k) vs ≡ k vs
made_taking [] k vs = refl
made_taking (f ∷ fs) k vs = made_taking fs (λ more. k (vs.0, more)) vs.1

all_taken : {A : Type 0} (o : Option (A × List (List ℕ))) (a : A) → all_of o ≡ Some a → (x : A × List (List ℕ)) × (o ≡ Some x) × (x.1 ≡ []) × (x.0 ≡ a)
all_taken None a e = absurd cc
all_taken (Some x) a e = let n = nothing_left x.1 x.0 a e in (x, refl, n.0, n.1)

pub values_take : (fs : List Field) (words : List (List ℕ)) (vs : Values fs) → values_of fs words ≡ Some vs → (words ≡ texts_of fs vs) × AreIn fs vs
values_take fs words vs e =
    let k : Values fs → Values fs = λ ws. ws in
    let x = all_taken (read_fields fs (taking fs k) words) vs e in
    let t = fields_take fs (taking fs k) words x.0 x.1 in
    let same : t.0 ≡ vs = sym (made_taking fs k t.0) ∙ t.3 ∙ x.3 in
    subst (λ (ws : Values fs). (words ≡ texts_of fs ws) × AreIn fs ws) same
    (t.1 ∙ ap (λ (rest : List (List ℕ)). texts_of fs t.0 ++ rest) x.2 ∙ append-nil (texts_of fs t.0), t.2)

pub values_again : (fs : List Field) (words : List (List ℕ)) (vs : Values fs) → are_fields fs ≡ true → words ≡ texts_of fs vs → AreIn fs vs → values_of fs words ≡ Some vs
values_again fs words vs fields e are =
    let k : Values fs → Values fs = λ ws. ws in
    let is : read_fields fs (taking fs k) words ≡ Some (vs, []) =
    ap (read_fields fs (taking fs k)) (e ∙ sym (append-nil (texts_of fs vs))) ∙ fields_again fs (taking fs k) vs [] fields are ∙ ap (λ (ws : Values fs). Some (ws, [])) (made_taking fs k vs) in
    ap all_of is

-- ---- lines of a word and fields

pub words_with : (name : List ℕ) (fs : List Field) (vs : Values fs) → is_word name ≡ true → are_fields fs ≡ true → AreIn fs vs → words_of (text_with name fs vs) ≡ name ∷ texts_of fs vs
words_with name fs vs whole fields are = parts-join 32 name (texts_of fs vs) (whole_by_test name whole, fields_whole fs vs fields are)

pub line_values_take : (name : List ℕ) (fs : List Field) (line : List ℕ) (vs : Values fs) → line_values name fs (words_of line) ≡ Some vs → (line ≡ text_with name fs vs) × AreIn fs vs
unfolding line_values
line_values_take name fs line vs e =
    let a = bind_some (after_word name (words_of line)) _ vs e in
    let v = values_take fs a.0 vs a.2 in
    (line_from_words line (name ∷ texts_of fs vs) (after_word_takes name (words_of line) a.0 a.1 ∙ ap (λ (ws : List (List ℕ)). name ∷ ws) v.0), v.1)

pub line_values_again : (name : List ℕ) (fs : List Field) (vs : Values fs) → is_word name ≡ true → are_fields fs ≡ true → AreIn fs vs → line_values name fs (words_of (text_with name fs vs)) ≡ Some vs
unfolding line_values
line_values_again name fs vs whole fields are =
    ap (λ (ws : List (List ℕ)). after_word name ws >>= λ rest. values_of fs rest) (words_with name fs vs whole fields are)
    ∙ ap (λ (o : Option (List (List ℕ))). o >>= λ rest. values_of fs rest) (after_word_again name (texts_of fs vs)) ∙ values_again fs (texts_of fs vs) vs fields refl are

-- one text has one meaning
pub text_same : (name : List ℕ) (fs : List Field) (vs ws : Values fs) → is_word name ≡ true → are_fields fs ≡ true → AreIn fs vs → AreIn fs ws → text_with name fs vs ≡ text_with name fs ws → vs ≡ ws
text_same name fs vs ws whole fields are also e =
    same_Some vs ws (sym (line_values_again name fs vs whole fields are) ∙ ap (λ (t : List ℕ). line_values name fs (words_of t)) e ∙ line_values_again name fs ws whole fields also)
