-- Strings' lines: what is read is spelled so, and what is spelled so is read.
use Rattle.std.proofs.Common.{◌≡◌, ℕ, ◌<◌, ◌≤◌, true, cond, eqb, leb, ◌&&◌, List, [], ◌∷◌, ◌++◌, length, Option, Some, None, refl, sym, ap, subst, ◌∙◌, inl, inr, arith, lit<}
use Rattle.std.specs.Prelude.{◌↔◌, IsSome, IfSome, codes}
use Rattle.std.specs.Fmt.{decimal}
use Rattle.std.proofs.lemmas.Bool.{cases_Bool, and_parts, leb-true}
use Rattle.std.proofs.lemmas.Bool.Decides.{nat_tests}
use Rattle.std.proofs.lemmas.List.Elements.{All-from_recursion}
use Rattle.std.proofs.lemmas.List.Splits.{slice_split_at, length-slice_split, join_with_byte-slice_split}
use Rattle.std.proofs.lemmas.Option.{same_Some}
use denote.Ref.{Bor}
use Rattle.paint_ops.specs.declared.text.Text.{Text}
use Rattle.paint_ops.specs.Texts.{IsText}
use Rattle.spelling.specs.Parts.{is_printable}
use Rattle.spelling.specs.Words.{◌>>=◌, Gives, left, words_of, text_of_words, after_word, natural_at}
use Rattle.spelling.proofs.CallerLemmas.{IsWhole, bind_some, chosen, line_from_words, natural_at_takes, natural_at_again, natural_whole, whole_by_test, after_word_again}
use Rattle.script_lines.specs.Fields.{text_in, string_in}
use Rattle.script_lines.specs.Texts.{string_text}

-- ---- the words of a string's line

first_word_of : (word rest : List ℕ) → IsWhole 32 word → words_of (word ++ 32 ∷ rest) ≡ word ∷ words_of rest
first_word_of word rest whole = slice_split_at (λ b. eqb b 32) word 32 rest (All-from_recursion _ word whole) refl

pub string_words : (n : ℕ) (text : List ℕ) → n ≤ 255 → words_of (string_text n text) ≡ codes "string" ∷ decimal n ∷ words_of text
string_words n text few =
    first_word_of (codes "string") (decimal n ++ 32 ∷ text) (whole_by_test (codes "string") refl)
    ∙ ap (λ (ws : List (List ℕ)). codes "string" ∷ ws) (first_word_of (decimal n) text (natural_whole n (omega arith)))

-- ---- read again

-- the text, where it is one
text_by : (text : List ℕ) (words : List (List ℕ)) → 0 < length words → text_of_words words ≡ text → text_in words ≡ cond (leb (length text) 64 && is_printable text) (Some text) None
text_by text [] some joined = absurd (omega arith)
text_by text (word ∷ words) some joined = ap (λ (t : List ℕ). cond (leb (length t) 64 && is_printable t) (Some t) None) joined

text_after_space : (text : List ℕ) → text_in (words_of text) ≡ cond (leb (length text) 64 && is_printable text) (Some text) None
text_after_space text = text_by text (words_of text) (omega (arith, length-slice_split (λ b. eqb b 32) text)) (join_with_byte-slice_split 32 text)

text_some : (text : List ℕ) → IsText text → text_in (words_of text) ≡ Some text
text_some text is =
    let short : leb (length text) 64 ≡ true = grind (arith, nat_tests, is.0) in
    text_after_space text ∙ rw (short, is.1) refl

text_none : (text : List ℕ) → (IsText text → ⊥) → text_in (words_of text) ≡ None
text_none text none =
    elim (cases_Bool (leb (length text) 64 && is_printable text)) [
      | inl fits ↦
          let parts = and_parts (leb (length text) 64) (is_printable text) fits in
          absurd (none (leb-true _ _ parts.0, parts.1))
      | inr other ↦ text_after_space text ∙ rw other refl
    ]

-- for `text_in`
given : (o : Option Text) (text : List ℕ) → (IsSome o ↔ IsText text) → IfSome o (λ t. t ≡ text) → Gives (λ (t : Text). t) o (text_in (words_of text))
given None text valid value = text_none text (λ is. absurd (cc (valid.1 is)))
given (Some t) text valid value = text_some text (valid.0 refl) ∙ ap (λ (x : List ℕ). Some x) (sym value)

pub text_given : (o : Option Text) (rest : Option (Bor (List ℕ))) (b : Bor (List ℕ)) → rest ≡ Some b → (IsSome o ↔ IsText b.now) → IfSome o (λ t. t ≡ b.now) → Gives (λ (t : Text). t) o (text_in (left rest))
text_given o rest b is valid value = subst (λ (r : Option (Bor (List ℕ))). Gives (λ (t : Text). t) o (text_in (left r))) (sym is) (given o b.now valid value)

pub string_again : (n : ℕ) (text : List ℕ) → n ≤ 255 → IsText text → string_in (decimal n ∷ words_of text) ≡ Some (n, text)
unfolding string_in
string_again n text few is = rw (natural_at_again 0 255 n (words_of text) (omega arith) few (lit< tt), text_some text is) refl

-- ---- what is read

text_taken : (n : ℕ) (words : List (List ℕ)) (text : List ℕ) → text_in words ≡ Some text → (text_of_words (decimal n ∷ words) ≡ text_of_words (decimal n ∷ text ∷ [])) × IsText text
text_taken n [] text is = absurd cc
text_taken n (word ∷ words) text is =
    elim (chosen (leb (length (text_of_words (word ∷ words))) 64 && is_printable (text_of_words (word ∷ words))) (Some (text_of_words (word ∷ words))) None (Some text) is) [
      | inl fits ↦
          let same : text_of_words (word ∷ words) ≡ text = same_Some _ _ fits.1 in
          let parts = and_parts (leb (length (text_of_words (word ∷ words))) 64) _ fits.0 in
          subst (λ (t : List ℕ). (text_of_words (decimal n ∷ word ∷ words) ≡ text_of_words (decimal n ∷ t ∷ [])) × IsText t) same
          (refl, (leb-true _ _ parts.0, parts.1))
      | inr other ↦ absurd (cc other.1)
    ]

joined_after : (first second : List ℕ) (words others : List (List ℕ)) → text_of_words (second ∷ words) ≡ text_of_words (second ∷ others) → text_of_words (first ∷ second ∷ words) ≡ text_of_words (first ∷ second ∷ others)
joined_after first second words others is = ap (λ (t : List ℕ). first ++ 32 ∷ t) is

pub string_taken : (line : List ℕ) (words : List (List ℕ)) (x : ℕ × List ℕ) → words_of line ≡ codes "string" ∷ words → string_in words ≡ Some x → (line ≡ string_text x.0 x.1) × (x.0 ≤ 255) × IsText x.1
unfolding string_in
string_taken line words x spelled is =
    let n = bind_some (natural_at 0 255 words) _ x is in
    let number = natural_at_takes 0 255 words n.0 n.1 in
    let found = bind_some (text_in n.0.1) _ x n.2 in
    let t = text_taken n.0.0 n.0.1 found.0 found.1 in
    let same : (n.0.0, found.0) ≡ x = same_Some _ _ found.2 in
    let all : line ≡ text_of_words (codes "string" ∷ decimal n.0.0 ∷ n.0.1) = line_from_words line _ (spelled ∙ ap (λ (ws : List (List ℕ)). codes "string" ∷ ws) number.0) in
    subst (λ (y : ℕ × List ℕ). (line ≡ string_text y.0 y.1) × (y.0 ≤ 255) × IsText y.1) same
    (all ∙ joined_after (codes "string") (decimal n.0.0) n.0.1 (found.0 ∷ []) t.0, number.2, t.1)

-- ---- one text has one meaning

abbrev string_of : List ℕ → Option (ℕ × List ℕ)
string_of line = after_word (codes "string") (words_of line) >>= λ words. string_in words

line_again : (n : ℕ) (text : List ℕ) → n ≤ 255 → IsText text → string_of (string_text n text) ≡ Some (n, text)
line_again n text few is =
    ap (λ (ws : List (List ℕ)). after_word (codes "string") ws >>= λ words. string_in words) (string_words n text few)
    ∙ ap (λ (o : Option (List (List ℕ))). o >>= λ words. string_in words) (after_word_again (codes "string") (decimal n ∷ words_of text)) ∙ string_again n text few is

pub string_same : (n : ℕ) (text other : List ℕ) → n ≤ 255 → IsText text → IsText other → string_text n text ≡ string_text n other → text ≡ other
string_same n text other few is also e =
    let same : (n, text) ≡ (n, other) = same_Some _ _ (sym (line_again n text few is) ∙ ap string_of e ∙ line_again n other few also) in
    ap (λ (x : ℕ × List ℕ). x.1) same
