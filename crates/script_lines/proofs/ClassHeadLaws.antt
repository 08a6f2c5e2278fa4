-- Classes' first lines: what is read is spelled so, and what is spelled so is read.
use Rattle.std.proofs.Common.{◌≡◌, ℕ, eqb, List, [], ◌∷◌, length, Option, Some, None, refl, sym, ap, subst, ◌∙◌, inl, inr, arith, lit<}
use Rattle.std.specs.Prelude.{bytes_eq, codes}
use Rattle.std.specs.Fmt.{decimal}
use Rattle.std.proofs.lemmas.Bool.Decides.{nat_tests}
use Rattle.std.proofs.lemmas.List.{nil_from_length}
use Rattle.std.proofs.lemmas.Option.{same_Some}
use Rattle.spelling.specs.Words.{◌>>=◌, words_of, text_of_words, after_word, natural_at, colour_of}
use Rattle.spelling.proofs.CallerLemmas.{IsWhole, parts-join, bind_some, chosen, named, line_from_words, after_word_again, natural_at_takes, natural_at_again, colour_takes, colour_again, colour_no_dash, whole_by_test, natural_whole, colour_whole}
use Rattle.script_lines.specs.Fields.{back_of, back_in, class_in}
use Rattle.script_lines.specs.Texts.{text_of_back, BackFits, HeadFits, class_text}

-- ---- the back colour

back_again : (back : Option ℕ) → BackFits back → back_of (text_of_back back) ≡ Some back
back_again None fits = refl
back_again (Some c) fits = rw (colour_no_dash c, colour_again c fits) refl

back_taken : (word : List ℕ) (back : Option ℕ) → back_of word ≡ Some back → (word ≡ text_of_back back) × BackFits back
back_taken word back is =
    elim (chosen (bytes_eq word (codes "-")) (Some None) _ (Some back) is) [
      | inl dash ↦ subst (λ (b : Option ℕ). (word ≡ text_of_back b) × BackFits b) (same_Some None back dash.1) (named word (codes "-") dash.0, tt)
      | inr other ↦
          let c = bind_some (colour_of word) (λ c. Some (Some c)) back other.1 in
          subst (λ (b : Option ℕ). (word ≡ text_of_back b) × BackFits b) (same_Some (Some c.0) back c.2) (colour_takes word c.0 c.1)
    ]

back_whole : (back : Option ℕ) → IsWhole 32 (text_of_back back)
back_whole None = whole_by_test (codes "-") refl
back_whole (Some c) = colour_whole c

-- ---- the line

pub head_words : (n : ℕ) (back : Option ℕ) → HeadFits n back → words_of (class_text n back) ≡ codes "class" ∷ decimal n ∷ text_of_back back ∷ []
head_words n back fits =
    let few = fits.1 in
    parts-join 32 (codes "class") (decimal n ∷ text_of_back back ∷ []) (whole_by_test (codes "class") refl, (natural_whole n (omega arith), (back_whole back, tt)))

pub head_again : (n : ℕ) (back : Option ℕ) → HeadFits n back → class_in (decimal n ∷ text_of_back back ∷ []) ≡ Some (n, back)
unfolding class_in
head_again n back fits = rw (natural_at_again 1 63 n (text_of_back back ∷ []) fits.0 fits.1 (lit< tt), back_again back fits.2) refl

back_in_taken : (words : List (List ℕ)) (back : Option ℕ) → back_in words ≡ Some back → (words ≡ text_of_back back ∷ []) × BackFits back
back_in_taken [] back is = absurd cc
back_in_taken (word ∷ words) back is =
    elim (chosen (eqb (length words) 0) (back_of word) None (Some back) is) [
      | inl last ↦
          let t = back_taken word back last.1 in
          let none : words ≡ [] = nil_from_length words (grind (arith, nat_tests, last.0)) in
          (ap (λ (ws : List (List ℕ)). word ∷ ws) none ∙ ap (λ (w : List ℕ). w ∷ []) t.0, t.1)
      | inr more ↦ absurd (cc more.1)
    ]

pub head_taken : (line : List ℕ) (words : List (List ℕ)) (x : ℕ × Option ℕ) → words_of line ≡ codes "class" ∷ words → class_in words ≡ Some x → (line ≡ class_text x.0 x.1) × HeadFits x.0 x.1
unfolding class_in
head_taken line words x spelled is =
    let n = bind_some (natural_at 1 63 words) _ x is in
    let number = natural_at_takes 1 63 words n.0 n.1 in
    let found = bind_some (back_in n.0.1) _ x n.2 in
    let t = back_in_taken n.0.1 found.0 found.1 in
    let same : (n.0.0, found.0) ≡ x = same_Some _ _ found.2 in
    let all : line ≡ text_of_words (codes "class" ∷ decimal n.0.0 ∷ n.0.1) = line_from_words line _ (spelled ∙ ap (λ (ws : List (List ℕ)). codes "class" ∷ ws) number.0) in
    subst (λ (y : ℕ × Option ℕ). (line ≡ class_text y.0 y.1) × HeadFits y.0 y.1) same
    (all ∙ ap (λ (ws : List (List ℕ)). text_of_words (codes "class" ∷ decimal n.0.0 ∷ ws)) t.0, (number.1, number.2, t.1))

-- ---- one text has one meaning

abbrev head_of : List ℕ → Option (ℕ × Option ℕ)
head_of line = after_word (codes "class") (words_of line) >>= λ words. class_in words

line_again : (n : ℕ) (back : Option ℕ) → HeadFits n back → head_of (class_text n back) ≡ Some (n, back)
line_again n back fits =
    ap (λ (ws : List (List ℕ)). after_word (codes "class") ws >>= λ words. class_in words) (head_words n back fits)
    ∙ ap (λ (o : Option (List (List ℕ))). o >>= λ words. class_in words) (after_word_again (codes "class") (decimal n ∷ text_of_back back ∷ [])) ∙ head_again n back fits

pub head_same : (n : ℕ) (back other : Option ℕ) → HeadFits n back → HeadFits n other → class_text n back ≡ class_text n other → back ≡ other
head_same n back other fits also e =
    let same : (n, back) ≡ (n, other) = same_Some _ _ (sym (line_again n back fits) ∙ ap head_of e ∙ line_again n other also) in
    ap (λ (x : ℕ × Option ℕ). x.1) same
