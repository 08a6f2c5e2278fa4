-- The laws of a font's lines: what is read is spelled so, and what is spelled so is read.
use Rattle.std.proofs.Common.{◌≡◌, ℕ, ◌≤◌, Bool, true, false, cond, eqb, ◌&&◌, List, [], ◌∷◌, length, map, Some, refl, ap, subst, ◌∙◌, arith, lit<}
use Rattle.std.specs.Prelude.{bytes_eq, codes}
use Rattle.std.specs.Fmt.{decimal}
use Rattle.std.specs.List.{list_all}
use Rattle.std.proofs.lemmas.Bool.{and_parts, eqb-true}
use Rattle.std.proofs.lemmas.Bool.Decides.{nat_tests}
use Rattle.std.proofs.lemmas.Option.{cond_some}
use Rattle.std.proofs.lemmas.List.{length-map}
use Rattle.spelling.specs.Words.{text_of_words, words_of, after_word, natural_at}
use Rattle.spelling.proofs.CallerLemmas.{parts-join}
use Rattle.spelling.proofs.CallerLemmas.{bind_some, onto, after_word_takes, nothing_left, natural_at_takes, natural_at_again, line_from_words, whole_by_test, natural_whole}
use Rattle.glyph_font.specs.Texts.{row_text, head_text}
use Rattle.glyph_font.specs.Reading.{head_of, row_of, is_point}

-- ---- a glyph's first line

-- the ranges of a code and a width
pub record IsHead (least : ℕ) (head : ℕ × ℕ) : Type 0 where
  pub from : least ≤ head.0
  pub until : head.0 ≤ 126
  pub wide : 1 ≤ head.1
  pub not_too_wide : head.1 ≤ 32

abbrev head_words : ℕ × ℕ → List (List ℕ)
head_words head = codes "glyph" ∷ decimal head.0 ∷ decimal head.1 ∷ []

words_take : (least : ℕ) (words : List (List ℕ)) (head : ℕ × ℕ) → head_of least words ≡ Some head → (words ≡ head_words head) × IsHead least head
unfolding head_of
words_take least words head e =
    let s = bind_some (after_word (codes "glyph") words) _ head e in
    let c = bind_some (natural_at least 126 s.0) _ head s.2 in
    let w = bind_some (natural_at 1 32 c.0.1) _ head c.2 in
    let code = natural_at_takes least 126 s.0 c.0 c.1 in
    let width = natural_at_takes 1 32 c.0.1 w.0 w.1 in
    let whole = nothing_left w.0.1 (c.0.0, w.0.0) head w.2 in
    subst (λ (x : ℕ × ℕ). (words ≡ head_words x) × IsHead least x) whole.1
    (after_word_takes (codes "glyph") words s.0 s.1 ∙ onto (codes "glyph") _ _ (code.0 ∙ onto (decimal c.0.0) _ _ (width.0 ∙ onto (decimal w.0.0) _ _ whole.0)), record { from = code.1; until = code.2; wide = width.1; not_too_wide = width.2 })

words_again : (least : ℕ) (head : ℕ × ℕ) → IsHead least head → head_of least (head_words head) ≡ Some head
unfolding head_of
words_again least head is =
    rw (natural_at_again least 126 head.0 (decimal head.1 ∷ []) is.from is.until (lit< tt), natural_at_again 1 32 head.1 [] is.wide is.not_too_wide (lit< tt)) refl

words_whole : (least : ℕ) (head : ℕ × ℕ) → IsHead least head → words_of (text_of_words (head_words head)) ≡ head_words head
words_whole least head is =
    let until = is.until in
    let not_too_wide = is.not_too_wide in
    parts-join 32 (codes "glyph") (decimal head.0 ∷ decimal head.1 ∷ []) (whole_by_test (codes "glyph") refl, (natural_whole head.0 (omega arith), (natural_whole head.1 (omega arith), tt)))

pub head_takes : (least : ℕ) (line : List ℕ) (head : ℕ × ℕ) → head_of least (words_of line) ≡ Some head → (line ≡ head_text head.0 head.1) × IsHead least head
head_takes least line head e = let t = words_take least (words_of line) head e in (line_from_words line (head_words head) t.0, t.1)

pub head_again : (least : ℕ) (head : ℕ × ℕ) → IsHead least head → head_of least (words_of (head_text head.0 head.1)) ≡ Some head
head_again least head is = ap (head_of least) (words_whole least head is) ∙ words_again least head is

pub head_is_no_end : (code width : ℕ) → bytes_eq (head_text code width) (codes "end") ≡ false
head_is_no_end code width = refl

-- ---- rows

byte_again : (set : Bool) → (is_point (cond set 35 46) ≡ true) × (eqb (cond set 35 46) 35 ≡ set)
byte_again true = (refl, refl)
byte_again false = (refl, refl)

byte_takes : (b : ℕ) → is_point b ≡ true → b ≡ cond (eqb b 35) 35 46
byte_takes b e = grind (arith, nat_tests)

points_take : (line : List ℕ) → list_all is_point line ≡ true → line ≡ row_text (map (λ b. eqb b 35) line)
points_take [] e = refl
points_take (b ∷ bs) e =
    let both = and_parts (is_point b) (list_all is_point bs) e in
    ap (λ (x : ℕ). x ∷ bs) (byte_takes b both.0) ∙ ap (λ (rest : List ℕ). cond (eqb b 35) 35 46 ∷ rest) (points_take bs both.1)

points_again : (row : List Bool) → (list_all is_point (row_text row) ≡ true) × (map (λ b. eqb b 35) (row_text row) ≡ row)
points_again [] = (refl, refl)
points_again (set ∷ row) =
    let one = byte_again set in
    let more = points_again row in
    (ap (λ (b : Bool). b && list_all is_point (row_text row)) one.0 ∙ more.0, ap (λ (b : Bool). b ∷ map (λ b. eqb b 35) (row_text row)) one.1 ∙ ap (λ (rest : List Bool). set ∷ rest) more.1)

pub row_takes : (width : ℕ) (line : List ℕ) (row : List Bool) → row_of width line ≡ Some row → (line ≡ row_text row) × (length row ≡ width)
unfolding row_of
row_takes width line row e =
    let t = cond_some (eqb (length line) width && list_all is_point line) (map (λ b. eqb b 35) line) row e in
    let both = and_parts (eqb (length line) width) (list_all is_point line) t.0 in
    subst (λ (r : List Bool). (line ≡ row_text r) × (length r ≡ width)) t.1 (points_take line both.1, length-map line (λ b. eqb b 35) ∙ eqb-true _ _ both.0)

pub row_again : (width : ℕ) (row : List Bool) → length row ≡ width → row_of width (row_text row) ≡ Some row
unfolding row_of
row_again width row wide =
    let long : length (row_text row) ≡ length row = length-map row (λ (set : Bool). cond set 35 46) in
    let same : eqb (length (row_text row)) width ≡ true = grind (arith, nat_tests) in
    rw (same, (points_again row).0, (points_again row).1) refl
