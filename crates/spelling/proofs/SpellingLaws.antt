-- The laws of a line's words: what is read is spelled so, and what is spelled so is read.
use Rattle.std.proofs.Common.{◌≡◌, ℕ, suc, ◌+◌, ◌-◌, ◌*◌, ◌/◌, ◌%◌, ◌^◌, ◌<◌, ◌≤◌, Bool, true, false, cond, eqb, leb, ◌&&◌, List, [], ◌∷◌, ◌++◌, length, get_or, Option, Some, None, ℤ, pos, negsuc, refl, sym, ap, subst, ◌∙◌, inl, inr, arith}
use Rattle.std.specs.Prelude.{◌⊎◌, bytes_eq, codes, not, FitsSigned}
use Rattle.std.specs.List.{join_with_byte, list_all}
use Rattle.std.specs.Int.{w16}
use Rattle.std.specs.Fmt.{decimal, signed_decimal}
use Rattle.std.specs.Str.Parse.{AllDigits}
use Rattle.std.proofs.lemmas.Fmt.{decimal_is_IsNumeral}
use Rattle.std.proofs.lemmas.Str.Parse.{digit_from_value, digit_at}
use Rattle.std.proofs.lemmas.Slice.Eq.{bytes_eq-Decides, text_from_reads}
use Rattle.std.proofs.lemmas.Bool.Decides.{nat_tests}
use Rattle.std.proofs.lemmas.Bool.{and_parts, eqb-true, leb-true, le-leb}
use Rattle.std.proofs.lemmas.List.{nil_from_length}
use Rattle.std.proofs.lemmas.Option.{cond_some, same_Some}
use Rattle.std.proofs.lemmas.List.Splits.{join_with_byte-slice_split}
use Rattle.spelling.specs.Digits.{hex_digit, hex_byte, hex_colour}
use Rattle.spelling.specs.Words.{text_of_words}
use Rattle.spelling.specs.Words.{◌>>=◌, words_of, first_word, after_word, number_of, number_at, natural_of, natural_in, natural_at, hex_digit_of, hex_byte_of, colour_of}
use Rattle.spelling.proofs.NumberSpellings.{number_takes, number_again, natural_takes, natural_again, natural_none}
use Rattle.spelling.proofs.CutLemmas.{IsWhole}

-- ---- steps

pub bind_some : {A B : Type 0} (o : Option A) (f : A → Option B) (y : B) → (o >>= f) ≡ Some y → (x : A) × (o ≡ Some x) × (f x ≡ Some y)
bind_some None f y e = absurd cc
bind_some (Some x) f y e = (x, refl, e)

-- which way a test went
pub chosen : {A : Type 0} (b : Bool) (x y z : A) → cond b x y ≡ z → ((b ≡ true) × (x ≡ z)) ⊎ ((b ≡ false) × (y ≡ z))
chosen true x y z e = inl (refl, e)
chosen false x y z e = inr (refl, e)

-- the same words after a word
pub onto : (word : List ℕ) (old new : List (List ℕ)) → old ≡ new → word ∷ old ≡ word ∷ new
onto word old new e = ap (λ (ws : List (List ℕ)). word ∷ ws) e

-- ---- words

pub word_takes : (words : List (List ℕ)) (x : List ℕ × List (List ℕ)) → first_word words ≡ Some x → words ≡ x.0 ∷ x.1
word_takes [] x e = absurd cc
word_takes (w ∷ ws) x e = ap (λ (p : List ℕ × List (List ℕ)). p.0 ∷ p.1) (same_Some (w, ws) x e)

-- a word, known by its test
pub named : (w name : List ℕ) → bytes_eq w name ≡ true → w ≡ name
named w name test = (bytes_eq-Decides w name).0 test

pub same_name : (name : List ℕ) → bytes_eq name name ≡ true
same_name name = (bytes_eq-Decides name name).1 refl

pub after_word_takes : (name : List ℕ) (words rest : List (List ℕ)) → after_word name words ≡ Some rest → words ≡ name ∷ rest
after_word_takes name [] rest e = absurd cc
after_word_takes name (w ∷ ws) rest e =
    let t = cond_some (bytes_eq w name) ws rest e in
    ap (λ (v : List ℕ). v ∷ ws) (named w name t.0) ∙ onto name ws rest t.1

pub after_word_again : (name : List ℕ) (rest : List (List ℕ)) → after_word name (name ∷ rest) ≡ Some rest
after_word_again name rest = rw (same_name name) refl

-- all words were read
pub nothing_left : {A : Type 0} (rest : List (List ℕ)) (x y : A) → cond (eqb (length rest) 0) (Some x) None ≡ Some y → (rest ≡ []) × (x ≡ y)
nothing_left rest x y e =
    let g = cond_some (eqb (length rest) 0) x y e in
    (nil_from_length rest (eqb-true _ _ g.0), g.1)

-- a line by its words
pub line_from_words : (line : List ℕ) (words : List (List ℕ)) → words_of line ≡ words → line ≡ text_of_words words
line_from_words line words e = sym (join_with_byte-slice_split 32 line) ∙ ap (join_with_byte 32) e

-- ---- numbers

pub number_at_takes : (words : List (List ℕ)) (x : ℤ × List (List ℕ)) → number_at words ≡ Some x → (words ≡ signed_decimal x.0 ∷ x.1) × FitsSigned w16 x.0
unfolding number_at
number_at_takes words x e =
    let a = bind_some (first_word words) (λ w. number_of w.0 >>= λ z. Some (z, w.1)) x e in
    let b = bind_some (number_of a.0.0) (λ z. Some (z, a.0.1)) x a.2 in
    let t = number_takes a.0.0 b.0 b.1 in
    subst (λ (y : ℤ × List (List ℕ)). (words ≡ signed_decimal y.0 ∷ y.1) × FitsSigned w16 y.0) (same_Some (b.0, a.0.1) x b.2)
    (word_takes words a.0 a.1 ∙ ap (λ (w : List ℕ). w ∷ a.0.1) t.0, t.1)

pub number_at_again : (z : ℤ) (rest : List (List ℕ)) → FitsSigned w16 z → number_at (signed_decimal z ∷ rest) ≡ Some (z, rest)
unfolding number_at
number_at_again z rest fits = rw (number_again z fits) refl

pub natural_in_takes : (low high : ℕ) (word : List ℕ) (n : ℕ) → natural_in low high word ≡ Some n → (word ≡ decimal n) × (low ≤ n) × (n ≤ high)
unfolding natural_in
natural_in_takes low high word n e =
    let a = bind_some (natural_of word) (λ n. cond (leb low n && leb n high) (Some n) None) n e in
    let g = cond_some (leb low a.0 && leb a.0 high) a.0 n a.2 in
    let both = and_parts (leb low a.0) (leb a.0 high) g.0 in
    subst (λ (m : ℕ). (word ≡ decimal m) × (low ≤ m) × (m ≤ high)) g.1 ((natural_takes word a.0 a.1).0, leb-true _ _ both.0, leb-true _ _ both.1)

pub natural_in_again : (low high n : ℕ) → low ≤ n → n ≤ high → high < 2 ^ 32 → natural_in low high (decimal n) ≡ Some n
unfolding natural_in
natural_in_again low high n above below small =
    rw (natural_again n (omega arith), le-leb _ _ above, le-leb _ _ below) refl

pub natural_at_takes : (low high : ℕ) (words : List (List ℕ)) (x : ℕ × List (List ℕ)) → natural_at low high words ≡ Some x → (words ≡ decimal x.0 ∷ x.1) × (low ≤ x.0) × (x.0 ≤ high)
unfolding natural_at
natural_at_takes low high words x e =
    let a = bind_some (first_word words) (λ w. natural_in low high w.0 >>= λ n. Some (n, w.1)) x e in
    let b = bind_some (natural_in low high a.0.0) (λ n. Some (n, a.0.1)) x a.2 in
    let t = natural_in_takes low high a.0.0 b.0 b.1 in
    subst (λ (y : ℕ × List (List ℕ)). (words ≡ decimal y.0 ∷ y.1) × (low ≤ y.0) × (y.0 ≤ high)) (same_Some (b.0, a.0.1) x b.2)
    (word_takes words a.0 a.1 ∙ ap (λ (w : List ℕ). w ∷ a.0.1) t.0, t.1, t.2)

pub natural_at_again : (low high n : ℕ) (rest : List (List ℕ)) → low ≤ n → n ≤ high → high < 2 ^ 32 → natural_at low high (decimal n ∷ rest) ≡ Some (n, rest)
unfolding natural_at
natural_at_again low high n rest above below small = rw (natural_in_again low high n above below small) refl

-- a word that doesn't begin with a digit spells no number
pub no_natural_in : (low high : ℕ) (word : List ℕ) → 57 < get_or word 0 0 → natural_in low high word ≡ None
unfolding natural_in
no_natural_in low high word other =
    let none : natural_of word ≡ None = natural_none word (λ n small is.
    let k = decimal_is_IsNumeral n (omega arith) in
    let d = digit_at (decimal n) 0 k.0.1 k.0.0 in
    let first : get_or word 0 0 ≡ get_or (decimal n) 0 0 = ap (λ (w : List ℕ). get_or w 0 0) is in
    absurd (omega arith)) in
    rw none refl

pub no_natural : (low high : ℕ) (word : List ℕ) (rest : List (List ℕ)) → 57 < get_or word 0 0 → natural_at low high (word ∷ rest) ≡ None
unfolding natural_at
no_natural low high word rest other = rw (no_natural_in low high word other) refl

-- ---- colours

digit_takes : (b d : ℕ) → hex_digit_of b ≡ Some d → (b ≡ hex_digit d) × (d < 16)
unfolding hex_digit_of
digit_takes b d e =
    elim (chosen (leb 48 b && leb b 57) (Some (b - 48)) (cond (leb 65 b && leb b 70) (Some (b - 55)) None) (Some d) e) [
      | inl low ↦
          let p = and_parts (leb 48 b) (leb b 57) low.0 in
          let d-is : b - 48 ≡ d = same_Some (b - 48) d low.1 in
          (grind (arith, nat_tests), grind (arith, nat_tests))
      | inr other ↦
          elim (chosen (leb 65 b && leb b 70) (Some (b - 55)) None (Some d) other.1) [
            | inl high ↦
                let p = and_parts (leb 65 b) (leb b 70) high.0 in
                let d-is : b - 55 ≡ d = same_Some (b - 55) d high.1 in
                (grind (arith, nat_tests), grind (arith, nat_tests))
            | inr neither ↦ absurd (cc neither.1)
          ]
    ]

digit_again : (d : ℕ) → d < 16 → hex_digit_of (hex_digit d) ≡ Some d
unfolding hex_digit_of
digit_again d lt = grind (arith, nat_tests)

byte_takes : (high low b : ℕ) → hex_byte_of high low ≡ Some b → (high ∷ low ∷ [] ≡ hex_byte b) × (b < 256)
unfolding hex_byte_of
byte_takes high low b e =
    let h = bind_some (hex_digit_of high) (λ h. hex_digit_of low >>= λ l. Some (h * 16 + l)) b e in
    let l = bind_some (hex_digit_of low) (λ l. Some (h.0 * 16 + l)) b h.2 in
    let b-is : h.0 * 16 + l.0 ≡ b = same_Some (h.0 * 16 + l.0) b l.2 in
    let first = digit_takes high h.0 h.1 in
    let second = digit_takes low l.0 l.1 in
    let prefix : h.0 ≡ b / 16 = omega (arith, first.1, second.1) in
    let back : l.0 ≡ b % 16 = omega (arith, first.1, second.1) in
    (ap (λ (x : ℕ). x ∷ low ∷ []) (first.0 ∙ ap hex_digit prefix) ∙ ap (λ (x : ℕ). hex_digit (b / 16) ∷ x ∷ []) (second.0 ∙ ap hex_digit back), omega (arith, first.1, second.1))

byte_again : (b : ℕ) → b < 256 → hex_byte_of (hex_digit (b / 16)) (hex_digit (b % 16)) ≡ Some b
unfolding hex_byte_of
byte_again b lt =
    let sum : b / 16 * 16 + b % 16 ≡ b = omega arith in
    rw (digit_again (b / 16) (omega arith), digit_again (b % 16) (omega arith), sum) refl

six : (w : List ℕ) → length w ≡ 6 → w ≡ get_or w 0 0 ∷ get_or w 1 0 ∷ get_or w 2 0 ∷ get_or w 3 0 ∷ get_or w 4 0 ∷ get_or w 5 0 ∷ []
six w e = text_from_reads w _ e (refl, (refl, (refl, (refl, (refl, (refl, tt))))))

-- the parts of a colour
parts_of : (r g b : ℕ) → r < 256 → g < 256 → b < 256 → let c = r * 65536 + g * 256 + b in (c / 65536 ≡ r) × (c / 256 % 256 ≡ g) × (c % 256 ≡ b) × (c < 2 ^ 24)
parts_of r g b rs gs bs = (omega arith, omega arith, omega arith, omega arith)

-- the digits of three bytes
six_digits : (a b c d e f red green blue : ℕ) → a ∷ b ∷ [] ≡ hex_byte red → c ∷ d ∷ [] ≡ hex_byte green → e ∷ f ∷ [] ≡ hex_byte blue
    → a ∷ b ∷ c ∷ d ∷ e ∷ f ∷ [] ≡ hex_byte red ++ (hex_byte green ++ hex_byte blue)
six_digits a b c d e f red green blue r g u = cc

-- and of the colour that they make
colour_digits : (c red green blue : ℕ) → c / 65536 ≡ red → c / 256 % 256 ≡ green → c % 256 ≡ blue → hex_colour c ≡ hex_byte red ++ (hex_byte green ++ hex_byte blue)
unfolding hex_colour
colour_digits c red green blue r g u = rw (r, g, u) refl

pub colour_takes : (w : List ℕ) (c : ℕ) → colour_of w ≡ Some c → (w ≡ hex_colour c) × (c < 2 ^ 24)
unfolding colour_of
colour_takes w c e =
    elim (chosen (eqb (length w) 6) _ None (Some c) e) [
      | inl yes6 ↦
          let r = bind_some (hex_byte_of (get_or w 0 0) (get_or w 1 0)) _ c yes6.1 in
          let g = bind_some (hex_byte_of (get_or w 2 0) (get_or w 3 0)) _ c r.2 in
          let b = bind_some (hex_byte_of (get_or w 4 0) (get_or w 5 0)) _ c g.2 in
          let red = byte_takes _ _ r.0 r.1 in
          let green = byte_takes _ _ g.0 g.1 in
          let blue = byte_takes _ _ b.0 b.1 in
          let long : length w ≡ 6 = grind (arith, nat_tests) in
          let made : ℕ = r.0 * 65536 + g.0 * 256 + b.0 in
          let p = parts_of r.0 g.0 b.0 red.1 green.1 blue.1 in
          let digits : w ≡ hex_byte r.0 ++ (hex_byte g.0 ++ hex_byte b.0) = six w long ∙ six_digits _ _ _ _ _ _ r.0 g.0 b.0 red.0 green.0 blue.0 in
          subst (λ (y : ℕ). (w ≡ hex_colour y) × (y < 2 ^ 24)) (same_Some made c b.2) (digits ∙ sym (colour_digits made r.0 g.0 b.0 p.0 p.1 p.2), p.3)
      | inr no6 ↦ absurd (cc no6.1)
    ]

pub colour_again : (c : ℕ) → c < 2 ^ 24 → colour_of (hex_colour c) ≡ Some c
unfolding colour_of hex_colour
colour_again c small =
    let sum : c / 65536 * 65536 + c / 256 % 256 * 256 + c % 256 ≡ c = omega arith in
    rw (byte_again (c / 65536) (omega arith), byte_again (c / 256 % 256) (omega arith), byte_again (c % 256) (omega arith), sum) refl

-- ---- no space stands in a word

pub whole_by_test : (word : List ℕ) → list_all (λ b. not (eqb b 32)) word ≡ true → IsWhole 32 word
whole_by_test [] e = tt
whole_by_test (b ∷ bs) e =
    let both = and_parts (not (eqb b 32)) (list_all (λ b. not (eqb b 32)) bs) e in
    (grind (arith, nat_tests), whole_by_test bs both.1)

digits_whole : (ds : List ℕ) → AllDigits 10 ds → IsWhole 32 ds
digits_whole [] h = tt
digits_whole (c ∷ cs) h =
    let r = digit_from_value c h.0 in
    (grind (arith, nat_tests), digits_whole cs h.1)

pub natural_whole : (n : ℕ) → n < 2 ^ 32 → IsWhole 32 (decimal n)
natural_whole n small = digits_whole (decimal n) (decimal_is_IsNumeral n (omega arith)).0.1

pub number_whole : (z : ℤ) → FitsSigned w16 z → IsWhole 32 (signed_decimal z)
number_whole (pos n) fits = let h = fits.sfits in digits_whole (decimal n) (decimal_is_IsNumeral n (omega arith)).0.1
number_whole (negsuc n) fits = let h = fits.sfits in (refl, digits_whole (decimal (suc n)) (decimal_is_IsNumeral (suc n) (omega arith)).0.1)

digit_whole : (d : ℕ) → eqb (hex_digit d) 32 ≡ false
digit_whole d = grind (arith, nat_tests)

pub colour_whole : (c : ℕ) → IsWhole 32 (hex_colour c)
unfolding hex_colour
colour_whole c = (digit_whole _, (digit_whole _, (digit_whole _, (digit_whole _, (digit_whole _, (digit_whole _, tt))))))

digit_no_dash : (d : ℕ) → eqb (hex_digit d) 45 ≡ false
digit_no_dash d = grind (arith, nat_tests)

-- a colour's word isn't `-`
pub colour_no_dash : (c : ℕ) → bytes_eq (hex_colour c) (codes "-") ≡ false
unfolding hex_colour
colour_no_dash c = rw (digit_no_dash (c / 65536 / 16)) refl
