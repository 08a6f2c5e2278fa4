-- The laws of coordinates, and of a number or a word: what is read is spelled so, and what is spelled so is read.
use Rattle.std.proofs.Common.{◌≡◌, ℕ, suc, ◌<◌, ◌≤◌, Bool, true, false, cond, eqb, ltb, List, [], ◌∷◌, ◌++◌, length, take, drop, get_or, Option, Some, None, ℤ, pos, negsuc, refl, sym, ap, subst, ◌∙◌, inl, inr, arith, lit<}
use Rattle.std.specs.Prelude.{◌||◌, bytes_eq, codes, unwrap_or, FitsSigned}
use Rattle.std.specs.List.{AllByRecursion, position_or_len}
use Rattle.std.specs.Int.{w16}
use Rattle.std.specs.Fmt.{decimal, signed_decimal}
use Rattle.std.specs.Str.Parse.{AllDigits}
use Rattle.std.proofs.lemmas.Fmt.{decimal_is_IsNumeral}
use Rattle.std.proofs.lemmas.Str.Parse.{digit_from_value, digit_at}
use Rattle.std.proofs.lemmas.Bool.Decides.{nat_tests}
use Rattle.std.proofs.lemmas.Bool.{eqb-true}
use Rattle.std.proofs.lemmas.List.{take-append-drop, length-append}
use Rattle.std.proofs.Math.Seq.{take-append_seam, drop-append_seam}
use Rattle.std.proofs.lemmas.Option.{same_Some}
use Rattle.gfx_base.specs.declared.num.Base.{Base}
use Rattle.gfx_base.specs.declared.num.Base.TheVariants.{Zero, Width, Height, Value}
use Rattle.gfx_base.specs.declared.num.Num.{Num}
use Rattle.gfx_base.specs.Nums.{IsBase}
use Rattle.spelling.specs.Words.{◌>>=◌, first_word, number_of, natural_in}
use Rattle.spelling.specs.Coordinates.{text_of_offset, text_from, text_of_num, NumFits, begins_with_v, offset_of, base_of, base_length, based_num_of, num_or, num_of, num_at}
use Rattle.spelling.proofs.CutLemmas.{IsWhole}
use Rattle.spelling.proofs.NumberSpellings.{number_takes, number_again, number_none}
use Rattle.spelling.proofs.SpellingLaws.{bind_some, chosen, word_takes, named, natural_in_takes, natural_in_again, natural_whole, number_whole}

-- ---- what is added to a base

not_empty : (b : ℕ) (digits : List ℕ) → eqb (length (b ∷ digits)) 0 ≡ false
not_empty b digits = grind (arith, nat_tests)

has_first : (b : ℕ) (digits : List ℕ) → ltb 0 (length (b ∷ digits)) ≡ true
has_first b digits = grind (arith, nat_tests)

minus_text : (z : ℤ) (b : ℕ) (digits : List ℕ) → FitsSigned w16 z → b ≡ 45 → b ∷ digits ≡ signed_decimal z → b ∷ digits ≡ text_of_offset z
minus_text (pos n) b digits fits minus e =
    let h = fits.sfits in
    let k = decimal_is_IsNumeral n (omega arith) in
    let d = digit_at (decimal n) 0 k.0.1 k.0.0 in
    let first : b ≡ get_or (decimal n) 0 0 = ap (λ (w : List ℕ). get_or w 0 0) e in
    absurd (omega arith)
minus_text (negsuc n) b digits fits minus e = e

abbrev IsOffset : List ℕ → ℤ → Type 0
IsOffset word z = (word ≡ text_of_offset z) × FitsSigned w16 z

plus_takes : (b : ℕ) (digits : List ℕ) (n : ℕ) → b ≡ 43 → natural_in 1 32767 digits ≡ Some n → IsOffset (b ∷ digits) (pos n)
plus_takes b digits n plus e =
    let t = natural_in_takes 1 32767 digits n e in
    let above : 1 ≤ n = t.1 in
    let below : n ≤ 32767 = t.2 in
    let some : eqb n 0 ≡ false = grind (arith, nat_tests) in
    (rw some (ap (λ (c : ℕ). c ∷ digits) plus ∙ ap (λ (ds : List ℕ). 43 ∷ ds) t.0), record { sfits = omega arith })

offset_takes : (word : List ℕ) (z : ℤ) → offset_of word ≡ Some z → IsOffset word z
unfolding offset_of
offset_takes [] z e = subst (λ (y : ℤ). IsOffset [] y) (same_Some (pos 0) z e) (refl, record { sfits = omega arith })
offset_takes (b ∷ digits) z e =
    elim (chosen (eqb b 43) (natural_in 1 32767 digits >>= λ n. Some (pos n)) (cond (eqb b 45) (number_of (b ∷ digits)) None) (Some z) (rw (not_empty b digits) at e)) [
      | inl plus ↦
          let n = bind_some (natural_in 1 32767 digits) (λ n. Some (pos n)) z plus.1 in
          subst (λ (y : ℤ). IsOffset (b ∷ digits) y) (same_Some (pos n.0) z n.2) (plus_takes b digits n.0 (eqb-true _ _ plus.0) n.1)
      | inr other ↦
          elim (chosen (eqb b 45) (number_of (b ∷ digits)) None (Some z) other.1) [
            | inl minus ↦ let t = number_takes (b ∷ digits) z minus.1 in (minus_text z b digits t.1 (eqb-true _ _ minus.0) t.0, t.1)
            | inr none ↦ absurd (cc none.1)
          ]
    ]

plus_again : (n : ℕ) (b : Bool) → n < 32768 → eqb n 0 ≡ b → offset_of (cond b [] (codes "+" ++ decimal n)) ≡ Some (pos n)
unfolding offset_of
plus_again n true small e = ap (λ (m : ℕ). Some (pos m)) (sym (eqb-true n 0 e))
plus_again n false small e = rw (not_empty 43 (decimal n), natural_in_again 1 32767 n (grind (arith, nat_tests)) (omega arith) (lit< tt)) refl

offset_again : (z : ℤ) → FitsSigned w16 z → offset_of (text_of_offset z) ≡ Some z
unfolding offset_of
offset_again (pos n) fits = let h = fits.sfits in plus_again n (eqb n 0) (omega arith) refl
offset_again (negsuc n) fits = rw (not_empty 45 (decimal (suc n)), number_again (negsuc n) fits) refl

-- ---- bases

abbrev IsPrefix : List ℕ → Base → Type 0
IsPrefix word base = ((z : ℤ) → word ++ text_of_offset z ≡ text_from base z) × IsBase base

prefix_is : (word name : List ℕ) (base : Base) → word ≡ name → IsPrefix name base → IsPrefix word base
prefix_is word name base e is = subst (λ (w : List ℕ). IsPrefix w base) (sym e) is

value_prefix : (b : ℕ) (digits : List ℕ) (i : ℕ) → b ≡ 118 → natural_in 0 15 digits ≡ Some i → IsPrefix (b ∷ digits) (Value i)
value_prefix b digits i e n =
    let t = natural_in_takes 0 15 digits i n in
    let below : i ≤ 15 = t.2 in
    prefix_is (b ∷ digits) (118 ∷ decimal i) (Value i) (ap (λ (c : ℕ). c ∷ digits) e ∙ ap (λ (ds : List ℕ). 118 ∷ ds) t.0) (λ z. refl, omega arith)

value_takes : (word : List ℕ) (base : Base) → cond (begins_with_v word) (natural_in 0 15 (drop 1 word) >>= λ i. Some (Value i)) None ≡ Some base → IsPrefix word base
value_takes [] base e = absurd cc
value_takes (b ∷ digits) base e =
    elim (chosen (begins_with_v (b ∷ digits)) _ None (Some base) e) [
      | inl value ↦
          let i = bind_some (natural_in 0 15 digits) (λ i. Some (Value i)) base value.1 in
          let first : b ≡ 118 = grind (arith, nat_tests) in
          subst (λ (x : Base). IsPrefix (b ∷ digits) x) (same_Some (Value i.0) base i.2) (value_prefix b digits i.0 first i.1)
      | inr none ↦ absurd (cc none.1)
    ]

base_takes : (word : List ℕ) (base : Base) → base_of word ≡ Some base → IsPrefix word base
unfolding base_of
base_takes word base e =
    elim (chosen (bytes_eq word (codes "w")) (Some Width) _ (Some base) e) [
      | inl wide ↦ subst (λ (x : Base). IsPrefix word x) (same_Some Width base wide.1) (prefix_is word (codes "w") Width (named _ _ wide.0) (λ z. refl, tt))
      | inr thin ↦
          elim (chosen (bytes_eq word (codes "h")) (Some Height) _ (Some base) thin.1) [
            | inl high ↦ subst (λ (x : Base). IsPrefix word x) (same_Some Height base high.1) (prefix_is word (codes "h") Height (named _ _ high.0) (λ z. refl, tt))
            | inr low ↦ value_takes word base low.1
          ]
    ]

value_again : (i : ℕ) → i < 16 → base_of (codes "v" ++ decimal i) ≡ Some (Value i)
unfolding base_of
value_again i small = rw (has_first 118 (decimal i), natural_in_again 0 15 i (omega arith) (omega arith) (lit< tt)) refl

-- ---- where a base ends

abbrev is_sign : ℕ → Bool
is_sign b = eqb b 43 || eqb b 45

abbrev HasNoSign : List ℕ → Type 0
HasNoSign word = AllByRecursion (λ b. is_sign b ≡ false) word

digits_no_sign : (ds : List ℕ) → AllDigits 10 ds → HasNoSign ds
digits_no_sign [] h = tt
digits_no_sign (c ∷ cs) h =
    let r = digit_from_value c h.0 in
    (grind (arith, nat_tests), digits_no_sign cs h.1)

value_no_sign : (i : ℕ) → i < 16 → HasNoSign (codes "v" ++ decimal i)
value_no_sign i small = (refl, digits_no_sign (decimal i) (decimal_is_IsNumeral i (omega arith)).0.1)

plus_first : (n : ℕ) (b : Bool) → position_or_len is_sign (cond b [] (codes "+" ++ decimal n)) ≡ 0
plus_first n true = refl
plus_first n false = refl

offset_first : (z : ℤ) → position_or_len is_sign (text_of_offset z) ≡ 0
offset_first (pos n) = plus_first n (eqb n 0)
offset_first (negsuc n) = refl

prefix_length : (prefix : List ℕ) (z : ℤ) → HasNoSign prefix → position_or_len is_sign (prefix ++ text_of_offset z) ≡ length prefix
prefix_length [] z none = offset_first z
prefix_length (b ∷ prefix) z none = rw (none.0, prefix_length prefix z none.1) (omega arith)

-- a place in a text or its end
place_or_end : (k n : ℕ) (b : Bool) → ltb k n ≡ b → k ≤ n → unwrap_or (cond b (Some k) None) n ≡ k
place_or_end k n true test within = refl
place_or_end k n false test within = grind (arith, nat_tests)

prefix_end : (prefix : List ℕ) (z : ℤ) → HasNoSign prefix → base_length (prefix ++ text_of_offset z) ≡ length prefix
unfolding base_length
prefix_end prefix z none =
    let k = prefix_length prefix z none in
    let n = length (prefix ++ text_of_offset z) in
    rw k (place_or_end (length prefix) n (ltb (length prefix) n) refl (omega (arith, length-append prefix (text_of_offset z))))

based_again : (prefix : List ℕ) (base : Base) (z : ℤ) → HasNoSign prefix → base_of prefix ≡ Some base → FitsSigned w16 z → based_num_of (prefix ++ text_of_offset z) ≡ Some (record { base = base; plus = z })
unfolding based_num_of
based_again prefix base z none is fits =
    let end = prefix_end prefix z none in
    rw (end, take-append_seam prefix (text_of_offset z), drop-append_seam prefix (text_of_offset z), is, offset_again z fits) refl

-- ---- coordinates

-- no number begins with a letter
no_letter : (z : ℤ) (word : List ℕ) → FitsSigned w16 z → 57 < get_or word 0 0 → word ≡ signed_decimal z → ⊥
no_letter (pos n) word fits other e =
    let h = fits.sfits in
    let k = decimal_is_IsNumeral n (omega arith) in
    let d = digit_at (decimal n) 0 k.0.1 k.0.0 in
    let first : get_or word 0 0 ≡ get_or (decimal n) 0 0 = ap (λ (w : List ℕ). get_or w 0 0) e in
    omega arith
no_letter (negsuc n) word fits other e =
    let first : get_or word 0 0 ≡ 45 = ap (λ (w : List ℕ). get_or w 0 0) e in
    omega arith

pub no_number_of : (word : List ℕ) → 57 < get_or word 0 0 → number_of word ≡ None
no_number_of word other = number_none word (λ z fits e. no_letter z word fits other e)

based_takes : (word : List ℕ) (num : Num) → based_num_of word ≡ Some num → (word ≡ text_of_num num) × NumFits num
unfolding based_num_of
based_takes word num e =
    let k = base_length word in
    let base = bind_some (base_of (take k word)) _ num e in
    let plus = bind_some (offset_of (drop k word)) _ num base.2 in
    let prefix = base_takes (take k word) base.0 base.1 in
    let back = offset_takes (drop k word) plus.0 plus.1 in
    subst (λ (n : Num). (word ≡ text_of_num n) × NumFits n) (same_Some (record { base = base.0; plus = plus.0 }) num plus.2)
    (sym (take-append-drop k word) ∙ ap (λ (w : List ℕ). take k word ++ w) back.0 ∙ prefix.0 plus.0, (back.1, prefix.1))

num_or_takes : (word : List ℕ) (o : Option ℤ) (num : Num) → number_of word ≡ o → num_or o (based_num_of word) ≡ Some num → (word ≡ text_of_num num) × NumFits num
num_or_takes word None num is e = based_takes word num e
num_or_takes word (Some z) num is e =
    let t = number_takes word z is in
    subst (λ (n : Num). (word ≡ text_of_num n) × NumFits n) (same_Some (record { base = Zero; plus = z }) num e) (t.0, (t.1, tt))

pub num_takes : (word : List ℕ) (num : Num) → num_of word ≡ Some num → (word ≡ text_of_num num) × NumFits num
unfolding num_of
num_takes word num e = num_or_takes word (number_of word) num refl e

from_again : (prefix : List ℕ) (base : Base) (z : ℤ) → 57 < get_or (prefix ++ text_of_offset z) 0 0 → HasNoSign prefix → base_of prefix ≡ Some base → FitsSigned w16 z → num_of (prefix ++ text_of_offset z) ≡ Some (record { base = base; plus = z })
unfolding num_of
from_again prefix base z letter none is fits = rw (no_number_of (prefix ++ text_of_offset z) letter, based_again prefix base z none is fits) refl

plain_again : (z : ℤ) → FitsSigned w16 z → num_of (signed_decimal z) ≡ Some (record { base = Zero; plus = z })
unfolding num_of
plain_again z fits = rw (number_again z fits) refl

base_again : (base : Base) (z : ℤ) → FitsSigned w16 z → IsBase base → num_of (text_from base z) ≡ Some (record { base = base; plus = z })
unfolding base_of
base_again Zero z fits is = plain_again z fits
base_again Width z fits is = from_again (codes "w") Width z (lit< tt) (refl, tt) refl fits
base_again Height z fits is = from_again (codes "h") Height z (lit< tt) (refl, tt) refl fits
base_again (Value i) z fits is = from_again (codes "v" ++ decimal i) (Value i) z (lit< tt) (value_no_sign i is) (value_again i is) fits

pub num_again : (num : Num) → NumFits num → num_of (text_of_num num) ≡ Some num
num_again num fits = base_again num.base num.plus fits.0 fits.1

pub num_at_takes : (words : List (List ℕ)) (x : Num × List (List ℕ)) → num_at words ≡ Some x → (words ≡ text_of_num x.0 ∷ x.1) × NumFits x.0
unfolding num_at
num_at_takes words x e =
    let w = bind_some (first_word words) _ x e in
    let n = bind_some (num_of w.0.0) _ x w.2 in
    let spelled = num_takes w.0.0 n.0 n.1 in
    subst (λ (y : Num × List (List ℕ)). (words ≡ text_of_num y.0 ∷ y.1) × NumFits y.0) (same_Some (n.0, w.0.1) x n.2)
    (word_takes words w.0 w.1 ∙ ap (λ (v : List ℕ). v ∷ w.0.1) spelled.0, spelled.1)

pub num_at_again : (num : Num) (rest : List (List ℕ)) → NumFits num → num_at (text_of_num num ∷ rest) ≡ Some (num, rest)
unfolding num_at
num_at_again num rest fits = ap (λ (o : Option Num). o >>= λ n. Some (n, rest)) (num_again num fits)

-- ---- no space stands in a coordinate

whole_more : (prefix back : List ℕ) → IsWhole 32 prefix → IsWhole 32 back → IsWhole 32 (prefix ++ back)
whole_more [] back one two = two
whole_more (b ∷ prefix) back one two = (one.0, whole_more prefix back one.1 two)

plus_whole : (n : ℕ) (b : Bool) → n < 32768 → IsWhole 32 (cond b [] (codes "+" ++ decimal n))
plus_whole n true small = tt
plus_whole n false small = (refl, natural_whole n (omega arith))

offset_whole : (z : ℤ) → FitsSigned w16 z → IsWhole 32 (text_of_offset z)
offset_whole (pos n) fits = let h = fits.sfits in plus_whole n (eqb n 0) (omega arith)
offset_whole (negsuc n) fits = number_whole (negsuc n) fits

from_whole : (base : Base) (z : ℤ) → FitsSigned w16 z → IsBase base → IsWhole 32 (text_from base z)
from_whole Zero z fits is = number_whole z fits
from_whole Width z fits is = (refl, offset_whole z fits)
from_whole Height z fits is = (refl, offset_whole z fits)
from_whole (Value i) z fits is =
    let small : i < 16 = is in
    (refl, whole_more (decimal i) (text_of_offset z) (natural_whole i (omega arith)) (offset_whole z fits))

pub num_whole : (num : Num) → NumFits num → IsWhole 32 (text_of_num num)
num_whole num fits = from_whole num.base num.plus fits.0 fits.1
