-- The number whose spelling a word is.
use Rattle.std.proofs.Common.{◌≡◌, ℕ, suc, ◌^◌, ◌<◌, Bool, true, false, ◌&&◌, eqb, ltb, List, get_or, Option, Some, None, Result, Ok, Err, ℤ, pos, negsuc, refl, sym, ap, subst, ◌∙◌, arith}
use Rattle.std.specs.Prelude.{bytes_eq, MatchResult, FitsSigned}
use Rattle.std.specs.Result.{result_ok}
use Rattle.std.specs.Int.{w16}
use Rattle.std.specs.Fmt.{decimal, signed_decimal}
use Rattle.std.specs.Str.Parse.{digits_value, signed_digits_value, ParsesUnsigned, ParsesSigned}
use Rattle.std.proofs.lemmas.Fmt.{decimal_is_IsNumeral, parse-decimal, parse-signed_decimal}
use Rattle.std.proofs.lemmas.Str.Parse.{digit_at}
use Rattle.std.proofs.lemmas.Slice.Eq.{bytes_eq-Decides}
use Rattle.std.proofs.lemmas.Bool.Decides.{nat_tests}
use Rattle.std.proofs.lemmas.Bool.{and_parts, ltb-true}
use Rattle.std.proofs.lemmas.Option.{cond_some}
use lib.Signed.{mag}
use Rattle.spelling.specs.Words.{number_of, is_i16, natural_of}

pub value-signed_decimal : (z : ℤ) → mag z < 2 ^ 63 → signed_digits_value 10 (signed_decimal z) ≡ z
value-signed_decimal (pos n) small =
    let k = decimal_is_IsNumeral n (omega arith) in
    let d = digit_at (decimal n) 0 k.0.1 k.0.0 in
    let minus : eqb (get_or (decimal n) 0 0) 45 ≡ false = grind (arith, nat_tests) in
    let plus : eqb (get_or (decimal n) 0 0) 43 ≡ false = grind (arith, nat_tests) in
    rw (minus, plus) (ap (λ (m : ℕ). pos m) k.1)
value-signed_decimal (negsuc n) small =
    let k = decimal_is_IsNumeral (suc n) (omega arith) in
    rw k.1 refl

is_i16-fits : (z : ℤ) → FitsSigned w16 z → is_i16 z ≡ true
is_i16-fits (pos n) fits = let h = fits.sfits in grind (arith, nat_tests)
is_i16-fits (negsuc n) fits = let h = fits.sfits in grind (arith, nat_tests)

fits-is_i16 : (z : ℤ) → is_i16 z ≡ true → FitsSigned w16 z
fits-is_i16 (pos n) e = record { sfits = grind (arith, nat_tests) }
fits-is_i16 (negsuc n) e = record { sfits = grind (arith, nat_tests) }

pub mag_small : (z : ℤ) → FitsSigned w16 z → mag z < 2 ^ 63
mag_small z fits = let h = fits.sfits in omega arith

pub number_again : (z : ℤ) → FitsSigned w16 z → number_of (signed_decimal z) ≡ Some z
unfolding number_of
number_again z fits =
    rw (value-signed_decimal z (mag_small z fits), (bytes_eq-Decides (signed_decimal z) (signed_decimal z)).1 refl, is_i16-fits z fits) refl

pub number_takes : (word : List ℕ) (z : ℤ) → number_of word ≡ Some z → (word ≡ signed_decimal z) × FitsSigned w16 z
unfolding number_of
number_takes word z e =
    let v = signed_digits_value 10 word in
    let b = cond_some (bytes_eq (signed_decimal v) word && is_i16 v) v z e in
    let both = and_parts (bytes_eq (signed_decimal v) word) (is_i16 v) b.0 in
    let same = (bytes_eq-Decides (signed_decimal v) word).0 both.0 in
    subst (λ (x : ℤ). (word ≡ signed_decimal x) × FitsSigned w16 x) b.1 (sym same, fits-is_i16 v both.1)

pub none_from_never : {A : Type 0} (o : Option A) → ((x : A) → o ≡ Some x → ⊥) → o ≡ None
none_from_never None never = refl
none_from_never (Some x) never = absurd (never x refl)

pub number_none : (word : List ℕ) → ((z : ℤ) → FitsSigned w16 z → word ≡ signed_decimal z → ⊥) → number_of word ≡ None
number_none word never = none_from_never (number_of word) (λ z e. let t = number_takes word z e in never z t.1 t.0)

-- a result without a value
pub err_part : {A E C : Type 0} (r : Result A E) (P : A → Type 0) (Q : E → Type 0) → MatchResult r P Q → None ≡ result_ok r → ((e : E) → Q e → C) → C
err_part (Ok x) P Q m e f = absurd cc
err_part (Err x) P Q m e f = f x m

-- a result with a value
pub ok_part : {A E : Type 0} (r : Result A E) (P : A → Type 0) (Q : E → Type 0) (x : A) → MatchResult r P Q → Some x ≡ result_ok r → P x
ok_part (Ok y) P Q x m e = let same : y ≡ x = cc in subst P same m
ok_part (Err y) P Q x m e = absurd cc

-- what `parse` gives of a number's spelling
spelt : {E : Type 0} (word text : List ℕ) (r : Result ℤ E) (z : ℤ) → text ≡ word → ParsesSigned w16 10 text r → FitsSigned w16 z → word ≡ signed_decimal z → r ≡ Ok z
spelt word text r z same h fits is = parse-signed_decimal w16 z text r fits (mag_small z fits) (same ∙ is) h

no_value : {A E : Type 0} (r : Result A E) (z : A) → None ≡ result_ok r → r ≡ Ok z → ⊥
no_value (Ok x) z e p = absurd cc
no_value (Err x) z e p = absurd cc

value_is : {A E : Type 0} (r : Result A E) (n z : A) → Some n ≡ result_ok r → r ≡ Ok z → n ≡ z
value_is (Ok x) n z e p = cc
value_is (Err x) n z e p = absurd cc

-- Where `parse` gives nothing, the word spells no number.
pub not_parsed : {E : Type 0} (word text : List ℕ) (r : Result ℤ E) → text ≡ word → ParsesSigned w16 10 text r → None ≡ result_ok r → number_of word ≡ None
not_parsed word text r same h e = number_none word (λ z fits is. no_value r z e (spelt word text r z same h fits is))

-- Where the number's text is the word, the word spells it.
pub written_same : (word out : List ℕ) (n : ℤ) (b : Bool) → FitsSigned w16 n → out ≡ signed_decimal n → b ≡ bytes_eq out word → b ≡ true → number_of word ≡ Some n
written_same word out n b fits text test holds =
    let same : out ≡ word = (bytes_eq-Decides out word).0 (sym test ∙ holds) in
    subst (λ (w : List ℕ). number_of w ≡ Some n) (sym text ∙ same) (number_again n fits)

-- Where it isn't, the word spells no number.
pub written_other : {E : Type 0} (word text out : List ℕ) (r : Result ℤ E) (n : ℤ) (b : Bool) → text ≡ word → ParsesSigned w16 10 text r → Some n ≡ result_ok r → out ≡ signed_decimal n → b ≡ bytes_eq out word → b ≡ false → number_of word ≡ None
written_other word text out r n b same h e is test fails =
    number_none word (λ z fits spells.
    let n-is : n ≡ z = value_is r n z e (spelt word text r z same h fits spells) in
    let equal : out ≡ word = is ∙ ap signed_decimal n-is ∙ sym spells in
    let equal_too : bytes_eq out word ≡ true = (bytes_eq-Decides out word).1 equal in
    absurd cc)

-- ---- numbers that aren't negative

pub natural_again : (n : ℕ) → n < 2 ^ 32 → natural_of (decimal n) ≡ Some n
unfolding natural_of
natural_again n small =
    let k = decimal_is_IsNumeral n (omega arith) in
    let fits : ltb n (2 ^ 32) ≡ true = grind (arith, nat_tests) in
    rw (k.1, (bytes_eq-Decides (decimal n) (decimal n)).1 refl, fits) refl

pub natural_takes : (word : List ℕ) (n : ℕ) → natural_of word ≡ Some n → (word ≡ decimal n) × (n < 2 ^ 32)
unfolding natural_of
natural_takes word n e =
    let v = digits_value 10 word in
    let b = cond_some (bytes_eq (decimal v) word && ltb v (2 ^ 32)) v n e in
    let both = and_parts (bytes_eq (decimal v) word) (ltb v (2 ^ 32)) b.0 in
    let same = (bytes_eq-Decides (decimal v) word).0 both.0 in
    subst (λ (x : ℕ). (word ≡ decimal x) × (x < 2 ^ 32)) b.1 (sym same, ltb-true _ _ both.1)

pub natural_none : (word : List ℕ) → ((n : ℕ) → n < 2 ^ 32 → word ≡ decimal n → ⊥) → natural_of word ≡ None
natural_none word never = none_from_never (natural_of word) (λ n e. let t = natural_takes word n e in never n t.1 t.0)

natural_spelt : {E : Type 0} (word text : List ℕ) (r : Result ℕ E) (n : ℕ) → text ≡ word → ParsesUnsigned 32 10 text r → n < 2 ^ 32 → word ≡ decimal n → r ≡ Ok n
natural_spelt word text r n same h small is = parse-decimal 32 n text r small (omega arith) (same ∙ is) h

pub natural_not_parsed : {E : Type 0} (word text : List ℕ) (r : Result ℕ E) → text ≡ word → ParsesUnsigned 32 10 text r → None ≡ result_ok r → natural_of word ≡ None
natural_not_parsed word text r same h e = natural_none word (λ n small is. no_value r n e (natural_spelt word text r n same h small is))

pub natural_written_same : (word out : List ℕ) (n : ℕ) (b : Bool) → n < 2 ^ 32 → out ≡ decimal n → b ≡ bytes_eq out word → b ≡ true → natural_of word ≡ Some n
natural_written_same word out n b small text test holds =
    let same : out ≡ word = (bytes_eq-Decides out word).0 (sym test ∙ holds) in
    subst (λ (w : List ℕ). natural_of w ≡ Some n) (sym text ∙ same) (natural_again n small)

pub natural_written_other : {E : Type 0} (word text out : List ℕ) (r : Result ℕ E) (n : ℕ) (b : Bool) → text ≡ word → ParsesUnsigned 32 10 text r → Some n ≡ result_ok r → out ≡ decimal n → b ≡ bytes_eq out word → b ≡ false → natural_of word ≡ None
natural_written_other word text out r n b same h e is test fails =
    natural_none word (λ m small spells.
    let n-is : n ≡ m = value_is r n m e (natural_spelt word text r m same h small spells) in
    let equal : out ≡ word = is ∙ ap decimal n-is ∙ sym spells in
    let equal_too : bytes_eq out word ≡ true = (bytes_eq-Decides out word).1 equal in
    absurd cc)
