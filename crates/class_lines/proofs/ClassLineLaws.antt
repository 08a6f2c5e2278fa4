-- The laws of a class's lines, the same for each word of the table.
use Rattle.std.proofs.Common.{◌≡◌, ℕ, ◌≤◌, ◌<◌, Bool, true, false, ◌&&◌, ltb, List, [], ◌∷◌, ◌++◌, get_or, Option, Some, None, ℤ, refl, sym, ap, subst, ◌∙◌, inl, inr, arith, lit<}
use Rattle.std.specs.Prelude.{bytes_eq, codes, not}
use Rattle.std.specs.Fmt.{decimal}
use Rattle.std.specs.List.{AllByRecursion, find}
use Rattle.std.proofs.lemmas.Bool.{and_parts, ltb-true}
use Rattle.std.proofs.lemmas.Bool.Decides.{nat_tests}
use Rattle.std.proofs.lemmas.List.{append-nil}
use Rattle.std.proofs.lemmas.Option.{same_Some}
use Rattle.spelling.specs.Words.{◌>>=◌, words_of, text_of_words, first_word, after_word, begins_with, natural_at}
use Rattle.spelling.specs.Fields.{Values, texts_of, is_word, are_fields, made, read_fields, all_of}
use Rattle.spelling.specs.Items.{is_comment}
use Rattle.spelling.proofs.CallerLemmas.{IsWhole, parts-join, bind_some, chosen, onto, no_number_of, word_takes, named, nothing_left, natural_at_takes, natural_at_again, after_word_takes, line_from_words, whole_by_test, natural_whole, fields_take, fields_again, fields_whole}
use Rattle.paint_ops.specs.declared.op.Op.{Op}
use Rattle.paint_ops.specs.declared.op.Op.TheVariants as op
use Rattle.paint_ops.specs.declared.class.Operand.TheVariants.{Const, Argument}
use Rattle.paint_ops.specs.declared.class.React.TheVariants as react
use Rattle.class_lines.specs.declared.word.Word.{Word}
use Rattle.class_lines.specs.declared.word.Word.TheVariants as word
use Rattle.class_lines.specs.declared.line.ClassLine.{ClassLine}
use Rattle.class_lines.specs.declared.line.ClassLine.TheVariants.{Operation, Reaction}
use Rattle.class_lines.specs.declared.line.Deed.{Deed}
use Rattle.class_lines.specs.declared.line.Deed.TheVariants.{Draw, React}
use Rattle.class_lines.specs.Words.{Said, said_by, SaidFits, Row, row, name_of_word, fields_of, make_of, deed_by, row_of, all_words, said, words_of_said, words_of_deed, DeedFits, words_of_class_line, text_of_class_line, ClassLineFits, word_of, deed_with, deed_at, deed_of, drawing, reacting, operation_in, reaction_in, class_line_of, begins_class_line}

-- ---- the table: each clause is checked for each word

word_again : (w : Word) → word_of (name_of_word w) ≡ Some w
unfolding word_of name_of_word
word_again word.Up = refl
word_again w = refl

row_is_right : (w : Word) → is_word (name_of_word w) && are_fields (fields_of (row_of w)) ≡ true
unfolding name_of_word
row_is_right word.Set = rw (no_number_of (codes "a") (lit< tt)) refl
row_is_right word.Add = rw (no_number_of (codes "a") (lit< tt)) refl
row_is_right word.Up = refl
row_is_right w = refl

-- a name isn't `on` or `end`, and begins no comment
abbrev is_plain : List ℕ → Bool
is_plain name = (not (bytes_eq name (codes "on")) && not (bytes_eq name (codes "end"))) && ltb 35 (get_or name 0 0)

name_is_plain : (w : Word) → is_plain (name_of_word w) ≡ true
unfolding name_of_word
name_is_plain word.Up = refl
name_is_plain w = refl

abbrev made_of : Said → Deed
made_of (said_by w vs) = made (fields_of (row_of w)) (make_of (row_of w)) vs

said_again : (d : Deed) → made_of (said d) ≡ d
said_again (Draw (op.Fill x0 y0 x1 y1 colour)) = refl
said_again (Draw (op.Frame x0 y0 x1 y1 colour)) = refl
said_again (Draw (op.HLine x0 x1 y colour)) = refl
said_again (Draw (op.VLine x y0 y1 colour)) = refl
said_again (Draw (op.Line x0 y0 x1 y1 colour)) = refl
said_again (Draw (op.Bitmap b x y)) = refl
said_again (Draw (op.Text f x y colour s)) = refl
said_again (Draw (op.Number f x y colour num)) = refl
said_again (React (react.Set i Argument)) = refl
said_again (React (react.Set i (Const z))) = refl
said_again (React (react.Add i Argument)) = refl
said_again (React (react.Add i (Const z))) = refl
said_again (React (react.Up m)) = refl

set_made : (i : ℕ) (v : Option ℤ) → said (made_of (said_by word.Set (i, (v, tt)))) ≡ said_by word.Set (i, (v, tt))
set_made i None = refl
set_made i (Some z) = refl

add_made : (i : ℕ) (v : Option ℤ) → said (made_of (said_by word.Add (i, (v, tt)))) ≡ said_by word.Add (i, (v, tt))
add_made i None = refl
add_made i (Some z) = refl

said_made : (w : Word) (vs : Values (fields_of (row_of w))) → said (made_of (said_by w vs)) ≡ said_by w vs
said_made word.Set vs = set_made vs.0 vs.1.0
said_made word.Add vs = add_made vs.0 vs.1.0
said_made word.Fill vs = refl
said_made word.Frame vs = refl
said_made word.HLine vs = refl
said_made word.VLine vs = refl
said_made word.Line vs = refl
said_made word.Bitmap vs = refl
said_made word.Text vs = refl
said_made word.Number vs = refl
said_made word.Up vs = refl

by_row : (r : Row) (words : List (List ℕ)) → deed_by r words ≡ read_fields (fields_of r) (make_of r) words
by_row (row name fields make) words = refl

-- ---- deeds

found_passes : {A : Type 0} (p : A → Bool) (xs : List A) (x : A) → find p xs ≡ Some x → p x ≡ true
found_passes p [] x e = absurd cc
found_passes {A} p (y ∷ xs) x e =
    elim (chosen (p y) (Some y) (find p xs) (Some x) e) [
      | inl this ↦ subst (λ (z : A). p z ≡ true) (same_Some y x this.1) this.0
      | inr later ↦ found_passes p xs x later.1
    ]

word_taken : (name : List ℕ) (w : Word) → word_of name ≡ Some w → name ≡ name_of_word w
unfolding word_of
word_taken name w e = named name (name_of_word w) (found_passes (λ w. bytes_eq name (name_of_word w)) all_words w e)

abbrev SpellsSaid : List (List ℕ) → Said → List (List ℕ) → Type 0
SpellsSaid words s rest = (words ≡ words_of_said s ++ rest) × SaidFits s

deed_at_takes : (words : List (List ℕ)) (x : Deed × List (List ℕ)) → deed_at words ≡ Some x → SpellsSaid words (said x.0) x.1
unfolding deed_at
deed_at_takes words x e =
    let n = bind_some (first_word words) _ x e in
    let w = bind_some (word_of n.0.0) _ x n.2 in
    let r = fields_take (fields_of (row_of w.0)) (make_of (row_of w.0)) n.0.1 x (sym (by_row (row_of w.0) n.0.1) ∙ w.2) in
    let same : said_by w.0 r.0 ≡ said x.0 = sym (said_made w.0 r.0) ∙ ap said r.3 in
    subst (λ (t : Said). SpellsSaid words t x.1) same
    (word_takes words n.0 n.1 ∙ ap (λ (v : List ℕ). v ∷ n.0.1) (word_taken n.0.0 w.0 w.1) ∙ onto (name_of_word w.0) _ _ r.1, r.2)

all_taken : (o : Option (Deed × List (List ℕ))) (d : Deed) → all_of o ≡ Some d → (x : Deed × List (List ℕ)) × (o ≡ Some x) × (x.1 ≡ []) × (x.0 ≡ d)
all_taken None d e = absurd cc
all_taken (Some x) d e = let n = nothing_left x.1 x.0 d e in (x, refl, n.0, n.1)

deed_takes : (words : List (List ℕ)) (d : Deed) → deed_of words ≡ Some d → (words ≡ words_of_deed d) × DeedFits d
unfolding deed_of
deed_takes words d e =
    let x = all_taken (deed_at words) d e in
    let t = deed_at_takes words x.0 x.1 in
    subst (λ (c : Deed). (words ≡ words_of_deed c) × DeedFits c) x.3
    (t.0 ∙ ap (λ (ws : List (List ℕ)). words_of_deed x.0.0 ++ ws) x.2 ∙ append-nil (words_of_deed x.0.0), t.1)

said_read : (s : Said) (rest : List (List ℕ)) → SaidFits s → deed_at (words_of_said s ++ rest) ≡ Some (made_of s, rest)
unfolding deed_at
said_read (said_by w vs) rest fits =
    let right = and_parts (is_word (name_of_word w)) _ (row_is_right w) in
    ap (λ (o : Option Word). o >>= λ v. deed_with v (texts_of (fields_of (row_of w)) vs ++ rest)) (word_again w)
    ∙ by_row (row_of w) _ ∙ fields_again (fields_of (row_of w)) (make_of (row_of w)) vs rest right.1 fits

deed_again : (d : Deed) → DeedFits d → deed_of (words_of_deed d) ≡ Some d
unfolding deed_of
deed_again d fits =
    let is : deed_at (words_of_deed d) ≡ Some (d, []) =
    ap deed_at (sym (append-nil (words_of_deed d))) ∙ said_read (said d) [] fits ∙ ap (λ (c : Deed). Some (c, [])) (said_again d) in
    ap all_of is

said_whole : (s : Said) → SaidFits s → AllByRecursion (IsWhole 32) (words_of_said s)
said_whole (said_by w vs) fits =
    let right = and_parts (is_word (name_of_word w)) _ (row_is_right w) in
    (whole_by_test (name_of_word w) right.0, fields_whole (fields_of (row_of w)) vs right.1 fits)

-- ---- lines

abbrev IsSpelled : List (List ℕ) → ClassLine → Type 0
IsSpelled words line = (words ≡ words_of_class_line line) × ClassLineFits line

drawing_takes : (words : List (List ℕ)) (d : Deed) (line : ClassLine) → deed_of words ≡ Some d → drawing d ≡ Some line → IsSpelled words line
drawing_takes words (Draw o) line is e = subst (λ (l : ClassLine). IsSpelled words l) (same_Some (Operation o) line e) (deed_takes words (Draw o) is)
drawing_takes words (React r) line is e = absurd cc

reacting_takes : (words : List (List ℕ)) (on : ℕ) (d : Deed) (line : ClassLine) → on ≤ 255 → deed_of words ≡ Some d → reacting on d ≡ Some line → IsSpelled (codes "on" ∷ decimal on ∷ words) line
reacting_takes words on (Draw o) line small is e = absurd cc
reacting_takes words on (React r) line small is e =
    let t = deed_takes words (React r) is in
    subst (λ (l : ClassLine). IsSpelled (codes "on" ∷ decimal on ∷ words) l) (same_Some (Reaction (record { on = on; react = r })) line e)
    (ap (λ (ws : List (List ℕ)). codes "on" ∷ decimal on ∷ ws) t.0, (small, t.1))

operation_takes : (words : List (List ℕ)) (line : ClassLine) → operation_in words ≡ Some line → IsSpelled words line
unfolding operation_in
operation_takes words line e =
    let d = bind_some (deed_of words) drawing line e in
    drawing_takes words d.0 line d.1 d.2

reaction_takes : (words : List (List ℕ)) (line : ClassLine) → reaction_in words ≡ Some line → IsSpelled words line
unfolding reaction_in
reaction_takes words line e =
    let rest = bind_some (after_word (codes "on") words) _ line e in
    let on = bind_some (natural_at 0 255 rest.0) _ line rest.2 in
    let d = bind_some (deed_of on.0.1) _ line on.2 in
    let t = natural_at_takes 0 255 rest.0 on.0 on.1 in
    let prefix : words ≡ codes "on" ∷ decimal on.0.0 ∷ on.0.1 = after_word_takes (codes "on") words rest.0 rest.1 ∙ onto (codes "on") _ _ t.0 in
    subst (λ (ws : List (List ℕ)). IsSpelled ws line) (sym prefix) (reacting_takes on.0.1 on.0.0 d.0 line t.2 d.1 d.2)

line_takes : (words : List (List ℕ)) (line : ClassLine) → class_line_of words ≡ Some line → IsSpelled words line
unfolding class_line_of
line_takes words line e =
    elim (chosen (begins_with (codes "on") words) (reaction_in words) (operation_in words) (Some line) e) [
      | inl reaction ↦ reaction_takes words line reaction.1
      | inr operation ↦ operation_takes words line operation.1
    ]

not_true : (b : Bool) → not b ≡ true → b ≡ false
not_true true e = absurd cc
not_true false e = refl

-- the parts of is_plain
not_on : (w : Word) → bytes_eq (name_of_word w) (codes "on") ≡ false
not_on w =
    let two = and_parts (not (bytes_eq (name_of_word w) (codes "on")) && not (bytes_eq (name_of_word w) (codes "end"))) _ (name_is_plain w) in
    not_true _ (and_parts (not (bytes_eq (name_of_word w) (codes "on"))) _ two.0).0

not_end : (w : Word) → bytes_eq (name_of_word w) (codes "end") ≡ false
not_end w =
    let two = and_parts (not (bytes_eq (name_of_word w) (codes "on")) && not (bytes_eq (name_of_word w) (codes "end"))) _ (name_is_plain w) in
    not_true _ (and_parts (not (bytes_eq (name_of_word w) (codes "on"))) _ two.0).1

said_not_on : (s : Said) → begins_with (codes "on") (words_of_said s) ≡ false
said_not_on (said_by w vs) = not_on w

line_again : (line : ClassLine) → ClassLineFits line → class_line_of (words_of_class_line line) ≡ Some line
unfolding class_line_of operation_in reaction_in
line_again (Operation o) fits = rw (said_not_on (said (Draw o)), deed_again (Draw o) fits) refl
line_again (Reaction r) fits =
    rw (natural_at_again 0 255 r.on (words_of_deed (React r.react)) (omega arith) fits.0 (lit< tt), deed_again (React r.react) fits.1) refl

said_joined : (s : Said) → SaidFits s → words_of (text_of_words (words_of_said s)) ≡ words_of_said s
said_joined (said_by w vs) fits = parts-join 32 (name_of_word w) (texts_of (fields_of (row_of w)) vs) (said_whole (said_by w vs) fits)

-- a line's words
pub class_line_words : (line : ClassLine) → ClassLineFits line → words_of (text_of_class_line line) ≡ words_of_class_line line
class_line_words (Operation o) fits = said_joined (said (Draw o)) fits
class_line_words (Reaction r) fits =
    let small : r.on ≤ 255 = fits.0 in
    parts-join 32 (codes "on") (decimal r.on ∷ words_of_deed (React r.react)) (whole_by_test (codes "on") refl, (natural_whole r.on (omega arith), said_whole (said (React r.react)) fits.1))

pub class_line_read : (text : List ℕ) (line : ClassLine) → class_line_of (words_of text) ≡ Some line → (text ≡ text_of_class_line line) × ClassLineFits line
class_line_read text line e = let t = line_takes (words_of text) line e in (line_from_words text (words_of_class_line line) t.0, t.1)

pub class_line_spelled : (text : List ℕ) (line : ClassLine) → text ≡ text_of_class_line line → ClassLineFits line → class_line_of (words_of text) ≡ Some line
class_line_spelled text line e fits = ap (λ (t : List ℕ). class_line_of (words_of t)) e ∙ ap class_line_of (class_line_words line fits) ∙ line_again line fits

-- ---- first words

draw_known : (o : Op) → begins_class_line (words_of_deed (Draw o)) ≡ true
unfolding begins_class_line name_of_word
draw_known (op.Fill x0 y0 x1 y1 colour) = refl
draw_known (op.Frame x0 y0 x1 y1 colour) = refl
draw_known (op.HLine x0 x1 y colour) = refl
draw_known (op.VLine x y0 y1 colour) = refl
draw_known (op.Line x0 y0 x1 y1 colour) = refl
draw_known (op.Bitmap b x y) = refl
draw_known (op.Text f x y colour s) = refl
draw_known (op.Number f x y colour num) = refl

words_known : (line : ClassLine) → begins_class_line (words_of_class_line line) ≡ true
unfolding begins_class_line
words_known (Operation o) = draw_known o
words_known (Reaction r) = refl

pub first_is_known : (line : ClassLine) → ClassLineFits line → begins_class_line (words_of (text_of_class_line line)) ≡ true
first_is_known line fits = ap begins_class_line (class_line_words line fits) ∙ words_known line

uncommented : (w : List ℕ) (ws : List (List ℕ)) → 35 < get_or w 0 0 → is_comment (text_of_words (w ∷ ws)) ≡ false
uncommented [] ws other = absurd (omega arith)
uncommented (b ∷ bs) [] other = grind (arith, nat_tests)
uncommented (b ∷ bs) (x ∷ xs) other = grind (arith, nat_tests)

said_shown : (s : Said) → is_comment (text_of_words (words_of_said s)) ≡ false
said_shown (said_by w vs) =
    let plain = and_parts (not (bytes_eq (name_of_word w) (codes "on")) && not (bytes_eq (name_of_word w) (codes "end"))) _ (name_is_plain w) in
    uncommented (name_of_word w) (texts_of (fields_of (row_of w)) vs) (ltb-true _ _ plain.1)

pub no_comment : (line : ClassLine) → ClassLineFits line → is_comment (text_of_class_line line) ≡ false
no_comment (Operation o) fits = said_shown (said (Draw o))
no_comment (Reaction r) fits = uncommented (codes "on") (decimal r.on ∷ words_of_deed (React r.react)) (lit< tt)

said_not_end : (s : Said) → begins_with (codes "end") (words_of_said s) ≡ false
said_not_end (said_by w vs) = not_end w

words_not_end : (line : ClassLine) → begins_with (codes "end") (words_of_class_line line) ≡ false
words_not_end (Operation o) = said_not_end (said (Draw o))
words_not_end (Reaction r) = refl

pub no_end : (line : ClassLine) → ClassLineFits line → text_of_class_line line ≡ codes "end" → ⊥
no_end line fits e =
    let is : begins_with (codes "end") (words_of (text_of_class_line line)) ≡ true = ap (λ (t : List ℕ). begins_with (codes "end") (words_of t)) e in
    let other : begins_with (codes "end") (words_of (text_of_class_line line)) ≡ false = ap (begins_with (codes "end")) (class_line_words line fits) ∙ words_not_end line in
    absurd (cc (sym is ∙ other))
