-- Bodies of classes: one text has one meaning, they end at the first line `end`, and their classes are sound.
use Rattle.std.proofs.Common.{◌≡◌, ℕ, Option, ◌<◌, ◌≤◌, true, false, ltb, List, [], ◌∷◌, ◌++◌, length, refl, sym, ap, subst, ◌∙◌, arith}
use Rattle.std.specs.Prelude.{codes}
use Rattle.std.specs.List.{AllByRecursion}
use Rattle.std.proofs.lemmas.Bool.{and_parts, ltb-true}
use Rattle.std.proofs.lemmas.List.{length-append}
use Rattle.std.proofs.lemmas.Option.{same_Some}
use Rattle.paint_ops.specs.declared.op.Op.{Op}
use Rattle.paint_ops.specs.declared.op.Op.TheVariants as op
use Rattle.paint_ops.specs.declared.class.React.TheVariants as react
use Rattle.paint_ops.specs.declared.class.Reaction.{Reaction as ReactionOf}
use Rattle.paint_ops.specs.Kinds.{Class, Assets}
use Rattle.paint_ops.specs.Soundness.{IsOperation, IsReact, IsClass}
use Rattle.spelling.specs.Items.{is_comment, AreComments, AreItems, all_after}
use Rattle.spelling.proofs.CallerLemmas.{Without, AreApart, one_list}
use Rattle.class_lines.specs.declared.line.ClassLine.{ClassLine}
use Rattle.class_lines.specs.declared.line.ClassLine.TheVariants.{Operation, Reaction}
use Rattle.class_lines.specs.Words.{text_of_class_line, ClassLineFits}
use Rattle.class_lines.proofs.CallerLemmas.{class_line_spelled, no_comment, no_end}
use Rattle.script.specs.Scripts.{plain_class, class_with, are_there, may_have, IsClassLine, AreClassLines, class_of}

-- ---- lines

-- blocks of one line each
pub one_line : (xs bs ys cs : List (List ℕ)) (t u : List ℕ) → xs ≡ t ∷ [] → bs ≡ u ∷ [] → xs ++ ys ≡ bs ++ cs → (t ≡ u) × (ys ≡ cs)
one_line xs bs ys cs t u is also e =
    let same : t ∷ ys ≡ u ∷ cs = sym (ap (λ (ls : List (List ℕ)). ls ++ ys) is) ∙ e ∙ ap (λ (ls : List (List ℕ)). ls ++ cs) also in
    (cc, cc)

class_line_same : (l m : ClassLine) → ClassLineFits l → ClassLineFits m → text_of_class_line l ≡ text_of_class_line m → l ≡ m
class_line_same l m fits also e = same_Some l m (sym (class_line_spelled (text_of_class_line l) l refl fits) ∙ class_line_spelled (text_of_class_line l) m e also)

lines_apart : (assets : Assets) → AreApart (IsClassLine assets)
lines_apart assets = record {
  begins = λ class line block is. (text_of_class_line line, [], is.spelled, no_comment line is.fits);
  apart = λ class l m xs bs ys cs is also e. let parts = one_line xs bs ys cs _ _ is.spelled also.spelled e in (class_line_same l m is.fits also.fits parts.0, parts.1);
}

-- a body is that of one list of lines
pub one_body : (assets : Assets) (back : Option ℕ) (ls ms : List ClassLine) (body : List (List ℕ)) → AreClassLines assets back ls body → AreClassLines assets back ms body → ls ≡ ms
one_body assets back ls ms body are also = one_list (IsClassLine assets) class_with (lines_apart assets) (plain_class back) ls ms body are also

-- ---- the end

comment_is_no_end : (line : List ℕ) → is_comment line ≡ true → line ≡ codes "end" → ⊥
comment_is_no_end line is e = let other : is_comment line ≡ false = ap is_comment e in absurd (cc (sym is ∙ other))

comments_without_end : (body : List (List ℕ)) → AreComments body → Without (codes "end") body
comments_without_end [] are = tt
comments_without_end (line ∷ body) are = (comment_is_no_end line are.0, comments_without_end body are.1)

both_without : (xs ys : List (List ℕ)) → Without (codes "end") xs → Without (codes "end") ys → Without (codes "end") (xs ++ ys)
both_without [] ys are also = also
both_without (x ∷ xs) ys are also = (are.0, both_without xs ys are.1 also)

lines_without_end : (assets : Assets) (class : Class) (lines : List ClassLine) (body : List (List ℕ)) → AreItems (IsClassLine assets) class_with class lines body → Without (codes "end") body
lines_without_end assets class [] body are = comments_without_end body are
lines_without_end assets class (l ∷ ls) body are =
    let more = lines_without_end assets (class_with class l) ls are.2 are.6 in
    let one : Without (codes "end") are.1 = subst (Without (codes "end")) (sym are.5.spelled) (no_end l are.5.fits, tt) in
    subst (Without (codes "end")) (sym are.3) (both_without are.0 (are.1 ++ are.2) (comments_without_end are.0 are.4) (both_without are.1 are.2 one more))

pub without_end : (assets : Assets) (back : Option ℕ) (lines : List ClassLine) (body : List (List ℕ)) → AreClassLines assets back lines body → Without (codes "end") body
without_end assets back lines body are = lines_without_end assets (plain_class back) lines body are

-- ---- sound classes

operation_is : (assets : Assets) (o : Op) → ClassLineFits (Operation o) → are_there assets o ≡ true → IsOperation assets o
operation_is assets (op.Fill x0 y0 x1 y1 c) fits there = (fits.0.1, fits.1.0.1, fits.1.1.0.1, fits.1.1.1.0.1)
operation_is assets (op.Frame x0 y0 x1 y1 c) fits there = (fits.0.1, fits.1.0.1, fits.1.1.0.1, fits.1.1.1.0.1)
operation_is assets (op.HLine x0 x1 y c) fits there = (fits.0.1, fits.1.0.1, fits.1.1.0.1)
operation_is assets (op.VLine x y0 y1 c) fits there = (fits.0.1, fits.1.0.1, fits.1.1.0.1)
operation_is assets (op.Line x0 y0 x1 y1 c) fits there = (fits.0.1, fits.1.0.1, fits.1.1.0.1, fits.1.1.1.0.1)
operation_is assets (op.Bitmap b x y) fits there = (ltb-true _ _ there, fits.1.0.1, fits.1.1.0.1)
operation_is assets (op.Text f x y c s) fits there =
    let parts = and_parts (ltb f (length assets.fonts)) _ there in
    (ltb-true _ _ parts.0, fits.1.0.1, fits.1.1.0.1, ltb-true _ _ parts.1)
operation_is assets (op.Number f x y c n) fits there = (ltb-true _ _ there, fits.1.0.1, fits.1.1.0.1, fits.1.1.1.1.0.1)

reaction_is : (r : ReactionOf) → ClassLineFits (Reaction r) → IsReact r.react
reaction_is r fits = by_react r.on r.react fits where
  by_react : (on : ℕ) (k : _) → ClassLineFits (Reaction (record { on = on; react = k })) → IsReact k
  by_react on (react.Set i v) fits = let few : i ≤ 15 = fits.1.0.1 in omega arith
  by_react on (react.Add i v) fits = let few : i ≤ 15 = fits.1.0.1 in omega arith
  by_react on (react.Up m) fits = tt

operations_more : (assets : Assets) (os : List Op) (o : Op) → AllByRecursion (IsOperation assets) os → IsOperation assets o → AllByRecursion (IsOperation assets) (os ++ o ∷ [])
operations_more assets [] o are is = (is, tt)
operations_more assets (x ∷ os) o are is = (are.0, operations_more assets os o are.1 is)

reactions_more : (rs : List ReactionOf) (r : ReactionOf) → AllByRecursion (λ (x : ReactionOf). IsReact x.react) rs → IsReact r.react → AllByRecursion (λ (x : ReactionOf). IsReact x.react) (rs ++ r ∷ [])
reactions_more [] r are is = (is, tt)
reactions_more (x ∷ rs) r are is = (are.0, reactions_more rs r are.1 is)

line_sound : (assets : Assets) (class : Class) (line : ClassLine) → may_have assets class line ≡ true → ClassLineFits line → IsClass assets class → IsClass assets (class_with class line)
line_sound assets class (Operation o) room fits is =
    let parts = and_parts (ltb (length class.ops) 64) (are_there assets o) room in
    let few : length class.ops < 64 = ltb-true _ _ parts.0 in
    record {
      few_ops = omega (arith, length-append class.ops (o ∷ []));
      few_reactions = is.few_reactions;
      ops = operations_more assets class.ops o is.ops (operation_is assets o fits parts.1);
      reactions = is.reactions;
    }
line_sound assets class (Reaction r) room fits is =
    let few : length class.reactions < 16 = ltb-true _ _ room in
    record {
      few_ops = is.few_ops;
      few_reactions = omega (arith, length-append class.reactions (r ∷ []));
      ops = is.ops;
      reactions = reactions_more class.reactions r is.reactions (reaction_is r fits);
    }

lines_sound : (assets : Assets) (class : Class) (lines : List ClassLine) (body : List (List ℕ)) → AreItems (IsClassLine assets) class_with class lines body → IsClass assets class → IsClass assets (all_after class_with class lines)
lines_sound assets class [] body are is = is
lines_sound assets class (l ∷ ls) body are is = lines_sound assets (class_with class l) ls are.2 are.6 (line_sound assets class l are.5.room are.5.fits is)

pub class_sound : (assets : Assets) (back : Option ℕ) (lines : List ClassLine) (body : List (List ℕ)) → AreClassLines assets back lines body → IsClass assets (class_of back lines)
class_sound assets back lines body are = lines_sound assets (plain_class back) lines body are (record { few_ops = omega arith; few_reactions = omega arith; ops = tt; reactions = tt })
