-- The first lines of a script are read: a draft takes them, and stands at their place.
use Rattle.std.proofs.Common.{◌≡◌, ℕ, ◌+◌, ◌<◌, ◌≤◌, true, false, cond, eqb, ltb, List, [], ◌∷◌, ◌++◌, length, get_or, Option, Some, None, Result, Ok, refl, sym, ap, subst, ◌∙◌, arith, lit<, inl, inr, Bool, ◌&&◌}
use Rattle.std.specs.Prelude.{bytes_eq, codes}
use Rattle.std.specs.List.{AllByRecursion}
use Rattle.std.proofs.Math.Bool.{and-false}
use Rattle.std.proofs.lemmas.Bool.{cases_Bool}
use Rattle.std.proofs.lemmas.Bool.Decides.{nat_tests}
use Rattle.spelling.specs.Parts.{is_printable}
use Rattle.spelling.specs.Words.{words_of}
use Rattle.spelling.specs.Fields.{Field, Values, texts_of, AreIn, text_with}
use Rattle.spelling.specs.Items.{is_comment, AreComments, AreItems, all_after}
use Rattle.spelling.specs.LineReading.{on, run}
use Rattle.glyph_font.specs.Fonts.{Font}
use Rattle.glyph_font.specs.Texts.{font_lines}
use Rattle.glyph_font.specs.declared.place.Place.TheVariants as font_place
use Rattle.glyph_font.specs.Reading as fonts
use Rattle.glyph_font.proofs.CallerLemmas as font_laws
use Rattle.bitmap.specs.Bitmaps.{Bitmap}
use Rattle.bitmap.specs.declared.place.Place.TheVariants as bitmap_place
use Rattle.bitmap.specs.Faults.{why_at}
use Rattle.bitmap.specs.Reading as bitmaps
use Rattle.bitmap.proofs.CallerLemmas as bitmap_laws
use Rattle.spelling.proofs.CallerLemmas.{on_ok, named, values_again, line_values_again, words_with, run_on}
use Rattle.class_lines.specs.declared.line.ClassLine.{ClassLine}
use Rattle.class_lines.specs.Words.{text_of_class_line, ClassLineFits}
use Rattle.class_lines.proofs.CallerLemmas.{class_line_spelled, no_comment, no_end}
use Rattle.calls.specs.declared.line.Line.{Line}
use Rattle.calls.specs.Words.{line_of, text_of_line, LineFits}
use Rattle.calls.proofs.CallerLemmas.{line_spelled, no_line}
use Rattle.script.specs.declared.draft.Block.{Block}
use Rattle.script.specs.declared.draft.Block.TheVariants as kind
use Rattle.script.specs.declared.draft.Stage.{Stage}
use Rattle.script.specs.declared.draft.Stage.TheVariants as stage
use Rattle.script.specs.declared.fault.Reason.{Reason}
use Rattle.script_lines.specs.Fields.{screen_in, buffers_in, desktop_in, font_in, bitmap_in}
use Rattle.script.specs.Later.{is_one_of, asset_words}
use Rattle.script_lines.specs.Counts.{count_alike}
use Rattle.script_lines.specs.Texts.{screen_fields, buffers_fields, desktop_fields, class_text, string_text, font_fields, font_text, bitmap_fields, bitmap_text, HeadFits, text_of_back}
use Rattle.script.specs.Scripts.{with_string, Item, Title, Screen, Buffers, Desktop, StringOf, ClassOf, CallOf, Before, IsFontBlock, IsBitmapBlock, nothing, after, Spells, class_of, IsClassLine, AreClassLines, plain_class, class_with, may_have, FontOf, BitmapOf, with_font, with_bitmap, may_do}
use Rattle.paint_ops.specs.Kinds.{Class}
use Rattle.paint_ops.specs.Texts.{IsText}
use Rattle.std.specs.Fmt.{decimal}
use Rattle.script.specs.Faults.{Place, Between, AreOpen, IsPrefix, OpensClass, OpensDrawing, InClass, InDrawing}
use Rattle.script.specs.Reading.{Draft, empty_draft, after_title, after_screen, after_buffers, after_desktop, after_block, after_class, after_string, after_asset, after_other, after_call, after_body, after_words, after_line, with_screen, with_buffers, with_colour, opened, before_at, place_at, place_of, block_after, closed, after_font, after_bitmap, takes_comments, with_call}
use Rattle.script_lines.proofs.CallerLemmas.{string_words, string_again, head_words, head_again}
use Rattle.script.proofs.ItemLaws.{opens, uncommented}

-- ---- lines that are taken

abbrev fine : Draft → Result Draft Reason
fine d = Ok d

abbrev ArePrintable : List (List ℕ) → Type 0
ArePrintable lines = AllByRecursion (λ line. is_printable line ≡ true) lines

abbrev Reads : Draft → List (List ℕ) → Draft → Type 0
Reads d lines e = run after_line d lines ≡ Ok e

comment_line : (d : Draft) (line : List ℕ) → is_printable line ≡ true → is_comment line ≡ true → takes_comments d.stage ≡ true → after_line d line ≡ Ok d
unfolding after_line
comment_line d line printable is takes = rw (printable, is, takes) refl

other_line : (s : Stage) (d e : Draft) (line : List ℕ) → is_printable line ≡ true → is_comment line ≡ false → d.stage ≡ s → after_words s d line ≡ Ok e → after_line d line ≡ Ok e
unfolding after_line
other_line s d e line printable is at taken = rw (printable, is) (ap (λ (x : Stage). after_words x d line) at ∙ taken)

then_on : (d e : Draft) (line : List ℕ) (lines : List (List ℕ)) → after_line d line ≡ Ok e → run after_line d (line ∷ lines) ≡ run after_line e lines
then_on d e line lines is = ap (λ (r : Result Draft Reason). on r (λ next. run after_line next lines)) is

comments_read : (d : Draft) (lines : List (List ℕ)) → takes_comments d.stage ≡ true → ArePrintable lines → AreComments lines → Reads d lines d
comments_read d [] takes printable are = refl
comments_read d (line ∷ lines) takes printable are = then_on d d line lines (comment_line d line printable.0 are.0 takes) ∙ comments_read d lines takes printable.1 are.1

printable_parts : (xs ys : List (List ℕ)) → ArePrintable (xs ++ ys) → ArePrintable xs × ArePrintable ys
printable_parts [] ys all = (tt, all)
printable_parts (x ∷ xs) ys all = let more = printable_parts xs ys all.1 in ((all.0, more.0), more.1)

-- ---- what the lines of each stage say

title_taken : (d : Draft) → after_title d (codes "mtgui 1") ≡ Ok (record d { stage = stage.Screen })
unfolding after_title
title_taken d = refl

end_taken : (d : Draft) (class : Class) → after_block (kind.Class class) d (codes "end") ≡ Ok (closed d (kind.Class class))
unfolding block_after
end_taken d class = refl

screen_taken : (d : Draft) (w h : ℕ) → AreIn screen_fields (w, (h, tt)) → after_screen d (text_with (codes "screen") screen_fields (w, (h, tt))) ≡ Ok (with_screen d w h)
unfolding after_screen screen_in
screen_taken d w h are = rw (line_values_again (codes "screen") screen_fields (w, (h, tt)) refl refl are) refl

buffers_taken : (d : Draft) (n : ℕ) → AreIn buffers_fields (n, tt) → after_buffers d (text_with (codes "buffers") buffers_fields (n, tt)) ≡ Ok (with_buffers d n)
unfolding after_buffers buffers_in
buffers_taken d n are = rw (line_values_again (codes "buffers") buffers_fields (n, tt) refl refl are) refl

desktop_taken : (d : Draft) (c : ℕ) → AreIn desktop_fields (c, tt) → after_desktop d (text_with (codes "desktop") desktop_fields (c, tt)) ≡ Ok (with_colour d c)
unfolding after_desktop desktop_in
desktop_taken d c are = rw (line_values_again (codes "desktop") desktop_fields (c, tt) refl refl are) refl

numbered_class : (d : Draft) (back : Option ℕ) → after_class d (Some (length d.said.assets.classes, back)) ≡ Ok (opened d (kind.Class (plain_class back)))
numbered_class d back =
    let same : eqb (length d.said.assets.classes) (length d.said.assets.classes) ≡ true = grind (arith, nat_tests) in
    rw same refl

numbered_string : (d : Draft) (text : List ℕ) → after_string d (Some (length d.said.assets.strings, text)) ≡ Ok (record d { said = with_string d.said text })
numbered_string d text =
    let same : eqb (length d.said.assets.strings) (length d.said.assets.strings) ≡ true = grind (arith, nat_tests) in
    rw same refl

class_words : (d : Draft) (back : Option ℕ) → HeadFits (length d.said.assets.classes) back → length d.said.lines ≡ 0 → after_asset d (codes "class") (decimal (length d.said.assets.classes) ∷ text_of_back back ∷ []) ≡ Ok (opened d (kind.Class (plain_class back)))
unfolding after_asset
class_words d back are early =
    let none : eqb (length d.said.lines) 0 ≡ true = grind (arith, nat_tests) in
    rw (none, head_again (length d.said.assets.classes) back are) (numbered_class d back)

numbered_font : (d : Draft) (height : ℕ) → after_font d (Some (length d.said.assets.fonts, (height, tt))) ≡ Ok (opened d (kind.Font (fonts.start height)))
numbered_font d height =
    let same : eqb (length d.said.assets.fonts) (length d.said.assets.fonts) ≡ true = grind (arith, nat_tests) in
    rw same refl

font_words : (d : Draft) (height : ℕ) → AreIn font_fields (length d.said.assets.fonts, (height, tt)) → length d.said.lines ≡ 0 → after_asset d (codes "font") (texts_of font_fields (length d.said.assets.fonts, (height, tt))) ≡ Ok (opened d (kind.Font (fonts.start height)))
unfolding after_asset font_in
font_words d height are early =
    let none : eqb (length d.said.lines) 0 ≡ true = grind (arith, nat_tests) in
    rw (none, values_again font_fields (texts_of font_fields (length d.said.assets.fonts, (height, tt))) (length d.said.assets.fonts, (height, tt)) refl refl are) (numbered_font d height)

numbered_bitmap : (d : Draft) (width height : ℕ) → after_bitmap d (Some (length d.said.assets.bitmaps, (width, (height, tt)))) ≡ Ok (opened d (kind.Bitmap (bitmaps.start width height)))
numbered_bitmap d width height =
    let same : eqb (length d.said.assets.bitmaps) (length d.said.assets.bitmaps) ≡ true = grind (arith, nat_tests) in
    rw same refl

bitmap_words : (d : Draft) (width height : ℕ) → AreIn bitmap_fields (length d.said.assets.bitmaps, (width, (height, tt))) → length d.said.lines ≡ 0 → after_asset d (codes "bitmap") (texts_of bitmap_fields (length d.said.assets.bitmaps, (width, (height, tt)))) ≡ Ok (opened d (kind.Bitmap (bitmaps.start width height)))
unfolding after_asset bitmap_in
bitmap_words d width height are early =
    let none : eqb (length d.said.lines) 0 ≡ true = grind (arith, nat_tests) in
    rw (none, values_again bitmap_fields (texts_of bitmap_fields (length d.said.assets.bitmaps, (width, (height, tt)))) (length d.said.assets.bitmaps, (width, (height, tt))) refl refl are) (numbered_bitmap d width height)

text_words : (d : Draft) (text : List ℕ) → length d.said.assets.strings ≤ 255 → IsText text → length d.said.lines ≡ 0 → after_asset d (codes "string") (decimal (length d.said.assets.strings) ∷ words_of text) ≡ Ok (record d { said = with_string d.said text })
unfolding after_asset
text_words d text few is early =
    let none : eqb (length d.said.lines) 0 ≡ true = grind (arith, nat_tests) in
    rw (none, string_again (length d.said.assets.strings) text few is) (numbered_string d text)

-- a line with an asset's word is no call line
asset_taken : (d e : Draft) (line name : List ℕ) (words : List (List ℕ)) → words_of line ≡ name ∷ words → 57 < get_or name 0 0 → bytes_eq name (codes "display") ≡ false → is_one_of asset_words name ≡ true → after_asset d name words ≡ Ok e → after_body d line ≡ Ok e
unfolding after_body
asset_taken d e line name words spelled other no_tick asset taken =
    ap (λ (o : Option Line). after_call d line o) (ap line_of spelled ∙ no_line name words other no_tick) ∙ ap (after_other d) spelled ∙ rw asset taken

class_is_asset : is_one_of asset_words (codes "class") ≡ true
unfolding is_one_of asset_words
class_is_asset = refl

string_is_asset : is_one_of asset_words (codes "string") ≡ true
unfolding is_one_of asset_words
string_is_asset = refl

font_is_asset : is_one_of asset_words (codes "font") ≡ true
unfolding is_one_of asset_words
font_is_asset = refl

bitmap_is_asset : is_one_of asset_words (codes "bitmap") ≡ true
unfolding is_one_of asset_words
bitmap_is_asset = refl

class_taken : (d : Draft) (back : Option ℕ) → HeadFits (length d.said.assets.classes) back → length d.said.lines ≡ 0 → after_body d (class_text (length d.said.assets.classes) back) ≡ Ok (opened d (kind.Class (plain_class back)))
class_taken d back are early =
    let number : ℕ = length d.said.assets.classes in
    asset_taken d (opened d (kind.Class (plain_class back))) (class_text number back) (codes "class") (decimal number ∷ text_of_back back ∷ []) (head_words number back are) (lit< tt) refl class_is_asset (class_words d back are early)

font_taken : (d : Draft) (height : ℕ) → AreIn font_fields (length d.said.assets.fonts, (height, tt)) → length d.said.lines ≡ 0 → after_body d (font_text (length d.said.assets.fonts) height) ≡ Ok (opened d (kind.Font (fonts.start height)))
font_taken d height are early =
    let number : ℕ = length d.said.assets.fonts in
    asset_taken d (opened d (kind.Font (fonts.start height))) (font_text number height) (codes "font") (texts_of font_fields (number, (height, tt))) (words_with (codes "font") font_fields (number, (height, tt)) refl refl are) (lit< tt) refl font_is_asset (font_words d height are early)

bitmap_taken : (d : Draft) (width height : ℕ) → AreIn bitmap_fields (length d.said.assets.bitmaps, (width, (height, tt))) → length d.said.lines ≡ 0 → after_body d (bitmap_text (length d.said.assets.bitmaps) width height) ≡ Ok (opened d (kind.Bitmap (bitmaps.start width height)))
bitmap_taken d width height are early =
    let number : ℕ = length d.said.assets.bitmaps in
    asset_taken d (opened d (kind.Bitmap (bitmaps.start width height))) (bitmap_text number width height) (codes "bitmap") (texts_of bitmap_fields (number, (width, (height, tt)))) (words_with (codes "bitmap") bitmap_fields (number, (width, (height, tt))) refl refl are) (lit< tt) refl bitmap_is_asset (bitmap_words d width height are early)

text_taken : (d : Draft) (text : List ℕ) → length d.said.assets.strings ≤ 255 → IsText text → length d.said.lines ≡ 0 → after_body d (string_text (length d.said.assets.strings) text) ≡ Ok (record d { said = with_string d.said text })
text_taken d text few is early =
    let number : ℕ = length d.said.assets.strings in
    asset_taken d (record d { said = with_string d.said text }) (string_text number text) (codes "string") (decimal number ∷ words_of text) (string_words number text few) (lit< tt) refl string_is_asset (text_words d text few is early)

call_taken : (d : Draft) (l : Line) → LineFits l → may_do d.locks l ≡ true → count_alike l d.said.lines + 1 ≤ 400000 → after_body d (text_of_line l) ≡ Ok (with_call d l)
unfolding after_body
call_taken d l fits may few =
    let test : ltb (count_alike l d.said.lines) 400000 ≡ true = grind (arith, nat_tests) in
    ap (λ (o : Option Line). after_call d (text_of_line l) o) (line_spelled (text_of_line l) l refl fits) ∙ rw (may, test) refl

-- ---- the stage after what stands before

abbrev stage_of : ℕ → Stage
stage_of n = cond (eqb n 0) stage.Title (cond (eqb n 1) stage.Screen (cond (eqb n 2) stage.Buffers (cond (eqb n 3) stage.Desktop stage.Body)))

at_header : (n : ℕ) (s : Stage) (d : Draft) (b : Before) → Between (before_at n d) ≡ Between b → s ≡ stage_of n → (b ≡ before_at b.header d) × (s ≡ stage_of b.header)
at_header n s d b e is =
    let same : before_at n d ≡ b = cc in
    subst (λ (x : Before). (x ≡ before_at x.header d) × (s ≡ stage_of x.header)) same (refl, is)

at_place : (s : Stage) (d : Draft) (b : Before) → place_at s d ≡ Between b → (b ≡ before_at b.header d) × (s ≡ stage_of b.header)
at_place stage.Title d b e = at_header 0 stage.Title d b e refl
at_place stage.Screen d b e = at_header 1 stage.Screen d b e refl
at_place stage.Buffers d b e = at_header 2 stage.Buffers d b e refl
at_place stage.Desktop d b e = at_header 3 stage.Desktop d b e refl
at_place stage.Body d b e = at_header 4 stage.Body d b e refl
at_place (stage.Block (kind.Class class)) d b e = absurd cc
at_place (stage.Block (kind.Font font)) d b e = absurd cc
at_place (stage.Block (kind.Bitmap bitmap)) d b e = absurd cc

-- ---- items

-- a draft that has read lines and stands between items
abbrev Goes : Draft → List (List ℕ) → Before → Type 0
Goes d lines b = (e : Draft) × Reads d lines e × (place_of e ≡ Between b)

-- an item of one line
one_line : (s : Stage) (d e : Draft) (item : Item) (b : Before) (block : List (List ℕ)) (text : List ℕ) → Spells b item block → block ≡ text ∷ [] → ArePrintable block → d.stage ≡ s → after_words s d text ≡ Ok e → place_of e ≡ Between (after b item) → Goes d block (after b item)
one_line s d e item b block text spells is printable at taken now =
    let o = opens b item block spells in
    let same : o.line ∷ o.more ≡ text ∷ [] = sym o.is ∙ is in
    let line : o.line ≡ text = cc in
    let shown : is_comment text ≡ false = subst (λ (l : List ℕ). is_comment l ≡ false) line o.shown in
    let one = subst ArePrintable is printable in
    (e, ap (run after_line d) is ∙ then_on d e text [] (other_line s d e text one.0 shown at taken), now)

-- a draft after the header stands between items
body_place : (d : Draft) (n : ℕ) → d.stage ≡ stage.Body → n ≡ 4 → place_of d ≡ Between (before_at n d)
body_place d n body header = ap (λ (s : Stage). place_at s d) body ∙ ap (λ (k : ℕ). Between (before_at k d)) (sym header)

-- ---- a class's body

not_end : (line : List ℕ) → (line ≡ codes "end" → ⊥) → bytes_eq line (codes "end") ≡ false
not_end line none =
    elim (cases_Bool (bytes_eq line (codes "end"))) [
      | inl same ↦ absurd (none (named line (codes "end") same))
      | inr other ↦ other
    ]

class_line_taken : (d : Draft) (class : Class) (l : ClassLine) → ClassLineFits l → may_have d.said.assets class l ≡ true → after_block (kind.Class class) d (text_of_class_line l) ≡ Ok (opened d (kind.Class (class_with class l)))
unfolding block_after
class_line_taken d class l fits room =
    rw (not_end (text_of_class_line l) (no_end l fits), class_line_spelled (text_of_class_line l) l refl fits, room) refl

-- a line of a block that is no comment
block_line : (d e : Draft) (c : Block) (line : List ℕ) → is_printable line ≡ true → is_comment line ≡ false → after_block c d line ≡ Ok e → after_line (opened d c) line ≡ Ok e
block_line d e c line printable shown taken = other_line (stage.Block c) (opened d c) e line printable shown refl taken

body_goes : (lines : List ClassLine) (d : Draft) (class : Class) (body : List (List ℕ)) → AreItems (IsClassLine d.said.assets) class_with class lines body → ArePrintable body → Reads (opened d (kind.Class class)) body (opened d (kind.Class (all_after class_with class lines)))
body_goes [] d class body are printable = comments_read (opened d (kind.Class class)) body refl printable are
body_goes (l ∷ ls) d class body are printable =
    let text : List ℕ = text_of_class_line l in
    let now : Draft = opened d (kind.Class class) in
    let e : Draft = opened d (kind.Class (class_with class l)) in
    let all = subst ArePrintable are.3 printable in
    let comments = printable_parts are.0 (are.1 ++ are.2) all in
    let parts = printable_parts are.1 are.2 comments.1 in
    let shown : is_printable text ≡ true = (subst ArePrintable are.5.spelled parts.0).0 in
    let one : Reads now are.1 e = ap (run after_line now) are.5.spelled ∙ then_on now e text [] (block_line d e (kind.Class class) text shown (no_comment l are.5.fits) (class_line_taken d class l are.5.fits are.5.room)) in
    ap (run after_line now) are.3 ∙ run_on after_line now now are.0 (are.1 ++ are.2) (comments_read now are.0 refl comments.0 are.4) ∙ run_on after_line now e are.1 are.2 one ∙ body_goes ls d (class_with class l) are.2 are.6 parts.1

-- ---- the lines of a font or of a bitmap, which are read by a draft of its own

-- the draft with a block that goes on, or has ended
abbrev with_state : Draft → Bool → Block → Draft
with_state d whole c = cond whole (closed d c) (opened d c)

module _ {D W : Type 0} (step : D → List ℕ → Result D W) (next : D → List ℕ → Option D) (whole : D → Bool) (wrap : D → Block)
    (stepped : (x y : D) (line : List ℕ) → step x line ≡ Ok y → next x line ≡ Some y) (ends : (x y : D) (line : List ℕ) → whole x ≡ true → next x line ≡ Some y → ⊥)
    (taken : (d : Draft) (x y : D) (line : List ℕ) → is_printable line ≡ true → next x line ≡ Some y → after_line (opened d (wrap x)) line ≡ Ok (with_state d (whole y) (wrap y))) where
  same_draft : (x y : D) → ◌≡◌ {A = Result D W} (Ok x) (Ok y) → x ≡ y
  same_draft x y is = cc

  -- nothing is read after the last line
  at_its_end : (x y : D) (lines : List (List ℕ)) → run step x lines ≡ Ok y → whole x ≡ true → (lines ≡ []) × (x ≡ y)
  at_its_end x y [] read is = (refl, same_draft x y read)
  at_its_end x y (line ∷ lines) read is =
      let n = on_ok (step x line) (λ n. run step n lines) y read in
      absurd (ends x n.0 line is (stepped x n.0 line n.1))

  draft_goes : (lines : List (List ℕ)) (d : Draft) (x y : D) → run step x lines ≡ Ok y → whole x ≡ false → ArePrintable lines → Reads (opened d (wrap x)) lines (with_state d (whole y) (wrap y))
  draft_goes [] d x y read unfinished printable =
      let same : x ≡ y = same_draft x y read in
      subst (λ (z : D). Reads (opened d (wrap x)) [] (with_state d (whole z) (wrap z))) same (rw unfinished refl)
  draft_goes (line ∷ lines) d x y read unfinished printable =
      let n = on_ok (step x line) (λ n. run step n lines) y read in
      let one = taken d x n.0 line printable.0 (stepped x n.0 line n.1) in
      elim (cases_Bool (whole n.0)) [
        | inl ended ↦
            let at_end = at_its_end n.0 y lines n.2 ended in
            subst (λ (ls : List (List ℕ)). Reads (opened d (wrap x)) (line ∷ ls) (with_state d (whole y) (wrap y))) (sym at_end.0)
            (then_on (opened d (wrap x)) (with_state d (whole n.0) (wrap n.0)) line [] one ∙ ap (λ (z : D). fine (with_state d (whole z) (wrap z))) at_end.1)
        | inr goes_on ↦
            let same : with_state d (whole n.0) (wrap n.0) ≡ opened d (wrap n.0) = rw goes_on refl in
            then_on (opened d (wrap x)) (opened d (wrap n.0)) line lines (one ∙ ap fine same) ∙ draft_goes lines d n.0 y n.2 goes_on printable.1
      ]

-- no line is a comment there
drawn_line : (d e : Draft) (c : Block) (line : List ℕ) → is_printable line ≡ true → takes_comments (stage.Block c) ≡ false → after_block c d line ≡ Ok e → after_line (opened d c) line ≡ Ok e
unfolding after_line
drawn_line d e c line printable none taken =
    let other : (is_comment line && takes_comments (stage.Block c)) ≡ false = ap (λ (b : Bool). is_comment line && b) none ∙ and-false (is_comment line) in
    rw (printable, other) taken

font_stepped : (x y : fonts.Draft) (line : List ℕ) → fonts.line_step x line ≡ Ok y → fonts.after_line x line ≡ Some y
font_stepped x y line is = by_option (fonts.after_line x line) is where
  by_option : (o : Option fonts.Draft) → fonts.or_why x.place o ≡ Ok y → o ≡ Some y
  by_option None is = absurd cc
  by_option (Some z) is = cc

font_ends : (x y : fonts.Draft) (line : List ℕ) → fonts.is_whole x ≡ true → fonts.after_line x line ≡ Some y → ⊥
font_ends x y line whole is = font_laws.nothing_after x y line (font_laws.whole_after x whole) is

font_line : (d : Draft) (x y : fonts.Draft) (line : List ℕ) → fonts.after_line x line ≡ Some y → after_block (kind.Font x) d line ≡ Ok (with_state d (fonts.is_whole y) (kind.Font y))
unfolding block_after
font_line d x y line is = rw is refl

font_goes : (lines : List (List ℕ)) (d : Draft) (x y : fonts.Draft) → run fonts.line_step x lines ≡ Ok y → fonts.is_whole x ≡ false → ArePrintable lines → Reads (opened d (kind.Font x)) lines (with_state d (fonts.is_whole y) (kind.Font y))
font_goes lines d x y read unfinished printable =
    draft_goes fonts.line_step fonts.after_line fonts.is_whole (λ z. kind.Font z) font_stepped font_ends
    (λ d x y line printable is. drawn_line d (with_state d (fonts.is_whole y) (kind.Font y)) (kind.Font x) line printable refl (font_line d x y line is)) lines d x y read unfinished printable

bitmap_stepped : (x y : bitmaps.Draft) (line : List ℕ) → bitmaps.line_step x line ≡ Ok y → bitmaps.after_line x line ≡ Some y
bitmap_stepped x y line is = by_option (bitmaps.after_line x line) is where
  by_option : (o : Option bitmaps.Draft) → bitmaps.or_why (why_at x.height x.place) o ≡ Ok y → o ≡ Some y
  by_option None is = absurd cc
  by_option (Some z) is = cc

bitmap_ends : (x y : bitmaps.Draft) (line : List ℕ) → bitmaps.is_whole x ≡ true → bitmaps.after_line x line ≡ Some y → ⊥
bitmap_ends x y line whole is = bitmap_laws.nothing_after x y line (bitmap_laws.whole_place x whole) is

bitmap_line : (d : Draft) (x y : bitmaps.Draft) (line : List ℕ) → bitmaps.after_line x line ≡ Some y → after_block (kind.Bitmap x) d line ≡ Ok (with_state d (bitmaps.is_whole y) (kind.Bitmap y))
unfolding block_after
bitmap_line d x y line is = rw is refl

bitmap_goes : (lines : List (List ℕ)) (d : Draft) (x y : bitmaps.Draft) → run bitmaps.line_step x lines ≡ Ok y → bitmaps.is_whole x ≡ false → ArePrintable lines → Reads (opened d (kind.Bitmap x)) lines (with_state d (bitmaps.is_whole y) (kind.Bitmap y))
bitmap_goes lines d x y read unfinished printable =
    draft_goes bitmaps.line_step bitmaps.after_line bitmaps.is_whole (λ z. kind.Bitmap z) bitmap_stepped bitmap_ends
    (λ d x y line printable is. drawn_line d (with_state d (bitmaps.is_whole y) (kind.Bitmap y)) (kind.Bitmap x) line printable refl (bitmap_line d x y line is)) lines d x y read unfinished printable

-- ---- blocks from their first line on

first_then : (d e f : Draft) (first : List ℕ) (body : List (List ℕ)) → d.stage ≡ stage.Body → is_comment first ≡ false → is_printable first ≡ true → after_body d first ≡ Ok e → Reads e body f → Reads d (first ∷ body) f
first_then d e f first body at shown printable taken goes = then_on d e first body (other_line stage.Body d e first printable shown at taken) ∙ goes

first_shown : (name : List ℕ) (fs : List Field) (vs : Values fs) → 0 < length name → 35 < get_or name 0 0 → is_comment (text_with name fs vs) ≡ false
first_shown name fs vs some other = uncommented name (texts_of fs vs) some other

class_opens : (d : Draft) (back : Option ℕ) (lines : List ClassLine) (body : List (List ℕ)) → d.stage ≡ stage.Body → HeadFits (length d.said.assets.classes) back → length d.said.lines ≡ 0 → AreClassLines d.said.assets back lines body → ArePrintable (class_text (length d.said.assets.classes) back ∷ body)
    → Reads d (class_text (length d.said.assets.classes) back ∷ body) (opened d (kind.Class (class_of back lines)))
class_opens d back lines body at counted none are printable =
    let first : List ℕ = class_text (length d.said.assets.classes) back in
    let shown = uncommented (codes "class") (decimal (length d.said.assets.classes) ∷ text_of_back back ∷ []) (lit< tt) (lit< tt) in
    first_then d (opened d (kind.Class (plain_class back))) (opened d (kind.Class (class_of back lines))) first body at shown printable.0 (class_taken d back counted none) (body_goes lines d (plain_class back) body are printable.1)

font_opens : (d : Draft) (height : ℕ) (y : fonts.Draft) (body : List (List ℕ)) → d.stage ≡ stage.Body → AreIn font_fields (length d.said.assets.fonts, (height, tt)) → length d.said.lines ≡ 0 → run fonts.line_step (fonts.start height) body ≡ Ok y → ArePrintable (font_text (length d.said.assets.fonts) height ∷ body)
    → Reads d (font_text (length d.said.assets.fonts) height ∷ body) (with_state d (fonts.is_whole y) (kind.Font y))
font_opens d height y body at counted none read printable =
    let first : List ℕ = font_text (length d.said.assets.fonts) height in
    let shown = first_shown (codes "font") font_fields (length d.said.assets.fonts, (height, tt)) (lit< tt) (lit< tt) in
    first_then d (opened d (kind.Font (fonts.start height))) (with_state d (fonts.is_whole y) (kind.Font y)) first body at shown printable.0 (font_taken d height counted none) (font_goes body d (fonts.start height) y read refl printable.1)

bitmap_opens : (d : Draft) (width height : ℕ) (y : bitmaps.Draft) (body : List (List ℕ)) → d.stage ≡ stage.Body → AreIn bitmap_fields (length d.said.assets.bitmaps, (width, (height, tt))) → length d.said.lines ≡ 0 → run bitmaps.line_step (bitmaps.start width height) body ≡ Ok y → ArePrintable (bitmap_text (length d.said.assets.bitmaps) width height ∷ body)
    → Reads d (bitmap_text (length d.said.assets.bitmaps) width height ∷ body) (with_state d (bitmaps.is_whole y) (kind.Bitmap y))
bitmap_opens d width height y body at counted none read printable =
    let first : List ℕ = bitmap_text (length d.said.assets.bitmaps) width height in
    let shown = first_shown (codes "bitmap") bitmap_fields (length d.said.assets.bitmaps, (width, (height, tt))) (lit< tt) (lit< tt) in
    first_then d (opened d (kind.Bitmap (bitmaps.start width height))) (with_state d (bitmaps.is_whole y) (kind.Bitmap y)) first body at shown printable.0 (bitmap_taken d width height counted none) (bitmap_goes body d (bitmaps.start width height) y read refl printable.1)

-- ---- blocks to their last line

class_goes : (d : Draft) (back : Option ℕ) (lines : List ClassLine) (body part : List (List ℕ)) → d.stage ≡ stage.Body → HeadFits (length d.said.assets.classes) back → length d.said.lines ≡ 0 → AreClassLines d.said.assets back lines body → part ≡ class_text (length d.said.assets.classes) back ∷ body ++ codes "end" ∷ [] → ArePrintable part
    → Reads d part (closed d (kind.Class (class_of back lines)))
class_goes d back lines body part at counted none are is printable =
    let class : Class = class_of back lines in
    let prefix : List (List ℕ) = class_text (length d.said.assets.classes) back ∷ body in
    let last : Draft = opened d (kind.Class class) in
    let parts = printable_parts prefix (codes "end" ∷ []) (subst ArePrintable is printable) in
    ap (run after_line d) is ∙ run_on after_line d last prefix (codes "end" ∷ []) (class_opens d back lines body at counted none are parts.0)
    ∙ then_on last (closed d (kind.Class class)) (codes "end") [] (block_line d (closed d (kind.Class class)) (kind.Class class) (codes "end") parts.1.0 refl (end_taken d class))

font_reads : (d : Draft) (font : Font) (part : List (List ℕ)) → d.stage ≡ stage.Body → IsFontBlock (before_at 4 d) font part → ArePrintable part → Reads d part (record d { stage = stage.Body; said = with_font d.said font })
font_reads d font part at is printable =
    let r = font_laws.whole_read font.height font is.is refl in
    let whole : fonts.is_whole r.0 ≡ true = ap fonts.is_after r.2 in
    let read = font_opens d font.height r.0 (font_lines font) at is.counted is.early.none r.1 (subst ArePrintable is.spelled printable) in
    ap (run after_line d) is.spelled ∙ read ∙ ap (λ (b : Bool). fine (with_state d b (kind.Font r.0))) whole ∙ ap (λ (f : Font). fine (record d { stage = stage.Body; said = with_font d.said f })) r.3

bitmap_reads : (d : Draft) (bitmap : Bitmap) (part : List (List ℕ)) → d.stage ≡ stage.Body → IsBitmapBlock (before_at 4 d) bitmap part → ArePrintable part → Reads d part (record d { stage = stage.Body; said = with_bitmap d.said bitmap })
bitmap_reads d bitmap part at is printable =
    let r = bitmap_laws.whole_read bitmap.width bitmap.height is.body bitmap is.are in
    let whole : bitmaps.is_whole r.0 ≡ true = ap bitmaps.is_end r.2 in
    let read = bitmap_opens d bitmap.width bitmap.height r.0 is.body at is.counted is.early.none r.1 (subst ArePrintable is.spelled printable) in
    ap (run after_line d) is.spelled ∙ read ∙ ap (λ (b : Bool). fine (with_state d b (kind.Bitmap r.0))) whole ∙ ap (λ (m : Bitmap). fine (record d { stage = stage.Body; said = with_bitmap d.said m })) r.3

-- an item that stands after so many lines of the header
item_goes : (item : Item) (d : Draft) (n : ℕ) (block : List (List ℕ)) → d.stage ≡ stage_of n → Spells (before_at n d) item block → ArePrintable block → Goes d block (after (before_at n d) item)
item_goes Title d n block at spells printable =
    one_line stage.Title d (record d { stage = stage.Screen }) Title (before_at n d) block (codes "mtgui 1") spells spells.1 printable (at ∙ ap stage_of spells.0) (title_taken d) refl
item_goes (Screen w h) d n block at spells printable =
    one_line stage.Screen d (with_screen d w h) (Screen w h) (before_at n d) block (text_with (codes "screen") screen_fields (w, (h, tt))) spells spells.0.1 printable (at ∙ ap stage_of spells.0.0) (screen_taken d w h spells.1) refl
item_goes (Buffers count) d n block at spells printable =
    one_line stage.Buffers d (with_buffers d count) (Buffers count) (before_at n d) block (text_with (codes "buffers") buffers_fields (count, tt)) spells spells.0.1 printable (at ∙ ap stage_of spells.0.0) (buffers_taken d count spells.1) refl
item_goes (Desktop c) d n block at spells printable =
    one_line stage.Desktop d (with_colour d c) (Desktop c) (before_at n d) block (text_with (codes "desktop") desktop_fields (c, tt)) spells spells.0.1 printable (at ∙ ap stage_of spells.0.0) (desktop_taken d c spells.1) refl
item_goes (StringOf text) d n block at spells printable =
    let e : Draft = record d { said = with_string d.said text } in
    let body : d.stage ≡ stage.Body = at ∙ ap stage_of spells.early.header in
    one_line stage.Body d e (StringOf text) (before_at n d) block (string_text (length d.said.assets.strings) text) spells spells.spelled printable body (text_taken d text spells.counted spells.is spells.early.none) (body_place e n body spells.early.header)
item_goes (ClassOf back lines) d n block at spells printable =
    let body : d.stage ≡ stage.Body = at ∙ ap stage_of spells.early.header in
    let e : Draft = closed d (kind.Class (class_of back lines)) in
    (e, class_goes d back lines spells.body block body spells.counted spells.early.none spells.are spells.spelled printable, body_place e n refl spells.early.header)
item_goes (FontOf font) d n block at spells printable =
    let body : d.stage ≡ stage.Body = at ∙ ap stage_of spells.early.header in
    let e : Draft = record d { stage = stage.Body; said = with_font d.said font } in
    (e, font_reads d font block body (subst (λ (k : ℕ). IsFontBlock (before_at k d) font block) spells.early.header spells) printable, body_place e n refl spells.early.header)
item_goes (BitmapOf bitmap) d n block at spells printable =
    let body : d.stage ≡ stage.Body = at ∙ ap stage_of spells.early.header in
    let e : Draft = record d { stage = stage.Body; said = with_bitmap d.said bitmap } in
    (e, bitmap_reads d bitmap block body (subst (λ (k : ℕ). IsBitmapBlock (before_at k d) bitmap block) spells.early.header spells) printable, body_place e n refl spells.early.header)
item_goes (CallOf l) d n block at spells printable =
    let body : d.stage ≡ stage.Body = at ∙ ap stage_of spells.header in
    one_line stage.Body d (with_call d l) (CallOf l) (before_at n d) block (text_of_line l) spells spells.spelled printable body (call_taken d l spells.fits spells.may spells.few) (body_place (with_call d l) n body spells.header)

-- comments stand between items
between_takes : (s : Stage) (d : Draft) (b : Before) → place_at s d ≡ Between b → takes_comments s ≡ true
between_takes (stage.Block (kind.Class class)) d b place = absurd cc
between_takes (stage.Block (kind.Font font)) d b place = absurd cc
between_takes (stage.Block (kind.Bitmap bitmap)) d b place = absurd cc
between_takes stage.Title d b place = refl
between_takes stage.Screen d b place = refl
between_takes stage.Buffers d b place = refl
between_takes stage.Desktop d b place = refl
between_takes stage.Body d b place = refl

items_go : (items : List Item) (d : Draft) (b : Before) (lines : List (List ℕ)) → place_of d ≡ Between b → AreItems Spells after b items lines → ArePrintable lines → Goes d lines (all_after after b items)
items_go [] d b lines place are printable = (d, comments_read d lines (between_takes d.stage d b place) printable are, place)
items_go (item ∷ items) d b lines place are printable =
    let all = subst ArePrintable are.3 printable in
    let comments = printable_parts are.0 (are.1 ++ are.2) all in
    let parts = printable_parts are.1 are.2 comments.1 in
    let at = at_place d.stage d b place in
    let one = item_goes item d b.header are.1 at.1 (subst (λ (x : Before). Spells x item are.1) at.0 are.5) parts.0 in
    let now : place_of one.0 ≡ Between (after b item) = one.2 ∙ ap (λ (x : Before). Between (after x item)) (sym at.0) in
    let more = items_go items one.0 (after b item) are.2 now are.6 parts.1 in
    (more.0, ap (run after_line d) are.3 ∙ run_on after_line d d are.0 (are.1 ++ are.2) (comments_read d are.0 (between_takes d.stage d b place) comments.0 are.4) ∙ run_on after_line d one.0 are.1 are.2 one.1 ∙ more.1, more.2)

-- ---- prefixes

-- a draft that has read the lines and stands at the place
abbrev pub IsReadAs : List (List ℕ) → Place → Type 0
IsReadAs lines place = (d : Draft) × (run after_line empty_draft lines ≡ Ok d) × (place_of d ≡ place)

pub whole_read : (lines : List (List ℕ)) (items : List Item) → AreItems Spells after nothing items lines → ArePrintable lines → IsReadAs lines (Between (all_after after nothing items))
whole_read lines items are printable = items_go items empty_draft nothing lines refl are printable

font_unfinished : (y : fonts.Draft) → (y.place ≡ font_place.After → ⊥) → fonts.is_whole y ≡ false
font_unfinished y open_ =
    elim (cases_Bool (fonts.is_whole y)) [
      | inl whole ↦ absurd (open_ (font_laws.whole_after y whole))
      | inr other ↦ other
    ]

bitmap_unfinished : (y : bitmaps.Draft) → (y.place ≡ bitmap_place.AfterEnd → ⊥) → bitmaps.is_whole y ≡ false
bitmap_unfinished y open_ =
    elim (cases_Bool (bitmaps.is_whole y)) [
      | inl whole ↦ absurd (open_ (bitmap_laws.whole_place y whole))
      | inr other ↦ other
    ]

-- the first lines of a block are read, and lead to the place in it
abbrev IsReadTo : Draft → List (List ℕ) → Place → Type 0
IsReadTo d part place = (c : Block) × Reads d part (opened d c) × (place_at (stage.Block c) (opened d c) ≡ place)

class_read : (d : Draft) (part : List (List ℕ)) → d.stage ≡ stage.Body → length d.said.lines ≡ 0 → OpensClass (before_at 4 d) part → ArePrintable part → IsReadTo d part InClass
class_read d part at none class printable =
    (kind.Class (class_of class.back class.lines), ap (run after_line d) class.spelled ∙ class_opens d class.back class.lines class.body at class.counted none class.are (subst ArePrintable class.spelled printable), refl)

drawing_read : (d : Draft) (part : List (List ℕ)) → d.stage ≡ stage.Body → length d.said.lines ≡ 0 → OpensDrawing (before_at 4 d) part → ArePrintable part → IsReadTo d part InDrawing
drawing_read d part at none (inl font) printable =
    let reading = font_laws.reading font.height font.counted.1.0.0 font.counted.1.0.1 in
    let r = reading.complete font.body font.place font.are in
    let unfinished = font_unfinished r.0 (λ after. font.open_ (sym r.2 ∙ after)) in
    (kind.Font r.0, ap (run after_line d) font.spelled ∙ font_opens d font.height r.0 font.body at font.counted none r.1 (subst ArePrintable font.spelled printable) ∙ ap (λ (b : Bool). fine (with_state d b (kind.Font r.0))) unfinished, refl)
drawing_read d part at none (inr bitmap) printable =
    let reading = bitmap_laws.reading bitmap.width bitmap.height in
    let r = reading.complete bitmap.body bitmap.place bitmap.are in
    let unfinished = bitmap_unfinished r.0 (λ after. bitmap.open_ (sym r.2 ∙ after)) in
    (kind.Bitmap r.0, ap (run after_line d) bitmap.spelled ∙ bitmap_opens d bitmap.width bitmap.height r.0 bitmap.body at bitmap.counted none r.1 (subst ArePrintable bitmap.spelled printable) ∙ ap (λ (b : Bool). fine (with_state d b (kind.Bitmap r.0))) unfinished, refl)

open_read : (Opens : Before → List (List ℕ) → Type 0) (in_it : Place) → ((d : Draft) (part : List (List ℕ)) → d.stage ≡ stage.Body → length d.said.lines ≡ 0 → Opens (before_at 4 d) part → ArePrintable part → IsReadTo d part in_it)
    → (lines : List (List ℕ)) → AreOpen Opens lines → ArePrintable lines → IsReadAs lines in_it
open_read Opens in_it reads lines open_ printable =
    let b : Before = open_.before in
    let parts = printable_parts open_.prefix open_.block (subst ArePrintable open_.spelled printable) in
    let r = whole_read open_.prefix open_.whole.items open_.whole.spelled parts.0 in
    let d : Draft = r.0 in
    let place : place_of d ≡ Between b = r.2 ∙ ap Between open_.whole.before in
    let at = at_place d.stage d b place in
    let same : b ≡ before_at 4 d = at.0 ∙ ap (λ (n : ℕ). before_at n d) open_.early.header in
    let none : length d.said.lines ≡ 0 = subst (λ (x : Before). length x.said.lines ≡ 0) same open_.early.none in
    let goes = reads d open_.block (at.1 ∙ ap stage_of open_.early.header) none (subst (λ (x : Before). Opens x open_.block) same open_.opens) parts.1 in
    (opened d goes.0, ap (run after_line empty_draft) open_.spelled ∙ run_on after_line empty_draft d open_.prefix open_.block r.1 ∙ goes.1, goes.2)

pub prefix_reads : (lines : List (List ℕ)) (place : Place) → IsPrefix lines place → IsReadAs lines place
prefix_reads lines (Between b) prefix =
    let r = whole_read lines prefix.1.items prefix.1.spelled prefix.0 in
    (r.0, r.1, r.2 ∙ ap Between prefix.1.before)
prefix_reads lines InClass prefix = open_read OpensClass InClass class_read lines prefix.1 prefix.0
prefix_reads lines InDrawing prefix = open_read OpensDrawing InDrawing drawing_read lines prefix.1 prefix.0
