-- Items are apart: each begins with a line that is no comment, by which it is known, and ends where its lines say.
use Rattle.std.proofs.Common.{◌≡◌, ℕ, ◌<◌, ◌≤◌, true, false, List, [], ◌∷◌, ◌++◌, length, get_or, Option, None, refl, sym, ap, ◌∙◌, arith, lit<, append_assoc, subst}
use Rattle.std.specs.Prelude.{bytes_eq, codes, is_some, if◌then◌else◌}
use Rattle.std.specs.Fmt.{decimal}
use Rattle.std.proofs.lemmas.Bool.Decides.{nat_tests}
use Rattle.std.proofs.lemmas.Fmt.{decimal_is_IsNumeral}
use Rattle.std.proofs.lemmas.Option.{same_Some}
use Rattle.std.proofs.lemmas.Str.Parse.{digit_at}
use Rattle.spelling.specs.Parts.{lines_of}
use Rattle.spelling.specs.Words.{words_of, text_of_words, natural_in}
use Rattle.spelling.specs.Fields.{Field, Values, texts_of, AreIn, is_word, are_fields, text_with}
use Rattle.spelling.specs.Items.{is_comment}
use Rattle.spelling.proofs.CallerLemmas.{no_natural_in, natural_in_again, words_with, text_same, Without, same_block, AreApart, one_list}
use Rattle.glyph_font.specs.Fonts.{Font}
use Rattle.glyph_font.specs.Texts.{font_lines}
use Rattle.glyph_font.proofs.CallerLemmas as font_laws
use Rattle.bitmap.specs.Bitmaps.{Bitmap}
use Rattle.bitmap.specs.Texts.{AreLinesOf}
use Rattle.bitmap.proofs.CallerLemmas as bitmap_laws
use Rattle.paint_ops.specs.Kinds.{Assets}
use Rattle.class_lines.specs.declared.line.ClassLine.{ClassLine}
use Rattle.calls.specs.declared.line.Line.{Line}
use Rattle.calls.specs.declared.line.Line.TheVariants.{Task, Tick}
use Rattle.calls.specs.Words.{text_of_line, words_of_act, LineFits}
use Rattle.calls.proofs.CallerLemmas.{line_spelled, line_words_whole}
use Rattle.script_lines.specs.Texts.{screen_fields, buffers_fields, desktop_fields, class_text, string_text, font_fields, bitmap_fields, text_of_back}
use Rattle.script.specs.Scripts.{IsFontBlock, IsBitmapBlock, Item, Title, Screen, Buffers, Desktop, FontOf, BitmapOf, StringOf, ClassOf, CallOf, Before, nothing, after, IsStringBlock, AreClassLines, IsClassBlock, Spells, AreItemsOf, Script, script_for, listing_of, IsScript}
use Rattle.script_lines.proofs.CallerLemmas.{string_words, string_same, head_words, head_same}
use Rattle.script.proofs.BodyLaws.{one_line, one_body, without_end}

-- ---- one text has one meaning

line_same : (l m : Line) → LineFits l → LineFits m → text_of_line l ≡ text_of_line m → l ≡ m
line_same l m fits also e = same_Some l m (sym (line_spelled (text_of_line l) l refl fits) ∙ line_spelled (text_of_line l) m e also)

-- ---- first lines

-- the kind of item that a first word begins
abbrev tag_of_word : List ℕ → ℕ
tag_of_word w =
    if is_some (natural_in 1 16 w) then 5 else
    if bytes_eq w (codes "display") then 5 else
    if bytes_eq w (codes "mtgui") then 0 else
    if bytes_eq w (codes "screen") then 1 else
    if bytes_eq w (codes "buffers") then 2 else
    if bytes_eq w (codes "desktop") then 3 else
    if bytes_eq w (codes "string") then 6 else
    if bytes_eq w (codes "font") then 7 else
    if bytes_eq w (codes "bitmap") then 8 else 4

abbrev tag_of_words : List (List ℕ) → ℕ
tag_of_words [] = 9
tag_of_words (w ∷ ws) = tag_of_word w

abbrev tag : Item → ℕ
tag Title = 0
tag (Screen w h) = 1
tag (Buffers n) = 2
tag (Desktop colour) = 3
tag (ClassOf back lines) = 4
tag (CallOf l) = 5
tag (StringOf text) = 6
tag (FontOf font) = 7
tag (BitmapOf bitmap) = 8

-- the first line tells the kind
pub record Opens (item : Item) (block : List (List ℕ)) : Type 0 where
  pub line : List ℕ
  pub more : List (List ℕ)
  pub is : block ≡ line ∷ more
  pub known : tag_of_words (words_of line) ≡ tag item
  pub shown : is_comment line ≡ false

name_tag : (w : List ℕ) → 57 < get_or w 0 0 → natural_in 1 16 w ≡ None
name_tag w other = no_natural_in 1 16 w other

pub uncommented : (w : List ℕ) (ws : List (List ℕ)) → 0 < length w → 35 < get_or w 0 0 → is_comment (text_of_words (w ∷ ws)) ≡ false
uncommented [] ws some other = absurd (omega arith)
uncommented (b ∷ bs) [] some other = grind (arith, nat_tests)
uncommented (b ∷ bs) (x ∷ xs) some other = grind (arith, nat_tests)

opens_with : (item : Item) (block more : List (List ℕ)) (name : List ℕ) (fs : List Field) (vs : Values fs) → is_word name ≡ true → are_fields fs ≡ true → AreIn fs vs → 0 < length name → 57 < get_or name 0 0 → tag_of_word name ≡ tag item → block ≡ text_with name fs vs ∷ more → Opens item block
opens_with item block more name fs vs whole fields are some other known is =
    record { line = text_with name fs vs; more = more; is = is; known = ap tag_of_words (words_with name fs vs whole fields are) ∙ known; shown = uncommented name (texts_of fs vs) some (omega arith) }

opens_string : (b : Before) (text : List ℕ) (block : List (List ℕ)) → IsStringBlock b text block → Opens (StringOf text) block
opens_string b text block is =
    let number : ℕ = length b.said.assets.strings in
    let known : tag_of_word (codes "string") ≡ 6 = rw (name_tag (codes "string") (lit< tt)) refl in
    record { line = string_text number text; more = []; is = is.spelled; known = ap tag_of_words (string_words number text is.counted) ∙ known; shown = uncommented (codes "string") (decimal number ∷ text ∷ []) (lit< tt) (lit< tt) }

opens_class : (b : Before) (back : Option ℕ) (lines : List ClassLine) (block : List (List ℕ)) → IsClassBlock b back lines block → Opens (ClassOf back lines) block
opens_class b back lines block is =
    let number : ℕ = length b.said.assets.classes in
    let known : tag_of_word (codes "class") ≡ 4 = rw (name_tag (codes "class") (lit< tt)) refl in
    record { line = class_text number back; more = is.body ++ codes "end" ∷ []; is = is.spelled; known = ap tag_of_words (head_words number back is.counted) ∙ known; shown = uncommented (codes "class") (decimal number ∷ text_of_back back ∷ []) (lit< tt) (lit< tt) }

opens_call : (l : Line) (block : List (List ℕ)) → LineFits l → block ≡ text_of_line l ∷ [] → Opens (CallOf l) block
opens_call (Task task a) block fits is =
    let below : task ≤ 16 = fits.1 in
    let k = decimal_is_IsNumeral task (omega arith) in
    let d = digit_at (decimal task) 0 k.0.1 k.0.0 in
    let number = natural_in_again 1 16 task fits.0 fits.1 (lit< tt) in
    let known : tag_of_word (decimal task) ≡ 5 = rw number refl in
    record { line = text_of_line (Task task a); more = []; is = is; known = ap tag_of_words (line_words_whole (Task task a) fits) ∙ known; shown = uncommented (decimal task) (words_of_act a) (omega arith) (omega arith) }
opens_call Tick block fits is =
    let known : tag_of_word (codes "display") ≡ 5 = rw (name_tag (codes "display") (lit< tt)) refl in
    record { line = text_of_line Tick; more = []; is = is; known = ap tag_of_words (line_words_whole Tick fits) ∙ known; shown = refl }

pub opens : (b : Before) (item : Item) (block : List (List ℕ)) → Spells b item block → Opens item block
opens b Title block is = record { line = codes "mtgui 1"; more = []; is = is.1; known = rw (name_tag (codes "mtgui") (lit< tt)) refl; shown = refl }
opens b (Screen w h) block is = opens_with (Screen w h) block [] (codes "screen") screen_fields (w, (h, tt)) refl refl is.1 (lit< tt) (lit< tt) (rw (name_tag (codes "screen") (lit< tt)) refl) is.0.1
opens b (Buffers n) block is = opens_with (Buffers n) block [] (codes "buffers") buffers_fields (n, tt) refl refl is.1 (lit< tt) (lit< tt) (rw (name_tag (codes "buffers") (lit< tt)) refl) is.0.1
opens b (Desktop colour) block is = opens_with (Desktop colour) block [] (codes "desktop") desktop_fields (colour, tt) refl refl is.1 (lit< tt) (lit< tt) (rw (name_tag (codes "desktop") (lit< tt)) refl) is.0.1
opens b (StringOf text) block is = opens_string b text block is
opens b (ClassOf back lines) block is = opens_class b back lines block is
opens b (FontOf font) block is = opens_with (FontOf font) block (font_lines font) (codes "font") font_fields (length b.said.assets.fonts, (font.height, tt)) refl refl is.counted (lit< tt) (lit< tt) (rw (name_tag (codes "font") (lit< tt)) refl) is.spelled
opens b (BitmapOf bitmap) block is =
    opens_with (BitmapOf bitmap) block is.body (codes "bitmap") bitmap_fields (length b.said.assets.bitmaps, (bitmap.width, (bitmap.height, tt))) refl refl is.counted (lit< tt) (lit< tt) (rw (name_tag (codes "bitmap") (lit< tt)) refl) is.spelled
opens b (CallOf l) block is = opens_call l block is.fits is.spelled

-- ---- blocks

-- blocks to the line `end`
to_end : (xs bs ys cs body other : List (List ℕ)) (t u : List ℕ) → Without (codes "end") body → Without (codes "end") other → xs ≡ t ∷ body ++ codes "end" ∷ [] → bs ≡ u ∷ other ++ codes "end" ∷ [] → xs ++ ys ≡ bs ++ cs → (t ≡ u) × (body ≡ other) × (ys ≡ cs)
to_end xs bs ys cs body other t u clear also is are e =
    let same : t ∷ (body ++ codes "end" ∷ []) ++ ys ≡ u ∷ (other ++ codes "end" ∷ []) ++ cs = sym (ap (λ (ls : List (List ℕ)). ls ++ ys) is) ∙ e ∙ ap (λ (ls : List (List ℕ)). ls ++ cs) are in
    let first : t ≡ u = cc in
    let rest : (body ++ codes "end" ∷ []) ++ ys ≡ (other ++ codes "end" ∷ []) ++ cs = cc in
    let blocks = same_block (codes "end") body other ys cs clear also (sym (append_assoc body (codes "end" ∷ []) ys) ∙ rest ∙ append_assoc other (codes "end" ∷ []) cs) in
    (first, blocks.0, blocks.1)

classes_apart : (b : Before) (back other : Option ℕ) (ls ms : List ClassLine) (xs bs ys cs : List (List ℕ)) → IsClassBlock b back ls xs → IsClassBlock b other ms bs → xs ++ ys ≡ bs ++ cs → (ClassOf back ls ≡ ClassOf other ms) × (ys ≡ cs)
classes_apart b back other ls ms xs bs ys cs is also e =
    let number : ℕ = length b.said.assets.classes in
    let assets : Assets = b.said.assets in
    let parts = to_end xs bs ys cs is.body also.body (class_text number back) (class_text number other) (without_end assets back ls is.body is.are) (without_end assets other ms also.body also.are) is.spelled also.spelled e in
    let colour : back ≡ other = head_same number back other is.counted also.counted parts.0 in
    let there : AreClassLines assets back ms is.body = subst (AreClassLines assets back ms) (sym parts.1) (subst (λ (c : Option ℕ). AreClassLines assets c ms also.body) (sym colour) also.are) in
    let lines : ls ≡ ms = one_body assets back ls ms is.body is.are there in
    (ap (λ (c : Option ℕ). ClassOf c ls) colour ∙ ap (ClassOf other) lines, parts.2)

-- blocks that begin with the same line
heads_and_rest : (xs bs ys cs body other : List (List ℕ)) (t u : List ℕ) → xs ≡ t ∷ body → bs ≡ u ∷ other → xs ++ ys ≡ bs ++ cs → (t ≡ u) × (body ++ ys ≡ other ++ cs)
heads_and_rest xs bs ys cs body other t u is are e =
    let same : t ∷ body ++ ys ≡ u ∷ other ++ cs = sym (ap (λ (ls : List (List ℕ)). ls ++ ys) is) ∙ e ∙ ap (λ (ls : List (List ℕ)). ls ++ cs) are in
    (cc, cc)

fonts_apart : (b : Before) (font other : Font) (xs bs ys cs : List (List ℕ)) → IsFontBlock b font xs → IsFontBlock b other bs → xs ++ ys ≡ bs ++ cs → (FontOf font ≡ FontOf other) × (ys ≡ cs)
fonts_apart b font other xs bs ys cs is also e =
    let number : ℕ = length b.said.assets.fonts in
    let parts = heads_and_rest xs bs ys cs (font_lines font) (font_lines other) _ _ is.spelled also.spelled e in
    let head = text_same (codes "font") font_fields (number, (font.height, tt)) (number, (other.height, tt)) refl refl is.counted also.counted parts.0 in
    let height : font.height ≡ other.height = ap (λ (vs : Values font_fields). vs.1.0) head in
    let lines = font_laws.apart font.height font other ys cs is.is refl also.is (sym height) parts.1 in
    (ap FontOf lines.0, lines.1)

bitmaps_apart : (b : Before) (bitmap other : Bitmap) (xs bs ys cs : List (List ℕ)) → IsBitmapBlock b bitmap xs → IsBitmapBlock b other bs → xs ++ ys ≡ bs ++ cs → (BitmapOf bitmap ≡ BitmapOf other) × (ys ≡ cs)
bitmaps_apart b bitmap other xs bs ys cs is also e =
    let number : ℕ = length b.said.assets.bitmaps in
    let parts = heads_and_rest xs bs ys cs is.body also.body _ _ is.spelled also.spelled e in
    let head = text_same (codes "bitmap") bitmap_fields (number, (bitmap.width, (bitmap.height, tt))) (number, (other.width, (other.height, tt))) refl refl is.counted also.counted parts.0 in
    let width : other.width ≡ bitmap.width = sym (ap (λ (vs : Values bitmap_fields). vs.1.0) head) in
    let height : other.height ≡ bitmap.height = sym (ap (λ (vs : Values bitmap_fields). vs.1.1.0) head) in
    let are : AreLinesOf bitmap.width bitmap.height also.body other = subst (λ (h : ℕ). AreLinesOf bitmap.width h also.body other) height (subst (λ (w : ℕ). AreLinesOf w other.height also.body other) width also.are) in
    let lines = bitmap_laws.apart bitmap.width bitmap.height is.body ys also.body cs bitmap other is.are are parts.1 in
    (ap BitmapOf lines.0, lines.1)

screens_apart : (w h w' h' : ℕ) → AreIn screen_fields (w, (h, tt)) → AreIn screen_fields (w', (h', tt)) → text_with (codes "screen") screen_fields (w, (h, tt)) ≡ text_with (codes "screen") screen_fields (w', (h', tt)) → Screen w h ≡ Screen w' h'
screens_apart w h w' h' is also e = ap (λ (vs : Values screen_fields). Screen vs.0 vs.1.0) (text_same (codes "screen") screen_fields (w, (h, tt)) (w', (h', tt)) refl refl is also e)

buffers_apart : (n m : ℕ) → AreIn buffers_fields (n, tt) → AreIn buffers_fields (m, tt) → text_with (codes "buffers") buffers_fields (n, tt) ≡ text_with (codes "buffers") buffers_fields (m, tt) → Buffers n ≡ Buffers m
buffers_apart n m is also e = ap (λ (vs : Values buffers_fields). Buffers vs.0) (text_same (codes "buffers") buffers_fields (n, tt) (m, tt) refl refl is also e)

desktops_apart : (c d : ℕ) → AreIn desktop_fields (c, tt) → AreIn desktop_fields (d, tt) → text_with (codes "desktop") desktop_fields (c, tt) ≡ text_with (codes "desktop") desktop_fields (d, tt) → Desktop c ≡ Desktop d
desktops_apart c d is also e = ap (λ (vs : Values desktop_fields). Desktop vs.0) (text_same (codes "desktop") desktop_fields (c, tt) (d, tt) refl refl is also e)

-- ---- items of one kind

apart_by : (b : Before) (i j : Item) (xs bs ys cs : List (List ℕ)) → tag i ≡ tag j → Spells b i xs → Spells b j bs → xs ++ ys ≡ bs ++ cs → (i ≡ j) × (ys ≡ cs)
apart_by b Title Title xs bs ys cs kind is also e = (refl, (one_line xs bs ys cs _ _ is.1 also.1 e).1)
apart_by b (Screen w h) (Screen w' h') xs bs ys cs kind is also e =
    let parts = one_line xs bs ys cs _ _ is.0.1 also.0.1 e in
    (screens_apart w h w' h' is.1 also.1 parts.0, parts.1)
apart_by b (Buffers n) (Buffers m) xs bs ys cs kind is also e =
    let parts = one_line xs bs ys cs _ _ is.0.1 also.0.1 e in
    (buffers_apart n m is.1 also.1 parts.0, parts.1)
apart_by b (Desktop c) (Desktop d) xs bs ys cs kind is also e =
    let parts = one_line xs bs ys cs _ _ is.0.1 also.0.1 e in
    (desktops_apart c d is.1 also.1 parts.0, parts.1)
apart_by b (StringOf text) (StringOf other) xs bs ys cs kind is also e =
    let parts = one_line xs bs ys cs _ _ is.spelled also.spelled e in
    (ap StringOf (string_same (length b.said.assets.strings) text other is.counted is.is also.is parts.0), parts.1)
apart_by b (ClassOf back ls) (ClassOf other ms) xs bs ys cs kind is also e = classes_apart b back other ls ms xs bs ys cs is also e
apart_by b (FontOf font) (FontOf other) xs bs ys cs kind is also e = fonts_apart b font other xs bs ys cs is also e
apart_by b (BitmapOf bitmap) (BitmapOf other) xs bs ys cs kind is also e = bitmaps_apart b bitmap other xs bs ys cs is also e
apart_by b (CallOf l) (CallOf m) xs bs ys cs kind is also e =
    let parts = one_line xs bs ys cs _ _ is.spelled also.spelled e in
    (ap CallOf (line_same l m is.fits also.fits parts.0), parts.1)
apart_by b i j xs bs ys cs kind is also e = absurd (omega arith)

same_tag : (b : Before) (i j : Item) (xs bs ys cs : List (List ℕ)) → Spells b i xs → Spells b j bs → xs ++ ys ≡ bs ++ cs → tag i ≡ tag j
same_tag b i j xs bs ys cs is also e =
    let o = opens b i xs is in
    let p = opens b j bs also in
    let lines : o.line ∷ o.more ++ ys ≡ p.line ∷ p.more ++ cs = sym (ap (λ (ls : List (List ℕ)). ls ++ ys) o.is) ∙ e ∙ ap (λ (ls : List (List ℕ)). ls ++ cs) p.is in
    let line : o.line ≡ p.line = cc in
    sym o.known ∙ ap (λ (l : List ℕ). tag_of_words (words_of l)) line ∙ p.known

items_apart : AreApart Spells
items_apart = record {
  begins = λ b item block is. let o = opens b item block is in (o.line, o.more, o.is, o.shown);
  apart = λ b i j xs bs ys cs is also e. apart_by b i j xs bs ys cs (same_tag b i j xs bs ys cs is also e) is also e;
}

pub one_items : (lines : List (List ℕ)) (is js : List Item) → AreItemsOf is lines → AreItemsOf js lines → is ≡ js
one_items lines is js a b = one_list Spells after items_apart nothing is js lines a b

pub one_script : (file : List ℕ) (s t : Script) → IsScript file s → IsScript file t → s ≡ t
one_script file s t a b = a.is ∙ ap (λ (items : List Item). script_for (listing_of items)) (one_items (lines_of file) a.items b.items a.spelled b.spelled) ∙ sym b.is
