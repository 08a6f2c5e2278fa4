-- Why a draft doesn't take a line: the first reason that may be held against it.
use Rattle.std.proofs.Common.{◌≡◌, Result, ℕ, ◌<◌, ◌≤◌, Bool, true, false, cond, ◌&&◌, eqb, ltb, List, [], ◌∷◌, length, get_or, Option, Some, None, Ok, Err, refl, sym, ap, subst, ◌∙◌, inl, inr, arith, lit<}
use Rattle.std.specs.Prelude.{bytes_eq, codes}
use Rattle.std.specs.Fmt.{decimal}
use Rattle.std.proofs.lemmas.Bool.{cases_Bool}
use Rattle.std.proofs.lemmas.Bool.Decides.{nat_tests}
use Rattle.std.proofs.lemmas.Option.{none-some, same_Some}
use Rattle.spelling.specs.Parts.{is_printable}
use Rattle.spelling.specs.Words.{words_of, natural_in}
use Rattle.spelling.specs.Fields.{Values}
use Rattle.spelling.specs.Items.{is_comment}
use Rattle.spelling.proofs.CallerLemmas.{chosen, named, no_natural_in, natural_in_again, one_first}
use Rattle.calls.specs.declared.line.Line.{Line}
use Rattle.calls.specs.declared.line.Line.TheVariants.{Task, Tick}
use Rattle.calls.specs.Words.{line_of, line_words, LineFits}
use Rattle.calls.proofs.CallerLemmas.{line_words_whole, line_read, line_spelled}
use Rattle.glyph_font.specs.Reading as fonts
use Rattle.bitmap.specs.Reading as bitmaps
use Rattle.script.specs.declared.draft.Block.{Block}
use Rattle.script.specs.declared.draft.Block.TheVariants as block
use Rattle.script.specs.declared.draft.Stage.{Stage}
use Rattle.script.specs.declared.draft.Stage.TheVariants as stage
use Rattle.script.specs.declared.fault.Reason.{Reason}
use Rattle.script.specs.declared.fault.Reason.TheVariants as reason
use Rattle.script_lines.specs.Fields.{class_in, font_in, bitmap_in, string_in, screen_in, buffers_in, desktop_in}
use Rattle.script_lines.specs.Counts.{count_alike}
use Rattle.script.specs.Later.{is_one_of, begins_with_one_of, asset_words, later_words}
use Rattle.script.specs.Scripts.{Before, plain_class, with_string, may_do}
use Rattle.script_lines.specs.Texts.{font_fields, bitmap_fields}
use Rattle.script.specs.Faults.{Place, Between, is_later, is_later_form, IsCallLine, IsBarred, opens_asset, Holds, rank, Why, InClass, InDrawing}
use Rattle.script.specs.Reading.{Draft, after_value, after_title, after_screen, after_buffers, after_desktop, after_block, after_class, after_string, after_early, after_asset, after_other, after_call, after_body, after_words, after_line, with_screen, with_buffers, with_colour, after_font, after_bitmap, gone_on, block_after, takes_comments, opened, before_at, place_at, place_of, call_reason, closed, with_call, drawing_reason}
use Rattle.script.proofs.BlockLaws.{reason_in, block_reason}
use Rattle.script.proofs.DraftLaws.{at_odds, asset_word}

-- ---- forms that are built

not_named : (n : ℕ) (name : List ℕ) → 1 ≤ n → n ≤ 16 → 57 < get_or name 0 0 → bytes_eq name (decimal n) ≡ false
not_named n name some few first =
    elim (cases_Bool (bytes_eq name (decimal n))) [
      | inl same ↦ absurd (none-some n (sym (no_natural_in 1 16 name first) ∙ ap (natural_in 1 16) (named name (decimal n) same) ∙ natural_in_again 1 16 n some few (lit< tt)))
      | inr other ↦ other
    ]

task_is_built : (n : ℕ) → 1 ≤ n → n ≤ 16 → is_one_of later_words (decimal n) ≡ false
unfolding is_one_of later_words
task_is_built n some few = rw (not_named n (codes "viewer") some few (lit< tt), not_named n (codes "done") some few (lit< tt)) refl

task_is_no_asset : (task : ℕ) → 1 ≤ task → task ≤ 16 → is_one_of asset_words (decimal task) ≡ false
unfolding is_one_of asset_words
task_is_no_asset task some few = rw (not_named task (codes "string") some few (lit< tt), not_named task (codes "class") some few (lit< tt), not_named task (codes "font") some few (lit< tt), not_named task (codes "bitmap") some few (lit< tt)) refl

words_are_built : (l : Line) → LineFits l → begins_with_one_of later_words (line_words l) ≡ false
unfolding is_one_of later_words
words_are_built (Task task a) fits = task_is_built task fits.0 fits.1
words_are_built Tick fits = refl

words_open_no_asset : (l : Line) → LineFits l → begins_with_one_of asset_words (line_words l) ≡ false
unfolding is_one_of asset_words
words_open_no_asset (Task task a) fits = task_is_no_asset task fits.0 fits.1
words_open_no_asset Tick fits = refl

-- a call line is of a built form, and opens no asset
line_is_built : (text : List ℕ) (l : Line) → line_of (words_of text) ≡ Some l → is_later_form text ≡ false
line_is_built text l read =
    let t = line_read text l read in
    ap is_later_form t.0 ∙ ap (begins_with_one_of later_words) (line_words_whole l t.1) ∙ words_are_built l t.1

line_opens_no_asset : (text : List ℕ) (l : Line) → line_of (words_of text) ≡ Some l → opens_asset text ≡ false
line_opens_no_asset text l read =
    let t = line_read text l read in
    ap opens_asset t.0 ∙ ap (begins_with_one_of asset_words) (line_words_whole l t.1) ∙ words_open_no_asset l t.1

class_word_is_built : is_one_of later_words (codes "class") ≡ false
unfolding is_one_of later_words
class_word_is_built = refl

string_word_is_built : is_one_of later_words (codes "string") ≡ false
unfolding is_one_of later_words
string_word_is_built = refl

font_word_is_built : is_one_of later_words (codes "font") ≡ false
unfolding is_one_of later_words
font_word_is_built = refl

bitmap_word_is_built : is_one_of later_words (codes "bitmap") ≡ false
unfolding is_one_of later_words
bitmap_word_is_built = refl

-- an asset's word is of a built form
asset_built : (first : List ℕ) → is_one_of asset_words first ≡ true → is_one_of later_words first ≡ false
asset_built first asset =
    let as_word : (name : List ℕ) → name ≡ first → is_one_of later_words name ≡ false → is_one_of later_words first ≡ false = λ name same built. ap (is_one_of later_words) (sym same) ∙ built in
    elim (asset_word first asset) [
      | inl string ↦ as_word (codes "string") string string_word_is_built
      | inr (inl class) ↦ as_word (codes "class") class class_word_is_built
      | inr (inr (inl font)) ↦ as_word (codes "font") font font_word_is_built
      | inr (inr (inr bitmap)) ↦ as_word (codes "bitmap") bitmap bitmap_word_is_built
    ]

-- ---- the first reason at each place

ascii_first : (place : Place) (line : List ℕ) → is_printable line ≡ false → Why place line reason.Ascii
ascii_first (Between b) line bad = (bad, earlier) where
  earlier : (e : Reason) → rank e < 1 → Holds (Between b) line e → ⊥
  earlier reason.TooLarge less h = h
  earlier e less h = absurd (omega arith)
ascii_first InClass line bad = (bad, earlier) where
  earlier : (e : Reason) → rank e < 1 → Holds InClass line e → ⊥
  earlier reason.TooLarge less h = h
  earlier e less h = absurd (omega arith)
ascii_first InDrawing line bad = (bad, earlier) where
  earlier : (e : Reason) → rank e < 1 → Holds InDrawing line e → ⊥
  earlier reason.TooLarge less h = h
  earlier e less h = absurd (omega arith)

later_first : (place : Place) (line : List ℕ) → is_printable line ≡ true → is_later place line ≡ true → Why place line reason.Later
later_first (Between b) line printable later = (later, earlier) where
  earlier : (e : Reason) → rank e < 2 → Holds (Between b) line e → ⊥
  earlier reason.TooLarge less h = h
  earlier reason.Ascii less h = at_odds (is_printable line) printable h
  earlier e less h = absurd (omega arith)
later_first InClass line printable later = absurd (cc later)
later_first InDrawing line printable later = (later, earlier) where
  earlier : (e : Reason) → rank e < 2 → Holds InDrawing line e → ⊥
  earlier reason.TooLarge less h = h
  earlier reason.Ascii less h = at_odds (is_printable line) printable h
  earlier e less h = absurd (omega arith)

class_first : (line : List ℕ) → is_printable line ≡ true → Why InClass line reason.Block
class_first line printable = (tt, earlier) where
  earlier : (e : Reason) → rank e < 4 → Holds InClass line e → ⊥
  earlier reason.TooLarge less h = h
  earlier reason.Ascii less h = at_odds (is_printable line) printable h
  earlier reason.Later less h = absurd (cc h)
  earlier reason.Header less h = h
  earlier e less h = absurd (omega arith)

drawing_first : (line : List ℕ) → is_printable line ≡ true → is_later_form line ≡ false → Why InDrawing line reason.Block
drawing_first line printable built = (tt, earlier) where
  earlier : (e : Reason) → rank e < 4 → Holds InDrawing line e → ⊥
  earlier reason.TooLarge less h = h
  earlier reason.Ascii less h = at_odds (is_printable line) printable h
  earlier reason.Later less h = at_odds (is_later_form line) h built
  earlier reason.Header less h = h
  earlier e less h = absurd (omega arith)

header_first : (b : Before) (line : List ℕ) → is_printable line ≡ true → is_later (Between b) line ≡ false → b.header < 4 → Why (Between b) line reason.Header
header_first b line printable built header = (header, earlier) where
  earlier : (e : Reason) → rank e < 3 → Holds (Between b) line e → ⊥
  earlier reason.TooLarge less h = h
  earlier reason.Ascii less h = at_odds (is_printable line) printable h
  earlier reason.Later less h = at_odds (is_later (Between b) line) h built
  earlier e less h = absurd (omega arith)

-- after the header
module _ (b : Before) (line : List ℕ) (printable : is_printable line ≡ true) (built : is_later (Between b) line ≡ false) (header : b.header ≡ 4) where
  late_first : opens_asset line ≡ true → 0 < length b.said.lines → Why (Between b) line reason.Late
  late_first opens some = ((header, opens, some), earlier) where
    earlier : (e : Reason) → rank e < 5 → Holds (Between b) line e → ⊥
    earlier reason.TooLarge less h = h
    earlier reason.Ascii less h = at_odds (is_printable line) printable h
    earlier reason.Later less h = at_odds (is_later (Between b) line) h built
    earlier reason.Header less h = absurd (omega (arith, h, header))
    earlier reason.Block less h = h
    earlier e less h = absurd (omega arith)

  asset_first : opens_asset line ≡ true → length b.said.lines ≡ 0 → Why (Between b) line reason.Asset
  asset_first opens none = ((header, opens), earlier) where
    earlier : (e : Reason) → rank e < 6 → Holds (Between b) line e → ⊥
    earlier reason.TooLarge less h = h
    earlier reason.Ascii less h = at_odds (is_printable line) printable h
    earlier reason.Later less h = at_odds (is_later (Between b) line) h built
    earlier reason.Header less h = absurd (omega (arith, h, header))
    earlier reason.Block less h = h
    earlier reason.Late less h = absurd (omega (arith, h.2, none))
    earlier e less h = absurd (omega arith)

  call_first : opens_asset line ≡ false → (IsCallLine line → ⊥) → Why (Between b) line reason.Call
  call_first no_asset none = ((header, none), earlier) where
    earlier : (e : Reason) → rank e < 7 → Holds (Between b) line e → ⊥
    earlier reason.TooLarge less h = h
    earlier reason.Ascii less h = at_odds (is_printable line) printable h
    earlier reason.Later less h = at_odds (is_later (Between b) line) h built
    earlier reason.Header less h = absurd (omega (arith, h, header))
    earlier reason.Block less h = h
    earlier reason.Late less h = at_odds (opens_asset line) h.1 no_asset
    earlier reason.Asset less h = at_odds (opens_asset line) h.1 no_asset
    earlier e less h = absurd (omega arith)

  lock_first : opens_asset line ≡ false → IsCallLine line → IsBarred b.locks line → Why (Between b) line reason.Lock
  lock_first none is barred = ((header, barred), earlier) where
    earlier : (e : Reason) → rank e < 8 → Holds (Between b) line e → ⊥
    earlier reason.TooLarge less h = h
    earlier reason.Ascii less h = at_odds (is_printable line) printable h
    earlier reason.Later less h = at_odds (is_later (Between b) line) h built
    earlier reason.Header less h = absurd (omega (arith, h, header))
    earlier reason.Block less h = h
    earlier reason.Late less h = at_odds (opens_asset line) h.1 none
    earlier reason.Asset less h = at_odds (opens_asset line) h.1 none
    earlier reason.Call less h = h.1 is
    earlier e less h = absurd (omega arith)

  many_first : opens_asset line ≡ false → IsCallLine line → (IsBarred b.locks line → ⊥) → Why (Between b) line reason.Many
  many_first none is free = ((header, is), earlier) where
    earlier : (e : Reason) → rank e < 9 → Holds (Between b) line e → ⊥
    earlier reason.TooLarge less h = h
    earlier reason.Ascii less h = at_odds (is_printable line) printable h
    earlier reason.Later less h = at_odds (is_later (Between b) line) h built
    earlier reason.Header less h = absurd (omega (arith, h, header))
    earlier reason.Block less h = h
    earlier reason.Late less h = at_odds (opens_asset line) h.1 none
    earlier reason.Asset less h = at_odds (opens_asset line) h.1 none
    earlier reason.Call less h = h.1 is
    earlier reason.Lock less h = free h.1
    earlier e less h = absurd (omega arith)

-- ---- why a line isn't taken

refused : (b : Bool) (d : Draft) (why other : Reason) → cond b (Ok d) (Err why) ≡ Err other → (b ≡ false) × (why ≡ other)
refused true d why other is = absurd cc
refused false d why other is = (refl, cc)

valueless : {A : Type 0} (o : Option A) (why : Reason) (next : A → Draft) (other : Reason) → after_value o why next ≡ Err other → why ≡ other
valueless None why next other is = cc
valueless (Some x) why next other is = absurd cc

by_test : (place : Place) (line : List ℕ) (b : Bool) (x y : Reason) → (b ≡ true → Why place line x) → (b ≡ false → Why place line y) → Why place line (cond b x y)
by_test place line true x y is other = is refl
by_test place line false x y is other = other refl

drawing_why : (line : List ℕ) → is_printable line ≡ true → Why InDrawing line (drawing_reason line)
drawing_why line printable =
    by_test InDrawing line (is_later_form line) reason.Later reason.Block (λ later. later_first InDrawing line printable later) (λ built. drawing_first line printable built)

header_why : (b : Before) (line : List ℕ) → is_printable line ≡ true → b.header < 4 → Why (Between b) line reason.Header
header_why b line printable header =
    let early : eqb b.header 4 ≡ false = grind (arith, nat_tests) in
    header_first b line printable (rw early refl) header

title_why : (d : Draft) (line : List ℕ) (why : Reason) → is_printable line ≡ true → after_title d line ≡ Err why → Why (Between (before_at 0 d)) line why
unfolding after_title
title_why d line why printable is =
    subst (Why (Between (before_at 0 d)) line) (refused (bytes_eq line (codes "mtgui 1")) (record d { stage = stage.Screen }) reason.Header why is).1 (header_why (before_at 0 d) line printable (lit< tt))

screen_why : (d : Draft) (line : List ℕ) (why : Reason) → is_printable line ≡ true → after_screen d line ≡ Err why → Why (Between (before_at 1 d)) line why
unfolding after_screen
screen_why d line why printable is =
    subst (Why (Between (before_at 1 d)) line) (valueless (screen_in (words_of line)) reason.Header (λ sides. with_screen d sides.0 sides.1.0) why is) (header_why (before_at 1 d) line printable (lit< tt))

buffers_why : (d : Draft) (line : List ℕ) (why : Reason) → is_printable line ≡ true → after_buffers d line ≡ Err why → Why (Between (before_at 2 d)) line why
unfolding after_buffers
buffers_why d line why printable is =
    subst (Why (Between (before_at 2 d)) line) (valueless (buffers_in (words_of line)) reason.Header (λ number. with_buffers d number.0) why is) (header_why (before_at 2 d) line printable (lit< tt))

desktop_why : (d : Draft) (line : List ℕ) (why : Reason) → is_printable line ≡ true → after_desktop d line ≡ Err why → Why (Between (before_at 3 d)) line why
unfolding after_desktop
desktop_why d line why printable is =
    subst (Why (Between (before_at 3 d)) line) (valueless (desktop_in (words_of line)) reason.Header (λ colour. with_colour d colour.0) why is) (header_why (before_at 3 d) line printable (lit< tt))

gone_why : (d : Draft) (r : Result (Block × Bool) Reason) (why : Reason) → gone_on d r ≡ Err why → r ≡ Err why
gone_why d (Ok x) why is = absurd cc
gone_why d (Err other) why is = cc

reason_first : (c : Block) (d : Draft) (line : List ℕ) → is_printable line ≡ true → Why (place_at (stage.Block c) d) line (reason_in c line)
reason_first (block.Class class) d line printable = class_first line printable
reason_first (block.Font font) d line printable = drawing_why line printable
reason_first (block.Bitmap bitmap) d line printable = drawing_why line printable

block_why : (d : Draft) (c : Block) (line : List ℕ) (why : Reason) → is_printable line ≡ true → after_block c d line ≡ Err why → Why (place_at (stage.Block c) d) line why
block_why d c line why printable is =
    subst (Why (place_at (stage.Block c) d) line) (block_reason d.said.assets c line why (gone_why d (block_after d.said.assets c line) why is)) (reason_first c d line printable)

-- ---- and after the header

class_why : (d : Draft) (o : Option (ℕ × Option ℕ)) (why : Reason) → after_class d o ≡ Err why → reason.Asset ≡ why
class_why d None why is = cc
class_why d (Some x) why is = (refused (eqb x.0 (length d.said.assets.classes)) (opened d (block.Class (plain_class x.1))) reason.Asset why is).1

string_why : (d : Draft) (o : Option (ℕ × List ℕ)) (why : Reason) → after_string d o ≡ Err why → reason.Asset ≡ why
string_why d None why is = cc
string_why d (Some x) why is = (refused (eqb x.0 (length d.said.assets.strings)) (record d { said = with_string d.said x.1 }) reason.Asset why is).1

font_why : (d : Draft) (o : Option (Values font_fields)) (why : Reason) → after_font d o ≡ Err why → reason.Asset ≡ why
font_why d None why is = cc
font_why d (Some vs) why is = (refused (eqb vs.0 (length d.said.assets.fonts)) (opened d (block.Font (fonts.start vs.1.0))) reason.Asset why is).1

bitmap_why : (d : Draft) (o : Option (Values bitmap_fields)) (why : Reason) → after_bitmap d o ≡ Err why → reason.Asset ≡ why
bitmap_why d None why is = cc
bitmap_why d (Some vs) why is = (refused (eqb vs.0 (length d.said.assets.bitmaps)) (opened d (block.Bitmap (bitmaps.start vs.1.0 vs.1.1.0))) reason.Asset why is).1

early_why : (d : Draft) (first : List ℕ) (words : List (List ℕ)) (why : Reason) → after_early d first words ≡ Err why → reason.Asset ≡ why
early_why d first words why is =
    elim (chosen (bytes_eq first (codes "class")) (after_class d (class_in words)) _ (Err why) is) [
      | inl class ↦ class_why d (class_in words) why class.1
      | inr no_class ↦
          elim (chosen (bytes_eq first (codes "font")) (after_font d (font_in words)) _ (Err why) no_class.1) [
            | inl font ↦ font_why d (font_in words) why font.1
            | inr no_font ↦
                elim (chosen (bytes_eq first (codes "bitmap")) (after_bitmap d (bitmap_in words)) _ (Err why) no_font.1) [
                  | inl bitmap ↦ bitmap_why d (bitmap_in words) why bitmap.1
                  | inr string ↦ string_why d (string_in words) why string.1
                ]
          ]
    ]

asset_why : (d : Draft) (line first : List ℕ) (words : List (List ℕ)) (why : Reason) → is_printable line ≡ true → words_of line ≡ first ∷ words → is_one_of asset_words first ≡ true → after_asset d first words ≡ Err why → Why (Between (before_at 4 d)) line why
unfolding after_asset
asset_why d line first words why printable spelled asset is =
    let b : Before = before_at 4 d in
    let opens : opens_asset line ≡ true = ap (begins_with_one_of asset_words) spelled ∙ asset in
    let form : is_later (Between b) line ≡ false = ap (begins_with_one_of later_words) spelled ∙ asset_built first asset in
    elim (chosen (eqb (length d.said.lines) 0) (after_early d first words) (Err reason.Late) (Err why) is) [
      | inl early ↦ subst (Why (Between b) line) (early_why d first words why early.1) (asset_first b line printable form refl opens (grind (arith, nat_tests, early.0)))
      | inr late ↦
          let same : reason.Late ≡ why = cc (late.1) in
          subst (Why (Between b) line) same (late_first b line printable form refl opens (grind (arith, nat_tests, late.0)))
    ]

-- a line that is no call line, and opens no asset
no_call : (line : List ℕ) → line_of (words_of line) ≡ None → IsCallLine line → ⊥
no_call line none is = none-some is.0 (sym none ∙ line_spelled line is.0 is.2 is.1)

other_why : (d : Draft) (line : List ℕ) (words : List (List ℕ)) (why : Reason) → is_printable line ≡ true → line_of (words_of line) ≡ None → words_of line ≡ words → after_other d words ≡ Err why → Why (Between (before_at 4 d)) line why
other_why d line [] why printable none spelled is =
    let b : Before = before_at 4 d in
    let same : reason.Call ≡ why = cc in
    subst (Why (Between b) line) same (call_first b line printable (ap (begins_with_one_of later_words) spelled) refl (ap (begins_with_one_of asset_words) spelled) (no_call line none))
other_why d line (first ∷ words) why printable none spelled is =
    let b : Before = before_at 4 d in
    elim (chosen (is_one_of asset_words first) (after_asset d first words) (Err (call_reason first)) (Err why) is) [
      | inl asset ↦ asset_why d line first words why printable spelled asset.0 asset.1
      | inr closed ↦
          let same : call_reason first ≡ why = cc (closed.1) in
          let form : is_later (Between b) line ≡ is_one_of later_words first = ap (begins_with_one_of later_words) spelled in
          subst (Why (Between b) line) same
          (by_test (Between b) line (is_one_of later_words first) reason.Later reason.Call (λ later. later_first (Between b) line printable (form ∙ later)) (λ built. call_first b line printable (form ∙ built) refl (ap (begins_with_one_of asset_words) spelled ∙ closed.0) (no_call line none)))
    ]

-- the locks allow a line by what it says
not_barred : (locks text : List ℕ) (l : Line) → line_of (words_of text) ≡ Some l → may_do locks l ≡ true → IsBarred locks text → ⊥
not_barred locks text l read may barred =
    let same : barred.0 ≡ l = same_Some barred.0 l (sym (line_spelled text barred.0 barred.2 barred.1) ∙ read) in
    at_odds (may_do locks l) may (ap (may_do locks) (sym same) ∙ barred.3)

body_why : (d : Draft) (line : List ℕ) (o : Option Line) (why : Reason) → is_printable line ≡ true → line_of (words_of line) ≡ o → after_call d line o ≡ Err why → Why (Between (before_at 4 d)) line why
body_why d line None why printable read is = other_why d line (words_of line) why printable read refl is
body_why d line (Some l) why printable read is =
    let b : Before = before_at 4 d in
    let t = line_read line l read in
    let built = line_is_built line l read in
    let no_asset = line_opens_no_asset line l read in
    elim (chosen (may_do d.locks l) (cond (ltb (count_alike l d.said.lines) 400000) (Ok (with_call d l)) (Err reason.Many)) (Err reason.Lock) (Err why) is) [
      | inl may ↦
          subst (Why (Between b) line) (refused (ltb (count_alike l d.said.lines) 400000) (with_call d l) reason.Many why may.1).1
          (many_first b line printable built refl no_asset (l, t.1, t.0) (not_barred d.locks line l read may.0))
      | inr barred ↦
          let same : reason.Lock ≡ why = cc (barred.1) in
          subst (Why (Between b) line) same (lock_first b line printable built refl no_asset (l, t.1, t.0) (l, t.1, t.0, barred.0))
    ]

call_why : (d : Draft) (line : List ℕ) (why : Reason) → is_printable line ≡ true → after_body d line ≡ Err why → Why (Between (before_at 4 d)) line why
unfolding after_body
call_why d line why printable is = body_why d line (line_of (words_of line)) why printable refl is

words_why : (s : Stage) (d : Draft) (line : List ℕ) (why : Reason) → is_printable line ≡ true → after_words s d line ≡ Err why → Why (place_at s d) line why
words_why stage.Title d line why printable is = title_why d line why printable is
words_why stage.Screen d line why printable is = screen_why d line why printable is
words_why stage.Buffers d line why printable is = buffers_why d line why printable is
words_why stage.Desktop d line why printable is = desktop_why d line why printable is
words_why stage.Body d line why printable is = call_why d line why printable is
words_why (stage.Block c) d line why printable is = block_why d c line why printable is

pub line_why : (d : Draft) (line : List ℕ) (why : Reason) → after_line d line ≡ Err why → Why (place_of d) line why
unfolding after_line
line_why d line why is =
    elim (chosen (is_printable line) (cond (is_comment line && takes_comments d.stage) (Ok d) (after_words d.stage d line)) (Err reason.Ascii) (Err why) is) [
      | inl printable ↦
          elim (chosen (is_comment line && takes_comments d.stage) (Ok d) (after_words d.stage d line) (Err why) printable.1) [
            | inl skipped ↦ absurd (cc skipped.1)
            | inr words ↦ words_why d.stage d line why printable.0 words.1
          ]
      | inr bad ↦
          let same : reason.Ascii ≡ why = cc (bad.1) in
          subst (Why (place_of d) line) same (ascii_first (place_of d) line bad.0)
    ]

-- ---- one reason

-- the rank tells the reason
apart : (a b : Reason) → rank a ≡ rank b → a ≡ b
apart reason.TooLarge reason.TooLarge e = refl
apart reason.Ascii reason.Ascii e = refl
apart reason.Later reason.Later e = refl
apart reason.Header reason.Header e = refl
apart reason.Block reason.Block e = refl
apart reason.Late reason.Late e = refl
apart reason.Asset reason.Asset e = refl
apart reason.Call reason.Call e = refl
apart reason.Lock reason.Lock e = refl
apart reason.Many reason.Many e = refl
apart reason.End reason.End e = refl
apart a b e = absurd (omega arith)

pub one_reason : (place : Place) (line : List ℕ) (r s : Reason) → Why place line r → Why place line s → r ≡ s
one_reason place line r s is also = one_first rank (Holds place line) apart r s is also
