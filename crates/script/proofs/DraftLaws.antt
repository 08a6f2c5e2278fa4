-- What a draft says of the lines that were read: they are the first ones of a script.
use Rattle.std.proofs.Common.{◌≡◌, ◌⊎◌, ℕ, ◌<◌, ◌≤◌, Bool, true, false, cond, eqb, ltb, ◌&&◌, List, [], ◌∷◌, ◌++◌, length, Option, Some, None, Result, Ok, Err, refl, sym, ap, subst, ◌∙◌, inl, inr, arith, append_assoc}
use Rattle.std.specs.Prelude.{bytes_eq, codes}
use Rattle.std.specs.List.{AllByRecursion}
use Rattle.std.proofs.lemmas.Bool.{cases_Bool, and_parts, ltb-true}
use Rattle.std.proofs.lemmas.Bool.Decides.{nat_tests}
use Rattle.std.proofs.lemmas.List.{append-nil}
use Rattle.spelling.specs.Parts.{is_printable}
use Rattle.spelling.specs.Words.{words_of}
use Rattle.spelling.specs.Fields.{Values, texts_of, AreIn}
use Rattle.spelling.specs.Items.{is_comment}
use Rattle.spelling.specs.LineReading.{run}
use Rattle.spelling.proofs.CallerLemmas.{chosen, named, same_name, line_from_words, values_take, line_values_take, items_comment, items_more, all_after_more, on_ok}
use Rattle.paint_ops.specs.Kinds.{Class}
use Rattle.calls.specs.declared.line.Line.{Line}
use Rattle.calls.specs.Words.{line_of}
use Rattle.calls.proofs.CallerLemmas.{line_read}
use Rattle.script.specs.declared.draft.Block.{Block}
use Rattle.script.specs.declared.draft.Block.TheVariants as block
use Rattle.script.specs.declared.draft.Stage.{Stage}
use Rattle.script.specs.declared.draft.Stage.TheVariants as stage
use Rattle.script.specs.declared.fault.Reason.{Reason}
use Rattle.script.specs.declared.fault.Reason.TheVariants as reason
use Rattle.script_lines.specs.Fields.{screen_in, buffers_in, desktop_in, class_in, string_in, font_in, bitmap_in}
use Rattle.script.specs.Later.{is_one_of, asset_words}
use Rattle.script_lines.specs.Counts.{count_alike}
use Rattle.script_lines.specs.Texts.{screen_fields, buffers_fields, desktop_fields, class_text, string_text, font_fields, font_text, bitmap_fields, bitmap_text, HeadFits}
use Rattle.script.specs.Scripts.{with_string, Item, Title, Screen, Buffers, Desktop, StringOf, CallOf, Before, nothing, after, Spells, plain_class, may_do}
use Rattle.script.specs.Faults.{IsPrefix, StandsAt, AreWhole, AreOpen, OpensClass, OpensDrawing}
use Rattle.script.specs.Reading.{Draft, after_value, after_title, after_screen, after_buffers, after_desktop, after_block, after_class, after_string, after_early, after_asset, after_other, after_call, after_body, after_words, after_line, with_screen, with_buffers, with_colour, opened, before_at, place_at, place_of, call_reason, empty_draft, gone_on, block_after, closed, after_font, after_bitmap, takes_comments, IsBlock, IsStage, IsDraft, with_call, after_call_line}
use Rattle.glyph_font.specs.Reading as fonts
use Rattle.bitmap.specs.Reading as bitmaps
use Rattle.glyph_font.proofs.CallerLemmas as font_laws
use Rattle.bitmap.proofs.CallerLemmas as bitmap_laws
use Rattle.script_lines.proofs.CallerLemmas.{string_taken, head_taken}
use Rattle.script.proofs.BlockLaws.{block_kept, Says, class_opens, font_opens, bitmap_opens, says_more, says_whole, class_comment}

-- ---- where a draft stands

-- the lines are items, which say what the draft says
abbrev pub HasItems : ℕ → Draft → List (List ℕ) → Type 0
HasItems header d lines = AreWhole lines (before_at header d)

-- the lines are items, and the lines of an open block
pub record HasBlock (d : Draft) (c : Block) (lines : List (List ℕ)) : Type 0 where
  pub prefix : List (List ℕ)
  pub has : HasItems 4 d prefix
  pub none : length d.said.lines ≡ 0
  pub part : List (List ℕ)
  pub says : Says (before_at 4 d) c part
  pub parts : lines ≡ prefix ++ part

abbrev pub StandsIn : Stage → Draft → List (List ℕ) → Type 0
StandsIn stage.Title d lines = HasItems 0 d lines
StandsIn stage.Screen d lines = HasItems 1 d lines
StandsIn stage.Buffers d lines = HasItems 2 d lines
StandsIn stage.Desktop d lines = HasItems 3 d lines
StandsIn stage.Body d lines = HasItems 4 d lines
StandsIn (stage.Block c) d lines = HasBlock d c lines

abbrev pub Stands : Draft → List (List ℕ) → Type 0
Stands d lines = StandsIn d.stage d lines

start_stands : Stands empty_draft []
start_stands = record { items = []; spelled = tt; before = refl }

-- ---- one item more

push : (header next : ℕ) (d e : Draft) (lines block : List (List ℕ)) (item : Item) → HasItems header d lines → Spells (before_at header d) item block → after (before_at header d) item ≡ before_at next e → HasItems next e (lines ++ block)
push header next d e lines block item has spells now = record {
  items = has.items ++ item ∷ [];
  spelled = items_more Spells after nothing has.items item lines block has.spelled (subst (λ (b : Before). Spells b item block) (sym has.before) spells);
  before = all_after_more after nothing has.items item ∙ ap (λ (b : Before). after b item) has.before ∙ now;
}

with_comment : (header : ℕ) (d : Draft) (lines : List (List ℕ)) (line : List ℕ) → HasItems header d lines → is_comment line ≡ true → HasItems header d (lines ++ line ∷ [])
with_comment header d lines line has is = record { items = has.items; spelled = items_comment Spells after nothing has.items lines line has.spelled is; before = has.before }

class_comment_stands : (d : Draft) (class : Class) (lines : List (List ℕ)) (line : List ℕ) → HasBlock d (block.Class class) lines → is_comment line ≡ true → HasBlock d (block.Class class) (lines ++ line ∷ [])
class_comment_stands d class lines line has is = record {
  prefix = has.prefix;
  has = has.has;
  none = has.none;
  part = has.part ++ line ∷ [];
  says = class_comment (before_at 4 d) class has.part line has.says is;
  parts = ap (λ (ls : List (List ℕ)). ls ++ line ∷ []) has.parts ∙ append_assoc has.prefix has.part (line ∷ []);
}

comment_stands : (s : Stage) (d : Draft) (lines : List (List ℕ)) (line : List ℕ) → StandsIn s d lines → is_comment line ≡ true → takes_comments s ≡ true → StandsIn s d (lines ++ line ∷ [])
comment_stands stage.Title d lines line has is takes = with_comment 0 d lines line has is
comment_stands stage.Screen d lines line has is takes = with_comment 1 d lines line has is
comment_stands stage.Buffers d lines line has is takes = with_comment 2 d lines line has is
comment_stands stage.Desktop d lines line has is takes = with_comment 3 d lines line has is
comment_stands stage.Body d lines line has is takes = with_comment 4 d lines line has is
comment_stands (stage.Block (block.Class class)) d lines line has is takes = class_comment_stands d class lines line has is
comment_stands (stage.Block (block.Font font)) d lines line has is takes = absurd (cc takes)
comment_stands (stage.Block (block.Bitmap bitmap)) d lines line has is takes = absurd (cc takes)

-- ---- lines by their stage

abbrev Next : Draft → List (List ℕ) → List ℕ → Type 0
Next e lines line = Stands e (lines ++ line ∷ [])

-- what a test lets through
passed : (b : Bool) (d e : Draft) (why : Reason) → cond b (Ok d) (Err why) ≡ Ok e → (b ≡ true) × (d ≡ e)
passed true d e why is = (refl, cc)
passed false d e why is = absurd cc

-- what a value lets through
valued : {A : Type 0} (o : Option A) (why : Reason) (next : A → Draft) (e : Draft) → after_value o why next ≡ Ok e → (x : A) × (o ≡ Some x) × (next x ≡ e)
valued None why next e is = absurd cc
valued (Some x) why next e is = (x, refl, cc)

title_stands : (d e : Draft) (lines : List (List ℕ)) (line : List ℕ) → HasItems 0 d lines → after_title d line ≡ Ok e → Next e lines line
unfolding after_title
title_stands d e lines line has is =
    let p = passed (bytes_eq line (codes "mtgui 1")) (record d { stage = stage.Screen }) e reason.Header is in
    subst (λ (x : Draft). Next x lines line) p.1 (push 0 1 d (record d { stage = stage.Screen }) lines (line ∷ []) Title has (refl, ap (λ (l : List ℕ). l ∷ []) (named line (codes "mtgui 1") p.0)) refl)

screen_stands : (d e : Draft) (lines : List (List ℕ)) (line : List ℕ) → HasItems 1 d lines → after_screen d line ≡ Ok e → Next e lines line
unfolding after_screen screen_in
screen_stands d e lines line has is =
    let v = valued (screen_in (words_of line)) reason.Header (λ sides. with_screen d sides.0 sides.1.0) e is in
    let t = line_values_take (codes "screen") screen_fields line v.0 v.1 in
    subst (λ (x : Draft). Next x lines line) v.2 (push 1 2 d (with_screen d v.0.0 v.0.1.0) lines (line ∷ []) (Screen v.0.0 v.0.1.0) has ((refl, ap (λ (l : List ℕ). l ∷ []) t.0), t.1) refl)

buffers_stands : (d e : Draft) (lines : List (List ℕ)) (line : List ℕ) → HasItems 2 d lines → after_buffers d line ≡ Ok e → Next e lines line
unfolding after_buffers buffers_in
buffers_stands d e lines line has is =
    let v = valued (buffers_in (words_of line)) reason.Header (λ number. with_buffers d number.0) e is in
    let t = line_values_take (codes "buffers") buffers_fields line v.0 v.1 in
    subst (λ (x : Draft). Next x lines line) v.2 (push 2 3 d (with_buffers d v.0.0) lines (line ∷ []) (Buffers v.0.0) has ((refl, ap (λ (l : List ℕ). l ∷ []) t.0), t.1) refl)

desktop_stands : (d e : Draft) (lines : List (List ℕ)) (line : List ℕ) → HasItems 3 d lines → after_desktop d line ≡ Ok e → Next e lines line
unfolding after_desktop desktop_in
desktop_stands d e lines line has is =
    let v = valued (desktop_in (words_of line)) reason.Header (λ colour. with_colour d colour.0) e is in
    let t = line_values_take (codes "desktop") desktop_fields line v.0 v.1 in
    subst (λ (x : Draft). Next x lines line) v.2 (push 3 4 d (with_colour d v.0.0) lines (line ∷ []) (Desktop v.0.0) has ((refl, ap (λ (l : List ℕ). l ∷ []) t.0), t.1) refl)

-- a line of a block
gone : (d e : Draft) (r : Result (Block × Bool) Reason) → gone_on d r ≡ Ok e → (x : Block × Bool) × (r ≡ Ok x) × (cond x.1 (closed d x.0) (opened d x.0) ≡ e)
gone d e (Ok x) is = (x, refl, cc)
gone d e (Err why) is = absurd cc

block_ends : (d e : Draft) (c next : Block) (lines : List (List ℕ)) (line : List ℕ) → HasBlock d c lines → block_after d.said.assets c line ≡ Ok (next, true) → closed d next ≡ e → Next e lines line
block_ends d e c next lines line has is same =
    let b : Before = before_at 4 d in
    let whole = says_whole b c next has.part line (record { header = refl; none = has.none }) has.says is in
    let all : has.prefix ++ (has.part ++ line ∷ []) ≡ lines ++ line ∷ [] = sym (append_assoc has.prefix has.part (line ∷ [])) ∙ ap (λ (ls : List (List ℕ)). ls ++ line ∷ []) (sym has.parts) in
    subst (λ (x : Draft). Next x lines line) same (subst (HasItems 4 (closed d next)) all (push 4 4 d (closed d next) has.prefix (has.part ++ line ∷ []) whole.0 has.has whole.1 whole.2))

block_goes_on : (d e : Draft) (c next : Block) (lines : List (List ℕ)) (line : List ℕ) → HasBlock d c lines → block_after d.said.assets c line ≡ Ok (next, false) → opened d next ≡ e → Next e lines line
block_goes_on d e c next lines line has is same =
    let more : HasBlock (opened d next) next (lines ++ line ∷ []) = record {
      prefix = has.prefix;
      has = has.has;
      none = has.none;
      part = has.part ++ line ∷ [];
      says = says_more (before_at 4 d) c next has.part line has.says is;
      parts = ap (λ (ls : List (List ℕ)). ls ++ line ∷ []) has.parts ∙ append_assoc has.prefix has.part (line ∷ []);
    } in
    subst (λ (x : Draft). Next x lines line) same more

block_by : (d e : Draft) (c next : Block) (whole : Bool) (lines : List (List ℕ)) (line : List ℕ) → HasBlock d c lines → block_after d.said.assets c line ≡ Ok (next, whole) → cond whole (closed d next) (opened d next) ≡ e → Next e lines line
block_by d e c next true lines line has is same = block_ends d e c next lines line has is same
block_by d e c next false lines line has is same = block_goes_on d e c next lines line has is same

block_stands : (d e : Draft) (c : Block) (lines : List (List ℕ)) (line : List ℕ) → HasBlock d c lines → after_block c d line ≡ Ok e → Next e lines line
block_stands d e c lines line has is =
    let g = gone d e (block_after d.said.assets c line) is in
    block_by d e c g.0.0 g.0.1 lines line has g.1 g.2

-- a line after which the draft stands between items again
stands_in_body : (d e : Draft) (said : List (List ℕ)) → d.stage ≡ stage.Body → HasItems 4 e said → e.stage ≡ d.stage → Stands e said
stands_in_body d e said body has same = subst (λ (s : Stage). StandsIn s e said) (sym (same ∙ body)) has

-- a call line
call_line_passed : (d e : Draft) (l : Line) → after_call_line d l ≡ Ok e → (may_do d.locks l ≡ true) × (count_alike l d.said.lines < 400000) × (with_call d l ≡ e)
call_line_passed d e l is =
    elim (chosen (may_do d.locks l) (cond (ltb (count_alike l d.said.lines) 400000) (Ok (with_call d l)) (Err reason.Many)) (Err reason.Lock) (Ok e) is) [
      | inl may ↦ let p = passed (ltb (count_alike l d.said.lines) 400000) (with_call d l) e reason.Many may.1 in (may.0, ltb-true _ _ p.0, p.1)
      | inr barred ↦ absurd (cc (barred.1))
    ]

call_stands : (d e : Draft) (lines : List (List ℕ)) (line : List ℕ) (l : Line) → d.stage ≡ stage.Body → HasItems 4 d lines → line_of (words_of line) ≡ Some l → after_call_line d l ≡ Ok e → Next e lines line
call_stands d e lines line l body has read is =
    let p = call_line_passed d e l is in
    let few = p.1 in
    let t = line_read line l read in
    subst (λ (x : Draft). Next x lines line) p.2 (stands_in_body d (with_call d l) (lines ++ line ∷ []) body
    (push 4 4 d (with_call d l) lines (line ∷ []) (CallOf l) has (record { header = refl; may = p.0; few = omega arith; fits = t.1; spelled = ap (λ (x : List ℕ). x ∷ []) t.0 }) refl) refl)

-- the first line of a block
opens_block : (d : Draft) (lines : List (List ℕ)) (first : List ℕ) (c : Block) → HasItems 4 d lines → length d.said.lines ≡ 0 → Says (before_at 4 d) c (first ∷ []) → HasBlock (opened d c) c (lines ++ first ∷ [])
opens_block d lines first c has none says = record { prefix = lines; has = has; none = none; part = first ∷ []; says = says; parts = refl }

class_stands : (d e : Draft) (lines : List (List ℕ)) (line : List ℕ) (words : List (List ℕ)) (o : Option (ℕ × Option ℕ)) → HasItems 4 d lines → length d.said.lines ≡ 0 → words_of line ≡ codes "class" ∷ words → class_in words ≡ o → after_class d o ≡ Ok e → Next e lines line
class_stands d e lines line words None has none spelled read is = absurd cc
class_stands d e lines line words (Some x) has none spelled read is =
    let class : Block = block.Class (plain_class x.1) in
    let p = passed (eqb x.0 (length d.said.assets.classes)) (opened d class) e reason.Asset is in
    let number : x.0 ≡ length d.said.assets.classes = grind (arith, nat_tests, p.0) in
    let t = head_taken line words x spelled read in
    subst (λ (x : Draft). Next x lines line) p.1 (opens_block d lines line class has none (record {
      back = x.1;
      counted = subst (λ (n : ℕ). HeadFits n x.1) number t.1;
      lines = [];
      is = refl;
      body = [];
      are = tt;
      spelled = ap (λ (l : List ℕ). l ∷ []) (t.0 ∙ ap (λ (n : ℕ). class_text n x.1) number);
    }))

font_stands : (d e : Draft) (lines : List (List ℕ)) (line : List ℕ) (words : List (List ℕ)) (o : Option (Values font_fields)) → HasItems 4 d lines → length d.said.lines ≡ 0 → words_of line ≡ codes "font" ∷ words → font_in words ≡ o → after_font d o ≡ Ok e → Next e lines line
unfolding font_in
font_stands d e lines line words None has none spelled read is = absurd cc
font_stands d e lines line words (Some vs) has none spelled read is =
    let font : Block = block.Font (fonts.start vs.1.0) in
    let p = passed (eqb vs.0 (length d.said.assets.fonts)) (opened d font) e reason.Asset is in
    let number : vs.0 ≡ length d.said.assets.fonts = grind (arith, nat_tests, p.0) in
    let t = values_take font_fields words vs read in
    let text : line ≡ font_text vs.0 vs.1.0 = line_from_words line (codes "font" ∷ texts_of font_fields vs) (spelled ∙ ap (λ (ws : List (List ℕ)). codes "font" ∷ ws) t.0) in
    subst (λ (x : Draft). Next x lines line) p.1 (opens_block d lines line font has none (record {
      height = vs.1.0;
      counted = subst (λ (n : ℕ). AreIn font_fields (n, (vs.1.0, tt))) number t.1;
      body = [];
      read = refl;
      unfinished = refl;
      spelled = ap (λ (l : List ℕ). l ∷ []) (text ∙ ap (λ (n : ℕ). font_text n vs.1.0) number);
    }))

bitmap_stands : (d e : Draft) (lines : List (List ℕ)) (line : List ℕ) (words : List (List ℕ)) (o : Option (Values bitmap_fields)) → HasItems 4 d lines → length d.said.lines ≡ 0 → words_of line ≡ codes "bitmap" ∷ words → bitmap_in words ≡ o → after_bitmap d o ≡ Ok e → Next e lines line
unfolding bitmap_in
bitmap_stands d e lines line words None has none spelled read is = absurd cc
bitmap_stands d e lines line words (Some vs) has none spelled read is =
    let bitmap : Block = block.Bitmap (bitmaps.start vs.1.0 vs.1.1.0) in
    let p = passed (eqb vs.0 (length d.said.assets.bitmaps)) (opened d bitmap) e reason.Asset is in
    let number : vs.0 ≡ length d.said.assets.bitmaps = grind (arith, nat_tests, p.0) in
    let t = values_take bitmap_fields words vs read in
    let text : line ≡ bitmap_text vs.0 vs.1.0 vs.1.1.0 = line_from_words line (codes "bitmap" ∷ texts_of bitmap_fields vs) (spelled ∙ ap (λ (ws : List (List ℕ)). codes "bitmap" ∷ ws) t.0) in
    subst (λ (x : Draft). Next x lines line) p.1 (opens_block d lines line bitmap has none (record {
      width = vs.1.0;
      height = vs.1.1.0;
      counted = subst (λ (n : ℕ). AreIn bitmap_fields (n, (vs.1.0, (vs.1.1.0, tt)))) number t.1;
      body = [];
      read = refl;
      unfinished = refl;
      spelled = ap (λ (l : List ℕ). l ∷ []) (text ∙ ap (λ (n : ℕ). bitmap_text n vs.1.0 vs.1.1.0) number);
    }))

-- a string's line
string_stands : (d e : Draft) (lines : List (List ℕ)) (line : List ℕ) (words : List (List ℕ)) (o : Option (ℕ × List ℕ)) → d.stage ≡ stage.Body → HasItems 4 d lines → length d.said.lines ≡ 0 → words_of line ≡ codes "string" ∷ words → string_in words ≡ o → after_string d o ≡ Ok e → Next e lines line
string_stands d e lines line words None body has none spelled read is = absurd cc
string_stands d e lines line words (Some x) body has none spelled read is =
    let next : Draft = record d { said = with_string d.said x.1 } in
    let p = passed (eqb x.0 (length d.said.assets.strings)) next e reason.Asset is in
    let number : x.0 ≡ length d.said.assets.strings = grind (arith, nat_tests, p.0) in
    let t = string_taken line words x spelled read in
    let text : line ≡ string_text (length d.said.assets.strings) x.1 = t.0 ∙ ap (λ (n : ℕ). string_text n x.1) number in
    subst (λ (x : Draft). Next x lines line) p.1 (stands_in_body d next (lines ++ line ∷ []) body
    (push 4 4 d next lines (line ∷ []) (StringOf x.1) has (record { early = record { header = refl; none = none }; counted = subst (λ (n : ℕ). n ≤ 255) number t.1; is = t.2; spelled = ap (λ (l : List ℕ). l ∷ []) text }) refl) refl)

pub at_odds : (b : Bool) → b ≡ true → b ≡ false → ⊥
at_odds b is other = absurd (cc (sym is ∙ other))

-- the first word of an asset
pub asset_word : (first : List ℕ) → is_one_of asset_words first ≡ true → (codes "string" ≡ first) ⊎ (codes "class" ≡ first) ⊎ (codes "font" ≡ first) ⊎ (codes "bitmap" ≡ first)
unfolding is_one_of asset_words
asset_word first is =
    elim (cases_Bool (bytes_eq (codes "string") first)) [
      | inl same ↦ inl (named (codes "string") first same)
      | inr no_string ↦
          elim (cases_Bool (bytes_eq (codes "class") first)) [
            | inl same ↦ inr (inl (named (codes "class") first same))
            | inr no_class ↦
                elim (cases_Bool (bytes_eq (codes "font") first)) [
                  | inl same ↦ inr (inr (inl (named (codes "font") first same)))
                  | inr no_font ↦
                      elim (cases_Bool (bytes_eq (codes "bitmap") first)) [
                        | inl same ↦ inr (inr (inr (named (codes "bitmap") first same)))
                        | inr no_bitmap ↦ absurd (at_odds (is_one_of asset_words first) is (rw (no_string, no_class, no_font, no_bitmap) refl))
                      ]
                ]
          ]
    ]

-- the word isn't this one
other_word : (first name : List ℕ) → bytes_eq first name ≡ false → name ≡ first → ⊥
other_word first name other same = at_odds (bytes_eq first name) (ap (λ (w : List ℕ). bytes_eq w name) (sym same) ∙ same_name name) other

-- an asset that is no class, font or bitmap is a string
string_word : (first : List ℕ) → is_one_of asset_words first ≡ true → bytes_eq first (codes "class") ≡ false → bytes_eq first (codes "font") ≡ false → bytes_eq first (codes "bitmap") ≡ false → first ≡ codes "string"
string_word first is no_class no_font no_bitmap =
    elim (asset_word first is) [
      | inl string ↦ sym string
      | inr (inl class) ↦ absurd (other_word first (codes "class") no_class class)
      | inr (inr (inl font)) ↦ absurd (other_word first (codes "font") no_font font)
      | inr (inr (inr bitmap)) ↦ absurd (other_word first (codes "bitmap") no_bitmap bitmap)
    ]

early_stands : (d e : Draft) (lines : List (List ℕ)) (line first : List ℕ) (words : List (List ℕ)) → d.stage ≡ stage.Body → HasItems 4 d lines → length d.said.lines ≡ 0 → words_of line ≡ first ∷ words → is_one_of asset_words first ≡ true → after_early d first words ≡ Ok e → Next e lines line
early_stands d e lines line first words body has none spelled asset is =
    let with_word : (name : List ℕ) → first ≡ name → words_of line ≡ name ∷ words = λ name same. spelled ∙ ap (λ (w : List ℕ). w ∷ words) same in
    elim (chosen (bytes_eq first (codes "class")) (after_class d (class_in words)) _ (Ok e) is) [
      | inl class ↦ class_stands d e lines line words (class_in words) has none (with_word (codes "class") (named first (codes "class") class.0)) refl class.1
      | inr no_class ↦
          elim (chosen (bytes_eq first (codes "font")) (after_font d (font_in words)) _ (Ok e) no_class.1) [
            | inl font ↦ font_stands d e lines line words (font_in words) has none (with_word (codes "font") (named first (codes "font") font.0)) refl font.1
            | inr no_font ↦
                elim (chosen (bytes_eq first (codes "bitmap")) (after_bitmap d (bitmap_in words)) _ (Ok e) no_font.1) [
                  | inl bitmap ↦ bitmap_stands d e lines line words (bitmap_in words) has none (with_word (codes "bitmap") (named first (codes "bitmap") bitmap.0)) refl bitmap.1
                  | inr no_bitmap ↦ string_stands d e lines line words (string_in words) body has none (with_word (codes "string") (string_word first asset no_class.0 no_font.0 no_bitmap.0)) refl no_bitmap.1
                ]
          ]
    ]

asset_stands : (d e : Draft) (lines : List (List ℕ)) (line first : List ℕ) (words : List (List ℕ)) → d.stage ≡ stage.Body → HasItems 4 d lines → words_of line ≡ first ∷ words → is_one_of asset_words first ≡ true → after_asset d first words ≡ Ok e → Next e lines line
unfolding after_asset
asset_stands d e lines line first words body has spelled asset is =
    elim (chosen (eqb (length d.said.lines) 0) (after_early d first words) (Err reason.Late) (Ok e) is) [
      | inl early ↦ early_stands d e lines line first words body has (grind (arith, nat_tests, early.0)) spelled asset early.1
      | inr late ↦ absurd (cc late.1)
    ]

other_stands : (d e : Draft) (lines : List (List ℕ)) (line : List ℕ) (words : List (List ℕ)) → d.stage ≡ stage.Body → HasItems 4 d lines → words_of line ≡ words → after_other d words ≡ Ok e → Next e lines line
other_stands d e lines line [] body has spelled is = absurd cc
other_stands d e lines line (first ∷ words) body has spelled is =
    elim (chosen (is_one_of asset_words first) (after_asset d first words) (Err (call_reason first)) (Ok e) is) [
      | inl asset ↦ asset_stands d e lines line first words body has spelled asset.0 asset.1
      | inr none ↦ absurd (cc none.1)
    ]

body_by : (d e : Draft) (lines : List (List ℕ)) (line : List ℕ) (o : Option Line) → d.stage ≡ stage.Body → HasItems 4 d lines → line_of (words_of line) ≡ o → after_call d line o ≡ Ok e → Next e lines line
body_by d e lines line None body has read is = other_stands d e lines line (words_of line) body has refl is
body_by d e lines line (Some l) body has read is = call_stands d e lines line l body has read is

body_stands : (d e : Draft) (lines : List (List ℕ)) (line : List ℕ) → d.stage ≡ stage.Body → HasItems 4 d lines → after_body d line ≡ Ok e → Next e lines line
unfolding after_body
body_stands d e lines line body has is = body_by d e lines line (line_of (words_of line)) body has refl is

words_stand : (s : Stage) (d e : Draft) (lines : List (List ℕ)) (line : List ℕ) → d.stage ≡ s → StandsIn s d lines → after_words s d line ≡ Ok e → Next e lines line
words_stand stage.Title d e lines line at has is = title_stands d e lines line has is
words_stand stage.Screen d e lines line at has is = screen_stands d e lines line has is
words_stand stage.Buffers d e lines line at has is = buffers_stands d e lines line has is
words_stand stage.Desktop d e lines line at has is = desktop_stands d e lines line has is
words_stand stage.Body d e lines line at has is = body_stands d e lines line at has is
words_stand (stage.Block c) d e lines line at has is = block_stands d e c lines line has is

-- ---- all lines

-- what became of a line
pub data Took (d : Draft) (line : List ℕ) (e : Draft) : Type 0 where
  comment : is_comment line ≡ true → takes_comments d.stage ≡ true → d ≡ e → Took d line e
  other : after_words d.stage d line ≡ Ok e → Took d line e

ok_is : (d e : Draft) → ◌≡◌ {A = Result Draft Reason} (Ok d) (Ok e) → d ≡ e
ok_is d e is = cc

pub took : (d e : Draft) (line : List ℕ) → after_line d line ≡ Ok e → (is_printable line ≡ true) × Took d line e
unfolding after_line
took d e line is =
    elim (chosen (is_printable line) (cond (is_comment line && takes_comments d.stage) (Ok d) (after_words d.stage d line)) (Err reason.Ascii) (Ok e) is) [
      | inl printable ↦ (
        printable.0,
        elim (chosen (is_comment line && takes_comments d.stage) (Ok d) (after_words d.stage d line) (Ok e) printable.1) [
          | inl skipped ↦ let parts = and_parts (is_comment line) (takes_comments d.stage) skipped.0 in comment parts.0 parts.1 (ok_is d e skipped.1)
          | inr words ↦ other words.1
        ],
      )
      | inr bad ↦ absurd (cc bad.1)
    ]

line_stands : (d e : Draft) (lines : List (List ℕ)) (line : List ℕ) → Stands d lines → Took d line e → Stands e (lines ++ line ∷ [])
line_stands d e lines line stands (comment is takes same) = subst (λ (x : Draft). Next x lines line) same (comment_stands d.stage d lines line stands is takes)
line_stands d e lines line stands (other words) = words_stand d.stage d e lines line refl stands words

stands_after : (d e : Draft) (prefix lines : List (List ℕ)) → Stands d prefix → run after_line d lines ≡ Ok e → Stands e (prefix ++ lines)
stands_after d e prefix [] stands is = subst (Stands e) (sym (append-nil prefix)) (subst (λ (x : Draft). Stands x prefix) (ok_is d e is) stands)
stands_after d e prefix (line ∷ lines) stands is =
    let next = on_ok (after_line d line) (λ next. run after_line next lines) e is in
    subst (Stands e) (append_assoc prefix (line ∷ []) lines) (stands_after next.0 e (prefix ++ line ∷ []) lines (line_stands d next.0 prefix line stands (took d next.0 line next.1).1) next.2)

pub printable_read : (d e : Draft) (lines : List (List ℕ)) → run after_line d lines ≡ Ok e → AllByRecursion (λ line. is_printable line ≡ true) lines
printable_read d e [] is = tt
printable_read d e (line ∷ lines) is =
    let next = on_ok (after_line d line) (λ next. run after_line next lines) e is in
    ((took d next.0 line next.1).0, printable_read next.0 e lines next.2)

pub read_stands : (d : Draft) (lines : List (List ℕ)) → run after_line empty_draft lines ≡ Ok d → Stands d lines
read_stands d lines is = stands_after empty_draft d [] lines start_stands is

-- ---- drafts keep that their open block is one

to_stage : (d e : Draft) → IsStage d.stage → d ≡ e → IsStage e.stage
to_stage d e is same = subst (λ (x : Draft). IsStage x.stage) same is

block_keeps : (c : Block) (d e : Draft) (line : List ℕ) → IsBlock c → after_block c d line ≡ Ok e → IsStage e.stage
block_keeps c d e line is after =
    let g = gone d e (block_after d.said.assets c line) after in
    by_whole g.0.0 g.0.1 (block_kept d.said.assets c g.0.0 line g.0.1 is g.1) g.2
  where
    by_whole : (next : Block) (whole : Bool) → IsBlock next → cond whole (closed d next) (opened d next) ≡ e → IsStage e.stage
    by_whole next true is same = to_stage (closed d next) e tt same
    by_whole next false is same = to_stage (opened d next) e is same

early_keeps : (d e : Draft) (first : List ℕ) (words : List (List ℕ)) → d.stage ≡ stage.Body → after_early d first words ≡ Ok e → IsStage e.stage
unfolding font_in bitmap_in
early_keeps d e first words at is =
    elim (chosen (bytes_eq first (codes "class")) (after_class d (class_in words)) _ (Ok e) is) [
      | inl class ↦ class_keeps (class_in words) class.1
      | inr no_class ↦
          elim (chosen (bytes_eq first (codes "font")) (after_font d (font_in words)) _ (Ok e) no_class.1) [
            | inl font ↦ font_keeps (font_in words) refl font.1
            | inr no_font ↦
                elim (chosen (bytes_eq first (codes "bitmap")) (after_bitmap d (bitmap_in words)) _ (Ok e) no_font.1) [
                  | inl bitmap ↦ bitmap_keeps (bitmap_in words) refl bitmap.1
                  | inr string ↦ string_keeps (string_in words) string.1
                ]
          ]
    ]
  where
    class_keeps : (o : Option (ℕ × Option ℕ)) → after_class d o ≡ Ok e → IsStage e.stage
    class_keeps None is = absurd cc
    class_keeps (Some x) is =
        let class : Block = block.Class (plain_class x.1) in
        to_stage (opened d class) e tt (passed (eqb x.0 (length d.said.assets.classes)) (opened d class) e reason.Asset is).1

    font_keeps : (o : Option (Values font_fields)) → font_in words ≡ o → after_font d o ≡ Ok e → IsStage e.stage
    font_keeps None read is = absurd cc
    font_keeps (Some vs) read is =
        let t = values_take font_fields words vs read in
        let font : Block = block.Font (fonts.start vs.1.0) in
        to_stage (opened d font) e (font_laws.start_is_draft vs.1.0 t.1.1.0.0 t.1.1.0.1) (passed (eqb vs.0 (length d.said.assets.fonts)) (opened d font) e reason.Asset is).1

    bitmap_keeps : (o : Option (Values bitmap_fields)) → bitmap_in words ≡ o → after_bitmap d o ≡ Ok e → IsStage e.stage
    bitmap_keeps None read is = absurd cc
    bitmap_keeps (Some vs) read is =
        let t = values_take bitmap_fields words vs read in
        let bitmap : Block = block.Bitmap (bitmaps.start vs.1.0 vs.1.1.0) in
        to_stage (opened d bitmap) e (bitmap_laws.start_is_draft vs.1.0 vs.1.1.0 t.1.1.0.0 t.1.1.0.1 t.1.1.1.0.0 t.1.1.1.0.1) (passed (eqb vs.0 (length d.said.assets.bitmaps)) (opened d bitmap) e reason.Asset is).1

    string_keeps : (o : Option (ℕ × List ℕ)) → after_string d o ≡ Ok e → IsStage e.stage
    string_keeps None is = absurd cc
    string_keeps (Some x) is =
        let next : Draft = record d { said = with_string d.said x.1 } in
        to_stage next e (subst IsStage (sym at) tt) (passed (eqb x.0 (length d.said.assets.strings)) next e reason.Asset is).1

other_keeps : (d e : Draft) (words : List (List ℕ)) → d.stage ≡ stage.Body → after_other d words ≡ Ok e → IsStage e.stage
unfolding after_asset
other_keeps d e [] at is = absurd cc
other_keeps d e (first ∷ words) at is =
    elim (chosen (is_one_of asset_words first) (after_asset d first words) (Err (call_reason first)) (Ok e) is) [
      | inl asset ↦
          elim (chosen (eqb (length d.said.lines) 0) (after_early d first words) (Err reason.Late) (Ok e) asset.1) [
            | inl early ↦ early_keeps d e first words at early.1
            | inr late ↦ absurd (cc late.1)
          ]
      | inr none ↦ absurd (cc none.1)
    ]

body_keeps : (d e : Draft) (line : List ℕ) → d.stage ≡ stage.Body → after_body d line ≡ Ok e → IsStage e.stage
unfolding after_body
body_keeps d e line at is = by_line (line_of (words_of line)) is where
  by_line : (o : Option Line) → after_call d line o ≡ Ok e → IsStage e.stage
  by_line None is = other_keeps d e (words_of line) at is
  by_line (Some l) is = to_stage (with_call d l) e (subst IsStage (sym at) tt) (call_line_passed d e l is).2

words_keep : (s : Stage) (d e : Draft) (line : List ℕ) → d.stage ≡ s → IsStage s → after_words s d line ≡ Ok e → IsStage e.stage
unfolding after_title after_screen after_buffers after_desktop
words_keep stage.Title d e line at is after = to_stage _ e tt (passed (bytes_eq line (codes "mtgui 1")) (record d { stage = stage.Screen }) e reason.Header after).1
words_keep stage.Screen d e line at is after =
    let v = valued (screen_in (words_of line)) reason.Header (λ sides. with_screen d sides.0 sides.1.0) e after in
    to_stage (with_screen d v.0.0 v.0.1.0) e tt v.2
words_keep stage.Buffers d e line at is after =
    let v = valued (buffers_in (words_of line)) reason.Header (λ number. with_buffers d number.0) e after in
    to_stage (with_buffers d v.0.0) e tt v.2
words_keep stage.Desktop d e line at is after =
    let v = valued (desktop_in (words_of line)) reason.Header (λ colour. with_colour d colour.0) e after in
    to_stage (with_colour d v.0.0) e tt v.2
words_keep stage.Body d e line at is after = body_keeps d e line at after
words_keep (stage.Block c) d e line at is after = block_keeps c d e line is after

pub draft_kept : (d e : Draft) (line : List ℕ) → IsDraft d → after_line d line ≡ Ok e → IsDraft e
draft_kept d e line is after = by_took (took d e line after).1 where
  by_took : Took d line e → IsDraft e
  by_took (comment skipped takes same) = to_stage d e is same
  by_took (other words) = words_keep d.stage d e line refl is words

open_there : (d : Draft) (c : Block) (Opens : Before → List (List ℕ) → Type 0) (lines : List (List ℕ)) → (has : HasBlock d c lines) → Opens (before_at 4 d) has.part → AreOpen Opens lines
open_there d c Opens lines has opens = record {
  prefix = has.prefix;
  before = before_at 4 d;
  whole = has.has;
  early = record { header = refl; none = has.none };
  block = has.part;
  opens = opens;
  spelled = has.parts;
}

place_stands : (s : Stage) (d : Draft) (lines : List (List ℕ)) → StandsIn s d lines → StandsAt lines (place_at s d)
place_stands stage.Title d lines has = has
place_stands stage.Screen d lines has = has
place_stands stage.Buffers d lines has = has
place_stands stage.Desktop d lines has = has
place_stands stage.Body d lines has = has
place_stands (stage.Block (block.Class class)) d lines has = open_there d (block.Class class) OpensClass lines has (class_opens (before_at 4 d) class has.part has.says)
place_stands (stage.Block (block.Font font)) d lines has = open_there d (block.Font font) OpensDrawing lines has (inl (font_opens (before_at 4 d) font has.part has.says))
place_stands (stage.Block (block.Bitmap bitmap)) d lines has = open_there d (block.Bitmap bitmap) OpensDrawing lines has (inr (bitmap_opens (before_at 4 d) bitmap has.part has.says))

pub prefix_read : (d : Draft) (lines : List (List ℕ)) → run after_line empty_draft lines ≡ Ok d → IsPrefix lines (place_of d)
prefix_read d lines is = (printable_read empty_draft d lines is, place_stands d.stage d lines (read_stands d lines is))
