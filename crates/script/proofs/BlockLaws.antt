-- Blocks that are open: what their lines so far are, and how they go on and end.
use Rattle.std.proofs.Common.{◌≡◌, ◌⊎◌, ℕ, Bool, true, false, List, [], ◌∷◌, ◌++◌, length, Option, Some, None, Result, Ok, Err, refl, sym, ap, subst, ◌∙◌, inl, inr}
use Rattle.std.specs.Prelude.{bytes_eq, codes}
use Rattle.spelling.specs.Words.{words_of}
use Rattle.spelling.specs.Fields.{AreIn}
use Rattle.spelling.specs.Items.{is_comment}
use Rattle.spelling.specs.LineReading.{run}
use Rattle.spelling.proofs.CallerLemmas.{chosen, named, run_one, items_comment, items_more, all_after_more}
use Rattle.glyph_font.specs.declared.place.Place.TheVariants as font_place
use Rattle.glyph_font.specs.Reading as fonts
use Rattle.glyph_font.proofs.CallerLemmas as font_laws
use Rattle.bitmap.specs.declared.place.Place.TheVariants as bitmap_place
use Rattle.bitmap.specs.Texts.{AreLinesOf}
use Rattle.bitmap.specs.Reading as bitmaps
use Rattle.bitmap.proofs.CallerLemmas as bitmap_laws
use Rattle.paint_ops.specs.Kinds.{Class, Assets}
use Rattle.class_lines.specs.declared.line.ClassLine.{ClassLine}
use Rattle.class_lines.specs.Words.{class_line_of}
use Rattle.class_lines.proofs.CallerLemmas.{class_line_read}
use Rattle.script.specs.declared.draft.Block.{Block}
use Rattle.script.specs.declared.draft.Block.TheVariants as block
use Rattle.script.specs.declared.fault.Reason.{Reason}
use Rattle.script.specs.declared.fault.Reason.TheVariants as reason
use Rattle.script.specs.declared.fault.LineError.{LineError}
use Rattle.script_lines.specs.Texts.{class_text, font_fields, font_text, bitmap_fields, bitmap_text, HeadFits}
use Rattle.script.specs.Scripts.{plain_class, class_with, may_have, IsClassLine, AreClassLines, class_of, Item, FontOf, BitmapOf, ClassOf, Before, IsEarly, after, Spells}
use Rattle.script.specs.Faults.{OpensClass, OpensFont, OpensBitmap}
use Rattle.script.specs.Reading.{class_after, font_after, bitmap_after, block_after, with_block, IsBlock, IsClosed, TakesBlock, drawing_reason}

-- ---- one line

abbrev Gone : Block → Bool → Result (Block × Bool) Reason
Gone c whole = Ok (c, whole)

gone_same : (x y : Block × Bool) → Gone x.0 x.1 ≡ Gone y.0 y.1 → (x.0 ≡ y.0) × (x.1 ≡ y.1)
gone_same x y is = let same : (x.0, x.1) ≡ (y.0, y.1) = pair_of is in (ap (λ (p : Block × Bool). p.0) same, ap (λ (p : Block × Bool). p.1) same) where
  pair_of : {a b : Block × Bool} → ◌≡◌ {A = Result (Block × Bool) Reason} (Ok a) (Ok b) → a ≡ b
  pair_of is = cc

class_gone : (assets : Assets) (class : Class) (o : Option ClassLine) (c : Block) (whole : Bool) → class_after assets class o ≡ Ok (c, whole) → (l : ClassLine) × (o ≡ Some l) × (may_have assets class l ≡ true) × (block.Class (class_with class l) ≡ c) × (whole ≡ false)
class_gone assets class None c whole is = absurd cc
class_gone assets class (Some l) c whole is =
    elim (chosen (may_have assets class l) (Gone (block.Class (class_with class l)) false) (Err reason.Block) (Gone c whole) is) [
      | inl room ↦ let same = gone_same (block.Class (class_with class l), false) (c, whole) room.1 in (l, refl, room.0, same.0, sym same.1)
      | inr none ↦ absurd (cc (none.1))
    ]

font_gone : (line : List ℕ) (o : Option fonts.Draft) (c : Block) (whole : Bool) → font_after line o ≡ Ok (c, whole) → (f : fonts.Draft) × (o ≡ Some f) × (block.Font f ≡ c) × (fonts.is_whole f ≡ whole)
font_gone line None c whole is = absurd cc
font_gone line (Some f) c whole is = let same = gone_same (block.Font f, fonts.is_whole f) (c, whole) is in (f, refl, same.0, same.1)

bitmap_gone : (line : List ℕ) (o : Option bitmaps.Draft) (c : Block) (whole : Bool) → bitmap_after line o ≡ Ok (c, whole) → (b : bitmaps.Draft) × (o ≡ Some b) × (block.Bitmap b ≡ c) × (bitmaps.is_whole b ≡ whole)
bitmap_gone line None c whole is = absurd cc
bitmap_gone line (Some b) c whole is = let same = gone_same (block.Bitmap b, bitmaps.is_whole b) (c, whole) is in (b, refl, same.0, same.1)

-- a line of a class is its end, or one of its lines
abbrev ClassGone : Assets → Class → List ℕ → Block → Bool → Type 0
ClassGone assets class line c whole =
    ((line ≡ codes "end") × (block.Class class ≡ c) × (whole ≡ true))
    ⊎ ((l : ClassLine) × (class_line_of (words_of line) ≡ Some l) × (may_have assets class l ≡ true) × (block.Class (class_with class l) ≡ c) × (whole ≡ false))

class_line_gone : (assets : Assets) (class : Class) (line : List ℕ) (c : Block) (whole : Bool) → block_after assets (block.Class class) line ≡ Ok (c, whole) → ClassGone assets class line c whole
unfolding block_after
class_line_gone assets class line c whole is =
    elim (chosen (bytes_eq line (codes "end")) (Gone (block.Class class) true) (class_after assets class (class_line_of (words_of line))) (Gone c whole) is) [
      | inl end ↦ let same = gone_same (block.Class class, true) (c, whole) end.1 in inl (named line (codes "end") end.0, same.0, sym same.1)
      | inr other ↦ inr (class_gone assets class (class_line_of (words_of line)) c whole other.1)
    ]

font_line_gone : (assets : Assets) (font : fonts.Draft) (line : List ℕ) (c : Block) (whole : Bool) → block_after assets (block.Font font) line ≡ Ok (c, whole) → (f : fonts.Draft) × (fonts.after_line font line ≡ Some f) × (block.Font f ≡ c) × (fonts.is_whole f ≡ whole)
unfolding block_after
font_line_gone assets font line c whole is = font_gone line (fonts.after_line font line) c whole is

bitmap_line_gone : (assets : Assets) (bitmap : bitmaps.Draft) (line : List ℕ) (c : Block) (whole : Bool) → block_after assets (block.Bitmap bitmap) line ≡ Ok (c, whole) → (b : bitmaps.Draft) × (bitmaps.after_line bitmap line ≡ Some b) × (block.Bitmap b ≡ c) × (bitmaps.is_whole b ≡ whole)
unfolding block_after
bitmap_line_gone assets bitmap line c whole is = bitmap_gone line (bitmaps.after_line bitmap line) c whole is

-- ---- what blocks keep

pub block_kept : (assets : Assets) (b c : Block) (line : List ℕ) (whole : Bool) → IsBlock b → block_after assets b line ≡ Ok (c, whole) → IsBlock c
block_kept assets (block.Class class) c line whole is after =
    elim (class_line_gone assets class line c whole after) [
      | inl end ↦ subst IsBlock end.1 tt
      | inr more ↦ subst IsBlock more.3 tt
    ]
block_kept assets (block.Font font) c line whole is after =
    let g = font_line_gone assets font line c whole after in
    subst IsBlock g.2 (font_laws.draft_after font g.0 line is g.1)
block_kept assets (block.Bitmap bitmap) c line whole is after =
    let g = bitmap_line_gone assets bitmap line c whole after in
    subst IsBlock g.2 (bitmap_laws.draft_after bitmap g.0 line is g.1)

pub may_close : (assets : Assets) (b c : Block) (line : List ℕ) → IsBlock b → block_after assets b line ≡ Ok (c, true) → IsClosed c
may_close assets (block.Class class) c line is after =
    elim (class_line_gone assets class line c true after) [
      | inl end ↦ subst IsClosed end.1 tt
      | inr more ↦ absurd (cc (more.4))
    ]
may_close assets (block.Font font) c line is after =
    let g = font_line_gone assets font line c true after in
    subst IsClosed g.2 (font_laws.whole_after g.0 g.3)
may_close assets (block.Bitmap bitmap) c line is after =
    let g = bitmap_line_gone assets bitmap line c true after in
    subst IsClosed g.2 (bitmap_laws.draft_after bitmap g.0 line is g.1, bitmap_laws.whole_place g.0 g.3)

-- for `take_block`
pub closes : (assets : Assets) (b c : Block) (line : List ℕ) (r : Result Bool LineError) → IsBlock b → TakesBlock r c (block_after assets b line) → r ≡ Ok true → IsClosed c
closes assets b c line r is takes whole = may_close assets b c line is (subst (λ (x : Result Bool LineError). TakesBlock x c (block_after assets b line)) whole takes)

-- ---- what the lines so far are

-- a class's first line, and lines of it
pub record SaysClass (b : Before) (class : Class) (part : List (List ℕ)) : Type 0 where
  pub back : Option ℕ
  pub counted : HeadFits (length b.said.assets.classes) back
  pub lines : List ClassLine
  pub is : class ≡ class_of back lines
  pub body : List (List ℕ)
  pub are : AreClassLines b.said.assets back lines body
  pub spelled : part ≡ class_text (length b.said.assets.classes) back ∷ body

-- a font's first line, and lines that lead to the draft
pub record SaysFont (b : Before) (font : fonts.Draft) (part : List (List ℕ)) : Type 0 where
  pub height : ℕ
  pub counted : AreIn font_fields (length b.said.assets.fonts, (height, tt))
  pub body : List (List ℕ)
  pub read : run fonts.line_step (fonts.start height) body ≡ Ok font
  pub unfinished : fonts.is_whole font ≡ false
  pub spelled : part ≡ font_text (length b.said.assets.fonts) height ∷ body

-- a bitmap's first line, and lines that lead to the draft
pub record SaysBitmap (b : Before) (bitmap : bitmaps.Draft) (part : List (List ℕ)) : Type 0 where
  pub width : ℕ
  pub height : ℕ
  pub counted : AreIn bitmap_fields (length b.said.assets.bitmaps, (width, (height, tt)))
  pub body : List (List ℕ)
  pub read : run bitmaps.line_step (bitmaps.start width height) body ≡ Ok bitmap
  pub unfinished : bitmaps.is_whole bitmap ≡ false
  pub spelled : part ≡ bitmap_text (length b.said.assets.bitmaps) width height ∷ body

abbrev pub Says : Before → Block → List (List ℕ) → Type 0
Says b (block.Class class) part = SaysClass b class part
Says b (block.Font font) part = SaysFont b font part
Says b (block.Bitmap bitmap) part = SaysBitmap b bitmap part

not_after : (font : fonts.Draft) → fonts.is_whole font ≡ false → font.place ≡ font_place.After → ⊥
not_after font unfinished after = let whole : fonts.is_whole font ≡ true = ap fonts.is_after after in absurd (cc (sym whole ∙ unfinished))

not_at_end : (bitmap : bitmaps.Draft) → bitmaps.is_whole bitmap ≡ false → bitmap.place ≡ bitmap_place.AfterEnd → ⊥
not_at_end bitmap unfinished after = let whole : bitmaps.is_whole bitmap ≡ true = ap bitmaps.is_end after in absurd (cc (sym whole ∙ unfinished))

pub class_opens : (b : Before) (class : Class) (part : List (List ℕ)) → SaysClass b class part → OpensClass b part
class_opens b class part says = record { back = says.back; counted = says.counted; lines = says.lines; body = says.body; are = says.are; spelled = says.spelled }

pub font_opens : (b : Before) (font : fonts.Draft) (part : List (List ℕ)) → SaysFont b font part → OpensFont b part
font_opens b font part says =
    let reading = font_laws.reading says.height says.counted.1.0.0 says.counted.1.0.1 in
    record { height = says.height; counted = says.counted; body = says.body; place = font.place; are = reading.sound says.body font says.read; open_ = not_after font says.unfinished; spelled = says.spelled }

pub bitmap_opens : (b : Before) (bitmap : bitmaps.Draft) (part : List (List ℕ)) → SaysBitmap b bitmap part → OpensBitmap b part
bitmap_opens b bitmap part says =
    let reading = bitmap_laws.reading says.width says.height in
    record { width = says.width; height = says.height; counted = says.counted; body = says.body; place = bitmap.place; are = reading.sound says.body bitmap says.read; open_ = not_at_end bitmap says.unfinished; spelled = says.spelled }

-- ---- one line more

more_lines : (part body : List (List ℕ)) (first line : List ℕ) → part ≡ first ∷ body → part ++ line ∷ [] ≡ first ∷ body ++ line ∷ []
more_lines part body first line is = ap (λ (ls : List (List ℕ)). ls ++ line ∷ []) is

-- a comment in a class
pub class_comment : (b : Before) (class : Class) (part : List (List ℕ)) (line : List ℕ) → SaysClass b class part → is_comment line ≡ true → SaysClass b class (part ++ line ∷ [])
class_comment b class part line says is = record {
  back = says.back;
  counted = says.counted;
  lines = says.lines;
  is = says.is;
  body = says.body ++ line ∷ [];
  are = items_comment (IsClassLine b.said.assets) class_with (plain_class says.back) says.lines says.body line says.are is;
  spelled = more_lines part says.body _ line says.spelled;
}

class_more : (b : Before) (class : Class) (part : List (List ℕ)) (line : List ℕ) (l : ClassLine) → SaysClass b class part → class_line_of (words_of line) ≡ Some l → may_have b.said.assets class l ≡ true → SaysClass b (class_with class l) (part ++ line ∷ [])
class_more b class part line l says read room =
    let assets : Assets = b.said.assets in
    let t = class_line_read line l read in
    record {
      back = says.back;
      counted = says.counted;
      lines = says.lines ++ l ∷ [];
      is = ap (λ (c : Class). class_with c l) says.is ∙ sym (all_after_more class_with (plain_class says.back) says.lines l);
      body = says.body ++ line ∷ [];
      are = items_more (IsClassLine assets) class_with (plain_class says.back) says.lines l says.body (line ∷ []) says.are (record { room = subst (λ (c : Class). may_have assets c l ≡ true) says.is room; fits = t.1; spelled = ap (λ (x : List ℕ). x ∷ []) t.0 });
      spelled = more_lines part says.body _ line says.spelled;
    }

font_read : (height : ℕ) (font f : fonts.Draft) (body : List (List ℕ)) (line : List ℕ) → run fonts.line_step (fonts.start height) body ≡ Ok font → fonts.after_line font line ≡ Some f → run fonts.line_step (fonts.start height) (body ++ line ∷ []) ≡ Ok f
font_read height font f body line read next = run_one fonts.line_step (fonts.start height) font body line read ∙ ap (fonts.or_why font.place) next

bitmap_read : (width height : ℕ) (bitmap b : bitmaps.Draft) (body : List (List ℕ)) (line : List ℕ) → run bitmaps.line_step (bitmaps.start width height) body ≡ Ok bitmap → bitmaps.after_line bitmap line ≡ Some b → run bitmaps.line_step (bitmaps.start width height) (body ++ line ∷ []) ≡ Ok b
bitmap_read width height bitmap b body line read next = run_one bitmaps.line_step (bitmaps.start width height) bitmap body line read ∙ ap (bitmaps.or_why _) next

pub says_more : (b : Before) (c next : Block) (part : List (List ℕ)) (line : List ℕ) → Says b c part → block_after b.said.assets c line ≡ Ok (next, false) → Says b next (part ++ line ∷ [])
says_more b (block.Class class) next part line says is =
    elim (class_line_gone b.said.assets class line next false is) [
      | inl end ↦ absurd (cc (end.2))
      | inr more ↦ subst (λ (x : Block). Says b x (part ++ line ∷ [])) more.3 (class_more b class part line more.0 says more.1 more.2)
    ]
says_more b (block.Font font) next part line says is =
    let g = font_line_gone b.said.assets font line next false is in
    let more : SaysFont b g.0 (part ++ line ∷ []) = record {
      height = says.height;
      counted = says.counted;
      body = says.body ++ line ∷ [];
      read = font_read says.height font g.0 says.body line says.read g.1;
      unfinished = g.3;
      spelled = more_lines part says.body _ line says.spelled;
    } in
    subst (λ (x : Block). Says b x (part ++ line ∷ [])) g.2 more
says_more b (block.Bitmap bitmap) next part line says is =
    let g = bitmap_line_gone b.said.assets bitmap line next false is in
    let more : SaysBitmap b g.0 (part ++ line ∷ []) = record {
      width = says.width;
      height = says.height;
      counted = says.counted;
      body = says.body ++ line ∷ [];
      read = bitmap_read says.width says.height bitmap g.0 says.body line says.read g.1;
      unfinished = g.3;
      spelled = more_lines part says.body _ line says.spelled;
    } in
    subst (λ (x : Block). Says b x (part ++ line ∷ [])) g.2 more

-- ---- the last line

-- the lines are an item, which says what the block does
abbrev pub IsWhole : Before → Block → List (List ℕ) → Type 0
IsWhole b c part = (item : Item) × Spells b item part × (after b item ≡ record b { said = with_block b.said c })

class_whole : (b : Before) (class : Class) (part : List (List ℕ)) (line : List ℕ) → IsEarly b → SaysClass b class part → line ≡ codes "end" → IsWhole b (block.Class class) (part ++ line ∷ [])
class_whole b class part line early says end =
    let spelled : part ++ line ∷ [] ≡ class_text (length b.said.assets.classes) says.back ∷ says.body ++ codes "end" ∷ [] = more_lines part says.body _ line says.spelled ∙ ap (λ (l : List ℕ). class_text (length b.said.assets.classes) says.back ∷ says.body ++ l ∷ []) end in
    (ClassOf says.back says.lines, record { early = early; counted = says.counted; body = says.body; are = says.are; spelled = spelled }, ap (λ (c : Class). record b { said = with_block b.said (block.Class c) }) (sym says.is))

font_whole : (b : Before) (font f : fonts.Draft) (part : List (List ℕ)) (line : List ℕ) → IsEarly b → SaysFont b font part → fonts.after_line font line ≡ Some f → fonts.is_whole f ≡ true → IsWhole b (block.Font f) (part ++ line ∷ [])
font_whole b font f part line early says next whole =
    let number : ℕ = length b.said.assets.fonts in
    let read = font_read says.height font f says.body line says.read next in
    let t = font_laws.whole_says says.height (says.body ++ line ∷ []) f says.counted.1.0.0 says.counted.1.0.1 read (font_laws.whole_after f whole) in
    let high : says.height ≡ f.font.height = sym t.1 in
    let counted = subst (λ (h : ℕ). AreIn font_fields (number, (h, tt))) high says.counted in
    let spelled : part ++ line ∷ [] ≡ font_text number f.font.height ∷ says.body ++ line ∷ [] = more_lines part says.body _ line says.spelled ∙ ap (λ (h : ℕ). font_text number h ∷ says.body ++ line ∷ []) high in
    (FontOf f.font, record { early = early; counted = counted; is = t.0; spelled = spelled ∙ ap (λ (ls : List (List ℕ)). font_text number f.font.height ∷ ls) t.2 }, refl)

bitmap_whole : (b : Before) (bitmap m : bitmaps.Draft) (part : List (List ℕ)) (line : List ℕ) → IsEarly b → SaysBitmap b bitmap part → bitmaps.after_line bitmap line ≡ Some m → bitmaps.is_whole m ≡ true → IsWhole b (block.Bitmap m) (part ++ line ∷ [])
bitmap_whole b bitmap m part line early says next whole =
    let number : ℕ = length b.said.assets.bitmaps in
    let body : List (List ℕ) = says.body ++ line ∷ [] in
    let read = bitmap_read says.width says.height bitmap m says.body line says.read next in
    let t = bitmap_laws.whole_says says.width says.height body m read (bitmap_laws.whole_place m whole) in
    let sides = bitmap_laws.sides_after says.width says.height body m read in
    let wide : says.width ≡ m.width = sym sides.0 in
    let high : says.height ≡ m.height = sym sides.1 in
    let as_sides : (A : ℕ → ℕ → Type 0) → A says.width says.height → A m.width m.height = λ A a. subst (λ (w : ℕ). A w m.height) wide (subst (A says.width) high a) in (
      BitmapOf (bitmaps.bitmap_of m),
      record {
        early = early;
        counted = as_sides (λ w h. AreIn bitmap_fields (number, (w, (h, tt)))) says.counted;
        body = body;
        are = as_sides (λ w h. AreLinesOf w h body (bitmaps.bitmap_of m)) t;
        spelled = as_sides (λ w h. part ++ line ∷ [] ≡ bitmap_text number w h ∷ body) (more_lines part says.body _ line says.spelled);
      },
      refl,
    )

pub says_whole : (b : Before) (c next : Block) (part : List (List ℕ)) (line : List ℕ) → IsEarly b → Says b c part → block_after b.said.assets c line ≡ Ok (next, true) → IsWhole b next (part ++ line ∷ [])
says_whole b (block.Class class) next part line early says is =
    elim (class_line_gone b.said.assets class line next true is) [
      | inl end ↦ subst (λ (x : Block). IsWhole b x (part ++ line ∷ [])) end.1 (class_whole b class part line early says end.0)
      | inr more ↦ absurd (cc (more.4))
    ]
says_whole b (block.Font font) next part line early says is =
    let g = font_line_gone b.said.assets font line next true is in
    subst (λ (x : Block). IsWhole b x (part ++ line ∷ [])) g.2 (font_whole b font g.0 part line early says g.1 g.3)
says_whole b (block.Bitmap bitmap) next part line early says is =
    let g = bitmap_line_gone b.said.assets bitmap line next true is in
    subst (λ (x : Block). IsWhole b x (part ++ line ∷ [])) g.2 (bitmap_whole b bitmap g.0 part line early says g.1 g.3)

-- ---- reasons

class_reason : (assets : Assets) (class : Class) (o : Option ClassLine) (why : Reason) → class_after assets class o ≡ Err why → reason.Block ≡ why
class_reason assets class None why is = cc
class_reason assets class (Some l) why is =
    elim (chosen (may_have assets class l) (Gone (block.Class (class_with class l)) false) (Err reason.Block) (Err why) is) [
      | inl room ↦ absurd (cc (room.1))
      | inr none ↦ cc (none.1)
    ]

font_reason : (line : List ℕ) (o : Option fonts.Draft) (why : Reason) → font_after line o ≡ Err why → drawing_reason line ≡ why
font_reason line None why is = cc
font_reason line (Some f) why is = absurd cc

bitmap_reason : (line : List ℕ) (o : Option bitmaps.Draft) (why : Reason) → bitmap_after line o ≡ Err why → drawing_reason line ≡ why
bitmap_reason line None why is = cc
bitmap_reason line (Some b) why is = absurd cc

-- what is held against a line in a block
abbrev pub reason_in : Block → List ℕ → Reason
reason_in (block.Class class) line = reason.Block
reason_in (block.Font font) line = drawing_reason line
reason_in (block.Bitmap bitmap) line = drawing_reason line

pub block_reason : (assets : Assets) (c : Block) (line : List ℕ) (why : Reason) → block_after assets c line ≡ Err why → reason_in c line ≡ why
unfolding block_after
block_reason assets (block.Class class) line why is =
    elim (chosen (bytes_eq line (codes "end")) (Gone (block.Class class) true) (class_after assets class (class_line_of (words_of line))) (Err why) is) [
      | inl end ↦ absurd (cc (end.1))
      | inr other ↦ class_reason assets class (class_line_of (words_of line)) why other.1
    ]
block_reason assets (block.Font font) line why is = font_reason line (fonts.after_line font line) why is
block_reason assets (block.Bitmap bitmap) line why is = bitmap_reason line (bitmaps.after_line bitmap line) why is
