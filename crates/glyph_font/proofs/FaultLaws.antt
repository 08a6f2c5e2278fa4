-- The laws of bodies: each is a font's or has a fault, and not both, and it has one of either.
use Rattle.std.proofs.Common.{◌≡◌, ℕ, ◌+◌, ◌≤◌, List, ◌∷◌, Option, Some, None, Result, Ok, Err, refl, sym, ap, subst, ◌∙◌, inl, inr}
use Rattle.std.specs.Prelude.{◌⊎◌, MatchResult}
use Rattle.spelling.specs.Parts.{lines_of}
use Rattle.spelling.specs.LineReading.{run, on_line, IsReading}
use Rattle.spelling.proofs.CallerLemmas as lines
use Rattle.glyph_font.specs.declared.place.Place.{Place}
use Rattle.glyph_font.specs.declared.place.Place.TheVariants.{Between, Within, After}
use Rattle.glyph_font.specs.declared.fault.FontWhy.{FontWhy}
use Rattle.glyph_font.specs.declared.fault.FontFault.{FontFault}
use Rattle.glyph_font.specs.declared.fault.FontRefused.{FontRefused}
use Rattle.glyph_font.specs.declared.fault.FontRefused.TheVariants as refused
use Rattle.glyph_font.specs.Fonts.{Font}
use Rattle.glyph_font.specs.Texts.{IsBody}
use Rattle.glyph_font.specs.Faults.{IsPrefix, IsFault, IsRefused, WhyAt, why_at, why_cut}
use Rattle.glyph_font.specs.Reading.{Draft, place_of, start, after_line, or_why, line_step, from_line, read_of, Says, SaysFont}
use Rattle.glyph_font.proofs.BlockLaws.{whole_says, one_font_lines}
use Rattle.glyph_font.proofs.LinesReadLemmas.{prefix_read_of, prefix_reads}

-- ---- the step reads the prefixes

refused_by : (place : Place) (o : Option Draft) (reason : FontWhy) → or_why place o ≡ Err reason → reason ≡ why_at place
refused_by place None reason is = cc
refused_by place (Some d) reason is = absurd cc

pub reading : (height : ℕ) → 1 ≤ height → height ≤ 32 → IsReading line_step (start height) place_of (IsPrefix height) WhyAt
reading height some few = record {
  sound = λ xs d is. prefix_read_of height d xs some few is;
  complete = λ xs place prefix. let r = prefix_reads height xs place some prefix in (r.draft, r.read, r.place);
  reasons = λ xs d line reason is wrong. refused_by d.place (after_line d line) reason wrong;
  one_reason = λ xs place line r s prefix longer is also. is ∙ sym also;
}

-- ---- what reading says

uncut : (place : Place) → why_cut place ≡ None → place ≡ After
uncut Between is = absurd cc
uncut Within is = absurd cc
uncut After is = refl

font_of : (height : ℕ) (body : List ℕ) (d : Draft) → 1 ≤ height → height ≤ 32 → run line_step (start height) (lines_of body) ≡ Ok d → d.place ≡ After → IsBody height body d.font
font_of height body d some few is after =
    let whole = whole_says height (lines_of body) d some few is after in
    record { is = whole.0; high = whole.1; spelled = whole.2 }

abbrev Says_of : ℕ → List ℕ → Result Draft (ℕ × FontWhy) → Type 0
Says_of height body r = lines.Describes line_step (start height) place_of (IsPrefix height) WhyAt why_cut (lines_of body) r

says : (height : ℕ) (body : List ℕ) → 1 ≤ height → height ≤ 32 → Says_of height body (read_of height body)
unfolding read_of
says height body some few = lines.read_says line_step (start height) place_of (IsPrefix height) WhyAt why_cut (reading height some few) (lines_of body)

-- for `read`
pub is_answer : (height : ℕ) (body : List ℕ) (r : Result Font FontRefused) → 1 ≤ height → height ≤ 32 → MatchResult r (SaysFont (read_of height body)) (Says (read_of height body)) → MatchResult r (λ font. IsBody height body font) (IsRefused height body)
is_answer height body (Ok font) some few is =
    let whole = subst (Says_of height body) is.1 (says height body some few) in
    subst (IsBody height body) is.3 (font_of height body is.0 some few whole.0 is.2)
is_answer height body (Err refused.Memory) some few is = tt
is_answer height body (Err (refused.Fault fault)) some few is = subst (Says_of height body) is (says height body some few)

-- ---- a font or a fault

pub either : (height : ℕ) (body : List ℕ) → 1 ≤ height → height ≤ 32 → ((font : Font) × IsBody height body font) ⊎ ((fault : FontFault) × IsFault height body fault)
either height body some few =
    elim (lines.either line_step (start height) place_of (IsPrefix height) WhyAt why_cut (reading height some few) (lines_of body)) [
      | inl whole ↦ inl (whole.0.font, font_of height body whole.0 some few whole.1 (uncut whole.0.place whole.2))
      | inr fault ↦ inr (record { line = fault.0; why = fault.1 }, fault.2)
    ]

-- a font's lines are a prefix, after `end`
prefix_of : (height : ℕ) (body : List ℕ) (font : Font) → IsBody height body font → IsPrefix height (lines_of body) After
prefix_of height body font is = subst (λ (h : ℕ). IsPrefix h (lines_of body) After) is.high (record { glyphs = font.glyphs; whole = is.is.glyphs; rising = is.is.rising; spelled = is.spelled })

pub not_both : (height : ℕ) (body : List ℕ) (font : Font) (fault : FontFault) → IsBody height body font → IsFault height body fault → ⊥
not_both height body font fault is wrong =
    let some = subst (λ (h : ℕ). 1 ≤ h) is.high is.is.high in
    let few = subst (λ (h : ℕ). h ≤ 32) is.high is.is.not_too_high in
    lines.not_both line_step (start height) place_of (IsPrefix height) WhyAt why_cut (reading height some few) (lines_of body) After fault.line fault.why (prefix_of height body font is) refl wrong

-- ---- one of either

pub one_font : (height : ℕ) (body : List ℕ) (a b : Font) → IsBody height body a → IsBody height body b → a ≡ b
one_font height body a b is also = one_font_lines height (lines_of body) a b is.is is.high is.spelled also.is also.high also.spelled

abbrev fault_at : ℕ → FontWhy → FontFault
fault_at line reason = record { line = line; why = reason }

pub one_fault : (height : ℕ) (body : List ℕ) (a b : FontFault) → 1 ≤ height → height ≤ 32 → IsFault height body a → IsFault height body b → a ≡ b
one_fault height body a b some few is also =
    let same = lines.one_fault line_step (start height) place_of (IsPrefix height) WhyAt why_cut (reading height some few) (lines_of body) a.line b.line a.why b.why is also in
    ap (λ (n : ℕ). fault_at n a.why) same.0 ∙ ap (fault_at b.line) same.1

-- ---- for the loop

pub reads_wrong : (n : ℕ) (d : Draft) (line : List ℕ) (lines : List (List ℕ)) → after_line d line ≡ None → from_line n d (line ∷ lines) ≡ Err (n, why_at d.place)
reads_wrong n d line lines is = ap (λ (o : Option Draft). on_line n (or_why d.place o) (λ next. from_line (n + 1) next lines)) is

pub reads_on : (n : ℕ) (d e : Draft) (line : List ℕ) (lines : List (List ℕ)) → after_line d line ≡ Some e → from_line n d (line ∷ lines) ≡ from_line (n + 1) e lines
reads_on n d e line lines is = ap (λ (o : Option Draft). on_line n (or_why d.place o) (λ next. from_line (n + 1) next lines)) is
