-- Columns of a row that are drawn from left to right, one by one.
use Rattle.std.proofs.Common.{◌≡◌, ℕ, ◌+◌, ◌^◌, ◌<◌, ◌≤◌, Bool, true, false, ◌&&◌, ◌||◌, ◌==◌, nat_le, nat_lt, Option, Some, None, refl, sym, ap, ◌∙◌, arith}
use Rattle.std.specs.Prelude.{is_some}
use Rattle.std.proofs.lemmas.Bool.{and_parts, eqb-true}
use Rattle.std.proofs.lemmas.Bool.Decides.{nat_tests}
use Rattle.frame.specs.Pictures.{HasShape}
use Rattle.frame.specs.Areas.{is_at}
use Rattle.frame.specs.Canvases.{Canvas, drawn}
use Rattle.paint_ops.specs.Rows.{row_written}
use Rattle.paint_ops.specs.declared.strip.Strip.{Strip}
use Rattle.paint_ops.specs.Strips.{in_strip}
use Rattle.paint_ops.proofs.RowLemmas.{shown, shown-none, has_shape-row_drawn}
use Rattle.paint_ops.proofs.CanvasLemmas.{row_written-same, row_written-twice, row_written-nothing, written-is_at}

-- the columns from a first one to before another
abbrev pub columns_before : ℕ → ℕ → ℕ → Bool
columns_before left k u = nat_le left u && nat_lt u k

-- none before the first
pub columns-start : (f : Canvas) (y left : ℕ) (colour : ℕ → Option ℕ) → HasShape f.picture → f.writes < 2 ^ 64 → f ≡ row_written f y (columns_before left left) colour
columns-start f y left colour shape below =
    sym (row_written-nothing f y (columns_before left left) colour shape below (λ u old _.
    let e : columns_before left left u ≡ false = grind (arith, nat_tests) in
    rw e refl))

next_column : (left k u : ℕ) → left ≤ k → columns_before left (k + 1) u ≡ (columns_before left k u || (u == k))
next_column left k u le = grind (arith, nat_tests)

column_apart : (left k u : ℕ) → columns_before left k u ≡ true → (u == k) ≡ false
column_apart left k u before = grind (arith, nat_tests)

off_column : (at : Bool) (c : Option ℕ) → at ≡ false → (at && is_some c) ≡ false
off_column at c off = rw off refl

put_column : (before at both : Bool) (c d : Option ℕ) (old : ℕ) → both ≡ (before || at) → (at ≡ true → c ≡ d) → shown at c (shown before d old) ≡ shown both d old
put_column true true both None d old e same = rw (e, ← same refl) refl
put_column true true both (Some x) d old e same = rw (e, ← same refl) refl
put_column false true both None d old e same = rw (e, ← same refl) refl
put_column false true both (Some x) d old e same = rw (e, ← same refl) refl
put_column before false both c (Some x) old e same = put_not before both x old e
  where
    put_not : (before both : Bool) (x old : ℕ) → both ≡ (before || false) → shown before (Some x) old ≡ shown both (Some x) old
    put_not true both x old e = rw e refl
    put_not false both x old e = rw e refl
put_column before false both c None old e same = shown-none before old ∙ sym (shown-none both old)

-- a column that is drawn
pub columns-step : (f before now : Canvas) (y left k : ℕ) (found : Option ℕ) (colour : ℕ → Option ℕ) → HasShape f.picture → left ≤ k → colour k ≡ found
    → before ≡ row_written f y (columns_before left k) colour → now ≡ row_written before y (λ u. u == k) (λ _. found)
    → now ≡ row_written f y (columns_before left (k + 1)) colour
columns-step f before now y left k found colour shape le is written draw =
    draw
    ∙ ap (λ (g : Canvas). row_written g y (λ u. u == k) (λ _. found)) written
    ∙ row_written-twice f y (columns_before left k) (λ u. u == k) (columns_before left (k + 1)) colour (λ _. found) colour shape
    (λ u _ inked. off_column (u == k) found (column_apart left k u (and_parts (columns_before left k u) (is_some (colour u)) inked).0))
    (λ u old _. put_column (columns_before left k u) (u == k) (columns_before left (k + 1) u) found (colour u) old (next_column left k u le) (λ at. let e = eqb-true u k at in rw e (sym is)))

-- a column that is put
pub columns-put : (f : Canvas) (y left k c : ℕ) (colour : ℕ → Option ℕ) → HasShape f.picture → left ≤ k → k < f.picture.width → colour k ≡ Some c
    → drawn (row_written f y (columns_before left k) colour) (is_at k y) (λ _ _. c) 1 ≡ row_written f y (columns_before left (k + 1)) colour
columns-put f y left k c colour shape le k_in is =
    let before = row_written f y (columns_before left k) colour in
    columns-step f before (drawn before (is_at k y) (λ _ _. c) 1) y left k (Some c) colour shape le is refl (written-is_at before k y c (has_shape-row_drawn f.picture y (columns_before left k) colour shape) k_in)

-- a column without a colour
pub columns-skip : (f : Canvas) (y left k : ℕ) (colour : ℕ → Option ℕ) → HasShape f.picture → left ≤ k → colour k ≡ None
    → row_written f y (columns_before left k) colour ≡ row_written f y (columns_before left (k + 1)) colour
columns-skip f y left k colour shape le is =
    row_written-same f y (columns_before left k) (columns_before left (k + 1)) colour colour shape (λ u old _.
    shown_skipped (columns_before left k u) (u == k) (columns_before left (k + 1) u) (colour u) old (next_column left k u le) (λ at. let e = eqb-true u k at in rw e is))
  where
    shown_skipped : (before at both : Bool) (d : Option ℕ) (old : ℕ) → both ≡ (before || at) → (at ≡ true → d ≡ None) → shown before d old ≡ shown both d old
    shown_skipped true at both d old e none = rw e refl
    shown_skipped false true both d old e none = rw (none refl) (sym (shown-none both old))
    shown_skipped false false both d old e none = rw e refl

-- all columns of a strip
pub columns-done : (f : Canvas) (y k : ℕ) (s : Strip) (colour : ℕ → Option ℕ) → HasShape f.picture → k ≡ s.right + 1 → row_written f y (columns_before s.left k) colour ≡ row_written f y (in_strip s) colour
columns-done f y k s colour shape end =
    row_written-same f y (columns_before s.left k) (in_strip s) colour colour shape (λ u old _.
    let e : columns_before s.left k u ≡ in_strip s u = grind (arith, nat_tests) in
    rw e refl)
