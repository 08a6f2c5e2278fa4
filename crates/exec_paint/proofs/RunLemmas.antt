-- Neighbouring columns of a row, and what a window leaves there.
use Rattle.std.proofs.Common.{◌≡◌, ℕ, ◌+◌, ◌<◌, ◌≤◌, Bool, true, false, cond, ◌&&◌, ◌||◌, nat_le, ℤ, pos, ◌-ℤ◌, ◌≤ℤ◌, ◌<ℤ◌, Option, Some, None, List, [], ◌∷◌, length, get_or, take, refl, sym, ap, ◌∙◌, arith}
use Rattle.std.specs.Prelude.{is_some, unwrap_or, not, IsTrue}
use Rattle.std.specs.Int.{int_max, int_min}
use Rattle.std.proofs.lemmas.Bool.{false_from_ne_true}
use Rattle.std.proofs.lemmas.Bool.Decides.{nat_tests}
use Rattle.std.proofs.lemmas.Int.{ints, clamps}
use Rattle.std.proofs.lemmas.List.{take_all}
use Rattle.gfx_base.specs.declared.point.Point.{Point}
use Rattle.gfx_base.specs.Range.{is_within}
use Rattle.gfx_base.specs.Rects.{point_at}
use Rattle.frame.specs.Pictures.{Picture, HasShape}
use Rattle.region.specs.Spans.{in_spans}
use Rattle.paint_ops.specs.Operations.{Inputs, seen_from, or_behind, colour_of_operations}
use Rattle.paint_ops.specs.Kinds.{Class, Assets}
use Rattle.paint_ops.specs.declared.op.Op.{Op}
use Rattle.paint_ops.specs.Rows.{operation_drawn, colour_on_screen}
use Rattle.paint_ops.proofs.CallerLemmas.{same_test, within-parts, within-from, in-parts, in-from}
use Rattle.scene.specs.declared.win.Win.{Win}
use Rattle.scene.specs.Looks.{class_of, inputs_of, back_of, colour_in_window}
use Rattle.scene.proofs.CallerLemmas.{operations-more, over, drawn_over, drawn_by}
use Rattle.exec_paint.specs.declared.run.Run.{Run}
use Rattle.exec_paint.specs.Rows.{row_mapped, in_run, FitsIn}
use Rattle.exec_paint.proofs.RowLemmas.{drawn-mapped, row_mapped-same, row_mapped-after, row_mapped-kept}

-- ---- columns

pub run-columns : (x0 x1 a b : ℤ) (l r u w : ℕ) → a ≡ int_max x0 (pos 0) → b ≡ int_min x1 (pos w -ℤ pos 1) → pos l ≡ a → pos r ≡ b → u < w → (nat_le l u && nat_le u r) ≡ is_within x0 x1 (pos u)
run-columns x0 x1 a b l r u w is_a is_b is_l is_r u_in =
    same_test _ _
    (λ h. let k = in-parts l r u h in within-from x0 x1 (pos u) (omega (arith, ints, clamps)) (omega (arith, ints, clamps)))
    (λ h. let z = within-parts x0 x1 (pos u) h in in-from l r u (omega (arith, ints, clamps)) (omega (arith, ints, clamps)))

pub run-nothing : (x0 x1 a b : ℤ) (u w : ℕ) → a ≡ int_max x0 (pos 0) → b ≡ int_min x1 (pos w -ℤ pos 1) → b <ℤ a → u < w → false ≡ is_within x0 x1 (pos u)
run-nothing x0 x1 a b u w is_a is_b none u_in = sym (false_from_ne_true _ (λ h. let z = within-parts x0 x1 (pos u) h in omega (arith, ints, clamps)))

-- the columns of a span that lie in a clip
pub within-both : (a b c d z : ℤ) → is_within (int_max a c) (int_min b d) z ≡ (is_within a b z && is_within c d z)
unfolding is_within
within-both a b c d z = grind (arith, ints)

pub one_span : (b : Bool) → (b || false) ≡ b
one_span true = refl
one_span false = refl

pub in_one : (l r u : ℕ) → in_spans (record { x0 = pos l; x1 = pos r } ∷ []) (pos u) ≡ (nat_le l u && nat_le u r)
unfolding is_within
in_one l r u = one_span (is_within (pos l) (pos r) (pos u)) ∙ grind (arith, ints, nat_tests)

pub lies_in_row : (w l r : ℕ) (z : ℤ) → r < w → IsTrue (is_within (pos l) (pos r) z) → (pos 0 ≤ℤ z) × (z <ℤ pos w)
unfolding is_within
lies_in_row w l r z lt e = (grind (arith, ints), grind (arith, ints))

pub fits-mapped : (p : Picture) (y : ℕ) (here : ℕ → Bool) (f : ℕ → ℕ → ℕ) (run : Run) → FitsIn p run → FitsIn (row_mapped p y here f) run
fits-mapped p y here f run fits = record { some = fits.some; within = fits.within; row = fits.row }

-- ---- operations

pub operation-mapped : (assets : Assets) (inputs : Inputs) (op : Op) (corner : Point) (run : Run) (p : Picture) → HasShape p
    → operation_drawn assets inputs op corner run.y (record { x0 = pos run.left; x1 = pos run.right } ∷ []) p ≡ row_mapped p run.y (in_run run) (λ u old. drawn_by assets inputs corner op u run.y old)
operation-mapped assets inputs op corner run p shape =
    drawn-mapped p run.y (λ u. in_spans (record { x0 = pos run.left; x1 = pos run.right } ∷ []) (pos u)) (λ u. colour_on_screen assets inputs op corner u run.y) shape
    ∙ row_mapped-same p run.y (λ u. in_spans (record { x0 = pos run.left; x1 = pos run.right } ∷ []) (pos u)) (in_run run) (λ u old. drawn_by assets inputs corner op u run.y old) (λ u old. drawn_by assets inputs corner op u run.y old) shape
    (λ u old u_in. ap (λ (b : Bool). cond b (drawn_by assets inputs corner op u run.y old) old) (in_one run.left run.right u))

pub class-start : (p : Picture) (assets : Assets) (inputs : Inputs) (corner : Point) (ops : List Op) (run : Run) → HasShape p → p ≡ row_mapped p run.y (in_run run) (λ u old. drawn_over assets inputs corner (take 0 ops) u run.y old)
class-start p assets inputs corner ops run shape = row_mapped-kept p run.y (in_run run) (λ u old. drawn_over assets inputs corner (take 0 ops) u run.y old) shape (λ u old u_in. refl)

pub class-step : (p q new : Picture) (assets : Assets) (inputs : Inputs) (corner : Point) (ops : List Op) (op : Op) (k : ℕ) (run : Run) → HasShape p → k < length ops → op ≡ get_or ops k op
    → q ≡ row_mapped p run.y (in_run run) (λ u old. drawn_over assets inputs corner (take k ops) u run.y old) → new ≡ row_mapped q run.y (in_run run) (λ u old. drawn_by assets inputs corner op u run.y old)
    → new ≡ row_mapped p run.y (in_run run) (λ u old. drawn_over assets inputs corner (take (k + 1) ops) u run.y old)
class-step p q new assets inputs corner ops op k run shape lt is so_far step =
    step ∙ ap (λ (r : Picture). row_mapped r run.y (in_run run) (λ u old. drawn_by assets inputs corner op u run.y old)) so_far
    ∙ row_mapped-after p run.y (in_run run) (λ u old. drawn_over assets inputs corner (take k ops) u run.y old) (λ u old. drawn_by assets inputs corner op u run.y old) (λ u old. drawn_over assets inputs corner (take (k + 1) ops) u run.y old) shape (λ u old u_in.
    ap (λ (o : Op). drawn_by assets inputs corner o u run.y (drawn_over assets inputs corner (take k ops) u run.y old)) is
    ∙ operations-more assets inputs ops k op (seen_from corner (point_at (pos u) (pos run.y))) old lt)

pub class-end : (p q : Picture) (assets : Assets) (inputs : Inputs) (corner : Point) (ops : List Op) (k : ℕ) (run : Run) → length ops ≤ k → q ≡ row_mapped p run.y (in_run run) (λ u old. drawn_over assets inputs corner (take k ops) u run.y old)
    → q ≡ row_mapped p run.y (in_run run) (λ u old. drawn_over assets inputs corner ops u run.y old)
class-end p q assets inputs corner ops k run le so_far = so_far ∙ ap (λ (os : List Op). row_mapped p run.y (in_run run) (λ u old. drawn_over assets inputs corner os u run.y old)) (take_all k ops le)

-- ---- a window

pub back-none : (p : Picture) (run : Run) (o : Option ℕ) → HasShape p → o ≡ None → p ≡ row_mapped p run.y (in_run run) (λ u old. unwrap_or o old)
back-none p run o shape e = rw e (row_mapped-kept p run.y (in_run run) (λ u old. old) shape (λ u old u_in. refl))

same_back : (t : Bool) (b : Option ℕ) (old : ℕ) → unwrap_or (cond (not t && is_some b) b None) old ≡ unwrap_or (cond t None b) old
same_back true b old = refl
same_back false None old = refl
same_back false (Some c) old = refl

over_back : (assets : Assets) (w : Win) (drawn : Option ℕ) (old : ℕ) → unwrap_or drawn (unwrap_or (cond w.trans None (class_of assets w).back) old) ≡ unwrap_or (or_behind (back_of assets w) drawn) old
over_back assets w drawn old = ap (unwrap_or drawn) (sym (same_back w.trans (class_of assets w).back old)) ∙ sym (over (back_of assets w) drawn old)

pub window-mapped : (p q new : Picture) (assets : Assets) (w : Win) (class : Class) (corner : Point) (run : Run) → HasShape p → class ≡ class_of assets w → q ≡ row_mapped p run.y (in_run run) (λ u old. unwrap_or (cond w.trans None class.back) old)
    → new ≡ row_mapped q run.y (in_run run) (λ u old. drawn_over assets (inputs_of w) corner class.ops u run.y old)
    → new ≡ row_mapped p run.y (in_run run) (λ u old. unwrap_or (colour_in_window assets w (seen_from corner (point_at (pos u) (pos run.y)))) old)
window-mapped p q new assets w class corner run shape is back drawn =
    drawn ∙ ap (λ (r : Picture). row_mapped r run.y (in_run run) (λ u old. drawn_over assets (inputs_of w) corner class.ops u run.y old)) back
    ∙ row_mapped-after p run.y (in_run run) (λ u old. unwrap_or (cond w.trans None class.back) old) (λ u old. drawn_over assets (inputs_of w) corner class.ops u run.y old)
    (λ u old. unwrap_or (colour_in_window assets w (seen_from corner (point_at (pos u) (pos run.y)))) old) shape (λ u old u_in.
    ap (λ (k : Class). drawn_over assets (inputs_of w) corner k.ops u run.y (unwrap_or (cond w.trans None k.back) old)) is
    ∙ over_back assets w (colour_of_operations assets (inputs_of w) (class_of assets w).ops (seen_from corner (point_at (pos u) (pos run.y)))) old)
