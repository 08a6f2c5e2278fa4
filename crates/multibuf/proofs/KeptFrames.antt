-- Buffers that change their parts keep their frames, each at its index.
use Rattle.std.proofs.Common.{◌≡◌, ℕ, ◌≤◌, Option, Some, None, refl, ◌∙◌, arith}
use Rattle.std.proofs.lemmas.Grind.{common_steps}
use Rattle.std.proofs.lemmas.Bool.Decides.{nat_tests}
use Rattle.frame.specs.Canvases.{Canvas}
use Rattle.flip.specs.declared.views.Drawing.{Drawing}
use Rattle.multibuf.specs.declared.owners.Free.{Free}
use Rattle.multibuf.specs.declared.owners.Back.{Back}
use Rattle.multibuf.specs.declared.owners.Waiting.{Waiting}
use Rattle.multibuf.specs.declared.owners.Shown.{Shown}
use Rattle.multibuf.specs.declared.several.Several.{Several}
use Rattle.multibuf.specs.declared.held.Held.{Held}
use Rattle.multibuf.specs.declared.held.Held.TheVariants.{One, More}
use Rattle.multibuf.specs.Parts.{several_after_confirm, several_after_ask}
use Rattle.multibuf.specs.Held.{held_after_ask, held_after_confirm, held_with_target}
use Rattle.multibuf.specs.Frames.{held_frame, IsKnown}
use Rattle.multibuf.specs.Fitting.{FitsSeveral, FitsDrawer}

-- several buffers by their parts
abbrev pub several : Shown → Option Waiting → Option Back → Option Free → Option Free → Several
several sh wo bo lo hi = record { shown = sh; waiting = wo; back = bo; stock = record { low = lo; high = hi } }

confirmed : (d : Drawing) (count sw : ℕ) (sh : Shown) (wo : Option Waiting) (bo : Option Back) (lo hi : Option Free) → FitsSeveral d count sw (several sh wo bo lo hi)
    → (k : ℕ) → held_frame (More (several_after_confirm (several sh wo bo lo hi))) k ≡ held_frame (More (several sh wo bo lo hi)) k
confirmed d count sw sh None bo lo hi f k = refl
confirmed d count sw sh (Some w) None None None f k = grind (arith, nat_tests, common_steps, f.back, f.shown, f.consistent.waiting_exists, f.waiting)
confirmed d count sw sh (Some w) (Some b) None None f k = grind (arith, nat_tests, common_steps, f.back, f.shown, f.waiting)
confirmed d count sw sh (Some w) bo None (Some h) f k = absurd (cc (f.rest.first_first refl))
confirmed d count sw sh (Some w) None (Some l) None f k = grind (arith, nat_tests, common_steps, f.rest.low_free l.index refl, f.shown, f.waiting)
confirmed d count sw sh (Some w) (Some b) (Some l) None f k = grind (arith, nat_tests, common_steps, f.rest.low_free l.index refl, f.back, f.shown, f.waiting)
confirmed d count sw sh (Some w) bo (Some l) (Some h) f k = grind (arith, nat_tests, common_steps, f.rest.low_free l.index refl, f.rest.high_free h.index refl, f.rest.in_order l.index h.index refl refl, f.shown, f.waiting, f.consistent.waiting_exists)

asked : (d : Drawing) (count sw n : ℕ) (sh : Shown) (wo : Option Waiting) (bo : Option Back) (lo hi : Option Free) → FitsSeveral d count sw (several sh wo bo lo hi)
    → (k : ℕ) → held_frame (More (several_after_ask (several sh wo bo lo hi) n)) k ≡ held_frame (More (several sh wo bo lo hi)) k
asked d count sw n sh wo None lo hi f k = refl
asked d count sw n sh None (Some b) lo hi f k = refl
asked d count sw n sh (Some w) (Some b) None None f k = grind (arith, nat_tests, common_steps, f.back, f.shown, f.waiting)
asked d count sw n sh (Some w) (Some b) None (Some h) f k = absurd (cc (f.rest.first_first refl))
asked d count sw n sh (Some w) (Some b) (Some l) None f k = grind (arith, nat_tests, common_steps, f.rest.low_free l.index refl, f.back, f.shown, f.waiting)
asked d count sw n sh (Some w) (Some b) (Some l) (Some h) f k = grind (arith, nat_tests, common_steps, f.rest.low_free l.index refl, f.rest.high_free h.index refl, f.rest.in_order l.index h.index refl refl, f.shown, f.waiting, f.consistent.waiting_exists)

-- after what waits is shown
pub confirm_keeps : (d : Drawing) (count sw : ℕ) (h : Held) → FitsDrawer d count sw h → (k : ℕ) → held_frame (held_after_confirm h) k ≡ held_frame h k
confirm_keeps d count sw (One b) f k = refl
confirm_keeps d count sw (More s) f k = confirmed d count sw s.shown s.waiting s.back s.stock.low s.stock.high f k

-- after what is drawn on waits
pub ask_keeps : (d : Drawing) (count sw n : ℕ) (h : Held) → FitsDrawer d count sw h → (k : ℕ) → held_frame (held_after_ask h n) k ≡ held_frame h k
ask_keeps d count sw n (One b) f k = refl
ask_keeps d count sw n (More s) f k = asked d count sw n s.shown s.waiting s.back s.stock.low s.stock.high f k

confirmed_asked : (d : Drawing) (count sw n : ℕ) (sh : Shown) (wo : Option Waiting) (bo : Option Back) (lo hi : Option Free) → FitsSeveral d count sw (several sh wo bo lo hi)
    → (k : ℕ) → held_frame (More (several_after_ask (several_after_confirm (several sh wo bo lo hi)) n)) k ≡ held_frame (More (several_after_confirm (several sh wo bo lo hi))) k
confirmed_asked d count sw n sh None None lo hi f k = refl
confirmed_asked d count sw n sh None (Some b) lo hi f k = refl
confirmed_asked d count sw n sh (Some w) None lo hi f k = refl
confirmed_asked d count sw n sh (Some w) (Some b) lo hi f k = refl

-- after what waits is shown, and then what is drawn on waits
pub confirm_ask_keeps : (d : Drawing) (count sw n : ℕ) (h : Held) → FitsDrawer d count sw h → (k : ℕ) → held_frame (held_after_ask (held_after_confirm h) n) k ≡ held_frame h k
confirm_ask_keeps d count sw n (One b) f k = refl
confirm_ask_keeps d count sw n (More s) f k = confirmed_asked d count sw n s.shown s.waiting s.back s.stock.low s.stock.high f k ∙ confirmed d count sw s.shown s.waiting s.back s.stock.low s.stock.high f k

target_of_several : (d : Drawing) (count sw : ℕ) (sh : Shown) (wo : Option Waiting) (bo : Option Back) (lo hi : Option Free) → FitsSeveral d count sw (several sh wo bo lo hi)
    → (c : Canvas) (k : ℕ) → IsKnown d k → held_frame (held_with_target (More (several sh wo bo lo hi)) c) k ≡ held_frame (More (several sh wo bo lo hi)) k
target_of_several d count sw sh wo None lo hi f c k known = refl
target_of_several d count sw sh None (Some b) lo hi f c k known = grind (arith, nat_tests, common_steps, f.back, f.shown, f.waiting, known)
target_of_several d count sw sh (Some w) (Some b) lo hi f c k known = grind (arith, nat_tests, common_steps, f.back, f.shown, f.waiting, known)

-- after something is drawn, where several buffers are there
pub target_keeps : (d : Drawing) (count sw : ℕ) (h : Held) → FitsDrawer d count sw h → (c : Canvas) → 2 ≤ d.buffers → (k : ℕ) → IsKnown d k → held_frame (held_with_target h c) k ≡ held_frame h k
target_keeps d count sw (One b) f c many k known = absurd (omega (arith, f.one, many))
target_keeps d count sw (More s) f c many k known = target_of_several d count sw s.shown s.waiting s.back s.stock.low s.stock.high f c k known
