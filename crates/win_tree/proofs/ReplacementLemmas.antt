-- A window that is put in the place of another.
use Rattle.std.proofs.Common.{◌≡◌, ℕ, List, Option, Some, None, refl, sym, ap, subst, ◌∙◌, arith}
use Rattle.scene.specs.declared.win.Win.{Win}
use Rattle.scene.specs.Places.{window_of}
use Rattle.scene.specs.Stacks.{IsWindow, IsDesktop}
use Rattle.win_tree.specs.Trees.{IsReplacement}
use Rattle.win_tree.proofs.ChangeLemmas.{window_of-handle}

-- a window in the place of another has what each window has
pub replacement_own : (o : Option Win) (win : Win) → IsReplacement o win → ((w : Win) → o ≡ Some w → IsWindow w × (w.handle ≡ 1 → IsDesktop w)) → IsWindow win × (win.handle ≡ 1 → IsDesktop win)
replacement_own None win r own = absurd r
replacement_own (Some w) win r own =
    let was = own w refl in
    let handle : win.handle ≡ w.handle = ap (λ (u : Win). u.handle) r.same in
    let width : win.w ≡ w.w = ap (λ (u : Win). u.w) r.same in
    let height : win.h ≡ w.h = ap (λ (u : Win). u.h) r.same in (
      record {
        handle = omega (arith, handle, was.0.handle);
        some_width = omega (arith, width, was.0.some_width);
        width = omega (arith, width, was.0.width);
        some_height = omega (arith, height, was.0.some_height);
        height = omega (arith, height, was.0.height);
        invalid = r.invalid;
      },
      λ one.
          let desk = was.1 (sym handle ∙ one) in
          let kept = r.desktop one in
          record {
            x = ap (λ (u : Win). u.x) r.same ∙ desk.x;
            y = ap (λ (u : Win). u.y) r.same ∙ desk.y;
            width = omega (arith, width, desk.width);
            height = omega (arith, height, desk.height);
            shown = ap (λ (u : Win). u.shown) r.same ∙ desk.shown;
            class = kept.0 ∙ desk.class;
            trans = kept.1 ∙ desk.trans;
          },
    )

-- a window may stand in its own place
pub replacement_itself : (ws : List Win) (h : ℕ) (w : Win) → window_of ws h ≡ Some w → IsWindow w → IsReplacement (window_of ws w.handle) w
replacement_itself ws h w live window =
    let R : Option Win → Type 0 = λ o. IsReplacement o w in
    subst R (sym (ap (window_of ws) (window_of-handle ws h w live) ∙ live)) (record { same = refl; invalid = window.invalid; desktop = λ one. (refl, refl) })
