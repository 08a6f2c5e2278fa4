-- The clips of a window's descendants.
use Rattle.std.proofs.Common.{◌≡◌, ℕ, false, eqb, List, [], ◌∷◌, Some, refl, sym, ap, subst, ◌∙◌, arith}
use Rattle.std.specs.List.{AllByRecursion}
use Rattle.std.proofs.lemmas.Bool.{ne_eqb}
use Rattle.gfx_base.specs.declared.rect.Rect.{Rect}
use Rattle.gfx_base.specs.Rects.{LiesIn}
use Rattle.scene.specs.declared.win.Win.{Win}
use Rattle.scene.specs.Places.{window_of, place_of, place_at, parent_in}
use Rattle.scene.specs.Clips.{clip_in}
use Rattle.scene.specs.Families.{family_of}
use Rattle.scene.specs.Stacks.{IsWindow, IsStack}
use Rattle.scene.proofs.CallerLemmas.{has-parent_clip, all_found}
use Rattle.win_tree.specs.Forests.{Forest, Empty, Top, order, AreChildren}
use Rattle.win_tree.proofs.StackLemmas.{AllBy-append, AllBy-first, AllBy-last}
use Rattle.win_tree.proofs.BlockLemmas.{AllBy-block}
use Rattle.win_tree.proofs.ValidLemmas.{placed, fam_of, rest_of, block_in, family_is, window_of-win}

-- a child's clip lies in its parent's
child_clipped : (screen : Rect) (ws : List Win) (w v : Win) → window_of ws v.parent ≡ Some w → eqb v.parent 0 ≡ false → LiesIn (clip_in screen ws v) (clip_in screen ws w)
child_clipped screen ws w v live child p here =
    let up : parent_in (place_at ws) (place_of v) ≡ Some (place_of w) = rw (child, live) refl in
    has-parent_clip 7 screen (place_at ws) (place_of v) (place_of w) p up here

-- what is known of each window of a family
pub record IsKnown (ws : List Win) (w : Win) : Type 0 where
  pub window : IsWindow w
  pub found : window_of ws w.handle ≡ Some w

pub all_known : (ws us : List Win) → AllByRecursion IsWindow us → AllByRecursion (λ w. window_of ws w.handle ≡ Some w) us → AllByRecursion (IsKnown ws) us
all_known ws [] windows found = tt
all_known ws (w ∷ us) windows found = (record { window = windows.0; found = found.0 }, all_known ws us windows.1 found.1)

-- windows and their descendants, whose parent is clipped
children_clipped : (screen outer : Rect) (ws : List Win) (parent : Win) (t : Forest) → IsKnown ws parent → LiesIn (clip_in screen ws parent) outer → AreChildren parent.handle t → AllByRecursion (IsKnown ws) (order t)
    → AllByRecursion (λ v. LiesIn (clip_in screen ws v) outer) (order t)
children_clipped screen outer ws parent Empty known inside children all = tt
children_clipped screen outer ws parent (Top w kids below) known inside children all =
    let mine = AllBy-last (IsKnown ws) (order below) (w ∷ order kids) all in
    let child : eqb w.parent 0 ≡ false = ne_eqb w.parent 0 (λ top. omega (arith, known.window.handle, children.0, top)) in
    let up : window_of ws w.parent ≡ Some parent = ap (window_of ws) children.0 ∙ known.found in
    let here : LiesIn (clip_in screen ws w) outer = λ p h. inside p (child_clipped screen ws parent w up child p h) in
    AllBy-append (λ v. LiesIn (clip_in screen ws v) outer) (order below) (w ∷ order kids)
    (children_clipped screen outer ws parent below known inside children.2 (AllBy-first (IsKnown ws) (order below) (w ∷ order kids) all))
    (here, children_clipped screen outer ws w kids mine.0 here children.1 mine.1)

pub family_clipped : (screen : Rect) (ws : List Win) (h : ℕ) (w : Win) → IsStack ws → window_of ws h ≡ Some w → AllByRecursion (λ v. LiesIn (clip_in screen ws v) (clip_in screen ws w)) (family_of h ws)
family_clipped screen ws h w stack live =
    let s = placed ws h w stack live in
    let same : s.at.win ≡ w = let e = sym (window_of-win ws h s stack) ∙ live in cc in
    let outer = clip_in screen ws s.at.win in
    let known = AllBy-block (IsKnown ws) (fam_of ws h s) (order (rest_of ws h s)) ws (block_in ws h s) (all_known ws ws stack.windows (all_found ws stack.single)) in
    let C : ℕ → Type 0 = λ k. AreChildren k s.at.kids in
    let all = children_clipped screen outer ws s.at.win s.at.kids known.0 (λ p here. here) (subst C (sym s.at.handle) s.at.children) known.1 in
    let W : Win → Type 0 = λ v. AllByRecursion (λ u. LiesIn (clip_in screen ws u) (clip_in screen ws v)) (fam_of ws h s) in
    let F : List Win → Type 0 = λ us. AllByRecursion (λ u. LiesIn (clip_in screen ws u) (clip_in screen ws w)) us in
    subst F (sym (family_is ws h s)) (subst W same (λ p here. here, all))
