-- What the tree answers is what the core answers.
use Rattle.std.proofs.Common.{◌≡◌, ◌≢◌, ℕ, ◌<◌, ◌≤◌, subst, arith, Bool, true, false, cond, eqb, List, [], ◌∷◌, ◌++◌, Option, Some, None, Result, Ok, Err, refl, sym, ap, ◌∙◌}
use Rattle.std.specs.Prelude.{not, is_some, option_map, IfErr, OnErr, OnOk, nat_le}
use Rattle.scene.specs.declared.win.Win.{Win}
use Rattle.scene.specs.Places.{window_of}
use Rattle.scene.specs.Stacks.{IsWindow, is_bad_size}
use Rattle.win_tree.specs.Trees.{Scene, IsReplacement}
use Rattle.win_tree.specs.Refusals.{refusal_of_change, refusal_of_resize}
use Rattle.win_tree.specs.declared.refused.TreeRefused.{TreeRefused}
use Rattle.calls.specs.declared.reply.Refusal.{Refusal}
use Rattle.window_list.specs.Refusals.{refusal_for, told, Performs}
use Rattle.desk.specs.Windows.{with_class, with_trans}
use Rattle.calls.specs.declared.reply.Refusal.TheVariants.{NoWindow, NoValue}
use Rattle.desk.specs.Desks.{refusal_of, no_window, no_value, unchangeable, bad_size, no_class}
use Rattle.desk.proofs.CallerLemmas.{found_handle}
use Rattle.std.proofs.lemmas.Bool.{ne_eqb}
use Rattle.std.proofs.lemmas.Bool.Decides.{nat_tests}

-- where a reason is that of the tree, the tree's answer is the core's
pub told_performs : (r : Result (Unit {0}) TreeRefused) (t : Option TreeRefused) (reason : Option Refusal) (now : List Win) (old new : Scene) → reason ≡ option_map refusal_for t
    → IfErr r (λ why. t ≡ Some why) → OnErr r (new ≡ old) → OnOk r (t ≡ None) → OnOk r (new ≡ record { windows = now; handles = old.handles }) → Performs (told r) reason now old new
told_performs (Ok done) t reason now old new same refused unchanged accepted is = (same ∙ ap (option_map refusal_for) accepted, is)
told_performs (Err why) t reason now old new same refused unchanged accepted is = (same ∙ ap (option_map refusal_for) refused, unchanged)

-- ---- the tree's reasons are the core's

mapped : (b c : Bool) (none one : TreeRefused) → cond (not b) (Some (refusal_for none)) (cond c (Some (refusal_for one)) None) ≡ option_map refusal_for (cond b (cond c (Some one) None) (Some none))
mapped true true none one = refl
mapped true false none one = refl
mapped false c none one = refl

mapped_more : (b c d : Bool) (none one more : TreeRefused) → cond (not b) (Some (refusal_for none)) (cond c (Some (refusal_for one)) (cond d (Some (refusal_for more)) None)) ≡ option_map refusal_for (cond b (cond c (Some one) (cond d (Some more) None)) (Some none))
mapped_more true true d none one more = refl
mapped_more true false true none one more = refl
mapped_more true false false none one more = refl
mapped_more false c d none one more = refl

pub change_reason : (ws : List Win) (h : ℕ) → refusal_of (unchangeable ws h) ≡ option_map refusal_for (refusal_of_change ws h)
change_reason ws h = mapped (is_some (window_of ws h)) (eqb h 1) _ _

pub resize_reason : (ws : List Win) (h width height : ℕ) → refusal_of (unchangeable ws h ++ bad_size width height ∷ []) ≡ option_map refusal_for (refusal_of_resize ws h width height)
resize_reason ws h width height = mapped_more (is_some (window_of ws h)) (eqb h 1) (is_bad_size width height) _ _ _

-- ---- without a window

-- ---- a class

known_class : (classes class : ℕ) → class < classes → nat_le classes class ≡ false
known_class classes class less = grind (arith, nat_tests)

pub class_reason : (ws : List Win) (h : ℕ) (w : Win) (class classes : ℕ) → window_of ws h ≡ Some w → h ≢ 1 → class < classes → refusal_of (unchangeable ws h ++ no_class classes class ∷ []) ≡ None
class_reason ws h w class classes live other known = rw (live, ne_eqb h 1 other, known_class classes class known) refl

-- a window of another class may stand in the place of one that isn't the desktop
pub class_replaces : (ws : List Win) (h class : ℕ) (w : Win) → window_of ws h ≡ Some w → h ≢ 1 → IsWindow w → IsReplacement (window_of ws w.handle) (with_class class w)
class_replaces ws h class w live other window =
    let handle = found_handle ws h w live in
    let R : Option Win → Type 0 = λ o. IsReplacement o (with_class class w) in
    subst R (sym (ap (window_of ws) handle ∙ live))
    (record { same = refl; invalid = window.invalid; desktop = λ one. absurd (other (sym handle ∙ one)) })

-- ---- a window that is seen through, or no longer

pub trans_reason : (ws : List Win) (h : ℕ) (w : Win) → window_of ws h ≡ Some w → h ≢ 1 → refusal_of (unchangeable ws h) ≡ None
trans_reason ws h w live other = rw (live, ne_eqb h 1 other) refl

pub trans_replaces : (ws : List Win) (h : ℕ) (trans : Bool) (w : Win) → window_of ws h ≡ Some w → h ≢ 1 → IsWindow w → IsReplacement (window_of ws w.handle) (with_trans trans w)
trans_replaces ws h trans w live other window =
    let handle = found_handle ws h w live in
    let R : Option Win → Type 0 = λ o. IsReplacement o (with_trans trans w) in
    subst R (sym (ap (window_of ws) handle ∙ live))
    (record { same = refl; invalid = window.invalid; desktop = λ one. absurd (other (sym handle ∙ one)) })

-- ---- values

pub value_known : (ws : List Win) (h index : ℕ) (w : Win) → window_of ws h ≡ Some w → index < 16 → refusal_of (no_window ws h ∷ no_value index ∷ []) ≡ None
value_known ws h index w live few = let test : nat_le 16 index ≡ false = grind (arith, nat_tests) in rw (live, test) refl

pub value_unknown : (ws : List Win) (h index : ℕ) (w : Win) → window_of ws h ≡ Some w → 16 ≤ index → refusal_of (no_window ws h ∷ no_value index ∷ []) ≡ Some (NoValue index)
value_unknown ws h index w live many = let test : nat_le 16 index ≡ true = grind (arith, nat_tests) in rw (live, test) refl

pub value_nowhere : (ws : List Win) (h index : ℕ) → window_of ws h ≡ None → refusal_of (no_window ws h ∷ no_value index ∷ []) ≡ Some (NoWindow h)
value_nowhere ws h index none = rw none refl
