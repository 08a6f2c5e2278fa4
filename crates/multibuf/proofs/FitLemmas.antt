-- Buffers that change their parts still fit what their drawer knows.
use Rattle.std.proofs.Common.{◌≡◌, ◌≢◌, ◌⊎◌, ℕ, ◌<◌, ◌≤◌, Option, Some, None, refl, sym, ap, ◌∙◌, subst, inl, inr, arith}
use Rattle.std.specs.Prelude.{true, false, is_some, IfSome, unwrap_or}
use Rattle.std.specs.Option.{option_map}
use Rattle.std.proofs.lemmas.Bool.{cases_order}
use Rattle.flip.specs.declared.views.Drawing.{Drawing}
use Rattle.flip.specs.Indexes.{confirmed_by}
use Rattle.flip.specs.Drawers.{after_post, IsConsistent}
use Rattle.multibuf.specs.declared.owners.Free.{Free}
use Rattle.multibuf.specs.declared.owners.Back.{Back}
use Rattle.multibuf.specs.declared.owners.Waiting.{Waiting}
use Rattle.multibuf.specs.declared.owners.Shown.{Shown}
use Rattle.multibuf.specs.declared.held.Held.{Held}
use Rattle.multibuf.specs.declared.held.Held.TheVariants.{One, More}
use Rattle.multibuf.specs.Owners.{index_of_free, index_of_back, free_of_shown, free_of_waiting}
use Rattle.multibuf.specs.Stocks.{stock_beside}
use Rattle.multibuf.specs.Parts.{several_after_confirm, several_after_ask}
use Rattle.multibuf.specs.Held.{held_after_confirm, held_after_ask, held_back_index}
use Rattle.multibuf.specs.Fitting.{AreRest, FitsSeveral, FitsBack, FitsDrawer}
use Rattle.multibuf.proofs.RestLemmas.{no_second, one_more}
use Rattle.multibuf.proofs.KeptFrames.{several}

abbrev indexes : Option Free → Option ℕ
indexes o = option_map index_of_free o

differs : (a b : ℕ) → (a < b) ⊎ (b < a) → a ≢ b
differs a b (inl below) = omega arith
differs a b (inr above) = omega arith

-- what is free where one waits, on plain indexes
plain_rest : (d : Drawing) (count sw : ℕ) (sh : Shown) (w : Waiting) (bo : Option Back) (lo hi : Option Free) → FitsSeveral d count sw (several sh (Some w) bo lo hi)
    → AreRest d.buffers sh.index (Some w.index) (option_map index_of_back bo) (indexes lo) (indexes hi)
plain_rest d count sw sh w bo lo hi f =
    subst (λ (i : ℕ × Option ℕ). AreRest d.buffers i.0 i.1 (option_map index_of_back bo) (indexes lo) (indexes hi)) (λ i. (sym f.shown i, sym f.waiting i)) f.rest

-- the buffer that waits is another one than the one that is shown
waits : (d : Drawing) (count sw : ℕ) (sh : Shown) (w : Waiting) (bo : Option Back) (lo hi : Option Free) → FitsSeveral d count sw (several sh (Some w) bo lo hi)
    → (w.index < d.buffers) × (w.index ≢ sh.index)
waits d count sw sh w bo lo hi f =
    let known : (w.index < d.buffers) × (w.index ≢ d.shown) = subst (λ (o : Option ℕ). IfSome o (λ k. (k < d.buffers) × (k ≢ d.shown))) (sym f.waiting) f.consistent.waiting_exists in
    (known.0, λ e. known.1 (e ∙ f.shown))

-- the one that was shown is free
confirmed_rest : (n w : ℕ) (back : Option ℕ) (sh : Shown) (lo : Option Free) → AreRest n sh.index (Some w) back (indexes lo) None → sh.index < n → w ≢ sh.index → back ≢ Some sh.index
    → AreRest n w None back (indexes (stock_beside lo (free_of_shown sh) None).low) (indexes (stock_beside lo (free_of_shown sh) None).high)
confirmed_rest n w back sh lo r below apart off =
    one_more n sh.index w (Some w) back None back lo (free_of_shown sh) r
    (record { exists = below; not_shown = λ e. apart (sym e); not_waiting = λ e. absurd (cc); not_back = off })
    (λ rest. rest.not_shown refl)
    (λ k rest. record { exists = rest.exists; not_shown = λ e. rest.not_waiting (ap Some (sym e)); not_waiting = λ e. absurd (cc); not_back = rest.not_back })
    (λ k rest. elim (cases_order k sh.index) [
      | inl e ↦ inl e
      | inr o ↦ inr (record { exists = rest.exists; not_shown = differs k sh.index o; not_waiting = λ e. let same : w ≡ k = cc (e) in rest.not_shown (sym same); not_back = rest.not_back })
    ])

-- the one that waited is free
replaced_rest : (n s b : ℕ) (w : Waiting) (lo : Option Free) → AreRest n s (Some w.index) (Some b) (indexes lo) None → w.index < n → w.index ≢ s → b ≢ w.index
    → AreRest n s (Some b) None (indexes (stock_beside lo (free_of_waiting w) None).low) (indexes (stock_beside lo (free_of_waiting w) None).high)
replaced_rest n s b w lo r below apart off =
    one_more n s s (Some w.index) (Some b) (Some b) None lo (free_of_waiting w) r
    (record { exists = below; not_shown = apart; not_waiting = λ e. let same : b ≡ w.index = cc (e) in off same; not_back = λ e. absurd (cc) })
    (λ rest. rest.not_waiting refl)
    (λ k rest. record { exists = rest.exists; not_shown = rest.not_shown; not_waiting = rest.not_back; not_back = λ e. absurd (cc) })
    (λ k rest. elim (cases_order k w.index) [
      | inl e ↦ inl e
      | inr o ↦ inr (record { exists = rest.exists; not_shown = rest.not_shown; not_waiting = λ e. let same : w.index ≡ k = cc (e) in differs k w.index o (sym same); not_back = rest.not_waiting })
    ])

-- no one becomes free
asked_rest : (n s b : ℕ) (low high : Option ℕ) → AreRest n s None (Some b) low high → AreRest n s (Some b) None low high
asked_rest n s b low high r = record {
  low_free = λ k e. let rest = r.low_free k e in record { exists = rest.exists; not_shown = rest.not_shown; not_waiting = rest.not_back; not_back = λ e. absurd (cc) };
  high_free = λ k e. let rest = r.high_free k e in record { exists = rest.exists; not_shown = rest.not_shown; not_waiting = rest.not_back; not_back = λ e. absurd (cc) };
  in_order = r.in_order;
  first_first = r.first_first;
  all = λ k rest. r.all k (record { exists = rest.exists; not_shown = rest.not_shown; not_waiting = λ e. absurd (cc); not_back = rest.not_waiting });
}

-- the one that is drawn on isn't shown, and doesn't wait
back_apart : (d : Drawing) (count : ℕ) (bo : Option Back) → FitsBack d count bo → (option_map index_of_back bo ≢ Some d.shown) × (((k : ℕ) → d.waiting ≡ Some k → option_map index_of_back bo ≢ Some k))
back_apart d count None f = (λ e. absurd (cc), λ k w e. absurd (cc))
back_apart d count (Some b) f = (λ e. let same : b.index ≡ d.shown = cc (e) in f.2 same, λ k w e. f.3 (w ∙ sym e))

-- after what waits is shown
confirm_fits : (d e : Drawing) (count sw : ℕ) (sh : Shown) (w : Waiting) (bo : Option Back) (lo hi : Option Free) → FitsSeveral d count sw (several sh (Some w) bo lo hi)
    → e.buffers ≡ d.buffers → e.shown ≡ w.index → e.waiting ≡ None → IsConsistent e → FitsSeveral e count sw (several_after_confirm (several sh (Some w) bo lo hi))
confirm_fits d e count sw sh w bo lo (Some h) f same shows none ok =
    let at = waits d count sw sh w bo lo (Some h) f in
    let below : sh.index < d.buffers = subst (λ (k : ℕ). k < d.buffers) (sym f.shown) f.consistent.shown_exists in
    let none = no_second d.buffers sh.index w.index _ (indexes lo) _ (plain_rest d count sw sh w bo lo (Some h) f) f.consistent.at_most_three below at.0 at.1 in
    absurd (cc (none))
confirm_fits d e count sw sh w bo lo None f same shows none ok =
    let at = waits d count sw sh w bo lo None f in
    let below : sh.index < d.buffers = subst (λ (k : ℕ). k < d.buffers) (sym f.shown) f.consistent.shown_exists in
    let off : option_map index_of_back bo ≢ Some sh.index = λ p. (back_apart d count bo f.back).0 (p ∙ ap Some f.shown) in
    let rest = confirmed_rest d.buffers w.index (option_map index_of_back bo) sh lo (plain_rest d count sw sh w bo lo None f) below at.1 off in
    record {
      several = subst (λ (k : ℕ). 2 ≤ k) (sym same) f.several;
      consistent = ok;
      few = f.few;
      shown = sym shows;
      waiting = sym none;
      number = tt;
      back = back_fits bo f.back;
      rest = subst (λ (i : ℕ × ℕ × Option ℕ). AreRest i.0 i.1 i.2 (option_map index_of_back bo) (indexes (stock_beside lo (free_of_shown sh) None).low) (indexes (stock_beside lo (free_of_shown sh) None).high)) (λ i. (sym same i, sym shows i, sym none i)) rest;
    }
  where
    back_fits : (bo : Option Back) → FitsBack d count bo → FitsBack e count bo
    back_fits None g = g
    back_fits (Some b) g =
        (g.0, subst (λ (k : ℕ). b.index < k) (sym same) g.1, λ p. g.3 (sym f.waiting ∙ ap Some (sym (p ∙ shows))), λ p. absurd (cc (p, none)))

-- after what is drawn on waits
ask_fits : (d e : Drawing) (count sw n : ℕ) (sh : Shown) (wo : Option Waiting) (b : Back) (lo hi : Option Free) → FitsSeveral d count sw (several sh wo (Some b) lo hi)
    → e.buffers ≡ d.buffers → e.shown ≡ d.shown → e.waiting ≡ Some b.index → IsConsistent e → FitsSeveral e 0 n (several_after_ask (several sh wo (Some b) lo hi) n)
ask_fits d e count sw n sh None b lo hi f same shows posts ok =
    let rest = asked_rest d.buffers d.shown b.index (indexes lo) (indexes hi) (subst (λ (o : Option ℕ). AreRest d.buffers d.shown o (Some b.index) (indexes lo) (indexes hi)) (sym f.waiting) f.rest) in
    record {
      several = subst (λ (k : ℕ). 2 ≤ k) (sym same) f.several;
      consistent = ok;
      few = omega arith;
      shown = f.shown ∙ sym shows;
      waiting = sym posts;
      number = refl;
      back = refl;
      rest = subst (λ (i : ℕ × ℕ × Option ℕ). AreRest i.0 i.1 i.2 None (indexes lo) (indexes hi)) (λ i. (sym same i, sym shows i, sym posts i)) rest;
    }
ask_fits d e count sw n sh (Some w) b lo (Some h) f same shows posts ok =
    let at = waits d count sw sh w (Some b) lo (Some h) f in
    let below : sh.index < d.buffers = subst (λ (k : ℕ). k < d.buffers) (sym f.shown) f.consistent.shown_exists in
    let none = no_second d.buffers sh.index w.index _ (indexes lo) _ (plain_rest d count sw sh w (Some b) lo (Some h) f) f.consistent.at_most_three below at.0 at.1 in
    absurd (cc (none))
ask_fits d e count sw n sh (Some w) b lo None f same shows posts ok =
    let at = waits d count sw sh w (Some b) lo None f in
    let off : b.index ≢ w.index = λ p. f.back.3 (sym f.waiting ∙ ap Some (sym p)) in
    let rest = replaced_rest d.buffers sh.index b.index w lo (plain_rest d count sw sh w (Some b) lo None f) at.0 at.1 off in
    let shown : sh.index ≡ e.shown = f.shown ∙ sym shows in
    record {
      several = subst (λ (k : ℕ). 2 ≤ k) (sym same) f.several;
      consistent = ok;
      few = omega arith;
      shown = shown;
      waiting = sym posts;
      number = refl;
      back = refl;
      rest = subst (λ (i : ℕ × ℕ × Option ℕ). AreRest i.0 i.1 i.2 None (indexes (stock_beside lo (free_of_waiting w) None).low) (indexes (stock_beside lo (free_of_waiting w) None).high)) (λ i. (sym same i, shown i, sym posts i)) rest;
    }

-- after a post that found no confirmation
asked_after : (d : Drawing) (found : Option ℕ) (count sw n k : ℕ) (h : Held) → FitsDrawer d count sw h → held_back_index h ≡ Some k → confirmed_by d.waiting found ≡ None → IsConsistent (after_post d found k)
    → FitsDrawer (after_post d found k) 0 n (held_after_ask h n)
asked_after d found count sw n k (One b) f is unseen ok = absurd (cc (is))
asked_after d found count sw n k (More s) f is unseen ok = go s.back f is
  where
    go : (bo : Option Back) → FitsSeveral d count sw (several s.shown s.waiting bo s.stock.low s.stock.high) → option_map index_of_back bo ≡ Some k
        → FitsSeveral (after_post d found k) 0 n (several_after_ask (several s.shown s.waiting bo s.stock.low s.stock.high) n)
    go None g is = absurd (cc (is))
    go (Some b) g is = ask_fits d (after_post d found k) count sw n s.shown s.waiting b s.stock.low s.stock.high g refl (ap (λ (o : Option ℕ). unwrap_or o d.shown) unseen) (sym is) ok

-- after a post that found a confirmation
confirmed_after : (d : Drawing) (found : Option ℕ) (count sw n k j : ℕ) (h : Held) → FitsDrawer d count sw h → held_back_index h ≡ Some k → confirmed_by d.waiting found ≡ Some j → IsConsistent (after_post d found k)
    → FitsDrawer (after_post d found k) 0 n (held_after_ask (held_after_confirm h) n)
confirmed_after d found count sw n k j (One b) f is taken ok = absurd (cc (is))
confirmed_after d found count sw n k j (More s) f is taken ok = go s.waiting s.back f is
  where
    named : (known : Option ℕ) → confirmed_by known found ≡ Some j → known ≡ Some j
    named None p = absurd (cc (p))
    named (Some m) p = elim found as (λ (o : Option ℕ). confirmed_by (Some m) o ≡ Some j → Some m ≡ Some j) [ None ↦ λ q. q | Some i ↦ λ q. absurd (cc (q)) ] p

    now_shown : unwrap_or (confirmed_by d.waiting found) d.shown ≡ j
    now_shown = ap (λ (o : Option ℕ). unwrap_or o d.shown) taken

    go : (wo : Option Waiting) (bo : Option Back) → FitsSeveral d count sw (several s.shown wo bo s.stock.low s.stock.high) → option_map index_of_back bo ≡ Some k
        → FitsSeveral (after_post d found k) 0 n (several_after_ask (several_after_confirm (several s.shown wo bo s.stock.low s.stock.high)) n)
    go wo None g is = absurd (cc (is))
    go None (Some b) g is = absurd (cc (g.waiting, named d.waiting taken))
    go (Some w) (Some b) g is =
        let same : j ≡ w.index = cc (g.waiting, named d.waiting taken) in
        let at = waits d count sw s.shown w (Some b) s.stock.low s.stock.high g in
        let e : Drawing = record d { shown = w.index; waiting = None } in
        let kept : IsConsistent e = record { at_least_one = g.consistent.at_least_one; at_most_three = g.consistent.at_most_three; shown_exists = at.0; waiting_exists = tt } in
        let seen = confirm_fits d e count sw s.shown w (Some b) s.stock.low s.stock.high g refl refl refl kept in
        let t = several_after_confirm (several s.shown (Some w) (Some b) s.stock.low s.stock.high) in
        ask_fits e (after_post d found k) count sw n t.shown t.waiting b t.stock.low t.stock.high seen refl (now_shown ∙ same) (sym is) ok

-- the same of what the drawer then knows
pub asked_fits : (d e : Drawing) (found : Option ℕ) (count sw n k : ℕ) (h : Held) → FitsDrawer d count sw h → held_back_index h ≡ Some k → is_some (confirmed_by d.waiting found) ≡ false → e ≡ after_post d found k → IsConsistent e
    → FitsDrawer e 0 n (held_after_ask h n)
asked_fits d e found count sw n k h f is unseen after ok =
    subst (λ (x : Drawing). FitsDrawer x 0 n (held_after_ask h n)) (sym after) (asked_after d found count sw n k h f is (none_of _ unseen) (subst (λ (x : Drawing). IsConsistent x) after ok))
  where
    none_of : (o : Option ℕ) → is_some o ≡ false → o ≡ None
    none_of None p = refl
    none_of (Some j) p = absurd (cc (p))

pub confirmed_fits : (d e : Drawing) (found : Option ℕ) (count sw n k : ℕ) (h : Held) → FitsDrawer d count sw h → held_back_index h ≡ Some k → is_some (confirmed_by d.waiting found) ≡ true → e ≡ after_post d found k → IsConsistent e
    → FitsDrawer e 0 n (held_after_ask (held_after_confirm h) n)
confirmed_fits d e found count sw n k h f is taken after ok =
    let some = some_of _ taken in
    subst (λ (x : Drawing). FitsDrawer x 0 n (held_after_ask (held_after_confirm h) n)) (sym after) (confirmed_after d found count sw n k some.0 h f is some.1 (subst (λ (x : Drawing). IsConsistent x) after ok))
  where
    some_of : (o : Option ℕ) → is_some o ≡ true → (j : ℕ) × (o ≡ Some j)
    some_of None p = absurd (cc (p))
    some_of (Some j) p = (j, refl)
