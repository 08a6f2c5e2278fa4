-- Under a lock a pass stays alone.
use Rattle.std.proofs.Common.{◌≡◌, ℕ, ◌+◌, ◌<◌, Bool, true, false, List, [], ◌∷◌, ◌++◌, refl, sym, ap, ◌∙◌, subst, append_assoc}
use Rattle.gui_lock.specs.declared.entry.Entry.{Entry}
use Rattle.gui_lock.specs.declared.entry.Entry.TheVariants.{Made, Mark}
use Rattle.gui_lock.specs.Blocks.{AreOf, StaysAlone}
use Rattle.gui_lock.specs.Entries.{AreMarks, own, Outcome}
use Rattle.gui_lock.specs.Passes.{Held, Sees, Acts, Waits}
use Rattle.gui_lock.proofs.CallerLemmas.{append_nil}

module _ {C : Type 0} where
  are_of-append : (k : ℕ) (xs ys : List (Entry C)) → AreOf k xs → AreOf k ys → AreOf k (xs ++ ys)
  are_of-append k [] ys h g = g
  are_of-append k (Mark m n ∷ xs) ys h g = are_of-append k xs ys h g
  are_of-append k (Made a c ∷ xs) ys h g = (h.0, are_of-append k xs ys h.1 g)

  are_of-marks : (k : ℕ) (ms : List (Entry C)) → AreMarks ms → AreOf k ms
  are_of-marks k [] h = tt
  are_of-marks k (Mark m n ∷ ms) h = are_of-marks k ms h
  are_of-marks k (Made a c ∷ ms) h = absurd h

  are_of-own : (added : Bool) (k : ℕ) (call : C) → AreOf k (own added k call)
  are_of-own true k call = (refl, tt)
  are_of-own false k call = tt

module _ {C K : Type 0} where
  pub alone_seeing : (passes : ℕ) (old new : Held C K) → 0 < old.depth → Sees passes old new → StaysAlone old new
  alone_seeing passes old new deep s = record { block = []; own = tt; seen = s.seen ∙ ap (λ (l : List (Entry C)). old.seen ++ l) (s.near deep); number = s.same.1 }

  pub alone_acting : {R M : Type 0} (passes : ℕ) (gives : List (Entry C) → Outcome R M) (wanting may_want : Bool) (call : C) (old new : Held C K) (reply : R) (old_room room : M)
      → 0 < old.depth → Acts passes gives wanting may_want call old new reply old_room room → StaysAlone old new
  alone_acting passes gives wanting may_want call old new reply old_room room deep a =
      let alone : old.seen ++ a.between ≡ old.seen = ap (λ (l : List (Entry C)). old.seen ++ l) (a.near deep) ∙ append_nil old.seen in record {
        block = a.marks ++ own a.added old.number call;
        own = are_of-append old.number a.marks (own a.added old.number call) (are_of-marks old.number a.marks a.are_marks) (are_of-own a.added old.number call);
        seen = a.seen ∙ (ap (λ (l : List (Entry C)). (l ++ a.marks) ++ own a.added old.number call) alone ∙ append_assoc old.seen a.marks (own a.added old.number call));
        number = a.same.1;
      }

  pub alone_waiting : (passes : ℕ) (old new : Held C K) → 0 < old.depth → Waits passes old new → StaysAlone old new
  alone_waiting passes old new deep w = record { block = w.between; own = are_of-marks old.number w.between (w.near deep); seen = w.seen; number = w.same.1 }

  pub alone_unlocking : (old new : Held C K) → old ≡ record new { depth = new.depth + 1 } → StaysAlone old new
  alone_unlocking old new is = record {
    block = [];
    own = tt;
    seen = sym (ap (λ (p : Held C K). p.seen) is) ∙ sym (append_nil old.seen);
    number = sym (ap (λ (p : Held C K). p.number) is);
  }

  pub alone_together : (first next last : Held C K) → StaysAlone first next → StaysAlone next last → StaysAlone first last
  alone_together first next last a b = record {
    block = a.block ++ b.block;
    own = are_of-append first.number a.block b.block a.own (subst (λ (k : ℕ). AreOf k b.block) a.number b.own);
    seen = b.seen ∙ (ap (λ (l : List (Entry C)). l ++ b.block) a.seen ∙ append_assoc first.seen a.block b.block);
    number = b.number ∙ a.number;
  }
