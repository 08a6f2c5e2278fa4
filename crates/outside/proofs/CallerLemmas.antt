-- Texts that are written one after the other.
use Rattle.std.proofs.Common.{◌≡◌, ℕ, List, [], ◌++◌, Option, Some, None, Result, Ok, Err, refl}
use Rattle.std.proofs.Common.{sym, ap, subst, ◌∙◌, append_assoc, arith}
use Rattle.std.specs.Io.KnownBytes.{Appends}
use Rattle.std.proofs.lemmas.List.{append-nil}
use Rattle.outside.specs.Logs.{SinkLog, Whole, Broken, Wrote}
use Rattle.outside.proofs.KnownBytes.{Appends-then}

Appends-nil : (old : Option (List ℕ)) → Appends old old []
Appends-nil None = tt
Appends-nil (Some xs) = sym (append-nil xs)

pub Whole-nothing : (k : SinkLog) → Whole k k []
Whole-nothing k = record { later = omega arith; bytes = Appends-nil k.written }

pub Whole-then : (a b c : SinkLog) (s t : List ℕ) → Whole a b s → Whole b c t → Whole a c (s ++ t)
Whole-then a b c s t p q =
    let l0 = p.later in let l1 = q.later in
    record { later = omega arith; bytes = Appends-then a.written b.written c.written s t p.bytes q.bytes }

pub Broken-after : (a b c : SinkLog) (s t : List ℕ) → Whole a b s → Broken b c t → Broken a c (s ++ t)
Broken-after a b c s t p q =
    let l0 = p.later in let l1 = q.later in let up = q.rose in
    record {
      later = omega arith;
      rose = omega arith;
      prefix = s ++ q.prefix;
      rest = q.rest;
      parts = ap (λ (v : List ℕ). s ++ v) q.parts ∙ sym (append_assoc s q.prefix q.rest);
      bytes = Appends-then a.written b.written c.written s q.prefix p.bytes q.bytes;
    }

pub Broken-before : (a b : SinkLog) (s t : List ℕ) → Broken a b s → Broken a b (s ++ t)
Broken-before a b s t q =
    record {
      later = q.later;
      rose = q.rose;
      prefix = q.prefix;
      rest = q.rest ++ t;
      parts = ap (λ (v : List ℕ). v ++ t) q.parts ∙ append_assoc q.prefix q.rest t;
      bytes = q.bytes;
    }

-- a prefix of the text was written, and this is left
pub record Partly (old new : SinkLog) (left text : List ℕ) : Type 0 where
  pub prefix : List ℕ
  pub written : Whole old new prefix
  pub joined : prefix ++ left ≡ text

pub Partly-start : (k : SinkLog) (text : List ℕ) → Partly k k text text
Partly-start k text = record { prefix = []; written = Whole-nothing k; joined = refl }

pub Partly-step : (a b c : SinkLog) (piece left here text : List ℕ) → Partly a b here text → here ≡ piece ++ left → Whole b c piece → Partly a c left text
Partly-step a b c piece left here text p e w = record {
  prefix = p.prefix ++ piece;
  written = Whole-then a b c p.prefix piece p.written w;
  joined = append_assoc p.prefix piece left ∙ ap (λ (v : List ℕ). p.prefix ++ v) (sym e) ∙ p.joined;
}

pub Partly-broken : (a b c : SinkLog) (piece left here text : List ℕ) → Partly a b here text → here ≡ piece ++ left → Broken b c piece → Broken a c text
Partly-broken a b c piece left here text p e w =
    subst (Broken a c) (ap (λ (v : List ℕ). p.prefix ++ v) (sym e) ∙ p.joined) (Broken-after a b c p.prefix (piece ++ left) p.written (Broken-before b c piece left w))

pub Partly-done : (a b : SinkLog) (left text : List ℕ) → Partly a b left text → left ≡ [] → Whole a b text
Partly-done a b left text p e = subst (Whole a b) (sym (append-nil p.prefix) ∙ ap (λ (v : List ℕ). p.prefix ++ v) (sym e) ∙ p.joined) p.written

pub Partly-left : (a b : SinkLog) (here left text : List ℕ) → Partly a b here text → here ≡ left → Partly a b left text
Partly-left a b here left text p e = subst (λ (l : List ℕ). Partly a b l text) e p

-- the last call's result is returned
pub Partly-last : {T E : Type 0} (r : Result T E) (a b c : SinkLog) (left text : List ℕ) → Partly a b left text → Wrote r b c left → Wrote r a c text
Partly-last (Ok x) a b c left text p w = subst (Whole a c) p.joined (Whole-then a b c p.prefix left p.written w)
Partly-last (Err x) a b c left text p w = subst (Broken a c) p.joined (Broken-after a b c p.prefix left p.written w)
