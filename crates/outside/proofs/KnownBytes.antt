-- Bytes that are read or written piece by piece.
use Rattle.std.proofs.Common.{◌≡◌, ℕ, List, ◌++◌, take, Option, None, Some, option_map, IfSome, sym, ap, ◌∙◌, append_assoc}
use Rattle.std.specs.Io.KnownBytes.{Keeps, Appends, Consumes, IsAtEnd}
use Rattle.std.proofs.lemmas.List.{append-nil}

-- ---- a reader

pub Consumes-then : (a b c : Option (List ℕ)) (s t : List ℕ) → Consumes a b s → Consumes b c t → Consumes a c (s ++ t)
Consumes-then None b c s t p q = tt
Consumes-then (Some x) None c s t p q = absurd p
Consumes-then (Some x) (Some y) None s t p q = absurd q
Consumes-then (Some x) (Some y) (Some z) s t p q = p ∙ ap (λ (v : List ℕ). s ++ v) q ∙ sym (append_assoc s t z)

pub Consumes-kept : (a b c : Option (List ℕ)) (s : List ℕ) → Consumes a b s → Keeps b c → Consumes a c s
Consumes-kept None b c s p q = tt
Consumes-kept (Some x) None c s p q = absurd p
Consumes-kept (Some x) (Some y) None s p q = absurd q
Consumes-kept (Some x) (Some y) (Some z) s p q = p ∙ ap (λ (v : List ℕ). s ++ v) (sym q)

-- a last read that gave nothing was at the end of the first bytes
pub read-end : (n : ℕ) (left b c : Option (List ℕ)) (s piece : List ℕ) → Consumes (option_map (take n) left) b s → Consumes b c (take 0 piece) → IsAtEnd c → IfSome left (λ xs. s ≡ take n xs)
read-end n None b c s piece p q e = tt
read-end n (Some x) None c s piece p q e = absurd p
read-end n (Some x) (Some y) None s piece p q e = absurd q
read-end n (Some x) (Some y) (Some z) s piece p q e = sym (p ∙ ap (λ (v : List ℕ). s ++ v) (q ∙ e) ∙ append-nil s)

-- ---- a writer

pub Appends-then : (a b c : Option (List ℕ)) (s t : List ℕ) → Appends a b s → Appends b c t → Appends a c (s ++ t)
Appends-then None b c s t p q = tt
Appends-then (Some x) None c s t p q = absurd p
Appends-then (Some x) (Some y) None s t p q = absurd q
Appends-then (Some x) (Some y) (Some z) s t p q = q ∙ ap (λ (v : List ℕ). v ++ t) p ∙ append_assoc x s t

pub Appends-kept : (a b c : Option (List ℕ)) (s : List ℕ) → Appends a b s → Keeps b c → Appends a c s
Appends-kept None b c s p q = tt
Appends-kept (Some x) None c s p q = absurd p
Appends-kept (Some x) (Some y) None s p q = absurd q
Appends-kept (Some x) (Some y) (Some z) s p q = q ∙ p
