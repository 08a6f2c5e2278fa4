-- The laws of lines that are read one by one, for each kind of text: its lines are whole or have a fault, and not both, and one fault.
use Rattle.std.proofs.Common.{◌≡◌, ℕ, ◌+◌, ◌≤◌, List, [], ◌∷◌, ◌++◌, length, Option, Some, None, Result, Ok, Err, refl, sym, ap, subst, ◌∙◌, inl, inr, arith, append_assoc}
use Rattle.std.specs.Prelude.{◌⊎◌}
use Rattle.std.proofs.lemmas.Bool.{cases_order}
use Rattle.std.proofs.lemmas.List.{append-nil, length-append}
use Rattle.spelling.specs.FirstFaults.{IsAgainst, IsFirstFault, IsFirst, IsBlock}
use Rattle.spelling.specs.LineReading.{on, run, ended, on_line, read_from, IsReading}

-- ---- steps

pub on_ok : {A B R : Type 0} (r : Result A R) (f : A → Result B R) (y : B) → on r f ≡ Ok y → (x : A) × (r ≡ Ok x) × (f x ≡ Ok y)
on_ok (Ok x) f y e = (x, refl, e)
on_ok (Err reason) f y e = absurd cc

on_on : {A B C R : Type 0} (r : Result A R) (f : A → Result C R) (g : A → Result B R) (h : B → Result C R) → ((x : A) → f x ≡ on (g x) h) → on r f ≡ on (on r g) h
on_on (Ok x) f g h same = same x
on_on (Err reason) f g h same = refl

pub run-append : {D R : Type 0} (step : D → List ℕ → Result D R) (d : D) (xs ys : List (List ℕ)) → run step d (xs ++ ys) ≡ on (run step d xs) (λ e. run step e ys)
run-append step d [] ys = refl
run-append step d (line ∷ xs) ys = on_on (step d line) (λ e. run step e (xs ++ ys)) (λ e. run step e xs) (λ e. run step e ys) (λ e. run-append step e xs ys)

-- on from lines that were read
pub run_on : {D R : Type 0} (step : D → List ℕ → Result D R) (d e : D) (xs ys : List (List ℕ)) → run step d xs ≡ Ok e → run step d (xs ++ ys) ≡ run step e ys
run_on {D} {R} step d e xs ys is = run-append step d xs ys ∙ ap (λ (o : Result D R). on o (λ e. run step e ys)) is

-- the first ones of lines that are read
pub first_read : {D R : Type 0} (step : D → List ℕ → Result D R) (d e : D) (xs ys : List (List ℕ)) → run step d (xs ++ ys) ≡ Ok e → (f : D) × (run step d xs ≡ Ok f)
first_read step d e xs ys is = let b = on_ok (run step d xs) (λ e. run step e ys) e (sym (run-append step d xs ys) ∙ is) in (b.0, b.1)

-- one line more
pub run_one : {D R : Type 0} (step : D → List ℕ → Result D R) (d e : D) (xs : List (List ℕ)) (line : List ℕ) → run step d xs ≡ Ok e → run step d (xs ++ line ∷ []) ≡ step e line
run_one {D} {R} step d e xs line is = run_on step d e xs (line ∷ []) is ∙ same (step e line) where
  same : (r : Result D R) → on r (λ f. Ok f) ≡ r
  same (Ok f) = refl
  same (Err reason) = refl

-- ---- two ways to part the same lines

-- at the same line, or the second prefix is longer, or the first
data Lie (xs ys cs bs : List (List ℕ)) : Type 0 where
  together : xs ≡ cs → ys ≡ bs → Lie xs ys cs bs
  before : (line : List ℕ) (more : List (List ℕ)) → cs ≡ xs ++ line ∷ more → ys ≡ line ∷ more ++ bs → Lie xs ys cs bs
  after : (line : List ℕ) (more : List (List ℕ)) → xs ≡ cs ++ line ∷ more → bs ≡ line ∷ more ++ ys → Lie xs ys cs bs

one_more : (x a : List ℕ) (xs ys cs bs : List (List ℕ)) → x ≡ a → Lie xs ys cs bs → Lie (x ∷ xs) ys (a ∷ cs) bs
one_more x a xs ys cs bs same (together f g) = together (cc (same, f)) g
one_more x a xs ys cs bs same (before line more f g) = before line more (cc (same, f)) g
one_more x a xs ys cs bs same (after line more f g) = after line more (cc (same, f)) g

lie : (xs ys cs bs : List (List ℕ)) → xs ++ ys ≡ cs ++ bs → Lie xs ys cs bs
lie [] ys [] bs e = together refl e
lie [] ys (a ∷ cs) bs e = before a cs refl e
lie (x ∷ xs) ys [] bs e = after x xs refl (sym e)
lie (x ∷ xs) ys (a ∷ cs) bs e =
    let head : x ≡ a = cc in
    let tail : xs ++ ys ≡ cs ++ bs = cc in
    one_more x a xs ys cs bs head (lie xs ys cs bs tail)

-- ---- what reading says

-- Reading gave what the lines say, or their first fault.
abbrev pub Describes : {D P R : Type 0} → (D → List ℕ → Result D R) → D → (D → P) → (List (List ℕ) → P → Type 0) → (P → List ℕ → R → Type 0) → (P → Option R) → List (List ℕ) → Result D (ℕ × R) → Type 0
Describes step start view Prefix Why at_end lines (Ok d) = (run step start lines ≡ Ok d) × (at_end (view d) ≡ None)
Describes step start view Prefix Why at_end lines (Err fault) = IsFirstFault Prefix Why at_end lines fault.0 fault.1

module _ {D P R : Type 0} (step : D → List ℕ → Result D R) (start : D) (view : D → P) (Prefix : List (List ℕ) → P → Type 0) (Why : P → List ℕ → R → Type 0) (at_end : P → Option R) (reading : IsReading step start view Prefix Why) where
  abbrev Says : List (List ℕ) → Result D (ℕ × R) → Type 0
  Says = Describes step start view Prefix Why at_end

  abbrev Fault : List (List ℕ) → ℕ → R → Type 0
  Fault = IsFirstFault Prefix Why at_end

  -- so far all lines were taken
  record SoFar (lines prefix rest : List (List ℕ)) (n : ℕ) (d : D) : Type 0 where
    parts : lines ≡ prefix ++ rest
    counted : n ≡ length prefix + 1
    read : run step start prefix ≡ Ok d

  ends : (lines prefix : List (List ℕ)) (n : ℕ) (d : D) (o : Option R) → at_end (view d) ≡ o → SoFar lines prefix [] n d → Says lines (ended n o d)
  ends lines prefix n d None is so = (ap (run step start) (so.parts ∙ append-nil prefix) ∙ so.read, is)
  ends lines prefix n d (Some reason) is so = record { prefix = prefix; rest = []; place = view d; parts = so.parts; counted = so.counted; right = reading.sound prefix d so.read; wrong = is }

  -- a line that the step doesn't take makes no longer prefix
  pub no_prefix : (prefix : List (List ℕ)) (d : D) (line : List ℕ) (reason : R) → run step start prefix ≡ Ok d → step d line ≡ Err reason → (other : P) → Prefix (prefix ++ line ∷ []) other → ⊥
  no_prefix prefix d line reason read is other longer =
      let r = reading.complete (prefix ++ line ∷ []) other longer in
      let stuck : step d line ≡ Ok r.0 = sym (run_one step start d prefix line read) ∙ r.1 in
      absurd (cc (sym is ∙ stuck))

  goes_on : (lines prefix : List (List ℕ)) (line : List ℕ) (rest : List (List ℕ)) (n : ℕ) (d : D) (r : Result D R) (next : D → Result D (ℕ × R)) → step d line ≡ r → SoFar lines prefix (line ∷ rest) n d
      → ((e : D) → SoFar lines (prefix ++ line ∷ []) rest (n + 1) e → Says lines (next e)) → Says lines (on_line n r next)
  goes_on lines prefix line rest n d (Err reason) next is so then =
      record { prefix = prefix; rest = line ∷ rest; place = view d; parts = so.parts; counted = so.counted; right = reading.sound prefix d so.read; wrong = (no_prefix prefix d line reason so.read is, reading.reasons prefix d line reason so.read is) }
  goes_on lines prefix line rest n d (Ok e) next is so then =
      let counted : n ≡ length prefix + 1 = so.counted in
      then e (record { parts = so.parts ∙ sym (append_assoc prefix (line ∷ []) rest); counted = omega (arith, length-append prefix (line ∷ [])); read = run_one step start d prefix line so.read ∙ is })

  reads : (lines prefix rest : List (List ℕ)) (n : ℕ) (d : D) → SoFar lines prefix rest n d → Says lines (read_from step (λ e. at_end (view e)) n d rest)
  reads lines prefix [] n d so = ends lines prefix n d (at_end (view d)) refl so
  reads lines prefix (line ∷ rest) n d so =
      goes_on lines prefix line rest n d (step d line) (λ e. read_from step (λ e. at_end (view e)) (n + 1) e rest) refl so (λ e more. reads lines (prefix ++ line ∷ []) rest (n + 1) e more)

  pub read_says : (lines : List (List ℕ)) → Says lines (read_from step (λ e. at_end (view e)) 1 start lines)
  read_says lines = reads lines [] lines 1 start (record { parts = refl; counted = refl; read = refl })

  -- ---- whole or with a fault

  either_of : (lines : List (List ℕ)) (r : Result D (ℕ × R)) → Says lines r → ((d : D) × (run step start lines ≡ Ok d) × (at_end (view d) ≡ None)) ⊎ ((line : ℕ) × (reason : R) × Fault lines line reason)
  either_of lines (Ok d) is = inl (d, is.0, is.1)
  either_of lines (Err fault) is = inr (fault.0, fault.1, is)

  pub either : (lines : List (List ℕ)) → ((d : D) × (run step start lines ≡ Ok d) × (at_end (view d) ≡ None)) ⊎ ((line : ℕ) × (reason : R) × Fault lines line reason)
  either lines = either_of lines _ (read_says lines)

  -- one place stands after a prefix
  pub one_place : (lines : List (List ℕ)) (p q : P) → Prefix lines p → Prefix lines q → p ≡ q
  one_place lines p q is also =
      let r = reading.complete lines p is in
      let s = reading.complete lines q also in
      let same : r.0 ≡ s.0 = cc (sym r.1 ∙ s.1) in
      sym r.2 ∙ ap view same ∙ s.2

  -- the first lines of a prefix are a prefix
  shorter : (xs ys : List (List ℕ)) (p : P) → Prefix (xs ++ ys) p → (q : P) × Prefix xs q
  shorter xs ys p is =
      let r = reading.complete (xs ++ ys) p is in
      let f = first_read step start r.0 xs ys r.1 in
      (view f.0, reading.sound xs f.0 f.1)

  -- a fault stands right after the longest prefix
  longest : (prefix : List (List ℕ)) (place : P) (rest more later : List (List ℕ)) (line : List ℕ) (reason : R) (p : P) → IsAgainst Prefix Why at_end prefix place rest reason → rest ≡ line ∷ more ++ later → Prefix (prefix ++ line ∷ more) p → ⊥
  longest prefix place [] more later line reason p wrong e is = absurd cc
  longest prefix place (next ∷ rest) more later line reason p wrong e is =
      let same : line ≡ next = cc in
      let q = shorter (prefix ++ line ∷ []) more p (subst (λ (ls : List (List ℕ)). Prefix ls p) (sym (append_assoc prefix (line ∷ []) more)) is) in
      wrong.0 q.0 (subst (λ (l : List ℕ). Prefix (prefix ++ l ∷ []) q.0) same q.1)

  -- ---- how two prefixes of the same lines lie

  same_against : (prefix : List (List ℕ)) (p q : P) (rest : List (List ℕ)) (r s : R) → p ≡ q → Prefix prefix p → IsAgainst Prefix Why at_end prefix p rest r → IsAgainst Prefix Why at_end prefix q rest s → r ≡ s
  same_against prefix p q [] r s same right is also = let e : Some r ≡ Some s = sym is ∙ ap at_end same ∙ also in cc
  same_against prefix p q (line ∷ rest) r s same right is also = reading.one_reason prefix p line r s right is.0 is.1 (subst (λ (x : P). Why x line s) (sym same) also.1)

  pub one_fault : (lines : List (List ℕ)) (m n : ℕ) (r s : R) → Fault lines m r → Fault lines n s → (m ≡ n) × (r ≡ s)
  one_fault lines m n r s is also =
      elim (lie is.prefix is.rest also.prefix also.rest (sym is.parts ∙ also.parts)) [
        | together f g ↦
            let place : is.place ≡ also.place = one_place is.prefix is.place also.place is.right (subst (λ (ls : List (List ℕ)). Prefix ls also.place) (sym f) also.right) in
            (is.counted ∙ ap (λ (ls : List (List ℕ)). length ls + 1) f ∙ sym also.counted, same_against is.prefix is.place also.place is.rest r s place is.right is.wrong (subst (λ (ls : List (List ℕ)). IsAgainst Prefix Why at_end is.prefix also.place ls s) (sym g) (subst (λ (ls : List (List ℕ)). IsAgainst Prefix Why at_end ls also.place also.rest s) (sym f) also.wrong)))
        | before line more f g ↦ absurd (longest is.prefix is.place is.rest more also.rest line r also.place is.wrong g (subst (λ (ls : List (List ℕ)). Prefix ls also.place) f also.right))
        | after line more f g ↦ absurd (longest also.prefix also.place also.rest more is.rest line s is.place also.wrong g (subst (λ (ls : List (List ℕ)). Prefix ls is.place) f is.right))
      ]

  against_end : (prefix : List (List ℕ)) (place : P) (rest : List (List ℕ)) (r : R) → rest ≡ [] → IsAgainst Prefix Why at_end prefix place rest r → at_end place ≡ Some r
  against_end prefix place [] r none is = is
  against_end prefix place (line ∷ rest) r none is = absurd cc

  pub not_both : (lines : List (List ℕ)) (p : P) (n : ℕ) (r : R) → Prefix lines p → at_end p ≡ None → Fault lines n r → ⊥
  not_both lines p n r whole none is =
      elim (lie lines [] is.prefix is.rest (append-nil lines ∙ is.parts)) [
        | together f g ↦
            let place : p ≡ is.place = one_place lines p is.place whole (subst (λ (ls : List (List ℕ)). Prefix ls is.place) (sym f) is.right) in
            let ends = against_end is.prefix is.place is.rest r (sym g) is.wrong in
            absurd (cc (sym none ∙ ap at_end place ∙ ends))
        | before line more f g ↦ absurd (cc g)
        | after line more f g ↦ longest is.prefix is.place is.rest more [] line r p is.wrong g (subst (λ (ls : List (List ℕ)). Prefix ls p) f whole)
      ]

-- ---- lines within a file

-- a fault at a line stays one whatever follows
line_before : (lines prefix rest : List (List ℕ)) (n : ℕ) → lines ≡ prefix ++ rest → n ≡ length prefix + 1 → n ≤ length lines → 1 ≤ length rest
line_before lines prefix rest n parts counted few = omega (arith, length-append prefix rest, ap length parts)

against_more : {P R : Type 0} (Prefix : List (List ℕ) → P → Type 0) (Why : P → List ℕ → R → Type 0) (at_end : P → Option R) (prefix : List (List ℕ)) (place : P) (rest more : List (List ℕ)) (r : R) → 1 ≤ length rest → IsAgainst Prefix Why at_end prefix place rest r → IsAgainst Prefix Why at_end prefix place (rest ++ more) r
against_more Prefix Why at_end prefix place [] more r some is = absurd (omega arith)
against_more Prefix Why at_end prefix place (line ∷ rest) more r some is = is

pub fault_with_more : {P R : Type 0} (Prefix : List (List ℕ) → P → Type 0) (Why : P → List ℕ → R → Type 0) (at_end : P → Option R) (lines more : List (List ℕ)) (n : ℕ) (r : R) → n ≤ length lines → IsFirstFault Prefix Why at_end lines n r → IsFirstFault Prefix Why at_end (lines ++ more) n r
fault_with_more Prefix Why at_end lines more n r few is =
    record {
      prefix = is.prefix;
      rest = is.rest ++ more;
      place = is.place;
      parts = ap (λ (ls : List (List ℕ)). ls ++ more) is.parts ∙ append_assoc is.prefix is.rest more;
      counted = is.counted;
      right = is.right;
      wrong = against_more Prefix Why at_end is.prefix is.place is.rest more r (line_before lines is.prefix is.rest n is.parts is.counted few) is.wrong;
    }

against_within : {P Q R S : Type 0} (Prefix : List (List ℕ) → P → Type 0) (Why : P → List ℕ → R → Type 0) (at_end : P → Option R) (Prefix' : List (List ℕ) → Q → Type 0) (Why' : Q → List ℕ → S → Type 0) (at_end' : Q → Option S) (head : List (List ℕ)) (Open : P → Type 0) (inside : P → Q) (turn : R → S)
    → IsBlock Prefix Why at_end Prefix' Why' at_end' head Open inside turn → (prefix : List (List ℕ)) (place : P) (rest : List (List ℕ)) (r : R) → Open place → Prefix prefix place → IsAgainst Prefix Why at_end prefix place rest r → IsAgainst Prefix' Why' at_end' (head ++ prefix) (inside place) rest (turn r)
against_within Prefix Why at_end Prefix' Why' at_end' head Open inside turn block prefix place [] r unended right is = block.ends place r unended is
against_within {P} {Q} {R} {S} Prefix Why at_end Prefix' Why' at_end' head Open inside turn block prefix place (line ∷ rest) r unended right is =
    (λ q longer. let o = block.stays prefix place line q unended right (subst (λ (ls : List (List ℕ)). Prefix' ls q) (append_assoc head prefix (line ∷ [])) longer) in is.0 o.0 o.1, block.reasons place line r unended is.1)

-- the fault of a block that begins after k lines of a file is the file's, k lines on
pub fault_within : {P Q R S : Type 0} (Prefix : List (List ℕ) → P → Type 0) (Why : P → List ℕ → R → Type 0) (at_end : P → Option R) (Prefix' : List (List ℕ) → Q → Type 0) (Why' : Q → List ℕ → S → Type 0) (at_end' : Q → Option S) (head : List (List ℕ)) (Open : P → Type 0) (inside : P → Q) (turn : R → S)
    → IsBlock Prefix Why at_end Prefix' Why' at_end' head Open inside turn → (lines : List (List ℕ)) (n : ℕ) (r : R) (fault : IsFirstFault Prefix Why at_end lines n r) → Open fault.place → IsFirstFault Prefix' Why' at_end' (head ++ lines) (length head + n) (turn r)
fault_within Prefix Why at_end Prefix' Why' at_end' head Open inside turn block lines n r fault unended =
    let counted : n ≡ length fault.prefix + 1 = fault.counted in
    record {
      prefix = head ++ fault.prefix;
      rest = fault.rest;
      place = inside fault.place;
      parts = ap (λ (ls : List (List ℕ)). head ++ ls) fault.parts ∙ sym (append_assoc head fault.prefix fault.rest);
      counted = omega (arith, length-append head fault.prefix);
      right = block.begins fault.prefix fault.place fault.right;
      wrong = against_within Prefix Why at_end Prefix' Why' at_end' head Open inside turn block fault.prefix fault.place fault.rest r unended fault.right fault.wrong;
    }

-- ---- the first reason

pub one_first : {R : Type 0} (rank : R → ℕ) (Holds : R → Type 0) → ((a b : R) → rank a ≡ rank b → a ≡ b) → (r s : R) → IsFirst rank Holds r → IsFirst rank Holds s → r ≡ s
one_first rank Holds apart r s is also =
    elim (cases_order (rank r) (rank s)) [
      | inl same ↦ apart r s same
      | inr other ↦
          elim other [
            | inl less ↦ absurd (also.1 r less is.0)
            | inr more ↦ absurd (is.1 s more also.0)
          ]
    ]
