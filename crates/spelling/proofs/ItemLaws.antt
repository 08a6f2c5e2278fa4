-- Lines are at most one list of items.
use Rattle.std.proofs.Common.{◌≡◌, ℕ, Bool, true, false, List, [], ◌∷◌, ◌++◌, refl, sym, ap, subst, ◌∙◌, append_assoc}
use Rattle.std.proofs.lemmas.List.{append-nil}
use Rattle.std.specs.List.{AllByRecursion}
use Rattle.spelling.specs.Items.{is_comment, AreComments, AreItems, all_after}

-- ---- a line that ends a block

-- no line of these is that one
abbrev pub Without : List ℕ → List (List ℕ) → Type 0
Without last lines = AllByRecursion (λ line. line ≡ last → ⊥) lines

pub same_block : (last : List ℕ) (xs bs ys cs : List (List ℕ)) → Without last xs → Without last bs → xs ++ last ∷ ys ≡ bs ++ last ∷ cs → (xs ≡ bs) × (ys ≡ cs)
same_block last [] [] ys cs clear also e = (refl, cc)
same_block last [] (b ∷ bs) ys cs clear also e = absurd (also.0 (cc e))
same_block last (x ∷ xs) [] ys cs clear also e = absurd (clear.0 (cc e))
same_block last (x ∷ xs) (b ∷ bs) ys cs clear also e =
    let head : x ≡ b = cc in
    let tail : xs ++ last ∷ ys ≡ bs ++ last ∷ cs = cc in
    let more = same_block last xs bs ys cs clear.1 also.1 tail in
    (cc (head, more.0), more.1)

-- ---- lists of items

-- the first line is no comment
abbrev pub Begins : List (List ℕ) → Type 0
Begins lines = (line : List ℕ) × (more : List (List ℕ)) × (lines ≡ line ∷ more) × (is_comment line ≡ false)

not_both : (b : Bool) → b ≡ true → b ≡ false → ⊥
not_both b yes_ no_ = absurd (cc (sym yes_ ∙ no_))

no_comments : (lines cs xs : List (List ℕ)) → AreComments lines → lines ≡ cs ++ xs → Begins xs → ⊥
no_comments [] [] xs all e first = absurd (cc (e ∙ first.2))
no_comments [] (c ∷ cs) xs all e first = absurd (cc e)
no_comments (line ∷ lines) [] xs all e first =
    let same : line ≡ first.0 = cc (e ∙ first.2) in
    not_both (is_comment first.0) (subst (λ (l : List ℕ). is_comment l ≡ true) same all.0) first.3
no_comments (line ∷ lines) (c ∷ cs) xs all e first = no_comments lines cs xs all.1 (cc e) first

-- comments are passed over in one way
skip : (cs ds xs ys : List (List ℕ)) → AreComments cs → AreComments ds → Begins xs → Begins ys → cs ++ xs ≡ ds ++ ys → xs ≡ ys
skip [] [] xs ys some also first second e = e
skip [] (d ∷ ds) xs ys some also first second e =
    let same : d ≡ first.0 = cc (sym e ∙ first.2) in
    absurd (not_both (is_comment first.0) (subst (λ (l : List ℕ). is_comment l ≡ true) same also.0) first.3)
skip (c ∷ cs) [] xs ys some also first second e =
    let same : c ≡ second.0 = cc (e ∙ second.2) in
    absurd (not_both (is_comment second.0) (subst (λ (l : List ℕ). is_comment l ≡ true) same some.0) second.3)
skip (c ∷ cs) (d ∷ ds) xs ys some also first second e = skip cs ds xs ys some.1 also.1 first second (cc e)

begins_on : (xs ys : List (List ℕ)) → Begins xs → Begins (xs ++ ys)
begins_on xs ys first = (first.0, first.1 ++ ys, ap (λ (ls : List (List ℕ)). ls ++ ys) first.2, first.3)

-- Items begin with a line that is no comment, and no item's lines are the first ones of another's.
pub record AreApart {I B : Type 0} (Spells : B → I → List (List ℕ) → Type 0) : Type 0 where
  pub begins : (before : B) (item : I) (block : List (List ℕ)) → Spells before item block → Begins block
  pub apart : (before : B) (i j : I) (xs bs ys cs : List (List ℕ)) → Spells before i xs → Spells before j bs → xs ++ ys ≡ bs ++ cs → (i ≡ j) × (ys ≡ cs)

pub one_list : {I B : Type 0} (Spells : B → I → List (List ℕ) → Type 0) (after : B → I → B) → AreApart Spells → (before : B) (is js : List I) (lines : List (List ℕ)) → AreItems Spells after before is lines → AreItems Spells after before js lines → is ≡ js
one_list Spells after apart before [] [] lines a b = refl
one_list Spells after apart before [] (j ∷ js) lines a b =
    absurd (no_comments lines b.0 (b.1 ++ b.2) a b.3 (begins_on b.1 b.2 (apart.begins before j b.1 b.5)))
one_list Spells after apart before (i ∷ is) [] lines a b =
    absurd (no_comments lines a.0 (a.1 ++ a.2) b a.3 (begins_on a.1 a.2 (apart.begins before i a.1 a.5)))
one_list {I} {B} Spells after apart before (i ∷ is) (j ∷ js) lines a b =
    let same = skip a.0 b.0 (a.1 ++ a.2) (b.1 ++ b.2) a.4 b.4 (begins_on a.1 a.2 (apart.begins before i a.1 a.5)) (begins_on b.1 b.2 (apart.begins before j b.1 b.5)) (sym a.3 ∙ b.3) in
    let one = apart.apart before i j a.1 b.1 a.2 b.2 a.5 b.5 same in
    let more : AreItems Spells after (after before i) js a.2 =
    subst (λ (k : I). AreItems Spells after (after before k) js a.2) (sym one.0) (subst (AreItems Spells after (after before j) js) (sym one.1) b.6) in
    let others = one_list Spells after apart (after before i) is js a.2 a.6 more in
    ap (λ (k : I). k ∷ is) one.0 ∙ ap (λ (ks : List I). j ∷ ks) others

-- ---- more lines

pub comments_more : (cs : List (List ℕ)) (line : List ℕ) → AreComments cs → is_comment line ≡ true → AreComments (cs ++ line ∷ [])
comments_more [] line are is = (is, tt)
comments_more (c ∷ cs) line are is = (are.0, comments_more cs line are.1 is)

within : (cs block rest more : List (List ℕ)) → (cs ++ (block ++ rest)) ++ more ≡ cs ++ (block ++ (rest ++ more))
within cs block rest more = append_assoc cs (block ++ rest) more ∙ ap (λ (ls : List (List ℕ)). cs ++ ls) (append_assoc block rest more)

-- a comment after the items
pub items_comment : {I B : Type 0} (Spells : B → I → List (List ℕ) → Type 0) (after : B → I → B) (before : B) (items : List I) (lines : List (List ℕ)) (line : List ℕ) → AreItems Spells after before items lines → is_comment line ≡ true → AreItems Spells after before items (lines ++ line ∷ [])
items_comment Spells after before [] lines line are is = comments_more lines line are is
items_comment Spells after before (i ∷ items) lines line are is =
    (are.0, are.1, are.2 ++ line ∷ [], ap (λ (ls : List (List ℕ)). ls ++ line ∷ []) are.3 ∙ within are.0 are.1 are.2 (line ∷ []), are.4, are.5, items_comment Spells after (after before i) items are.2 line are.6 is)

-- one item more
pub items_more : {I B : Type 0} (Spells : B → I → List (List ℕ) → Type 0) (after : B → I → B) (before : B) (items : List I) (item : I) (lines block : List (List ℕ)) → AreItems Spells after before items lines → Spells (all_after after before items) item block → AreItems Spells after before (items ++ item ∷ []) (lines ++ block)
items_more Spells after before [] item lines block are is = (lines, block, [], ap (λ (ls : List (List ℕ)). lines ++ ls) (sym (append-nil block)), are, is, tt)
items_more Spells after before (i ∷ items) item lines block are is =
    (are.0, are.1, are.2 ++ block, ap (λ (ls : List (List ℕ)). ls ++ block) are.3 ∙ within are.0 are.1 are.2 block, are.4, are.5, items_more Spells after (after before i) items item are.2 block are.6 is)

pub all_after_more : {I B : Type 0} (after : B → I → B) (before : B) (items : List I) (item : I) → all_after after before (items ++ item ∷ []) ≡ after (all_after after before items) item
all_after_more after before [] item = refl
all_after_more after before (i ∷ items) item = all_after_more after (after before i) items item
