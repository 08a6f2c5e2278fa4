-- What holds of each reader: it takes a prefix that alone decides what it gives, and where it stops,
-- the bytes before that place can be completed, and with the one there they can't.
use Rattle.std.proofs.Common.{◌≡◌, ◌⊎◌, ℕ, zero, suc, ◌+◌, ◌-◌, ◌<◌, ◌≤◌, Bool, true, false, List, [], ◌∷◌, ◌++◌, length, take, drop, replicate, Ok, Err, refl, sym, ap, ◌∙◌, inl, inr, arith}
use Rattle.std.proofs.lemmas.Bool.{cases_Bool, lt-ltb, le-ltb, cases_lt}
use Rattle.std.proofs.lemmas.List.{append_assoc, append-nil, length-append, length-replicate, length-take-le, take-append-drop}
use Rattle.std.proofs.Math.Seq.{take-append_seam, drop-append_seam}
use Rattle.pixel_format.specs.Formats.{Layout, byte_count, pixel_value}
use Rattle.hextile.specs.Reading.{Read, on_read, read_byte, read_pixel}

abbrev pub AreBytes : List ℕ → Type 0
AreBytes [] = Unit {0}
AreBytes (b ∷ bs) = (b < 256) × AreBytes bs

pub bytes_both : (xs ys : List ℕ) → AreBytes xs → AreBytes ys → AreBytes (xs ++ ys)
bytes_both [] ys one other = other
bytes_both (x ∷ xs) ys one other = (one.0, bytes_both xs ys one.1 other)

pub bytes_parts : (xs ys : List ℕ) → AreBytes (xs ++ ys) → AreBytes xs × AreBytes ys
bytes_parts [] ys all = (tt, all)
bytes_parts (x ∷ xs) ys all = let later = bytes_parts xs ys all.1 in ((all.0, later.0), later.1)

pub bytes_zeros : (n : ℕ) → AreBytes (replicate n 0)
bytes_zeros zero = tt
bytes_zeros (suc n) = (omega arith, bytes_zeros n)

-- the reader takes this prefix and gives the value, whatever follows
abbrev pub Takes : {A : Type 0} → (List ℕ → Read A) → List ℕ → A → Type 0
Takes reader prefix x = (rest : List ℕ) → reader (prefix ++ rest) ≡ Ok (x, rest)

-- the reader stops where these bytes are left
pub record Stops {A : Type 0} (reader : List ℕ → Read A) (bytes : List ℕ) (left : ℕ) : Type 0 where
  pub good : List ℕ
  pub bad : List ℕ
  pub parts : bytes ≡ good ++ bad
  pub count : length bad ≡ left
  pub more : List ℕ
  pub more_bytes : AreBytes more
  pub value : A
  pub completed : Takes reader (good ++ more) value
  pub wrong : (b : ℕ) (tail : List ℕ) → bad ≡ b ∷ tail → (rest : List ℕ) → (x : A) → (last : List ℕ) → reader (good ++ (b ∷ rest)) ≡ Ok (x, last) → ⊥

pub record IsReader {A : Type 0} (reader : List ℕ → Read A) : Type 0 where
  pub takes : (bytes : List ℕ) (x : A) (rest : List ℕ) → reader bytes ≡ Ok (x, rest) → (prefix : List ℕ) × (bytes ≡ prefix ++ rest) × Takes reader prefix x
  pub stops : (bytes : List ℕ) (left : ℕ) → reader bytes ≡ Err left → Stops reader bytes left

abbrev pub ok_read : {A : Type 0} → A → List ℕ → Read A
ok_read x rest = Ok (x, rest)

abbrev pub err_read : {A : Type 0} → ℕ → Read A
err_read left = Err left

pub ok_same : {A : Type 0} {x y : A} {r s : List ℕ} → ok_read x r ≡ ok_read y s → (x ≡ y) × (r ≡ s)
ok_same {A = A} {x = x} {y = y} {r = r} {s = s} e = let same : ◌≡◌ {A = A × List ℕ} (x, r) (y, s) = cc in (ap (λ (p : A × List ℕ). p.0) same, ap (λ (p : A × List ℕ). p.1) same)

pub err_same : {A : Type 0} {m n : ℕ} → err_read {A = A} m ≡ err_read n → m ≡ n
err_same e = cc

-- ---- no byte is read

pub reads_nothing : {A : Type 0} (x : A) → IsReader (λ (bytes : List ℕ). ok_read x bytes)
reads_nothing x = record {
  takes = λ bytes y rest e. let same = ok_same e in ([], same.1, λ more. ap (λ z. Ok (z, more)) same.0);
  stops = λ bytes left e. absurd (cc);
}

-- ---- one byte

pub byte_passes : (passes : ℕ → Bool) (b : ℕ) (rest : List ℕ) → passes b ≡ true → read_byte passes (b ∷ rest) ≡ Ok (b, rest)
byte_passes passes b rest e = rw e refl

byte_fails : (passes : ℕ → Bool) (b : ℕ) (rest : List ℕ) → passes b ≡ false → read_byte passes (b ∷ rest) ≡ Err (length rest + 1)
byte_fails passes b rest e = rw e refl

pub reads_byte : (passes : ℕ → Bool) (one : ℕ) → passes one ≡ true → one < 256 → IsReader (read_byte passes)
reads_byte passes one good below = record {
  takes = takes;
  stops = stops;
} where
  takes : (bytes : List ℕ) (x : ℕ) (rest : List ℕ) → read_byte passes bytes ≡ Ok (x, rest) → (prefix : List ℕ) × (bytes ≡ prefix ++ rest) × Takes (read_byte passes) prefix x
  takes [] x rest e = absurd (cc)
  takes (b ∷ bs) x rest e =
      elim (cases_Bool (passes b)) [
        | inl yes_ ↦ let same = ok_same (sym (byte_passes passes b bs yes_) ∙ e) in (b ∷ [], ap (λ t. b ∷ t) same.1, λ more. byte_passes passes b more yes_ ∙ ap (λ z. Ok (z, more)) same.0)
        | inr off ↦ absurd (let f = sym (byte_fails passes b bs off) ∙ e in cc)
      ]

  stops : (bytes : List ℕ) (left : ℕ) → read_byte passes bytes ≡ Err left → Stops (read_byte passes) bytes left
  stops [] left e = record {
    good = [];
    bad = [];
    parts = refl;
    count = err_same e;
    more = one ∷ [];
    more_bytes = (below, tt);
    value = one;
    completed = λ rest. byte_passes passes one rest good;
    wrong = λ b tail f. absurd (cc);
  }
  stops (b ∷ bs) left e =
      elim (cases_Bool (passes b)) [
        | inl fine ↦ absurd (let f = sym (byte_passes passes b bs fine) ∙ e in cc)
        | inr off ↦
            record {
              good = [];
              bad = b ∷ bs;
              parts = refl;
              count = omega (arith, err_same (sym (byte_fails passes b bs off) ∙ e));
              more = one ∷ [];
              more_bytes = (below, tt);
              value = one;
              completed = λ rest. byte_passes passes one rest good;
              wrong = λ c tail f rest x last told. let same : b ≡ c = cc in let never = sym (byte_fails passes c rest (ap passes (sym same) ∙ off)) ∙ told in cc;
            }
      ]

-- ---- one reader after the other

pub on_ok : {A B : Type 0} (r : Read A) (next : A → List ℕ → Read B) (x : A) (rest : List ℕ) → r ≡ Ok (x, rest) → on_read r next ≡ next x rest
on_ok r next x rest e = rw e refl

pub on_err : {A B : Type 0} (r : Read A) (next : A → List ℕ → Read B) (left : ℕ) → r ≡ Err left → on_read r next ≡ Err left
on_err r next left e = rw e refl

-- which way a reader went
pub read_cases : {A : Type 0} (r : Read A) → ((x : A) × (rest : List ℕ) × (r ≡ Ok (x, rest))) ⊎ ((left : ℕ) × (r ≡ Err left))
read_cases (Ok x) = inl (x.0, x.1, refl)
read_cases (Err left) = inr (left, refl)

-- the reader gives the value for some bytes
abbrev pub Gives : {A : Type 0} → (List ℕ → Read A) → A → Type 0
Gives reader x = (bytes rest : List ℕ) × (reader bytes ≡ Ok (x, rest))

-- the one reader, and then the next
abbrev pub both : {A B : Type 0} → (List ℕ → Read A) → (A → List ℕ → Read B) → List ℕ → Read B
both first next bytes = on_read (first bytes) next

pub both_take : {A B : Type 0} (first : List ℕ → Read A) (next : A → List ℕ → Read B) (x : A) (prefix later : List ℕ) (value : B) → Takes first prefix x → Takes (next x) later value → Takes (both first next) (prefix ++ later) value
both_take first next x prefix later value a b rest = rw (append_assoc) (on_ok (first (prefix ++ (later ++ rest))) next x (later ++ rest) (a (later ++ rest)) ∙ b rest)

both_wrong : {A B : Type 0} (first : List ℕ → Read A) (next : A → List ℕ → Read B) (bytes : List ℕ) (left : ℕ) (s : Stops first bytes left) (b : ℕ) (tail : List ℕ) → s.bad ≡ b ∷ tail → (rest : List ℕ) (x : B) (last : List ℕ) → both first next (s.good ++ (b ∷ rest)) ≡ Ok (x, last) → ⊥
both_wrong first next bytes left s b tail f rest x last told =
    elim (read_cases (first (s.good ++ (b ∷ rest)))) [
      | inl ok ↦ s.wrong b tail f rest ok.0 ok.1 ok.2
      | inr err ↦ absurd (let g = sym (on_err (first (s.good ++ (b ∷ rest))) next err.0 err.1) ∙ told in cc)
    ]

-- what the next reader needs: that it is one, and some bytes for which it gives a value
pub record HasWord {A : Type 0} (reader : List ℕ → Read A) : Type 0 where
  pub is_reader : IsReader reader
  pub word : List ℕ
  pub bytes : AreBytes word
  pub value : A
  pub read : Takes reader word value

both_takes : {A B : Type 0} (first : List ℕ → Read A) (next : A → List ℕ → Read B) → IsReader first → ((x : A) → Gives first x → HasWord (next x))
    → (bytes : List ℕ) (y : B) (rest : List ℕ) → both first next bytes ≡ Ok (y, rest) → (prefix : List ℕ) × (bytes ≡ prefix ++ rest) × Takes (both first next) prefix y
both_takes first next one other bytes y rest e =
    elim (read_cases (first bytes)) [
      | inl ok ↦
          let a = one.takes bytes ok.0 ok.1 ok.2 in
          let b = (other ok.0 (bytes, ok.1, ok.2)).is_reader.takes ok.1 y rest (sym (on_ok (first bytes) next ok.0 ok.1 ok.2) ∙ e) in
          (a.0 ++ b.0, a.1 ∙ (ap (λ t. a.0 ++ t) b.1 ∙ rw append_assoc refl), both_take first next ok.0 a.0 b.0 y a.2 b.2)
      | inr err ↦ absurd (let f = sym (on_err (first bytes) next err.0 err.1) ∙ e in cc)
    ]

both_stops : {A B : Type 0} (first : List ℕ → Read A) (next : A → List ℕ → Read B) → IsReader first → ((x : A) → Gives first x → HasWord (next x))
    → (bytes : List ℕ) (left : ℕ) → both first next bytes ≡ Err left → Stops (both first next) bytes left
both_stops first next one other bytes left e =
    elim (read_cases (first bytes)) [
      | inl ok ↦
          let a = one.takes bytes ok.0 ok.1 ok.2 in
          let s = (other ok.0 (bytes, ok.1, ok.2)).is_reader.stops ok.1 left (sym (on_ok (first bytes) next ok.0 ok.1 ok.2) ∙ e) in
          record {
            good = a.0 ++ s.good;
            bad = s.bad;
            parts = a.1 ∙ (ap (λ t. a.0 ++ t) s.parts ∙ rw append_assoc refl);
            count = s.count;
            more = s.more;
            more_bytes = s.more_bytes;
            value = s.value;
            completed = rw append_assoc (both_take first next ok.0 a.0 (s.good ++ s.more) s.value a.2 s.completed);
            wrong = λ b tail f rest x last told.
                s.wrong b tail f rest x last (sym (on_ok (first (a.0 ++ (s.good ++ (b ∷ rest)))) next ok.0 (s.good ++ (b ∷ rest)) (a.2 (s.good ++ (b ∷ rest)))) ∙ rw append_assoc at told);
          }
      | inr err ↦
          let s = one.stops bytes err.0 err.1 in
          let w = other s.value (s.good ++ s.more, [], rw append-nil at (s.completed [])) in
          record {
            good = s.good;
            bad = s.bad;
            parts = s.parts;
            count = s.count ∙ err_same (sym (on_err (first bytes) next err.0 err.1) ∙ e);
            more = s.more ++ w.word;
            more_bytes = bytes_both s.more w.word s.more_bytes w.bytes;
            value = w.value;
            completed = rw append_assoc at (both_take first next s.value (s.good ++ s.more) w.word w.value s.completed w.read);
            wrong = both_wrong first next bytes err.0 s;
          }
    ]

pub then_reads : {A B : Type 0} (first : List ℕ → Read A) (next : A → List ℕ → Read B) → IsReader first → ((x : A) → Gives first x → HasWord (next x)) → IsReader (both first next)
then_reads first next one other = record {
  takes = both_takes first next one other;
  stops = both_stops first next one other;
}

-- the same with words
pub then_has : {A B : Type 0} (first : List ℕ → Read A) (next : A → List ℕ → Read B) → HasWord first → ((x : A) → Gives first x → HasWord (next x)) → HasWord (both first next)
then_has first next one other =
    let w = other one.value (one.word, [], rw append-nil at (one.read [])) in
    record {
      is_reader = then_reads first next one.is_reader other;
      word = one.word ++ w.word;
      bytes = bytes_both one.word w.word one.bytes w.bytes;
      value = w.value;
      read = both_take first next one.value one.word w.word w.value one.read w.read;
    }

pub has_nothing : {A : Type 0} (x : A) → HasWord (λ (bytes : List ℕ). ok_read x bytes)
has_nothing x = record { is_reader = reads_nothing x; word = []; bytes = tt; value = x; read = λ rest. refl }

pub has_byte : (passes : ℕ → Bool) (one : ℕ) → passes one ≡ true → one < 256 → HasWord (read_byte passes)
has_byte passes one good below = record {
  is_reader = reads_byte passes one good below;
  word = one ∷ [];
  bytes = (below, tt);
  value = one;
  read = λ rest. byte_passes passes one rest good;
}

-- a byte that was read is the first one, and passes the test
pub byte_taken : (passes : ℕ → Bool) (bytes : List ℕ) (b : ℕ) (rest : List ℕ) → read_byte passes bytes ≡ Ok (b, rest) → (bytes ≡ b ∷ rest) × (passes b ≡ true)
byte_taken passes [] b rest e = absurd (cc)
byte_taken passes (c ∷ cs) b rest e =
    elim (cases_Bool (passes c)) [
      | inl fine ↦ let same = ok_same (sym (byte_passes passes c cs fine) ∙ e) in (rw (same.0, same.1) refl, ap passes (sym same.0) ∙ fine)
      | inr off ↦ absurd (let f = sym (byte_fails passes c cs off) ∙ e in cc)
    ]

pub byte_passed : (passes : ℕ → Bool) (b : ℕ) → Gives (read_byte passes) b → passes b ≡ true
byte_passed passes b gives = (byte_taken passes gives.0 b gives.1 gives.2).1

-- ---- a pixel

pub pixel_read : (f : Layout) (pixel rest : List ℕ) → length pixel ≡ byte_count f → read_pixel f (pixel ++ rest) ≡ Ok (pixel_value f pixel, rest)
unfolding read_pixel
pixel_read f pixel rest long =
    let enough : byte_count f ≤ length (pixel ++ rest) = omega (arith, length-append pixel rest, long) in
    rw (le-ltb _ _ enough, ← long, take-append_seam pixel rest, drop-append_seam pixel rest) refl

pub pixel_short : (f : Layout) (bytes : List ℕ) → length bytes < byte_count f → read_pixel f bytes ≡ Err 0
unfolding read_pixel
pixel_short f bytes short = rw (lt-ltb _ _ short) refl

pub pixel_long : (f : Layout) (bytes : List ℕ) → byte_count f ≤ length bytes → read_pixel f bytes ≡ Ok (pixel_value f (take (byte_count f) bytes), drop (byte_count f) bytes)
unfolding read_pixel
pixel_long f bytes long = rw (le-ltb _ _ long) refl

pixel_stops : (f : Layout) (bytes : List ℕ) (left : ℕ) → length bytes < byte_count f → read_pixel f bytes ≡ Err left → Stops (read_pixel f) bytes left
pixel_stops f bytes left short e =
    let n = byte_count f - length bytes in
    let all : length (bytes ++ replicate n 0) ≡ byte_count f = omega (arith, length-append bytes (replicate n 0), length-replicate {A = ℕ} n 0) in
    record {
      good = bytes;
      bad = [];
      parts = rw append-nil refl;
      count = err_same (sym (pixel_short f bytes short) ∙ e);
      more = replicate n 0;
      more_bytes = bytes_zeros n;
      value = pixel_value f (bytes ++ replicate n 0);
      completed = λ rest. pixel_read f (bytes ++ replicate n 0) rest all;
      wrong = λ b tail g. absurd (cc);
    }

pub has_pixel : (f : Layout) → HasWord (read_pixel f)
has_pixel f = record {
  is_reader = record {
    takes = λ bytes x rest e.
        elim (cases_lt (length bytes) (byte_count f)) [
          | inl short ↦ absurd (let g = sym (pixel_short f bytes short) ∙ e in cc)
          | inr long ↦
              let same = ok_same (sym (pixel_long f bytes long) ∙ e) in
              let n = length-take-le (byte_count f) bytes long in
              (take (byte_count f) bytes, sym (take-append-drop (byte_count f) bytes) ∙ ap (λ t. take (byte_count f) bytes ++ t) same.1, λ more. pixel_read f (take (byte_count f) bytes) more n ∙ ap (λ z. Ok (z, more)) same.0)
        ];
    stops = λ bytes left e.
        elim (cases_lt (length bytes) (byte_count f)) [
          | inl short ↦ pixel_stops f bytes left short e
          | inr long ↦ absurd (let g = sym (pixel_long f bytes long) ∙ e in cc)
        ];
  };
  word = replicate (byte_count f) 0;
  bytes = bytes_zeros (byte_count f);
  value = pixel_value f (replicate (byte_count f) 0);
  read = λ rest. pixel_read f (replicate (byte_count f) 0) rest (length-replicate {A = ℕ} (byte_count f) 0);
}
