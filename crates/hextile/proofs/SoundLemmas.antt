-- What is read is what the bytes mean, and what they mean is read.
use Rattle.std.proofs.Common.{◌≡◌, ℕ, zero, suc, ◌+◌, ◌-◌, ◌*◌, ◌/◌, ◌%◌, ◌^◌, ◌<◌, ◌≤◌, Bool, true, false, cond, ◌&&◌, Option, Some, None, List, [], ◌∷◌, ◌++◌, length, take, drop, reverse, Ok, refl, sym, ap, subst, ◌∙◌, inl, inr, arith, ltb, leb}
use Rattle.std.specs.Prelude.{IsSome, unwrap_or, slice_index}
use Rattle.std.specs.List.{flat_map, AllByRecursion}
use Rattle.std.proofs.lemmas.Bool.{cases_lt, and_parts, leb-true}
use Rattle.std.proofs.lemmas.Bool.Decides.{nat_tests}
use Rattle.std.proofs.lemmas.List.{append_assoc, append-nil, length-take-le, take-append-drop}
use Rattle.pixel_format.specs.Formats.{Layout, IsFormat, byte_count, pixel_bytes, pixel_value, number_from_bytes}
use Rattle.hextile.specs.declared.sub.Sub.{Sub}
use Rattle.hextile.specs.Meaning.{IsForeground, HasValue, IsSub, bytes_of_sub, AreListed}
use Rattle.hextile.specs.Reading.{Read, on_read, read_byte, read_pixel, read_given, read_pixels, is_place, is_extent, sub_from, read_sub, read_subs, read_listed}
use Rattle.hextile.proofs.SizeLemmas.{length-pixel_bytes}
use Rattle.hextile.proofs.ReaderLemmas.{AreBytes, bytes_parts, Takes, ok_same, on_ok, on_err, read_cases, both_take, byte_passes, pixel_read, pixel_short, pixel_long, byte_taken}

-- ---- pixels

-- A pixel's bytes and its value tell one another.
pub record Tells (f : Layout) : Type 0 where
  pub format : IsFormat f
  pub value : (v : ℕ) → v < 2 ^ f.bits → pixel_value f (pixel_bytes f v) ≡ v
  pub bytes : (bytes : List ℕ) → length bytes ≡ byte_count f → ((i : ℕ) → slice_index bytes i < 256) → pixel_bytes f (pixel_value f bytes) ≡ bytes

each_byte : (bytes : List ℕ) → AreBytes bytes → (i : ℕ) → slice_index bytes i < 256
each_byte [] are i = omega arith
each_byte (b ∷ bs) are zero = are.0
each_byte (b ∷ bs) are (suc i) = each_byte bs are.1 i

below_one : (big : Bool) (bs : List ℕ) → length bs ≡ 1 → AreBytes bs → number_from_bytes (cond big (reverse bs) bs) < 2 ^ 8
below_one big [] long are = absurd (omega arith)
below_one true (a ∷ []) long are = omega (arith, are.0)
below_one false (a ∷ []) long are = omega (arith, are.0)
below_one big (a ∷ b ∷ bs) long are = absurd (omega arith)

below_two : (big : Bool) (bs : List ℕ) → length bs ≡ 2 → AreBytes bs → number_from_bytes (cond big (reverse bs) bs) < 2 ^ 16
below_two big [] long are = absurd (omega arith)
below_two big (a ∷ []) long are = absurd (omega arith)
below_two true (a ∷ b ∷ []) long are = omega (arith, are.0, are.1.0)
below_two false (a ∷ b ∷ []) long are = omega (arith, are.0, are.1.0)
below_two big (a ∷ b ∷ c ∷ bs) long are = absurd (omega arith)

below_four : (big : Bool) (bs : List ℕ) → length bs ≡ 4 → AreBytes bs → number_from_bytes (cond big (reverse bs) bs) < 2 ^ 32
below_four big [] long are = absurd (omega arith)
below_four big (a ∷ []) long are = absurd (omega arith)
below_four big (a ∷ b ∷ []) long are = absurd (omega arith)
below_four big (a ∷ b ∷ c ∷ []) long are = absurd (omega arith)
below_four true (a ∷ b ∷ c ∷ d ∷ []) long are = omega (arith, are.0, are.1.0, are.1.1.0, are.1.1.1.0)
below_four false (a ∷ b ∷ c ∷ d ∷ []) long are = omega (arith, are.0, are.1.0, are.1.1.0, are.1.1.1.0)
below_four big (a ∷ b ∷ c ∷ d ∷ e ∷ bs) long are = absurd (omega arith)

value_below : (f : Layout) (bs : List ℕ) → IsFormat f → length bs ≡ byte_count f → AreBytes bs → pixel_value f bs < 2 ^ f.bits
unfolding pixel_value
value_below f bs format long are =
    elim format.sizes [
      | inl e ↦ rw e (below_one f.big_endian bs (omega (arith, e, long)) are)
      | inr more ↦ elim more [ inl e ↦ rw e (below_two f.big_endian bs (omega (arith, e, long)) are) | inr e ↦ rw e (below_four f.big_endian bs (omega (arith, e, long)) are) ]
    ]

pub record PixelRead (f : Layout) (bytes : List ℕ) (value : ℕ) (rest : List ℕ) : Type 0 where
  pub below : value < 2 ^ f.bits
  pub parts : bytes ≡ pixel_bytes f value ++ rest
  pub are : AreBytes rest

pub pixel_sound : (f : Layout) (bytes : List ℕ) (v : ℕ) (rest : List ℕ) → Tells f → AreBytes bytes → read_pixel f bytes ≡ Ok (v, rest) → PixelRead f bytes v rest
pixel_sound f bytes v rest tells are e =
    elim (cases_lt (length bytes) (byte_count f)) [
      | inl short ↦ absurd (let g = sym (pixel_short f bytes short) ∙ e in cc)
      | inr long ↦
          let same = ok_same (sym (pixel_long f bytes long) ∙ e) in
          let n = length-take-le (byte_count f) bytes long in
          let split = sym (take-append-drop (byte_count f) bytes) in
          let each = bytes_parts (take (byte_count f) bytes) (drop (byte_count f) bytes) (rw split at are) in
          let back = tells.bytes (take (byte_count f) bytes) n (each_byte (take (byte_count f) bytes) each.0) in
          record {
            below = rw same.0 at (value_below f (take (byte_count f) bytes) tells.format n each.0);
            parts = split ∙ (ap (λ t. t ++ drop (byte_count f) bytes) (sym back ∙ ap (pixel_bytes f) same.0) ∙ ap (λ t. pixel_bytes f v ++ t) same.1);
            are = subst AreBytes same.1 each.1;
          }
    ]

pub pixel_complete : (f : Layout) (v : ℕ) → Tells f → v < 2 ^ f.bits → Takes (read_pixel f) (pixel_bytes f v) v
pixel_complete f v tells below rest = pixel_read f (pixel_bytes f v) rest (length-pixel_bytes f v tells.format) ∙ ap (λ x. Ok (x, rest)) (tells.value v below)

-- which way one reader went before the next
pub record Both {A B : Type 0} (first : Read A) (next : A → List ℕ → Read B) (y : B) (rest : List ℕ) : Type 0 where
  pub value : A
  pub middle : List ℕ
  pub one : first ≡ Ok (value, middle)
  pub two : next value middle ≡ Ok (y, rest)

pub both_read : {A B : Type 0} (first : Read A) (next : A → List ℕ → Read B) (y : B) (rest : List ℕ) → on_read first next ≡ Ok (y, rest) → Both first next y rest
both_read first next y rest e =
    elim (read_cases first) [
      | inl ok ↦ record { value = ok.0; middle = ok.1; one = ok.2; two = sym (on_ok first next ok.0 ok.1 ok.2) ∙ e }
      | inr err ↦ absurd (let g = sym (on_err first next err.0 err.1) ∙ e in cc)
    ]

-- a prefix was taken, and means this; the rest are bytes still
pub record Prefix (bytes rest : List ℕ) (Means : List ℕ → Type 0) : Type 0 where
  pub prefix : List ℕ
  pub means : Means prefix
  pub parts : bytes ≡ prefix ++ rest
  pub are : AreBytes rest

pub given_sound : (f : Layout) (announced : Bool) (known : Option ℕ) (bytes : List ℕ) (value : Option ℕ) (rest : List ℕ) → Tells f → AreBytes bytes → read_given f announced known bytes ≡ Ok (value, rest)
    → Prefix bytes rest (IsForeground f announced known value)
given_sound f true known bytes value rest tells are e =
    let b = both_read (read_pixel f bytes) (λ value rest. Ok (Some value, rest)) value rest e in
    let p = pixel_sound f bytes b.value b.middle tells are b.one in
    let same = ok_same b.two in
    record { prefix = pixel_bytes f b.value; means = (b.value, p.below, sym same.0, refl); parts = p.parts ∙ ap (λ t. pixel_bytes f b.value ++ t) same.1; are = subst AreBytes same.1 p.are }
given_sound f false known bytes value rest tells are e =
    let same = ok_same e in
    record { prefix = []; means = (sym same.0, refl); parts = same.1; are = subst AreBytes same.1 are }

pub given_complete : (f : Layout) (announced : Bool) (known value : Option ℕ) (prefix : List ℕ) → Tells f → IsForeground f announced known value prefix → Takes (read_given f announced known) prefix value
given_complete f true known value prefix tells means rest =
    let p = pixel_complete f means.0 tells means.1 rest in
    rw (means.3, means.2) (on_ok (read_pixel f (pixel_bytes f means.0 ++ rest)) (λ v t. Ok (Some v, t)) means.0 rest p)
given_complete f false known value prefix tells means rest = rw (means.1, means.0) refl

-- ---- raw pixels

AreBelow : Layout → List ℕ → Type 0
AreBelow f values = AllByRecursion (λ v. v < 2 ^ f.bits) values

pub record PixelsRead (f : Layout) (found all : List ℕ) (left : ℕ) (bytes rest : List ℕ) : Type 0 where
  pub more : List ℕ
  pub all_is : all ≡ found ++ more
  pub count : length more ≡ left
  pub below : AllByRecursion (λ v. v < 2 ^ f.bits) more
  pub parts : bytes ≡ flat_map (pixel_bytes f) more ++ rest
  pub are : AreBytes rest

pub pixels_sound : (f : Layout) (found : List ℕ) (left : ℕ) (bytes all rest : List ℕ) → Tells f → AreBytes bytes → read_pixels f found left bytes ≡ Ok (all, rest) → PixelsRead f found all left bytes rest
unfolding read_pixels
pixels_sound f found zero bytes all rest tells are e =
    let same = ok_same e in
    record { more = []; all_is = sym same.0 ∙ sym (append-nil found); count = refl; below = tt; parts = same.1; are = subst AreBytes same.1 are }
pixels_sound f found (suc left) bytes all rest tells are e =
    let b = both_read (read_pixel f bytes) (λ value rest. read_pixels f (found ++ (value ∷ [])) left rest) all rest e in
    let p = pixel_sound f bytes b.value b.middle tells are b.one in
    let r = pixels_sound f (found ++ (b.value ∷ [])) left b.middle all rest tells p.are b.two in
    record {
      more = b.value ∷ r.more;
      all_is = r.all_is ∙ rw append_assoc refl;
      count = ap suc r.count;
      below = (p.below, r.below);
      parts = p.parts ∙ (ap (λ t. pixel_bytes f b.value ++ t) r.parts ∙ rw append_assoc refl);
      are = r.are;
    }

pub pixels_complete : (f : Layout) (found more : List ℕ) → Tells f → AllByRecursion (λ v. v < 2 ^ f.bits) more → Takes (read_pixels f found (length more)) (flat_map (pixel_bytes f) more) (found ++ more)
unfolding read_pixels
pixels_complete f found [] tells below rest = rw append-nil refl
pixels_complete f found (v ∷ more) tells below rest =
    let later = pixels_complete f (found ++ (v ∷ [])) more tells below.1 in
    let all = both_take (read_pixel f) (λ value rest. read_pixels f (found ++ (value ∷ [])) (length more) rest) v (pixel_bytes f v) (flat_map (pixel_bytes f) more) ((found ++ (v ∷ [])) ++ more) (pixel_complete f v tells below.0) later rest in
    let e : (found ++ (v ∷ [])) ++ more ≡ found ++ (v ∷ more) = append_assoc found (v ∷ []) more in
    all ∙ ap (λ t. Ok (t, rest)) e

-- ---- subrectangles

same_sub : (s t : Sub) → s.value ≡ t.value → s.x ≡ t.x → s.y ≡ t.y → s.width ≡ t.width → s.height ≡ t.height → s ≡ t
same_sub s t e1 e2 e3 e4 e5 = made s.value s.x s.y s.width s.height t.value t.x t.y t.width t.height e1 e2 e3 e4 e5 where
  sub : (v x y w h : ℕ) → Sub
  sub v x y w h = record { value = v; x = x; y = y; width = w; height = h }

  made : (v x y w h v2 x2 y2 w2 h2 : ℕ) → v ≡ v2 → x ≡ x2 → y ≡ y2 → w ≡ w2 → h ≡ h2 → sub v x y w h ≡ sub v2 x2 y2 w2 h2
  made v x y w h v2 x2 y2 w2 h2 a b c d e = rw (a, b, c, d, e) refl

value_sound : (f : Layout) (coloured : Bool) (fore value : Option ℕ) (prefix : List ℕ) → (coloured ≡ false → IsSome fore) → IsForeground f coloured fore value prefix
    → HasValue f coloured fore (unwrap_or value 0) × (prefix ≡ cond coloured (pixel_bytes f (unwrap_or value 0)) [])
value_sound f true fore value prefix needs means = let e : unwrap_or value 0 ≡ means.0 = rw means.2 refl in (rw e means.1, rw e means.3)
value_sound f false None value prefix needs means = absurd (let g = needs refl in cc)
value_sound f false (Some v) value prefix needs means = let e : unwrap_or value 0 ≡ v = rw means.0 refl in (rw e refl, means.1)

pub byte_sound : (passes : ℕ → Bool) (bytes : List ℕ) (b : ℕ) (rest : List ℕ) → AreBytes bytes → read_byte passes bytes ≡ Ok (b, rest) → (bytes ≡ b ∷ rest) × (passes b ≡ true) × (b < 256) × AreBytes rest
byte_sound passes bytes b rest are e =
    let t = byte_taken passes bytes b rest e in
    let each : AreBytes (b ∷ rest) = subst AreBytes t.0 are in
    (t.0, t.1, each.0, each.1)

pub sub_sound : (f : Layout) (coloured : Bool) (fore : Option ℕ) (width height : ℕ) (bytes : List ℕ) (s : Sub) (rest : List ℕ) → Tells f → AreBytes bytes → (coloured ≡ false → IsSome fore)
    → read_sub f coloured fore width height bytes ≡ Ok (s, rest) → Prefix bytes rest (λ prefix. IsSub f coloured fore width height s × (prefix ≡ bytes_of_sub f coloured s))
unfolding read_sub
sub_sound f coloured fore width height bytes s rest tells are needs e =
    let b1 = both_read (read_given f coloured fore bytes) (λ value after. on_read (read_byte (is_place width height) after) (λ place last. on_read (read_byte (is_extent width height place) last) (λ size rest. Ok (sub_from value place size, rest)))) s rest e in
    let value = b1.value in
    let g = given_sound f coloured fore bytes value b1.middle tells are b1.one in
    let b2 = both_read (read_byte (is_place width height) b1.middle) (λ place last. on_read (read_byte (is_extent width height place) last) (λ size rest. Ok (sub_from value place size, rest))) s rest b1.two in
    let place = b2.value in
    let p = byte_sound (is_place width height) b1.middle place b2.middle g.are b2.one in
    let b3 = both_read (read_byte (is_extent width height place) b2.middle) (λ size rest. Ok (sub_from value place size, rest)) s rest b2.two in
    let size = b3.value in
    let q = byte_sound (is_extent width height place) b2.middle size b3.middle p.3 b3.one in
    let same = ok_same b3.two in
    let v = value_sound f coloured fore value g.prefix needs g.means in
    let fits = and_parts _ _ q.1 in
    let across : place / 16 + (size / 16 + 1) ≤ width = leb-true _ _ fits.0 in
    let down : place % 16 + (size % 16 + 1) ≤ height = leb-true _ _ fits.1 in
    let one : place / 16 * 16 + place % 16 ≡ place = omega arith in
    let two : (size / 16 + 1 - 1) * 16 + (size % 16 + 1 - 1) ≡ size = omega arith in
    let made : Sub = sub_from value place size in
    let last : bytes_of_sub f coloured made ≡ cond coloured (pixel_bytes f (unwrap_or value 0)) [] ++ (place ∷ (size ∷ [])) = rw (one, two) refl in
    let is : IsSub f coloured fore width height made = record { value = v.0; some_width = omega arith; some_height = omega arith; across = across; down = down } in
    record {
      prefix = bytes_of_sub f coloured made;
      means = subst (λ (t : Sub). IsSub f coloured fore width height t × (bytes_of_sub f coloured made ≡ bytes_of_sub f coloured t)) same.0 (is, refl);
      parts = g.parts ∙ (ap (λ t. g.prefix ++ t) (p.0 ∙ ap (λ t. place ∷ t) q.0) ∙ rw (last, v.1, same.1, append_assoc) refl);
      are = subst AreBytes same.1 q.3;
    }

value_complete : (f : Layout) (coloured : Bool) (fore : Option ℕ) (v : ℕ) → HasValue f coloured fore v → (value : Option ℕ) × IsForeground f coloured fore value (cond coloured (pixel_bytes f v) []) × (unwrap_or value 0 ≡ v)
value_complete f true fore v has = (Some v, (v, has, refl, refl), refl)
value_complete f false fore v has = (Some v, (sym has, refl), refl)

pub sub_complete : (f : Layout) (coloured : Bool) (fore : Option ℕ) (width height : ℕ) (s : Sub) → Tells f → width ≤ 16 → height ≤ 16 → IsSub f coloured fore width height s → Takes (read_sub f coloured fore width height) (bytes_of_sub f coloured s) s
unfolding read_sub
sub_complete f coloured fore width height s tells wide high is rest =
    let v = value_complete f coloured fore s.value is.value in
    let value = v.0 in
    let place = s.x * 16 + s.y in
    let size = (s.width - 1) * 16 + (s.height - 1) in
    let x : place / 16 ≡ s.x = omega (arith, is.down, is.some_height) in
    let y : place % 16 ≡ s.y = omega (arith, is.down, is.some_height) in
    let w : size / 16 + 1 ≡ s.width = omega (arith, is.down, is.some_height, is.some_width) in
    let h : size % 16 + 1 ≡ s.height = omega (arith, is.down, is.some_height) in
    let there : is_place width height place ≡ true = rw (x, y) (place_true s.x s.y s.width s.height is.some_width is.some_height is.across is.down) in
    let fits : is_extent width height place size ≡ true = rw (x, y, w, h) (size_true s.x s.y s.width s.height is.across is.down) in
    let made : sub_from value place size ≡ s = same_sub (sub_from value place size) s v.2 x y w h in
    let first = given_complete f coloured fore value (cond coloured (pixel_bytes f s.value) []) tells v.1 (place ∷ (size ∷ rest)) in
    rw append_assoc (on_ok _ (λ value after. on_read (read_byte (is_place width height) after) (λ place last. on_read (read_byte (is_extent width height place) last) (λ size rest. Ok (sub_from value place size, rest)))) value (place ∷ (size ∷ rest)) first
    ∙ (on_ok _ (λ place last. on_read (read_byte (is_extent width height place) last) (λ size rest. Ok (sub_from value place size, rest))) place (size ∷ rest) (byte_passes (is_place width height) place (size ∷ rest) there)
    ∙ (on_ok _ (λ size rest. Ok (sub_from value place size, rest)) size rest (byte_passes (is_extent width height place) size rest fits)
    ∙ ap (λ t. Ok (t, rest)) made)))
  where
    place_true : (x y w h : ℕ) → 1 ≤ w → 1 ≤ h → x + w ≤ width → y + h ≤ height → (ltb x width && ltb y height) ≡ true
    place_true x y w h a b c d = grind (arith, nat_tests)

    size_true : (x y w h : ℕ) → x + w ≤ width → y + h ≤ height → (leb (x + w) width && leb (y + h) height) ≡ true
    size_true x y w h c d = grind (arith, nat_tests)

pub record SubsRead (f : Layout) (coloured : Bool) (fore : Option ℕ) (width height : ℕ) (found all : List Sub) (left : ℕ) (bytes rest : List ℕ) : Type 0 where
  pub more : List Sub
  pub all_is : all ≡ found ++ more
  pub count : length more ≡ left
  pub each : AllByRecursion (IsSub f coloured fore width height) more
  pub parts : bytes ≡ flat_map (bytes_of_sub f coloured) more ++ rest
  pub are : AreBytes rest

pub subs_sound : (f : Layout) (coloured : Bool) (fore : Option ℕ) (width height : ℕ) (found : List Sub) (left : ℕ) (bytes : List ℕ) (all : List Sub) (rest : List ℕ) → Tells f → AreBytes bytes → (coloured ≡ false → IsSome fore)
    → read_subs f coloured fore width height found left bytes ≡ Ok (all, rest) → SubsRead f coloured fore width height found all left bytes rest
unfolding read_subs
subs_sound f coloured fore width height found zero bytes all rest tells are needs e =
    let same = ok_same e in
    record { more = []; all_is = sym same.0 ∙ sym (append-nil found); count = refl; each = tt; parts = same.1; are = subst AreBytes same.1 are }
subs_sound f coloured fore width height found (suc left) bytes all rest tells are needs e =
    let b = both_read (read_sub f coloured fore width height bytes) (λ s rest. read_subs f coloured fore width height (found ++ (s ∷ [])) left rest) all rest e in
    let p = sub_sound f coloured fore width height bytes b.value b.middle tells are needs b.one in
    let r = subs_sound f coloured fore width height (found ++ (b.value ∷ [])) left b.middle all rest tells p.are needs b.two in
    record {
      more = b.value ∷ r.more;
      all_is = r.all_is ∙ rw append_assoc refl;
      count = ap suc r.count;
      each = (p.means.0, r.each);
      parts = p.parts ∙ (ap (λ t. p.prefix ++ t) r.parts ∙ (ap (λ t. t ++ (flat_map (bytes_of_sub f coloured) r.more ++ rest)) p.means.1 ∙ sym (append_assoc (bytes_of_sub f coloured b.value) (flat_map (bytes_of_sub f coloured) r.more) rest)));
      are = r.are;
    }

pub subs_complete : (f : Layout) (coloured : Bool) (fore : Option ℕ) (width height : ℕ) (found more : List Sub) → Tells f → width ≤ 16 → height ≤ 16 → AllByRecursion (IsSub f coloured fore width height) more
    → Takes (read_subs f coloured fore width height found (length more)) (flat_map (bytes_of_sub f coloured) more) (found ++ more)
unfolding read_subs
subs_complete f coloured fore width height found [] tells wide high each rest = rw append-nil refl
subs_complete f coloured fore width height found (s ∷ more) tells wide high each rest =
    let later = subs_complete f coloured fore width height (found ++ (s ∷ [])) more tells wide high each.1 in
    let all = both_take (read_sub f coloured fore width height) (λ s rest. read_subs f coloured fore width height (found ++ (s ∷ [])) (length more) rest) s (bytes_of_sub f coloured s) (flat_map (bytes_of_sub f coloured) more) ((found ++ (s ∷ [])) ++ more) (sub_complete f coloured fore width height s tells wide high each.0) later rest in
    let e : (found ++ (s ∷ [])) ++ more ≡ found ++ (s ∷ more) = append_assoc found (s ∷ []) more in
    all ∙ ap (λ t. Ok (t, rest)) e

pub listed_sound : (f : Layout) (listed coloured : Bool) (fore : Option ℕ) (width height : ℕ) (bytes : List ℕ) (subs : List Sub) (rest : List ℕ) → Tells f → AreBytes bytes → (listed ≡ true → coloured ≡ false → IsSome fore)
    → read_listed f listed coloured fore width height bytes ≡ Ok (subs, rest) → Prefix bytes rest (λ prefix. AreListed f listed coloured subs prefix × AllByRecursion (IsSub f coloured fore width height) subs)
listed_sound f true coloured fore width height bytes subs rest tells are needs e =
    let b = both_read (read_byte (λ _. true) bytes) (λ count rest. read_subs f coloured fore width height [] count rest) subs rest e in
    let p = byte_sound (λ _. true) bytes b.value b.middle are b.one in
    let r = subs_sound f coloured fore width height [] b.value b.middle subs rest tells p.3 (needs refl) b.two in
    let same : subs ≡ r.more = r.all_is in
    let count : length subs ≡ b.value = ap length same ∙ r.count in
    record {
      prefix = length subs ∷ flat_map (bytes_of_sub f coloured) subs;
      means = ((omega (arith, count, p.2), refl), subst (AllByRecursion (IsSub f coloured fore width height)) (sym same) r.each);
      parts = p.0 ∙ (ap (λ t. b.value ∷ t) r.parts ∙ (ap (λ n. n ∷ (flat_map (bytes_of_sub f coloured) r.more ++ rest)) (sym count) ∙ ap (λ (ss : List Sub). length subs ∷ (flat_map (bytes_of_sub f coloured) ss ++ rest)) (sym same)));
      are = r.are;
    }
listed_sound f false coloured fore width height bytes subs rest tells are needs e =
    let same = ok_same e in
    record { prefix = []; means = ((sym same.0, refl), subst (AllByRecursion (IsSub f coloured fore width height)) same.0 tt); parts = same.1; are = subst AreBytes same.1 are }

pub listed_complete : (f : Layout) (listed coloured : Bool) (fore : Option ℕ) (width height : ℕ) (subs : List Sub) (prefix : List ℕ) → Tells f → width ≤ 16 → height ≤ 16 → AllByRecursion (IsSub f coloured fore width height) subs
    → AreListed f listed coloured subs prefix → Takes (read_listed f listed coloured fore width height) prefix subs
listed_complete f true coloured fore width height subs prefix tells wide high each are rest = rw are.1 (subs_complete f coloured fore width height [] subs tells wide high each rest)
listed_complete f false coloured fore width height subs prefix tells wide high each are rest = rw (are.0, are.1) refl
