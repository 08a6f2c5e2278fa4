-- What a tile's mask says, and tiles as they are read.
use Rattle.std.proofs.Common.{◌≡◌, ℕ, zero, suc, ◌+◌, ◌*◌, ◌/◌, ◌%◌, ◌^◌, ◌<◌, ◌≤◌, Bool, true, false, cond, not, ◌&&◌, ◌||◌, Option, Some, None, List, [], ◌∷◌, ◌++◌, length, Ok, refl, sym, ap, subst, ◌∙◌, inl, inr, arith, ltb, eqb}
use Rattle.std.specs.Prelude.{IsSome, is_some, unwrap_or}
use Rattle.std.specs.List.{flat_map, AllByRecursion}
use Rattle.std.proofs.lemmas.Bool.{cases_Bool, ltb-true}
use Rattle.std.proofs.lemmas.List.{append_assoc}
use Rattle.std.proofs.lemmas.List.FromFn.{length-map-range_with_len}
use Rattle.std.proofs.lemmas.Nat.{div-mul-add}
use Rattle.pixel_format.specs.Formats.{Layout, pixel_bytes}
use Rattle.hextile.specs.declared.sub.Sub.{Sub}
use Rattle.hextile.specs.declared.known.Known.{Known}
use Rattle.hextile.specs.Painting.{value_over, with_subs}
use Rattle.hextile.specs.Tiles.{TileValues, nothing_known}
use Rattle.hextile.specs.Meaning.{IsGiven, IsForeground, IsSub, AreListed, IsPainted, IsRaw, MeansTile}
use Rattle.hextile.specs.Reading.{on_read, read_byte, read_given, read_pixels, read_listed, has_bit, is_mask, TileRead, painted_tile, read_painted, read_raw, read_tile}
use Rattle.hextile.proofs.ReaderLemmas.{AreBytes, Takes, ok_same, on_ok, byte_passes}
use Rattle.hextile.proofs.SoundLemmas.{Tells, both_read, given_sound, given_complete, pixels_sound, pixels_complete, listed_sound, listed_complete, byte_sound}

-- ---- masks

bit_is : (b k : ℕ) → b < 2 → cond (eqb b 1) k 0 ≡ b * k
bit_is zero k lt = omega arith
bit_is (suc zero) k lt = omega arith
bit_is (suc (suc b)) k lt = absurd (omega arith)

bit_none : (b : ℕ) → b < 2 → eqb b 1 ≡ false → b ≡ 0
bit_none zero lt e = refl
bit_none (suc zero) lt e = absurd (let f : true ≡ false = e in cc)
bit_none (suc (suc b)) lt e = absurd (omega arith)

-- a mask of five bits without the lowest is the sum of the others
mask_sum : (mask : ℕ) → mask < 32 → has_bit mask 1 ≡ false → mask ≡ cond (has_bit mask 2) 2 0 + cond (has_bit mask 4) 4 0 + cond (has_bit mask 8) 8 0 + cond (has_bit mask 16) 16 0
mask_sum mask few even =
    let zero_bit : mask / 1 % 2 ≡ 0 = bit_none (mask / 1 % 2) (omega arith) even in
    let a = bit_is (mask / 2 % 2) 2 (omega arith) in
    let b = bit_is (mask / 4 % 2) 4 (omega arith) in
    let c = bit_is (mask / 8 % 2) 8 (omega arith) in
    let d = bit_is (mask / 16 % 2) 16 (omega arith) in
    rw (a, b, c, d) (omega (arith, zero_bit))

pub record Bits (mask : ℕ) (bg fg sub col : Bool) : Type 0 where
  pub raw : has_bit mask 1 ≡ false
  pub bg_is : has_bit mask 2 ≡ bg
  pub fg_is : has_bit mask 4 ≡ fg
  pub sub_is : has_bit mask 8 ≡ sub
  pub col_is : has_bit mask 16 ≡ col
  pub small : ltb mask 32 ≡ true

bits_at : (mask n : ℕ) (bg fg sub col : Bool) → mask ≡ n → Bits n bg fg sub col → Bits mask bg fg sub col
bits_at mask n bg fg sub col e bits = subst (λ (m : ℕ). Bits m bg fg sub col) (sym e) bits

bits_of_sum : (mask : ℕ) (bg fg sub col : Bool) → mask ≡ cond bg 2 0 + cond fg 4 0 + cond sub 8 0 + cond col 16 0 → Bits mask bg fg sub col
bits_of_sum mask true true true true e = bits_at mask 30 true true true true e (record { raw = refl; bg_is = refl; fg_is = refl; sub_is = refl; col_is = refl; small = refl })
bits_of_sum mask true true true false e = bits_at mask 14 true true true false e (record { raw = refl; bg_is = refl; fg_is = refl; sub_is = refl; col_is = refl; small = refl })
bits_of_sum mask true true false true e = bits_at mask 22 true true false true e (record { raw = refl; bg_is = refl; fg_is = refl; sub_is = refl; col_is = refl; small = refl })
bits_of_sum mask true true false false e = bits_at mask 6 true true false false e (record { raw = refl; bg_is = refl; fg_is = refl; sub_is = refl; col_is = refl; small = refl })
bits_of_sum mask true false true true e = bits_at mask 26 true false true true e (record { raw = refl; bg_is = refl; fg_is = refl; sub_is = refl; col_is = refl; small = refl })
bits_of_sum mask true false true false e = bits_at mask 10 true false true false e (record { raw = refl; bg_is = refl; fg_is = refl; sub_is = refl; col_is = refl; small = refl })
bits_of_sum mask true false false true e = bits_at mask 18 true false false true e (record { raw = refl; bg_is = refl; fg_is = refl; sub_is = refl; col_is = refl; small = refl })
bits_of_sum mask true false false false e = bits_at mask 2 true false false false e (record { raw = refl; bg_is = refl; fg_is = refl; sub_is = refl; col_is = refl; small = refl })
bits_of_sum mask false true true true e = bits_at mask 28 false true true true e (record { raw = refl; bg_is = refl; fg_is = refl; sub_is = refl; col_is = refl; small = refl })
bits_of_sum mask false true true false e = bits_at mask 12 false true true false e (record { raw = refl; bg_is = refl; fg_is = refl; sub_is = refl; col_is = refl; small = refl })
bits_of_sum mask false true false true e = bits_at mask 20 false true false true e (record { raw = refl; bg_is = refl; fg_is = refl; sub_is = refl; col_is = refl; small = refl })
bits_of_sum mask false true false false e = bits_at mask 4 false true false false e (record { raw = refl; bg_is = refl; fg_is = refl; sub_is = refl; col_is = refl; small = refl })
bits_of_sum mask false false true true e = bits_at mask 24 false false true true e (record { raw = refl; bg_is = refl; fg_is = refl; sub_is = refl; col_is = refl; small = refl })
bits_of_sum mask false false true false e = bits_at mask 8 false false true false e (record { raw = refl; bg_is = refl; fg_is = refl; sub_is = refl; col_is = refl; small = refl })
bits_of_sum mask false false false true e = bits_at mask 16 false false false true e (record { raw = refl; bg_is = refl; fg_is = refl; sub_is = refl; col_is = refl; small = refl })
bits_of_sum mask false false false false e = bits_at mask 0 false false false false e (record { raw = refl; bg_is = refl; fg_is = refl; sub_is = refl; col_is = refl; small = refl })

-- what the test of masks asks of its bits
abbrev allows : Bool → Bool → Bool → Bool → Bool → Bool → Bool → Bool
allows small bg fg sub col kb kf = small && not (fg && col) && (sub || not col) && (bg || kb) && (not sub || col || fg || kf)

pub record Allowed (bg fg sub col kb kf : Bool) : Type 0 where
  pub not_both : fg ≡ true → col ≡ false
  pub only_with : col ≡ true → sub ≡ true
  pub back : bg ≡ false → kb ≡ true
  pub fore : sub ≡ true → col ≡ false → fg ≡ false → kf ≡ true

off : {A : Type 0} → false ≡ true → A
off e = absurd (cc)

off_too : {A : Type 0} → true ≡ false → A
off_too e = absurd (cc)

allowed_from : (small bg fg sub col kb kf : Bool) → allows small bg fg sub col kb kf ≡ true → (small ≡ true) × Allowed bg fg sub col kb kf
allowed_from false bg fg sub col kb kf e = off e
allowed_from true true true true true true true e = off e
allowed_from true true true true true true false e = off e
allowed_from true true true true true false true e = off e
allowed_from true true true true true false false e = off e
allowed_from true true true true false true true e = (refl, record { not_both = λ e. refl; only_with = λ e. refl; back = λ e. refl; fore = λ a b c. refl })
allowed_from true true true true false true false e = (refl, record { not_both = λ e. refl; only_with = λ e. refl; back = λ e. refl; fore = λ a b c. off_too c })
allowed_from true true true true false false true e = (refl, record { not_both = λ e. refl; only_with = λ e. refl; back = λ e. off_too e; fore = λ a b c. refl })
allowed_from true true true true false false false e = (refl, record { not_both = λ e. refl; only_with = λ e. refl; back = λ e. off_too e; fore = λ a b c. off_too c })
allowed_from true true true false true true true e = off e
allowed_from true true true false true true false e = off e
allowed_from true true true false true false true e = off e
allowed_from true true true false true false false e = off e
allowed_from true true true false false true true e = (refl, record { not_both = λ e. refl; only_with = λ e. off e; back = λ e. refl; fore = λ a b c. refl })
allowed_from true true true false false true false e = (refl, record { not_both = λ e. refl; only_with = λ e. off e; back = λ e. refl; fore = λ a b c. off a })
allowed_from true true true false false false true e = (refl, record { not_both = λ e. refl; only_with = λ e. off e; back = λ e. off_too e; fore = λ a b c. refl })
allowed_from true true true false false false false e = (refl, record { not_both = λ e. refl; only_with = λ e. off e; back = λ e. off_too e; fore = λ a b c. off a })
allowed_from true true false true true true true e = (refl, record { not_both = λ e. off e; only_with = λ e. refl; back = λ e. refl; fore = λ a b c. refl })
allowed_from true true false true true true false e = (refl, record { not_both = λ e. off e; only_with = λ e. refl; back = λ e. refl; fore = λ a b c. off_too b })
allowed_from true true false true true false true e = (refl, record { not_both = λ e. off e; only_with = λ e. refl; back = λ e. off_too e; fore = λ a b c. refl })
allowed_from true true false true true false false e = (refl, record { not_both = λ e. off e; only_with = λ e. refl; back = λ e. off_too e; fore = λ a b c. off_too b })
allowed_from true true false true false true true e = (refl, record { not_both = λ e. refl; only_with = λ e. refl; back = λ e. refl; fore = λ a b c. refl })
allowed_from true true false true false true false e = off e
allowed_from true true false true false false true e = (refl, record { not_both = λ e. refl; only_with = λ e. refl; back = λ e. off_too e; fore = λ a b c. refl })
allowed_from true true false true false false false e = off e
allowed_from true true false false true true true e = off e
allowed_from true true false false true true false e = off e
allowed_from true true false false true false true e = off e
allowed_from true true false false true false false e = off e
allowed_from true true false false false true true e = (refl, record { not_both = λ e. refl; only_with = λ e. off e; back = λ e. refl; fore = λ a b c. refl })
allowed_from true true false false false true false e = (refl, record { not_both = λ e. refl; only_with = λ e. off e; back = λ e. refl; fore = λ a b c. off a })
allowed_from true true false false false false true e = (refl, record { not_both = λ e. refl; only_with = λ e. off e; back = λ e. off_too e; fore = λ a b c. refl })
allowed_from true true false false false false false e = (refl, record { not_both = λ e. refl; only_with = λ e. off e; back = λ e. off_too e; fore = λ a b c. off a })
allowed_from true false true true true true true e = off e
allowed_from true false true true true true false e = off e
allowed_from true false true true true false true e = off e
allowed_from true false true true true false false e = off e
allowed_from true false true true false true true e = (refl, record { not_both = λ e. refl; only_with = λ e. refl; back = λ e. refl; fore = λ a b c. refl })
allowed_from true false true true false true false e = (refl, record { not_both = λ e. refl; only_with = λ e. refl; back = λ e. refl; fore = λ a b c. off_too c })
allowed_from true false true true false false true e = off e
allowed_from true false true true false false false e = off e
allowed_from true false true false true true true e = off e
allowed_from true false true false true true false e = off e
allowed_from true false true false true false true e = off e
allowed_from true false true false true false false e = off e
allowed_from true false true false false true true e = (refl, record { not_both = λ e. refl; only_with = λ e. off e; back = λ e. refl; fore = λ a b c. refl })
allowed_from true false true false false true false e = (refl, record { not_both = λ e. refl; only_with = λ e. off e; back = λ e. refl; fore = λ a b c. off a })
allowed_from true false true false false false true e = off e
allowed_from true false true false false false false e = off e
allowed_from true false false true true true true e = (refl, record { not_both = λ e. off e; only_with = λ e. refl; back = λ e. refl; fore = λ a b c. refl })
allowed_from true false false true true true false e = (refl, record { not_both = λ e. off e; only_with = λ e. refl; back = λ e. refl; fore = λ a b c. off_too b })
allowed_from true false false true true false true e = off e
allowed_from true false false true true false false e = off e
allowed_from true false false true false true true e = (refl, record { not_both = λ e. refl; only_with = λ e. refl; back = λ e. refl; fore = λ a b c. refl })
allowed_from true false false true false true false e = off e
allowed_from true false false true false false true e = off e
allowed_from true false false true false false false e = off e
allowed_from true false false false true true true e = off e
allowed_from true false false false true true false e = off e
allowed_from true false false false true false true e = off e
allowed_from true false false false true false false e = off e
allowed_from true false false false false true true e = (refl, record { not_both = λ e. refl; only_with = λ e. off e; back = λ e. refl; fore = λ a b c. refl })
allowed_from true false false false false true false e = (refl, record { not_both = λ e. refl; only_with = λ e. off e; back = λ e. refl; fore = λ a b c. off a })
allowed_from true false false false false false true e = off e
allowed_from true false false false false false false e = off e

allows_from : (bg fg sub col kb kf : Bool) → Allowed bg fg sub col kb kf → allows true bg fg sub col kb kf ≡ true
allows_from true true true true true true a = off_too (a.not_both refl)
allows_from true true true true true false a = off_too (a.not_both refl)
allows_from true true true true false true a = off_too (a.not_both refl)
allows_from true true true true false false a = off_too (a.not_both refl)
allows_from true true true false true true a = refl
allows_from true true true false true false a = refl
allows_from true true true false false true a = refl
allows_from true true true false false false a = refl
allows_from true true false true true true a = off_too (a.not_both refl)
allows_from true true false true true false a = off_too (a.not_both refl)
allows_from true true false true false true a = off_too (a.not_both refl)
allows_from true true false true false false a = off_too (a.not_both refl)
allows_from true true false false true true a = refl
allows_from true true false false true false a = refl
allows_from true true false false false true a = refl
allows_from true true false false false false a = refl
allows_from true false true true true true a = refl
allows_from true false true true true false a = refl
allows_from true false true true false true a = refl
allows_from true false true true false false a = refl
allows_from true false true false true true a = refl
allows_from true false true false true false a = off (a.fore refl refl refl)
allows_from true false true false false true a = refl
allows_from true false true false false false a = off (a.fore refl refl refl)
allows_from true false false true true true a = off (a.only_with refl)
allows_from true false false true true false a = off (a.only_with refl)
allows_from true false false true false true a = off (a.only_with refl)
allows_from true false false true false false a = off (a.only_with refl)
allows_from true false false false true true a = refl
allows_from true false false false true false a = refl
allows_from true false false false false true a = refl
allows_from true false false false false false a = refl
allows_from false true true true true true a = off_too (a.not_both refl)
allows_from false true true true true false a = off_too (a.not_both refl)
allows_from false true true true false true a = off_too (a.not_both refl)
allows_from false true true true false false a = off_too (a.not_both refl)
allows_from false true true false true true a = refl
allows_from false true true false true false a = refl
allows_from false true true false false true a = off (a.back refl)
allows_from false true true false false false a = off (a.back refl)
allows_from false true false true true true a = off_too (a.not_both refl)
allows_from false true false true true false a = off_too (a.not_both refl)
allows_from false true false true false true a = off_too (a.not_both refl)
allows_from false true false true false false a = off_too (a.not_both refl)
allows_from false true false false true true a = refl
allows_from false true false false true false a = refl
allows_from false true false false false true a = off (a.back refl)
allows_from false true false false false false a = off (a.back refl)
allows_from false false true true true true a = refl
allows_from false false true true true false a = refl
allows_from false false true true false true a = off (a.back refl)
allows_from false false true true false false a = off (a.back refl)
allows_from false false true false true true a = refl
allows_from false false true false true false a = off (a.fore refl refl refl)
allows_from false false true false false true a = off (a.back refl)
allows_from false false true false false false a = off (a.back refl)
allows_from false false false true true true a = off (a.only_with refl)
allows_from false false false true true false a = off (a.only_with refl)
allows_from false false false true false true a = off (a.only_with refl)
allows_from false false false true false false a = off (a.only_with refl)
allows_from false false false false true true a = refl
allows_from false false false false true false a = refl
allows_from false false false false false true a = off (a.back refl)
allows_from false false false false false false a = off (a.back refl)

pub mask_allowed : (known : Known) (mask : ℕ) → is_mask known mask ≡ true → has_bit mask 1 ≡ false → (ltb mask 32 ≡ true) × Allowed (has_bit mask 2) (has_bit mask 4) (has_bit mask 8) (has_bit mask 16) (is_some known.background) (is_some known.foreground)
unfolding is_mask
mask_allowed known mask e even = allowed_from (ltb mask 32) (has_bit mask 2) (has_bit mask 4) (has_bit mask 8) (has_bit mask 16) (is_some known.background) (is_some known.foreground) (rw even at e)

pub mask_passes : (known : Known) (mask : ℕ) (bg fg sub col : Bool) → Bits mask bg fg sub col → Allowed bg fg sub col (is_some known.background) (is_some known.foreground) → is_mask known mask ≡ true
unfolding is_mask
mask_passes known mask bg fg sub col bits a = rw (bits.raw, bits.small, bits.bg_is, bits.fg_is, bits.sub_is, bits.col_is) (allows_from bg fg sub col (is_some known.background) (is_some known.foreground) a)

pub raw_passes : (known : Known) (mask : ℕ) → has_bit mask 1 ≡ true → is_mask known mask ≡ true
unfolding is_mask
raw_passes known mask e = rw e refl

-- ---- a painted tile

back_sound : (f : Layout) (announced : Bool) (known value : Option ℕ) (prefix : List ℕ) → (announced ≡ false → is_some known ≡ true) → IsForeground f announced known value prefix → IsGiven f announced known (unwrap_or value 0) prefix
back_sound f true known value prefix needs means = let e : unwrap_or value 0 ≡ means.0 = rw means.2 refl in (rw e means.1, rw e means.3)
back_sound f false None value prefix needs means = off (needs refl)
back_sound f false (Some v) value prefix needs means = let e : unwrap_or value 0 ≡ v = rw means.0 refl in (rw e refl, means.1)

fore_some : (f : Layout) (announced : Bool) (known value : Option ℕ) (prefix : List ℕ) → (announced ≡ false → is_some known ≡ true) → IsForeground f announced known value prefix → IsSome value
fore_some f true known value prefix needs means = rw means.2 refl
fore_some f false known value prefix needs means = rw means.0 (needs refl)

back_complete : (f : Layout) (announced : Bool) (known : Option ℕ) (back : ℕ) (prefix : List ℕ) → IsGiven f announced known back prefix → IsForeground f announced known (Some back) prefix
back_complete f true known back prefix given = (back, given.0, refl, given.1)
back_complete f false known back prefix given = (sym given.0, given.1)

-- what a mask without a background needs
back_known : (f : Layout) (announced : Bool) (known : Option ℕ) (back : ℕ) (prefix : List ℕ) → IsGiven f announced known back prefix → announced ≡ false → is_some known ≡ true
back_known f true known back prefix given e = off_too e
back_known f false known back prefix given e = rw given.0 refl

fore_known : (f : Layout) (announced : Bool) (known fore : Option ℕ) (prefix : List ℕ) → IsForeground f announced known fore prefix → IsSome fore → announced ≡ false → is_some known ≡ true
fore_known f true known fore prefix means some e = off_too e
fore_known f false known fore prefix means some e = rw means.0 at some

painted_long : (width height back : ℕ) (subs : List Sub) → length (with_subs width (height * width) back subs) ≡ height * width
painted_long width height back subs = length-map-range_with_len (λ i. value_over (i % width) (i / width) subs back) 0 (height * width)

rows_are : (width height : ℕ) → 1 ≤ width → height * width / width ≡ height
rows_are width height wide = let e : height * width ≡ height * width + 0 = omega arith in ap (λ n. n / width) e ∙ div-mul-add height width 0 wide

abbrev tile_with : ℕ → List ℕ → TileValues
tile_with width values = record { width = width; values = values }

pub record TilePrefix (f : Layout) (known : Known) (width height : ℕ) (bytes rest : List ℕ) (read : TileRead) : Type 0 where
  pub prefix : List ℕ
  pub means : MeansTile f known (record { width = width; values = read.values }) prefix read.after
  pub count : length read.values ≡ height * width
  pub parts : bytes ≡ prefix ++ rest
  pub are : AreBytes rest

painted_sound : (f : Layout) (known : Known) (mask width height : ℕ) (bytes : List ℕ) (read : TileRead) (rest : List ℕ) → Tells f → AreBytes bytes → 1 ≤ width → is_mask known mask ≡ true → has_bit mask 1 ≡ false
    → read_painted f known mask width height bytes ≡ Ok (read, rest) → TilePrefix f known width height (mask ∷ bytes) rest read
unfolding read_painted
painted_sound f known mask width height bytes read rest tells are wide right even e =
    let allowed = mask_allowed known mask right even in
    let bg = has_bit mask 2 in
    let fg = has_bit mask 4 in
    let sub = has_bit mask 8 in
    let col = has_bit mask 16 in
    let b1 = both_read (read_given f bg known.background bytes) (λ back after. on_read (read_given f fg known.foreground after) (λ fore last. on_read (read_listed f sub col fore width height last) (λ subs rest. Ok (painted_tile width height col back fore subs, rest)))) read rest e in
    let back = unwrap_or b1.value 0 in
    let g = given_sound f bg known.background bytes b1.value b1.middle tells are b1.one in
    let b2 = both_read (read_given f fg known.foreground b1.middle) (λ fore last. on_read (read_listed f sub col fore width height last) (λ subs rest. Ok (painted_tile width height col b1.value fore subs, rest))) read rest b1.two in
    let fore = b2.value in
    let h = given_sound f fg known.foreground b1.middle fore b2.middle tells g.are b2.one in
    let b3 = both_read (read_listed f sub col fore width height b2.middle) (λ subs rest. Ok (painted_tile width height col b1.value fore subs, rest)) read rest b2.two in
    let subs = b3.value in
    let needs : sub ≡ true → col ≡ false → IsSome fore = λ a b. fore_some f fg known.foreground fore h.prefix (allowed.1.fore a b) h.means in
    let l = listed_sound f sub col fore width height b2.middle subs b3.middle tells h.are needs b3.one in
    let same = ok_same b3.two in
    let made : TileRead = painted_tile width height col b1.value fore subs in
    let long : length made.values ≡ height * width = painted_long width height back subs in
    let rows : length made.values / width ≡ height = ap (λ n. n / width) long ∙ rows_are width height wide in
    let is : IsPainted f known (tile_with width made.values) (mask ∷ (g.prefix ++ (h.prefix ++ l.prefix))) made.after =
    record {
      parts = record { background = bg; foreground = fg; subrects = sub; coloured = col };
      mask = mask;
      is_mask = record { not_both = allowed.1.not_both; only_with = allowed.1.only_with; mask_is = mask_sum mask (ltb-true _ _ allowed.0) even };
      back = back;
      back_bytes = g.prefix;
      is_back = back_sound f bg known.background b1.value g.prefix allowed.1.back g.means;
      fore = fore;
      fore_bytes = h.prefix;
      is_fore = h.means;
      needs_fore = needs;
      subs = subs;
      sub_bytes = l.prefix;
      listed = l.means.0;
      each = subst (λ (n : ℕ). AllByRecursion (IsSub f col fore width n) subs) (sym rows) l.means.1;
      spelled = refl;
      shown = ap (λ (n : ℕ). with_subs width n back subs) (sym long);
      after_is = refl;
    } in
    record {
      prefix = mask ∷ (g.prefix ++ (h.prefix ++ l.prefix));
      means = subst (λ (t : TileRead). MeansTile f known (tile_with width t.values) (mask ∷ (g.prefix ++ (h.prefix ++ l.prefix))) t.after) same.0 (inr is);
      count = subst (λ (t : TileRead). length t.values ≡ height * width) same.0 long;
      parts = ap (λ t. mask ∷ t) (g.parts ∙ (ap (λ t. g.prefix ++ t) (h.parts ∙ ap (λ t. h.prefix ++ t) (l.parts ∙ ap (λ t. l.prefix ++ t) same.1)) ∙ pieces g.prefix h.prefix l.prefix rest));
      are = subst AreBytes same.1 l.are;
    }
  where
    pieces : (a b c d : List ℕ) → a ++ (b ++ (c ++ d)) ≡ (a ++ (b ++ c)) ++ d
    pieces a b c d = rw (append_assoc, append_assoc) refl

raw_sound : (f : Layout) (known : Known) (mask width height : ℕ) (bytes : List ℕ) (read : TileRead) (rest : List ℕ) → Tells f → AreBytes bytes → mask < 256 → has_bit mask 1 ≡ true
    → read_raw f width height bytes ≡ Ok (read, rest) → TilePrefix f known width height (mask ∷ bytes) rest read
unfolding read_raw
raw_sound f known mask width height bytes read rest tells are few odd e =
    let b = both_read (read_pixels f [] (height * width) bytes) (λ values rest. Ok (record { values = values; after = nothing_known }, rest)) read rest e in
    let p = pixels_sound f [] (height * width) bytes b.value b.middle tells are b.one in
    let same = ok_same b.two in
    let made : TileRead = record { values = b.value; after = nothing_known } in
    let is : IsRaw f (tile_with width made.values) (mask ∷ flat_map (pixel_bytes f) b.value) made.after =
    record {
      mask = mask;
      bit = odd_bit mask odd;
      byte = few;
      each = subst (AllByRecursion (λ v. v < 2 ^ f.bits)) (sym p.all_is) p.below;
      spelled = refl;
      after_is = refl;
    } in
    record {
      prefix = mask ∷ flat_map (pixel_bytes f) b.value;
      means = subst (λ (t : TileRead). MeansTile f known (tile_with width t.values) (mask ∷ flat_map (pixel_bytes f) b.value) t.after) same.0 (inl is);
      count = subst (λ (t : TileRead). length t.values ≡ height * width) same.0 (ap length p.all_is ∙ p.count);
      parts = ap (λ t. mask ∷ t) (p.parts ∙ (ap (λ (vs : List ℕ). flat_map (pixel_bytes f) vs ++ b.middle) (sym p.all_is) ∙ ap (λ t. flat_map (pixel_bytes f) b.value ++ t) same.1));
      are = subst AreBytes same.1 p.are;
    }
  where
    odd_by : (b : ℕ) → b < 2 → eqb b 1 ≡ true → b ≡ 1
    odd_by zero lt e = off e
    odd_by (suc zero) lt e = refl
    odd_by (suc (suc b)) lt e = absurd (omega arith)

    odd_bit : (mask : ℕ) → has_bit mask 1 ≡ true → mask % 2 ≡ 1
    odd_bit mask e = odd_by (mask % 2) (omega arith) (subst (λ (n : ℕ). eqb n 1 ≡ true) (omega arith) e)

pub tile_sound : (f : Layout) (known : Known) (width height : ℕ) (bytes : List ℕ) (read : TileRead) (rest : List ℕ) → Tells f → AreBytes bytes → 1 ≤ width
    → read_tile f known width height bytes ≡ Ok (read, rest) → TilePrefix f known width height bytes rest read
unfolding read_tile
tile_sound f known width height bytes read rest tells are wide e =
    let b = both_read (read_byte (is_mask known) bytes) (λ mask rest. cond (has_bit mask 1) (read_raw f width height rest) (read_painted f known mask width height rest)) read rest e in
    let mask = b.value in
    let p = byte_sound (is_mask known) bytes mask b.middle are b.one in
    let prefix : TilePrefix f known width height (mask ∷ b.middle) rest read = elim (cases_Bool (has_bit mask 1)) [
      | inl odd ↦ raw_sound f known mask width height b.middle read rest tells p.3 p.2 odd (rw odd at b.two)
      | inr even ↦ painted_sound f known mask width height b.middle read rest tells p.3 wide p.1 even (rw even at b.two)
    ] in
    record { prefix = prefix.prefix; means = prefix.means; count = prefix.count; parts = p.0 ∙ prefix.parts; are = prefix.are }

-- ---- what a tile means is read

same_read : (s t : TileRead) → s.values ≡ t.values → s.after ≡ t.after → s ≡ t
same_read s t e1 e2 = ap (λ (vs : List ℕ). make vs s.after) e1 ∙ ap (λ (k : Known). make t.values k) e2 where
  make : List ℕ → Known → TileRead
  make vs k = record { values = vs; after = k }

abbrev tile_read : List ℕ → Known → TileRead
tile_read values after = record { values = values; after = after }

painted_read : (f : Layout) (known : Known) (bg fg sub col : Bool) (width height back : ℕ) (fore : Option ℕ) (subs : List Sub) (one two three rest : List ℕ) → Tells f → width ≤ 16 → height ≤ 16
    → IsForeground f bg known.background (Some back) one → IsForeground f fg known.foreground fore two → AreListed f sub col subs three → AllByRecursion (IsSub f col fore width height) subs
    → on_read (read_given f bg known.background (one ++ (two ++ (three ++ rest)))) (λ back after. on_read (read_given f fg known.foreground after) (λ fore last. on_read (read_listed f sub col fore width height last) (λ subs rest. Ok (painted_tile width height col back fore subs, rest)))) ≡ Ok (painted_tile width height col (Some back) fore subs, rest)
painted_read f known bg fg sub col width height back fore subs one two three rest tells wide high is_one is_two is_three each =
    on_ok _ (λ back after. on_read (read_given f fg known.foreground after) (λ fore last. on_read (read_listed f sub col fore width height last) (λ subs rest. Ok (painted_tile width height col back fore subs, rest)))) (Some back) (two ++ (three ++ rest)) (given_complete f bg known.background (Some back) one tells is_one (two ++ (three ++ rest)))
    ∙ (on_ok _ (λ fore last. on_read (read_listed f sub col fore width height last) (λ subs rest. Ok (painted_tile width height col (Some back) fore subs, rest))) fore (three ++ rest) (given_complete f fg known.foreground fore two tells is_two (three ++ rest))
    ∙ on_ok _ (λ subs rest. Ok (painted_tile width height col (Some back) fore subs, rest)) subs rest (listed_complete f sub col fore width height subs three tells wide high each is_three rest))

painted_complete : (f : Layout) (known : Known) (width height : ℕ) (values prefix : List ℕ) (after : Known) → Tells f → 1 ≤ width → width ≤ 16 → height ≤ 16 → length values ≡ height * width
    → IsPainted f known (record { width = width; values = values }) prefix after → Takes (read_tile f known width height) prefix (tile_read values after)
unfolding read_tile read_painted
painted_complete f known width height values prefix after tells some wide high count is rest =
    let bg = is.parts.background in
    let fg = is.parts.foreground in
    let sub = is.parts.subrects in
    let col = is.parts.coloured in
    let bits = bits_of_sum is.mask bg fg sub col is.is_mask.mask_is in
    let allowed : Allowed bg fg sub col (is_some known.background) (is_some known.foreground) =
    record {
      not_both = is.is_mask.not_both;
      only_with = is.is_mask.only_with;
      back = back_known f bg known.background is.back is.back_bytes is.is_back;
      fore = λ a b. fore_known f fg known.foreground is.fore is.fore_bytes is.is_fore (is.needs_fore a b);
    } in
    let passes = mask_passes known is.mask bg fg sub col bits allowed in
    let rows : length values / width ≡ height = ap (λ n. n / width) count ∙ rows_are width height some in
    let each = subst (λ (n : ℕ). AllByRecursion (IsSub f col is.fore width n) is.subs) rows is.each in
    let body = is.back_bytes ++ (is.fore_bytes ++ (is.sub_bytes ++ rest)) in
    let spelled : prefix ++ rest ≡ is.mask ∷ body = ap (λ t. t ++ rest) is.spelled ∙ ap (λ t. is.mask ∷ t) (pieces is.back_bytes is.fore_bytes is.sub_bytes rest) in
    let made = painted_read f known bg fg sub col width height is.back is.fore is.subs is.back_bytes is.fore_bytes is.sub_bytes rest tells wide high (back_complete f bg known.background is.back is.back_bytes is.is_back) is.is_fore is.listed each in
    let shown : with_subs width (height * width) is.back is.subs ≡ values = sym (is.shown ∙ ap (λ (n : ℕ). with_subs width n is.back is.subs) count) in
    let same : painted_tile width height col (Some is.back) is.fore is.subs ≡ tile_read values after = same_read (painted_tile width height col (Some is.back) is.fore is.subs) (tile_read values after) shown (sym is.after_is) in
    let next = λ (mask : ℕ) (rest : List ℕ). cond (has_bit mask 1) (read_raw f width height rest) (read_painted f known mask width height rest) in
    let whole : next is.mask body ≡ Ok (tile_read values after, rest) = rw (bits.raw, bits.bg_is, bits.fg_is, bits.sub_is, bits.col_is) (made ∙ ap (λ (t : TileRead). Ok (t, rest)) same) in
    rw spelled (on_ok _ next is.mask body (byte_passes (is_mask known) is.mask body passes) ∙ whole)
  where
    pieces : (a b c d : List ℕ) → (a ++ (b ++ c)) ++ d ≡ a ++ (b ++ (c ++ d))
    pieces a b c d = rw (append_assoc, append_assoc) refl

raw_complete : (f : Layout) (known : Known) (width height : ℕ) (values prefix : List ℕ) (after : Known) → Tells f → length values ≡ height * width
    → IsRaw f (record { width = width; values = values }) prefix after → Takes (read_tile f known width height) prefix (tile_read values after)
unfolding read_tile read_raw
raw_complete f known width height values prefix after tells count is rest =
    let odd : has_bit is.mask 1 ≡ true = ap (λ n. eqb n 1) (one_bit is.mask is.bit) in
    let passes = raw_passes known is.mask odd in
    let body = flat_map (pixel_bytes f) values ++ rest in
    let pixels : read_pixels f [] (height * width) body ≡ Ok (values, rest) = rw (← count) (pixels_complete f [] values tells is.each rest) in
    let next = λ (mask : ℕ) (rest : List ℕ). cond (has_bit mask 1) (read_raw f width height rest) (read_painted f known mask width height rest) in
    let same : tile_read values nothing_known ≡ tile_read values after = ap (tile_read values) (sym is.after_is) in
    let whole : next is.mask body ≡ Ok (tile_read values after, rest) = rw odd (on_ok _ (λ values rest. Ok (tile_read values nothing_known, rest)) values rest pixels ∙ ap (λ (t : TileRead). Ok (t, rest)) same) in
    rw is.spelled (on_ok _ next is.mask body (byte_passes (is_mask known) is.mask body passes) ∙ whole)
  where
    one_bit : (mask : ℕ) → mask % 2 ≡ 1 → mask / 1 % 2 ≡ 1
    one_bit mask e = omega arith

pub tile_complete : (f : Layout) (known : Known) (width height : ℕ) (values prefix : List ℕ) (after : Known) → Tells f → 1 ≤ width → width ≤ 16 → height ≤ 16 → length values ≡ height * width
    → MeansTile f known (record { width = width; values = values }) prefix after → Takes (read_tile f known width height) prefix (record { values = values; after = after })
tile_complete f known width height values prefix after tells some wide high count means =
    elim means [
      | inl raw ↦ raw_complete f known width height values prefix after tells count raw
      | inr with_subs ↦ painted_complete f known width height values prefix after tells some wide high count with_subs
    ]
