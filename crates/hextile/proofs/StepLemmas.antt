-- Steps of loops that read, and of one that paints.
use Rattle.std.proofs.Common.{◌≡◌, ℕ, zero, suc, ◌+◌, ◌-◌, ◌*◌, ◌/◌, ◌%◌, ◌<◌, ◌≤◌, Bool, true, false, cond, Option, Some, None, List, [], ◌∷◌, ◌++◌, length, take, drop, replicate, set, get_or, Ok, Err, refl, sym, ap, subst, ◌∙◌, inl, inr, arith}
use Rattle.std.specs.Prelude.{unwrap_or}
use Rattle.std.specs.List.{AllByRecursion, All}
use Rattle.std.proofs.Math.Nat.{mul-le-mul, mul-le-mul_right}
use Rattle.std.proofs.lemmas.Bool.{cases_Bool, and_parts, leb-true, ltb-true}
use Rattle.std.proofs.lemmas.List.{take_more_set, take_at, length-take-le, ext_get_or, length-replicate, get_or-replicate}
use Rattle.std.proofs.lemmas.List.Elements.{All-from_recursion}
use Rattle.std.proofs.lemmas.List.FromFn.{get_or-map-range_with_len, length-map-range_with_len}
use Rattle.std.proofs.lemmas.Nat.{div-add-mod', div-mul-add}
use Rattle.pixel_format.specs.Formats.{Layout}
use Rattle.hextile.specs.declared.sub.Sub.{Sub}
use Rattle.hextile.specs.declared.known.Known.{Known}
use Rattle.hextile.specs.Painting.{sub_has, value_over, with_subs}
use Rattle.hextile.specs.Encoding.{cleared, overwritten}
use Rattle.hextile.specs.Rows.{AreWithin, IsInTile, IsTile}
use Rattle.hextile.specs.Reading.{Read, on_read, read_byte, read_pixel, read_given, read_pixels, is_place, is_extent, sub_from, read_sub, read_subs, read_listed, has_bit, painted_tile, read_painted}
use Rattle.hextile.proofs.RunLemmas.{length-overwritten}
use Rattle.hextile.proofs.SubLemmas.{cleared_point, has_in, length-cleared, overwritten_in}
use Rattle.hextile.proofs.ReaderLemmas.{on_ok, on_err, ok_same, byte_taken}
use Rattle.hextile.proofs.SoundLemmas.{both_read}

-- ---- pixels

suc_left : (count i : ℕ) → i < count → count - i ≡ suc (count - (i + 1))
suc_left count i lt = omega arith

pub pixels_step : (f : Layout) (points grown : List ℕ) (i count v : ℕ) (rest after : List ℕ) (whole : Read (List ℕ)) → i < count → i < length points → read_pixel f rest ≡ Ok (v, after) → grown ≡ set points i v
    → read_pixels f (take i points) (count - i) rest ≡ whole → read_pixels f (take (i + 1) grown) (count - (i + 1)) after ≡ whole
unfolding read_pixels
pixels_step f points grown i count v rest after whole lt room read put told =
    let more = rw (suc_left count i lt) at told in
    let next : read_pixels f (take i points ++ (v ∷ [])) (count - (i + 1)) after ≡ whole = sym (on_ok (read_pixel f rest) (λ value rest. read_pixels f (take i points ++ (value ∷ [])) (count - (i + 1)) rest) v after read) ∙ more in
    rw (put, take_more_set points i v room) next

pub pixels_stop : (f : Layout) (points : List ℕ) (i count left : ℕ) (rest : List ℕ) (whole : Read (List ℕ)) → i < count → read_pixel f rest ≡ Err left
    → read_pixels f (take i points) (count - i) rest ≡ whole → whole ≡ Err left
unfolding read_pixels
pixels_stop f points i count left rest whole lt read told =
    let more = rw (suc_left count i lt) at told in
    sym more ∙ on_err (read_pixel f rest) (λ value rest. read_pixels f (take i points ++ (value ∷ [])) (count - (i + 1)) rest) left read

pub pixels_end : (f : Layout) (found : List ℕ) (left : ℕ) (rest : List ℕ) (whole : Read (List ℕ)) → left ≡ 0 → read_pixels f found left rest ≡ whole → whole ≡ Ok (found, rest)
unfolding read_pixels
pixels_end f found left rest whole none told = sym (rw none at told)

-- ---- subrectangles

pub subs_step : (f : Layout) (coloured : Bool) (fore : Option ℕ) (width height : ℕ) (subs grown : List Sub) (i count : ℕ) (s : Sub) (rest after : List ℕ) (whole : Read (List Sub)) → i < count → i < length subs
    → read_sub f coloured fore width height rest ≡ Ok (s, after) → grown ≡ set subs i s
    → read_subs f coloured fore width height (take i subs) (count - i) rest ≡ whole → read_subs f coloured fore width height (take (i + 1) grown) (count - (i + 1)) after ≡ whole
unfolding read_subs
subs_step f coloured fore width height subs grown i count s rest after whole lt room read put told =
    let more = rw (suc_left count i lt) at told in
    let next : read_subs f coloured fore width height (take i subs ++ (s ∷ [])) (count - (i + 1)) after ≡ whole = sym (on_ok (read_sub f coloured fore width height rest) (λ value rest. read_subs f coloured fore width height (take i subs ++ (value ∷ [])) (count - (i + 1)) rest) s after read) ∙ more in
    rw (put, take_more_set subs i s room) next

pub subs_stop : (f : Layout) (coloured : Bool) (fore : Option ℕ) (width height : ℕ) (subs : List Sub) (i count left : ℕ) (rest : List ℕ) (whole : Read (List Sub)) → i < count → read_sub f coloured fore width height rest ≡ Err left
    → read_subs f coloured fore width height (take i subs) (count - i) rest ≡ whole → whole ≡ Err left
unfolding read_subs
subs_stop f coloured fore width height subs i count left rest whole lt read told =
    let more = rw (suc_left count i lt) at told in
    sym more ∙ on_err (read_sub f coloured fore width height rest) (λ value rest. read_subs f coloured fore width height (take i subs ++ (value ∷ [])) (count - (i + 1)) rest) left read

pub subs_end : (f : Layout) (coloured : Bool) (fore : Option ℕ) (width height : ℕ) (found : List Sub) (left : ℕ) (rest : List ℕ) (whole : Read (List Sub)) → left ≡ 0 → read_subs f coloured fore width height found left rest ≡ whole → whole ≡ Ok (found, rest)
unfolding read_subs
subs_end f coloured fore width height found left rest whole none told = sym (rw none at told)

-- ---- subrectangles that were read lie in their tile

fit_made : (value : Option ℕ) (width height place size : ℕ) → is_extent width height place size ≡ true → IsInTile width height (sub_from value place size)
fit_made value width height place size e =
    let parts = and_parts _ _ e in
    record { some_width = omega arith; some_height = omega arith; across = leb-true _ _ parts.0; down = leb-true _ _ parts.1 }

sub_fits : (f : Layout) (coloured : Bool) (fore : Option ℕ) (width height : ℕ) (bytes : List ℕ) (s : Sub) (rest : List ℕ) → read_sub f coloured fore width height bytes ≡ Ok (s, rest) → IsInTile width height s
unfolding read_sub
sub_fits f coloured fore width height bytes s rest e =
    let b1 = both_read (read_given f coloured fore bytes) (λ value after. on_read (read_byte (is_place width height) after) (λ place last. on_read (read_byte (is_extent width height place) last) (λ size rest. Ok (sub_from value place size, rest)))) s rest e in
    let b2 = both_read (read_byte (is_place width height) b1.middle) (λ place last. on_read (read_byte (is_extent width height place) last) (λ size rest. Ok (sub_from b1.value place size, rest))) s rest b1.two in
    let b3 = both_read (read_byte (is_extent width height b2.value) b2.middle) (λ size rest. Ok (sub_from b1.value b2.value size, rest)) s rest b2.two in
    let taken = byte_taken (is_extent width height b2.value) b2.middle b3.value b3.middle b3.one in
    subst (IsInTile width height) (ok_same b3.two).0 (fit_made b1.value width height b2.value b3.value taken.1)

all_and : (width height : ℕ) (found : List Sub) (s : Sub) → AllByRecursion (IsInTile width height) found → IsInTile width height s → AllByRecursion (IsInTile width height) (found ++ (s ∷ []))
all_and width height [] s each one = (one, tt)
all_and width height (t ∷ found) s each one = (each.0, all_and width height found s each.1 one)

subs_fit : (f : Layout) (coloured : Bool) (fore : Option ℕ) (width height : ℕ) (found : List Sub) (left : ℕ) (bytes : List ℕ) (all : List Sub) (rest : List ℕ) → AllByRecursion (IsInTile width height) found
    → read_subs f coloured fore width height found left bytes ≡ Ok (all, rest) → AllByRecursion (IsInTile width height) all
unfolding read_subs
subs_fit f coloured fore width height found zero bytes all rest each e = subst (AllByRecursion (IsInTile width height)) (ok_same e).0 each
subs_fit f coloured fore width height found (suc left) bytes all rest each e =
    let b = both_read (read_sub f coloured fore width height bytes) (λ s rest. read_subs f coloured fore width height (found ++ (s ∷ [])) left rest) all rest e in
    subs_fit f coloured fore width height (found ++ (b.value ∷ [])) left b.middle all rest (all_and width height found b.value each (sub_fits f coloured fore width height bytes b.value b.middle b.one)) b.two

pub listed_fit : (f : Layout) (listed coloured : Bool) (fore : Option ℕ) (width height : ℕ) (bytes : List ℕ) (subs : List Sub) (rest : List ℕ) → read_listed f listed coloured fore width height bytes ≡ Ok (subs, rest) → All (IsInTile width height) subs
listed_fit f true coloured fore width height bytes subs rest e =
    let b = both_read (read_byte (λ _. true) bytes) (λ count rest. read_subs f coloured fore width height [] count rest) subs rest e in
    All-from_recursion (IsInTile width height) subs (subs_fit f coloured fore width height [] b.value b.middle subs rest tt b.two)
listed_fit f false coloured fore width height bytes subs rest e = All-from_recursion (IsInTile width height) subs (subst (AllByRecursion (IsInTile width height)) (ok_same e).0 tt)

-- ---- painting

pub rows_within : (w width h x : ℕ) (y rows : ℕ) → x + width ≤ w → y + rows ≤ h → AreWithin w width (h * w) (y * w + x) rows
unfolding AreWithin
rows_within w width h x y zero across down = tt
rows_within w width h x y (suc rows) across down =
    let most : (y + 1) * w ≤ h * w = mul-le-mul_right w (omega arith) in
    let next : (y + 1) * w + x ≡ y * w + x + w = omega arith in
    (omega (arith, most), rw next at (rows_within w width h x (y + 1) rows across (omega arith)))

-- a point of the rows has the value
cleared_in : (w value width : ℕ) (rows at : ℕ) (points : List ℕ) (j i : ℕ) → AreWithin w width (length points) at rows → j < rows → i < width → get_or (cleared w value at width rows points) (at + j * w + i) 0 ≡ value
unfolding cleared AreWithin
cleared_in w value width zero at points j i within lt in_row = absurd (omega arith)
cleared_in w value width (suc rows) at points zero i within lt in_row =
    let e : at + 0 * w + i ≡ at + i = omega arith in
    let first = overwritten_in value at width i points within.0 in_row in
    rw e (elim (cleared_point w value width rows (at + w) (overwritten value at width points) (at + i) (rw (length-overwritten value at width points within.0) within.1)) [
      | inl here ↦ here.1
      | inr same ↦ same ∙ first
    ])
cleared_in w value width (suc rows) at points (suc j) i within lt in_row =
    let e : at + suc j * w + i ≡ at + w + j * w + i = omega arith in
    rw e (cleared_in w value width rows (at + w) (overwritten value at width points) j i (rw (length-overwritten value at width points within.0) within.1) (omega arith) in_row)

-- a point that the subrectangle has
has_value : (w k at : ℕ) (points : List ℕ) (s : Sub) → at ≡ s.y * w + s.x → AreWithin w s.width (length points) at s.height → sub_has s (k % w) (k / w) ≡ true → get_or (cleared w s.value at s.width s.height points) k 0 ≡ s.value
has_value w k at points s place within here =
    let parts = and_parts _ _ here in
    let across = and_parts _ _ parts.0 in
    let down = and_parts _ _ parts.1 in
    let left : s.x ≤ k % w = leb-true _ _ across.0 in
    let right : k % w < s.x + s.width = ltb-true _ _ across.1 in
    let top : s.y ≤ k / w = leb-true _ _ down.0 in
    let bottom : k / w < s.y + s.height = ltb-true _ _ down.1 in
    let row : s.y + (k / w - s.y) ≡ k / w = omega arith in
    let column : s.x + (k % w - s.x) ≡ k % w = omega arith in
    let moved : at + (k / w - s.y) * w + (k % w - s.x) ≡ (s.y + (k / w - s.y)) * w + (s.x + (k % w - s.x)) = omega (arith, place) in
    let e : at + (k / w - s.y) * w + (k % w - s.x) ≡ k = moved ∙ rw (row, column) (div-add-mod' k w) in
    rw e at (cleared_in w s.value s.width s.height at points (k / w - s.y) (k % w - s.x) within (omega arith) (omega arith))

-- a point after one subrectangle more
cleared_is : (w k at : ℕ) (points : List ℕ) (s : Sub) → s.x + s.width ≤ w → at ≡ s.y * w + s.x → AreWithin w s.width (length points) at s.height
    → get_or (cleared w s.value at s.width s.height points) k 0 ≡ cond (sub_has s (k % w) (k / w)) s.value (get_or points k 0)
cleared_is w k at points s across place within =
    elim (cases_Bool (sub_has s (k % w) (k / w))) [
      | inl here ↦ rw here (has_value w k at points s place within here)
      | inr off ↦ rw off (elim (cleared_point w s.value s.width s.height at points k within) [ inl in_ ↦ absurd (let f = sym (has_in w k at s across place in_.0) ∙ off in cc) | inr same ↦ same ])
    ]

painted_over_more : (u v before : ℕ) (ss : List Sub) (s : Sub) → value_over u v (ss ++ (s ∷ [])) before ≡ cond (sub_has s u v) s.value (value_over u v ss before)
painted_over_more u v before [] s = refl
painted_over_more u v before (t ∷ ss) s = painted_over_more u v (cond (sub_has t u v) t.value before) ss s

pub painted_step : (w n back at : ℕ) (points now : List ℕ) (ss : List Sub) (s : Sub) → s.x + s.width ≤ w → at ≡ s.y * w + s.x → AreWithin w s.width (length points) at s.height → length points ≡ n → now ≡ cleared w s.value at s.width s.height points
    → points ≡ with_subs w n back ss → now ≡ with_subs w n back (ss ++ (s ∷ []))
painted_step w n back at points now ss s across place within long wiped told =
    let long_now : length now ≡ n = ap length wiped ∙ (length-cleared w s.value s.width s.height at points within ∙ long) in
    ext_get_or 0 now (with_subs w n back (ss ++ (s ∷ []))) (long_now ∙ sym (length-map-range_with_len (λ i. value_over (i % w) (i / w) (ss ++ (s ∷ [])) back) 0 n)) (λ k lt.
    let k_in : k < n = omega (arith, lt, long_now) in
    ap (λ (ps : List ℕ). get_or ps k 0) wiped ∙ (cleared_is w k at points s across place within
    ∙ (ap (λ (c : ℕ). cond (sub_has s (k % w) (k / w)) s.value c) (ap (λ (ps : List ℕ). get_or ps k 0) told ∙ get_or-map-range_with_len (λ i. value_over (i % w) (i / w) ss back) 0 n k k 0 k_in (omega arith))
    ∙ (sym (painted_over_more (k % w) (k / w) back ss s)
    ∙ sym (get_or-map-range_with_len (λ i. value_over (i % w) (i / w) (ss ++ (s ∷ [])) back) 0 n k k 0 k_in (omega arith))))))

pub painted_start : (w n back : ℕ) (points : List ℕ) → points ≡ replicate n back → points ≡ with_subs w n back []
painted_start w n back points filled =
    ext_get_or 0 points (with_subs w n back []) (ap length filled ∙ (length-replicate {A = ℕ} n back ∙ sym (length-map-range_with_len (λ i. value_over (i % w) (i / w) [] back) 0 n))) (λ k lt.
    let k_in : k < n = omega (arith, lt, ap length filled, length-replicate {A = ℕ} n back) in
    ap (λ (ps : List ℕ). get_or ps k 0) filled ∙ (get_or-replicate n k back 0 k_in ∙ sym (get_or-map-range_with_len (λ i. value_over (i % w) (i / w) [] back) 0 n k k 0 k_in (omega arith))))

-- where a subrectangle of a tile is painted
pub tile_rows : (w n : ℕ) (t : IsTile w n) → n / w ≡ t.height
tile_rows w n t = let e : n ≡ t.height * w + 0 = omega (arith, t.count_is) in ap (λ m. m / w) e ∙ div-mul-add t.height w 0 t.some_width

pub within_at : (w n size at across down : ℕ) (s : Sub) (t : IsTile w n) → IsInTile w (n / w) s → size ≡ n → across ≡ s.width → down ≡ s.height → at ≡ s.y * w + s.x → AreWithin w across size at down
within_at w n size at across down s t is e1 e2 e3 e4 = rw (e1, e2, e3, e4, t.count_is) (rows_within w s.width t.height s.x s.y s.height is.across (rw (tile_rows w n t) at is.down))

pub sides_at : (w n at down : ℕ) (s : Sub) (t : IsTile w n) → IsInTile w (n / w) s → down ≡ s.height → at ≡ s.y * w + s.x → (w ≤ 16) × (down ≤ 16) × (at ≤ 256)
sides_at w n at down s t is e1 e2 =
    let low : s.y + s.height ≤ t.height = rw (tile_rows w n t) at is.down in
    let y : s.y ≤ 15 = omega (arith, low, t.most_height, is.some_height) in
    let p : s.y * w ≤ 15 * 16 = mul-le-mul y t.most_width in
    (t.most_width, omega (arith, low, t.most_height, e1), omega (arith, p, is.across, is.some_width, t.most_width, e2))

-- ---- a painted tile that was read

pub painted_reads : (f : Layout) (known : Known) (mask width height : ℕ) (bytes : List ℕ) (back : Option ℕ) (after : List ℕ) (fore : Option ℕ) (last : List ℕ) (subs : List Sub) (rest made points : List ℕ) (background : ℕ) (kept : Option ℕ)
    → read_given f (has_bit mask 2) known.background bytes ≡ Ok (back, after) → read_given f (has_bit mask 4) known.foreground after ≡ Ok (fore, last) → read_listed f (has_bit mask 8) (has_bit mask 16) fore width height last ≡ Ok (subs, rest)
    → height * width ≤ length points → made ≡ with_subs width (length (take (height * width) points)) background subs → background ≡ unwrap_or back 0 → kept ≡ cond (has_bit mask 16) None fore
    → read_painted f known mask width height bytes ≡ Ok (record { values = take (height * width) (made ++ drop (height * width) points); after = record { background = Some background; foreground = kept } }, rest)
unfolding read_painted
painted_reads f known mask width height bytes back after fore last subs rest made points background kept one two three room paint ground_is kept_is =
    let long : length (take (height * width) points) ≡ height * width = length-take-le (height * width) points room in
    let made_is : made ≡ with_subs width (height * width) background subs = paint ∙ ap (λ (n : ℕ). with_subs width n background subs) long in
    let made_long : length made ≡ height * width = ap length made_is ∙ length-map-range_with_len (λ i. value_over (i % width) (i / width) subs background) 0 (height * width) in
    let prefix : take (height * width) (made ++ drop (height * width) points) ≡ made = take_at made (drop (height * width) points) (height * width) made_long in
    on_ok (read_given f (has_bit mask 2) known.background bytes) (λ back after. on_read (read_given f (has_bit mask 4) known.foreground after) (λ fore last. on_read (read_listed f (has_bit mask 8) (has_bit mask 16) fore width height last) (λ subs rest. Ok (painted_tile width height (has_bit mask 16) back fore subs, rest)))) back after one
    ∙ (on_ok (read_given f (has_bit mask 4) known.foreground after) (λ fore last. on_read (read_listed f (has_bit mask 8) (has_bit mask 16) fore width height last) (λ subs rest. Ok (painted_tile width height (has_bit mask 16) back fore subs, rest))) fore last two
    ∙ (on_ok (read_listed f (has_bit mask 8) (has_bit mask 16) fore width height last) (λ subs rest. Ok (painted_tile width height (has_bit mask 16) back fore subs, rest)) subs rest three
    ∙ rw (prefix, made_is, ground_is, kept_is) refl))

pub few_points : (width height : ℕ) → width ≤ 16 → height ≤ 16 → height * width ≤ 256
few_points width height wide high = let p : height * width ≤ 16 * 16 = mul-le-mul high wide in omega (arith, p)

pub rows_of : (width height : ℕ) (points : List ℕ) → 1 ≤ width → height * width ≤ length points → length (take (height * width) points) / width ≡ height
rows_of width height points wide room =
    let e : length (take (height * width) points) ≡ height * width + 0 = omega (arith, length-take-le (height * width) points room) in
    ap (λ n. n / width) e ∙ div-mul-add height width 0 wide

pub ruleset reads = (pixels_step, pixels_stop, pixels_end, subs_step, subs_stop, subs_end)
