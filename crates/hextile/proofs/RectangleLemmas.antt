-- Rectangles as they are read, and where bytes are bad.
use Rattle.std.proofs.Common.{◌≡◌, ℕ, zero, suc, ◌+◌, ◌-◌, ◌*◌, ◌/◌, ◌%◌, ◌<◌, ◌≤◌, List, [], ◌∷◌, ◌++◌, length, get_or, map, take, Ok, Err, refl, sym, ap, subst, ◌∙◌, arith}
use Rattle.std.specs.List.{range_with_len}
use Rattle.std.proofs.Math.Seq.{take-append_seam, take-append-add}
use Rattle.std.proofs.lemmas.List.{append_assoc, append-nil, length-append}
use Rattle.std.proofs.lemmas.List.FromFn.{length-map-range_with_len}
use Rattle.pixel_format.specs.Formats.{Layout}
use Rattle.hextile.specs.declared.known.Known.{Known}
use Rattle.hextile.specs.Tiles.{TileValues, tiles_along, tile_side, tile_at, tiles_of, nothing_known}
use Rattle.hextile.specs.Meaning.{MeansTile, MeansTiles, DecodesTo}
use Rattle.hextile.specs.Joining.{no_tile, value_by_tiles, joined, AreTiles, BeginsData, IsBadAt}
use Rattle.hextile.specs.Reading.{Read, read_tile, read_tiles, read_rectangle}
use Rattle.hextile.proofs.TilingLemmas.{side_most}
use Rattle.hextile.proofs.JoinLemmas.{tiles_of-joined}
use Rattle.hextile.proofs.ReaderLemmas.{AreBytes, bytes_both, bytes_parts, Takes, ok_same, both_take}
use Rattle.hextile.proofs.WordLemmas.{sides_some, has_rectangle}
use Rattle.hextile.proofs.SoundLemmas.{Tells, both_read}
use Rattle.hextile.proofs.TileLemmas.{tile_sound, tile_complete}

abbrev result_of : List TileValues × List ℕ → Read (List TileValues)
result_of x = Ok x

abbrev stop_of : ℕ → Read (List TileValues)
stop_of n = Err n

abbrev width_at : ℕ → ℕ → ℕ
width_at w number = tile_side w (number % tiles_along w)

abbrev height_at : ℕ → ℕ → ℕ → ℕ
height_at w h number = tile_side h (number / tiles_along w)

-- the tiles have the sides of those from one with a number on
abbrev pub AreShaped : ℕ → ℕ → ℕ → List TileValues → Type 0
AreShaped w h number [] = Unit {0}
AreShaped w h number (t ∷ ts) = (t.width ≡ width_at w number) × (length t.values ≡ height_at w h number * width_at w number) × AreShaped w h (number + 1) ts

pub record TilesRead (f : Layout) (w h : ℕ) (known : Known) (found all : List TileValues) (left : ℕ) (bytes rest : List ℕ) : Type 0 where
  pub more : List TileValues
  pub all_is : all ≡ found ++ more
  pub count : length more ≡ left
  pub shaped : AreShaped w h (length found) more
  pub prefix : List ℕ
  pub means : MeansTiles f known more prefix
  pub parts : bytes ≡ prefix ++ rest
  pub are : AreBytes rest

abbrev tile_with : ℕ → List ℕ → TileValues
tile_with width values = record { width = width; values = values }

pub tiles_sound : (f : Layout) (w h : ℕ) (known : Known) (found : List TileValues) (left : ℕ) (bytes : List ℕ) (all : List TileValues) (rest : List ℕ) → Tells f → AreBytes bytes → length found + left ≡ tiles_along h * tiles_along w
    → read_tiles f w h known found left bytes ≡ Ok (all, rest) → TilesRead f w h known found all left bytes rest
unfolding read_tiles
tiles_sound f w h known found zero bytes all rest tells are count e =
    let same = ok_same e in
    record { more = []; all_is = sym same.0 ∙ sym (append-nil found); count = refl; shaped = tt; prefix = []; means = refl; parts = same.1; are = subst AreBytes same.1 are }
tiles_sound f w h known found (suc left) bytes all rest tells are count e =
    let number = length found in
    let width = width_at w number in
    let height = height_at w h number in
    let some = sides_some w h number (omega arith) in
    let b = both_read (read_tile f known width height bytes) (λ read rest. read_tiles f w h read.after (found ++ ((tile_with width read.values) ∷ [])) left rest) all rest e in
    let t = tile_with width b.value.values in
    let p = tile_sound f known width height bytes b.value b.middle tells are some.0 b.one in
    let long : length (found ++ (t ∷ [])) ≡ number + 1 = length-append found (t ∷ []) in
    let r = tiles_sound f w h b.value.after (found ++ (t ∷ [])) left b.middle all rest tells p.are (omega (arith, long)) b.two in
    record {
      more = t ∷ r.more;
      all_is = r.all_is ∙ append_assoc found (t ∷ []) r.more;
      count = ap suc r.count;
      shaped = (refl, p.count, subst (λ (n : ℕ). AreShaped w h n r.more) long r.shaped);
      prefix = p.prefix ++ r.prefix;
      means = (p.prefix, r.prefix, b.value.after, refl, p.means, r.means);
      parts = p.parts ∙ (ap (λ t. p.prefix ++ t) r.parts ∙ sym (append_assoc p.prefix r.prefix rest));
      are = r.are;
    }

pub tiles_complete : (f : Layout) (w h : ℕ) (known : Known) (found more : List TileValues) (prefix : List ℕ) → Tells f → length found + length more ≡ tiles_along h * tiles_along w → AreShaped w h (length found) more
    → MeansTiles f known more prefix → Takes (read_tiles f w h known found (length more)) prefix (found ++ more)
unfolding read_tiles
tiles_complete f w h known found [] prefix tells count shaped means rest = rw (means, append-nil found) refl
tiles_complete f w h known found (t ∷ more) prefix tells count shaped means rest =
    let number = length found in
    let width = width_at w number in
    let height = height_at w h number in
    let some = sides_some w h number (omega arith) in
    let one = means.0 in
    let later = means.1 in
    let after = means.2 in
    let same : t ≡ tile_with width t.values = ap (λ (n : ℕ). tile_with n t.values) shaped.0 in
    let is : MeansTile f known (tile_with width t.values) one after = subst (λ (s : TileValues). MeansTile f known s one after) same means.4 in
    let first = tile_complete f known width height t.values one after tells some.0 (side_most w (number % tiles_along w)) (side_most h (number / tiles_along w)) shaped.1 is in
    let long : length (found ++ ((tile_with width t.values) ∷ [])) ≡ number + 1 = length-append found ((tile_with width t.values) ∷ []) in
    let next = tiles_complete f w h after (found ++ ((tile_with width t.values) ∷ [])) more later tells (omega (arith, long)) (subst (λ (n : ℕ). AreShaped w h n more) (sym long) shaped.2) means.5 in
    let all = both_take (read_tile f known width height) (λ read rest. read_tiles f w h read.after (found ++ ((tile_with width read.values) ∷ [])) (length more) rest) (record { values = t.values; after = after }) one later ((found ++ ((tile_with width t.values) ∷ [])) ++ more) first next rest in
    let e : (found ++ ((tile_with width t.values) ∷ [])) ++ more ≡ found ++ (t ∷ more) = append_assoc found ((tile_with width t.values) ∷ []) more ∙ ap (λ (s : TileValues). found ++ (s ∷ more)) (sym same) in
    rw means.3 (all ∙ ap (λ (ts : List TileValues). Ok (ts, rest)) e)

-- ---- a whole rectangle

tile_shaped : (w h number : ℕ) (values : List ℕ) → ((tile_at w h values number).width ≡ width_at w number) × (length (tile_at w h values number).values ≡ height_at w h number * width_at w number)
unfolding tile_at
tile_shaped w h number values =
    let col = number % tiles_along w in
    let row = number / tiles_along w in
    (refl, length-map-range_with_len (λ i. get_or values ((row * 16 + i / tile_side w col) * w + (col * 16 + i % tile_side w col)) 0) 0 (tile_side h row * tile_side w col))

tiles_shaped : (w h number left : ℕ) (values : List ℕ) → AreShaped w h number (map (tile_at w h values) (range_with_len number left))
tiles_shaped w h number zero values = tt
tiles_shaped w h number (suc left) values = let t = tile_shaped w h number values in (t.0, t.1, tiles_shaped w h (number + 1) left values)

-- the tiles of which the shape is known by their places
shape_at : (w h number k m : ℕ) (tiles : List TileValues) → number + k ≡ m → AreShaped w h number tiles → k < length tiles → ((get_or tiles k no_tile).width ≡ width_at w m) × (length (get_or tiles k no_tile).values ≡ height_at w h m * width_at w m)
shape_at w h number k m [] e shaped lt = absurd (omega arith)
shape_at w h number zero m (t ∷ ts) e shaped lt = let same : number ≡ m = omega (arith, e) in (rw same at shaped.0, rw same at shaped.1)
shape_at w h number (suc k) m (t ∷ ts) e shaped lt = shape_at w h (number + 1) k m ts (omega (arith, e)) shaped.2 (omega arith)

are_tiles : (w h : ℕ) (tiles : List TileValues) → length tiles ≡ tiles_along h * tiles_along w → AreShaped w h 0 tiles → AreTiles w h tiles
are_tiles w h tiles count shaped = record {
  count = count;
  width = λ k lt. (shape_at w h 0 k k tiles (omega arith) shaped (omega (arith, lt, count))).0;
  points = λ k lt. (shape_at w h 0 k k tiles (omega arith) shaped (omega (arith, lt, count))).1;
}

pub rectangle_sound : (f : Layout) (w h : ℕ) (bytes : List ℕ) (tiles : List TileValues) (rest : List ℕ) → Tells f → AreBytes bytes → read_rectangle f w h bytes ≡ Ok (tiles, rest) → TilesRead f w h nothing_known [] tiles (tiles_along h * tiles_along w) bytes rest
unfolding read_rectangle
rectangle_sound f w h bytes tiles rest tells are e = tiles_sound f w h nothing_known [] (tiles_along h * tiles_along w) bytes tiles rest tells are (omega arith) e

pub rectangle_complete : (f : Layout) (w h : ℕ) (bytes values : List ℕ) → Tells f → DecodesTo f w h bytes values → Takes (read_rectangle f w h) bytes (tiles_of w h values)
unfolding read_rectangle
rectangle_complete f w h bytes values tells means rest =
    let all = tiles_along h * tiles_along w in
    let count : length (tiles_of w h values) ≡ all = length-map-range_with_len (tile_at w h values) 0 all in
    rw count at (tiles_complete f w h nothing_known [] (tiles_of w h values) bytes tells (omega (arith, count)) (tiles_shaped w h 0 all values) means.tiles rest)

-- what was read to the end is the meaning
pub decodes : (f : Layout) (w h : ℕ) (bytes values : List ℕ) → Tells f → AreBytes bytes → length values ≡ h * w → read_rectangle f w h bytes ≡ Ok (tiles_of w h values, []) → DecodesTo f w h bytes values
decodes f w h bytes values tells are count e =
    let r = rectangle_sound f w h bytes (tiles_of w h values) [] tells are e in
    let whole : bytes ≡ r.prefix = r.parts ∙ append-nil r.prefix in
    record { count_is = count; tiles = subst (λ (ts : List TileValues). MeansTiles f nothing_known ts bytes) (sym r.all_is) (subst (λ (bs : List ℕ). MeansTiles f nothing_known r.more bs) (sym whole) r.means) }

joined_long : (w h : ℕ) (tiles : List TileValues) → length (joined w h tiles) ≡ h * w
unfolding joined
joined_long w h tiles = length-map-range_with_len (λ i. value_by_tiles w tiles (i % w) (i / w)) 0 (h * w)

no_tiles : (xs ys : List TileValues) → length xs ≡ 0 → length ys ≡ 0 → ys ≡ xs
no_tiles [] [] one other = refl
no_tiles (x ∷ xs) ys one other = absurd (omega arith)
no_tiles [] (y ∷ ys) one other = absurd (omega arith)

joined_tiles : (w h : ℕ) (tiles : List TileValues) → length tiles ≡ tiles_along h * tiles_along w → AreShaped w h 0 tiles → tiles_of w h (joined w h tiles) ≡ tiles
joined_tiles zero h tiles count shaped =
    let none : tiles_along h * tiles_along 0 ≡ 0 = omega arith in
    no_tiles tiles (tiles_of 0 h (joined 0 h tiles)) (count ∙ none) (length-map-range_with_len (tile_at 0 h (joined 0 h tiles)) 0 (tiles_along h * tiles_along 0) ∙ none)
joined_tiles (suc w) h tiles count shaped = tiles_of-joined (suc w) h tiles (omega arith) (are_tiles (suc w) h tiles count shaped)

-- where bytes are read to the end they are data
reads_begin : (f : Layout) (w h : ℕ) (bytes : List ℕ) (tiles : List TileValues) → Tells f → AreBytes bytes → read_rectangle f w h bytes ≡ Ok (tiles, []) → (values : List ℕ) × DecodesTo f w h bytes values
reads_begin f w h bytes tiles tells are e =
    let r = rectangle_sound f w h bytes tiles [] tells are e in
    let count : length tiles ≡ tiles_along h * tiles_along w = ap length r.all_is ∙ r.count in
    let shaped : AreShaped w h 0 tiles = subst (AreShaped w h 0) (sym r.all_is) r.shaped in
    let same : tiles_of w h (joined w h tiles) ≡ tiles = joined_tiles w h tiles count shaped in
    (joined w h tiles, decodes f w h bytes (joined w h tiles) tells are (joined_long w h tiles) (e ∙ ap (λ (ts : List TileValues). Ok (ts, [])) (sym same)))

-- ---- bad bytes

-- the parts before and after the place
bad_from : (f : Layout) (w h : ℕ) (good bad : List ℕ) → ((values : List ℕ) → DecodesTo f w h (good ++ bad) values → ⊥) → BeginsData f w h good
    → ((b : ℕ) (tail rest values : List ℕ) → bad ≡ b ∷ tail → DecodesTo f w h (good ++ (b ∷ rest)) values → ⊥) → IsBadAt f w h (good ++ bad) (length good)
bad_from f w h good [] none begins longest =
    let long : length (good ++ []) ≡ length good = ap length (append-nil good) in
    record {
      none = none;
      within = omega (arith, long);
      begins = rw take-append_seam begins;
      longest = λ lt _. absurd (omega (arith, lt, long));
    }
bad_from f w h good (b ∷ tail) none begins longest =
    let next : take (length good + 1) (good ++ (b ∷ tail)) ≡ good ++ (b ∷ []) = take-append-add good (b ∷ tail) 1 in
    record {
      none = none;
      within = omega (arith, length-append good (b ∷ tail));
      begins = rw take-append_seam begins;
      longest = λ lt more. longest b tail more.0 more.1 refl (rw (next, append_assoc) at more.2);
    }

bad_at : (f : Layout) (w h : ℕ) (bytes good bad : List ℕ) (left : ℕ) → bytes ≡ good ++ bad → length bad ≡ left → IsBadAt f w h (good ++ bad) (length good) → IsBadAt f w h bytes (length bytes - left)
bad_at f w h bytes good bad left parts count is =
    let at : length good ≡ length bytes - left = omega (arith, ap length parts, length-append good bad, count) in
    subst (λ (bs : List ℕ). IsBadAt f w h bs (length bytes - left)) (sym parts) (subst (λ (n : ℕ). IsBadAt f w h (good ++ bad) n) at is)

-- reading stopped there
pub bad_stop : (f : Layout) (w h : ℕ) (bytes : List ℕ) (left : ℕ) → Tells f → AreBytes bytes → read_rectangle f w h bytes ≡ Err left → IsBadAt f w h bytes (length bytes - left)
bad_stop f w h bytes left tells are e =
    let s = (has_rectangle f w h).is_reader.stops bytes left e in
    let each = bytes_parts s.good s.bad (subst AreBytes s.parts are) in
    let done : read_rectangle f w h (s.good ++ s.more) ≡ Ok (s.value, []) = rw append-nil at (s.completed []) in
    let begun = reads_begin f w h (s.good ++ s.more) s.value tells (bytes_both s.good s.more each.0 s.more_bytes) done in
    bad_at f w h bytes s.good s.bad left s.parts s.count (bad_from f w h s.good s.bad (λ values means. not_both (sym (rw (append-nil, ← s.parts) at (rectangle_complete f w h (s.good ++ s.bad) values tells means [])) ∙ e))
    (s.more, begun.0, begun.1)
    (λ b tail rest values same means. s.wrong b tail same rest (tiles_of w h values) [] (rw append-nil at (rectangle_complete f w h (s.good ++ (b ∷ rest)) values tells means []))))
  where
    not_both : {x : List TileValues × List ℕ} {n : ℕ} → result_of x ≡ stop_of n → ⊥
    not_both e = cc

-- bytes are left after the last tile
pub bad_rest : (f : Layout) (w h : ℕ) (bytes : List ℕ) (tiles : List TileValues) (rest : List ℕ) → Tells f → AreBytes bytes → 1 ≤ length rest → read_rectangle f w h bytes ≡ Ok (tiles, rest) → IsBadAt f w h bytes (length bytes - length rest)
bad_rest f w h bytes tiles rest tells are some e =
    let t = (has_rectangle f w h).is_reader.takes bytes tiles rest e in
    let prefix = t.0 in
    let each = bytes_parts prefix rest (subst AreBytes t.1 are) in
    let done : read_rectangle f w h prefix ≡ Ok (tiles, []) = rw append-nil at (t.2 []) in
    let begun = reads_begin f w h prefix tiles tells each.0 done in
    bad_at f w h bytes prefix rest (length rest) t.1 refl (bad_from f w h prefix rest
    (λ values means. none rest some (ok_same (sym (t.2 rest) ∙ rw append-nil at (rectangle_complete f w h (prefix ++ rest) values tells means []))).1)
    ([], begun.0, rw append-nil begun.1)
    (λ b tail later values same means. none (b ∷ later) (omega arith) (ok_same (sym (t.2 (b ∷ later)) ∙ rw append-nil at (rectangle_complete f w h (prefix ++ (b ∷ later)) values tells means []))).1))
  where
    none : (xs : List ℕ) → 1 ≤ length xs → xs ≡ [] → ⊥
    none [] some e = absurd (omega arith)
    none (x ∷ xs) some e = cc

-- ---- how many bytes are left

pub stop_left : (f : Layout) (w h : ℕ) (bytes : List ℕ) (left : ℕ) → read_rectangle f w h bytes ≡ Err left → left ≤ length bytes
stop_left f w h bytes left e =
    let s = (has_rectangle f w h).is_reader.stops bytes left e in
    omega (arith, ap length s.parts, length-append s.good s.bad, s.count)

pub rest_left : (f : Layout) (w h : ℕ) (bytes : List ℕ) (tiles : List TileValues) (rest : List ℕ) → read_rectangle f w h bytes ≡ Ok (tiles, rest) → length rest ≤ length bytes
rest_left f w h bytes tiles rest e =
    let t = (has_rectangle f w h).is_reader.takes bytes tiles rest e in
    omega (arith, ap length t.1, length-append t.0 rest)

pub are_bytes : (bytes : List ℕ) → ((i : ℕ) → get_or bytes i 0 < 256) → AreBytes bytes
are_bytes [] each = tt
are_bytes (b ∷ bs) each = (each 0, are_bytes bs (λ i. each (suc i)))

pub empty_is : (xs : List ℕ) → length xs ≡ 0 → xs ≡ []
empty_is [] e = refl
empty_is (x ∷ xs) e = absurd (omega arith)
