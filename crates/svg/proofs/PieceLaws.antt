-- Texts of frame texts with other lines between them: what is read is the picture that is wanted.
use Rattle.std.proofs.Common.{◌≡◌, ℕ, zero, suc, ◌+◌, ◌-◌, ◌≤◌, false, ◌==◌, List, [], ◌∷◌, Option, Some, None, Ok, refl, sym, ap, ◌∙◌, arith, append_assoc}
use Rattle.std.specs.Prelude.{codes, slice_get, IfSome}
use Rattle.std.specs.List.{AllByRecursion, flat_map, last_or}
use Rattle.std.proofs.lemmas.Bool.Decides.{nat_tests}
use Rattle.frame.specs.Pictures.{Picture}
use Rattle.spelling.specs.Parts.{lines_of}
use Rattle.svg.specs.declared.draft.Draft.{Draft}
use Rattle.svg.specs.declared.fault.Reason.TheVariants.{Missing}
use Rattle.svg.specs.Pictures.{PartOfPicture}
use Rattle.svg.specs.Reading.{or_reason, start, with_picture, after_other, step_at, line_step, at_line, ended, picture_from, picture_in}
use Rattle.svg.specs.Pieces.{Piece, IsOtherLine, IsPiece, text_of_piece, pictures_of, picked}
use Rattle.svg.specs.Pieces.Piece.{a_line, a_picture}
use Rattle.svg.proofs.FrameTextLaws.{line_first, step_on, frame_read}

-- ---- pictures one after the other

-- after these pictures
abbrev after_all : Draft → List Picture → Draft
after_all d [] = d
after_all d (p ∷ ps) = after_all (with_picture d p) ps

last_kept : (ps : List Picture) (d : Draft) → d.wanted ≡ None → (after_all d ps).kept ≡ last_or d.kept ps
last_kept [] d last = refl
last_kept (p ∷ ps) d last =
    let next : Draft = with_picture d p in
    let kept : next.kept ≡ Some p = rw last refl in
    last_kept ps next (rw last refl) ∙ ap (λ (o : Option Picture). last_or o ps) kept

found_stays : (ps : List Picture) (d : Draft) → d.wanted ≡ Some 0 → (after_all d ps).kept ≡ d.kept
found_stays [] d found = refl
found_stays (p ∷ ps) d found =
    let next : Draft = with_picture d p in
    let kept : next.kept ≡ d.kept = rw found refl in
    found_stays ps next (rw found refl) ∙ kept

number_kept : (ps : List Picture) (d : Draft) (n : ℕ) → d.wanted ≡ Some (suc n) → d.kept ≡ None → (after_all d ps).kept ≡ slice_get ps n
number_kept [] d n wanted none = none
number_kept (p ∷ ps) d zero wanted none =
    let next : Draft = with_picture d p in
    let kept : next.kept ≡ Some p = rw wanted refl in
    found_stays ps next (rw wanted refl) ∙ kept
number_kept (p ∷ ps) d (suc n) wanted none =
    let next : Draft = with_picture d p in
    let other : (suc (suc n) == 1) ≡ false = grind (arith, nat_tests) in
    let less : suc (suc n) - 1 ≡ suc n = omega arith in
    let kept : next.kept ≡ None = rw (wanted, other) none in
    number_kept ps next n (rw (wanted, less) refl) kept

pick_kept : (wanted : Option ℕ) (ps : List Picture) → IfSome wanted (λ n. 1 ≤ n) → (after_all (start wanted) ps).kept ≡ picked wanted ps
pick_kept None ps some = last_kept ps (start None) refl
pick_kept (Some zero) ps some = absurd (omega arith)
pick_kept (Some (suc n)) ps some =
    let less : suc n - 1 ≡ n = omega arith in
    number_kept ps (start (Some (suc n))) n refl refl ∙ ap (slice_get ps) (sym less)

-- ---- pieces one after the other

other_read : (d : Draft) (line : List ℕ) → IsOtherLine line → d.part ≡ None → line_step d line ≡ Ok d
unfolding after_other
other_read d line is none = ap (λ (part : Option PartOfPicture). step_at part d line) none ∙ rw is.other refl

-- what the lines of pieces tell
abbrev Told : List Piece → Draft → ℕ → Type 0
Told pieces d n = (m : ℕ) × (picture_from n d (lines_of (flat_map text_of_piece pieces)) ≡ at_line m (or_reason Missing (after_all d (pictures_of pieces)).kept))

pieces_read : (pieces : List Piece) (d : Draft) (n : ℕ) → AllByRecursion IsPiece pieces → d.part ≡ None → Told pieces d n
pieces_read [] d n each none = (n, ap (λ (part : Option PartOfPicture). at_line n (ended part d.kept)) none)
pieces_read (a_line line ∷ pieces) d n each none =
    let rest : List ℕ = flat_map text_of_piece pieces in
    let more = pieces_read pieces d (n + 1) each.1 none in
    let is : IsOtherLine line = each.0 in (
      more.0,
      ap (λ (text : List ℕ). picture_from n d (lines_of text)) (append_assoc line (codes "\n") rest)
          ∙ ap (picture_from n d) (line_first line rest is.whole)
          ∙ step_on n d d line (lines_of rest) (other_read d line is none)
          ∙ more.1,
    )
pieces_read (a_picture p ∷ pieces) d n each none =
    let rest : List ℕ = flat_map text_of_piece pieces in
    let more = pieces_read pieces (with_picture d p) (n + (p.height + 1)) each.1 refl in
    (more.0, frame_read p d n rest each.0.0 each.0.1 none ∙ more.1)

pub pieces_told : (wanted : Option ℕ) (pieces : List Piece) → IfSome wanted (λ n. 1 ≤ n) → AllByRecursion IsPiece pieces → (line : ℕ) × (picture_in wanted (flat_map text_of_piece pieces) ≡ at_line line (or_reason Missing (picked wanted (pictures_of pieces))))
unfolding picture_in
pieces_told wanted pieces some each =
    let told = pieces_read pieces (start wanted) 1 each refl in
    (told.0, told.1 ∙ ap (λ (kept : Option Picture). at_line told.0 (or_reason Missing kept)) (pick_kept wanted (pictures_of pieces) some))
