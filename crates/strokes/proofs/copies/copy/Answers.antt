use Rattle.std.proofs.Common.{◌≡◌, true, ◌+ℤ◌, sym, ◌∙◌, w16, SFits, rules}
use Rattle.std.specs.Prelude.{is_some}
use Rattle.std.proofs.lemmas.Int.{to_z-of_z}
use Rattle.gfx_base.specs.declared.point.Point.{Point}
use Rattle.gfx_base.specs.Rects.{has, point_at}
use Rattle.paint_ops.specs.Operations.{seen_from}
use Rattle.scene.specs.Looks.{screen_with, looks_of}
use Rattle.strokes.specs.Strokes.{colour_of_copy}
use Rattle.strokes.specs.Parts.{LiesWithin, block_of}
use Rattle.strokes.proofs.CopyLemmas.{copy_points, seen_moved, copied_picture, copied_tiles}
use Rattle.strokes.proofs.VisibleLemmas.{ink_picture, ink_tiles, unseen_picture, unseen_tiles}
use Rattle.strokes.proofs.copies.copy.Goals as goal

pub returns-in_default-clause-picture : goal.returns-in_default-clause-picture
returns-in_default-clause-picture c =
    let a = c.args in
    let p = a.target.now.picture in
    let from = a.from.now.picture in
    let x : SFits w16 a.x = search rules in
    let y : SFits w16 a.y = search rules in
    let all : (q : Point) → is_some (colour_of_copy from a.x a.y q) ≡ has c.points_of_picture-rect.result q = λ q. simp to_z-of_z at (c.points_of_picture-rect.ensures.all q) in
    let inside : (q : Point) → is_some (colour_of_copy from a.x a.y q) ≡ true → has c.points_of_picture-rect.result q ≡ true = λ q h. sym (all q) ∙ h in
    let none = rw (c.width-width.ensures.value, c.height-height.ensures) at c.in_default.ensures.none in
    unseen_picture p.width p.height (looks_of a.assets.now (screen_with p.width p.height) a.stack.now) a.stack.now a.i c.points_of_picture-rect.result (colour_of_copy from a.x a.y) inside p c.width-width.ensures.shape none

pub returns-in_default-clause-tiles : goal.returns-in_default-clause-tiles
returns-in_default-clause-tiles c =
    let a = c.args in
    let p = a.target.now.picture in
    let from = a.from.now.picture in
    let x : SFits w16 a.x = search rules in
    let y : SFits w16 a.y = search rules in
    let all : (q : Point) → is_some (colour_of_copy from a.x a.y q) ≡ has c.points_of_picture-rect.result q = λ q. simp to_z-of_z at (c.points_of_picture-rect.ensures.all q) in
    let inside : (q : Point) → is_some (colour_of_copy from a.x a.y q) ≡ true → has c.points_of_picture-rect.result q ≡ true = λ q h. sym (all q) ∙ h in
    let none = rw (c.width-width.ensures.value, c.height-height.ensures) at c.in_default.ensures.none in
    unseen_tiles p.width p.height (looks_of a.assets.now (screen_with p.width p.height) a.stack.now) a.stack.now a.i c.points_of_picture-rect.result (colour_of_copy from a.x a.y) inside p.width p.height c.empty.result c.empty.ensures none

pub copy_free-requires-clause-inside : goal.copy_free-requires-clause-inside
copy_free-requires-clause-inside c q h =
    let a = c.args in
    let p = a.target.now.picture in
    let from = a.from.now.picture in
    let x : SFits w16 a.x = search rules in
    let y : SFits w16 a.y = search rules in
    let all : (q : Point) → is_some (colour_of_copy from a.x a.y q) ≡ has c.points_of_picture-rect.result q = λ q. simp to_z-of_z at (c.points_of_picture-rect.ensures.all q) in
    let inside : (q : Point) → is_some (colour_of_copy from a.x a.y q) ≡ true → has c.points_of_picture-rect.result q ≡ true = λ q h. sym (all q) ∙ h in
    let visible = rw (c.width-width.ensures.value, c.height-height.ensures) at c.in-Some.ensures.some in
    let within : LiesWithin c.in-Some.part.area c.in-Some.part.corner (block_of a.x a.y from.width from.height) = λ q h. sym (copy_points from a.x a.y (seen_from c.in-Some.part.corner q)) ∙ all (seen_from c.in-Some.part.corner q) ∙ visible.inside q h in
    let corner : c.counted_from.result ≡ point_at (c.in-Some.part.corner.x +ℤ a.x) (c.in-Some.part.corner.y +ℤ a.y) = simp to_z-of_z at c.counted_from.ensures.value in
    rw corner (seen_moved from a.x a.y c.in-Some.part.corner q (within q h))

pub returns-clause-picture : goal.returns-clause-picture
returns-clause-picture c =
    let a = c.args in
    let p = a.target.now.picture in
    let from = a.from.now.picture in
    let x : SFits w16 a.x = search rules in
    let y : SFits w16 a.y = search rules in
    let all : (q : Point) → is_some (colour_of_copy from a.x a.y q) ≡ has c.points_of_picture-rect.result q = λ q. simp to_z-of_z at (c.points_of_picture-rect.ensures.all q) in
    let inside : (q : Point) → is_some (colour_of_copy from a.x a.y q) ≡ true → has c.points_of_picture-rect.result q ≡ true = λ q h. sym (all q) ∙ h in
    let visible = rw (c.width-width.ensures.value, c.height-height.ensures) at c.in-Some.ensures.some in
    let within : LiesWithin c.in-Some.part.area c.in-Some.part.corner (block_of a.x a.y from.width from.height) = λ q h. sym (copy_points from a.x a.y (seen_from c.in-Some.part.corner q)) ∙ all (seen_from c.in-Some.part.corner q) ∙ visible.inside q h in
    let corner : c.counted_from.result ≡ point_at (c.in-Some.part.corner.x +ℤ a.x) (c.in-Some.part.corner.y +ℤ a.y) = simp to_z-of_z at c.counted_from.ensures.value in
    ink_picture p.width p.height (looks_of a.assets.now (screen_with p.width p.height) a.stack.now) a.stack.now a.i c.points_of_picture-rect.result (colour_of_copy from a.x a.y) inside p c.copy_free.new.target.picture c.in-Some.part c.visible_part.new.holes.items c.width-width.ensures.shape visible
    (copied_picture from a.x a.y c.in-Some.part.corner c.in-Some.part.area c.visible_part.new.holes.items within p c.copy_free.new.target.picture c.width-width.ensures.shape (rw (c.as_slice-holes.ensures.value, corner) at c.copy_free.ensures))

pub returns-clause-tiles : goal.returns-clause-tiles
returns-clause-tiles c =
    let a = c.args in
    let p = a.target.now.picture in
    let from = a.from.now.picture in
    let x : SFits w16 a.x = search rules in
    let y : SFits w16 a.y = search rules in
    let all : (q : Point) → is_some (colour_of_copy from a.x a.y q) ≡ has c.points_of_picture-rect.result q = λ q. simp to_z-of_z at (c.points_of_picture-rect.ensures.all q) in
    let inside : (q : Point) → is_some (colour_of_copy from a.x a.y q) ≡ true → has c.points_of_picture-rect.result q ≡ true = λ q h. sym (all q) ∙ h in
    let visible = rw (c.width-width.ensures.value, c.height-height.ensures) at c.in-Some.ensures.some in
    let within : LiesWithin c.in-Some.part.area c.in-Some.part.corner (block_of a.x a.y from.width from.height) = λ q h. sym (copy_points from a.x a.y (seen_from c.in-Some.part.corner q)) ∙ all (seen_from c.in-Some.part.corner q) ∙ visible.inside q h in
    ink_tiles p.width p.height (looks_of a.assets.now (screen_with p.width p.height) a.stack.now) a.stack.now a.i c.points_of_picture-rect.result (colour_of_copy from a.x a.y) inside p.width p.height c.in-Some.part c.visible_part.new.holes.items c.free_tiles.result visible
    (copied_tiles from a.x a.y c.in-Some.part.corner c.in-Some.part.area c.visible_part.new.holes.items within p.width p.height c.free_tiles.result (rw (c.as_slice-holes.ensures.value, c.width-width.ensures.value, c.height-height.ensures) at c.free_tiles.ensures))
