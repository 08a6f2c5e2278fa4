use Rattle.std.proofs.Common.{rules, refl}
use Rattle.engine.proofs.CallLemmas.{takes_plainly, taken_by, made_by, turned_by}
use Rattle.engine.proofs.engine.Engine.take.Goals as goal

pub returns-in-Create : goal.returns-in-Create
returns-in-Create c = let made = takes_plainly _ _ _ _ _ c.requires.fresh refl refl (c.create.ensures.by c.args.actor) in search rules

pub returns-in-Delete : goal.returns-in-Delete
returns-in-Delete c = record { made = taken_by _ _ _ _ _ _ c.requires.fresh c.in-Delete.is refl refl (c.change.ensures.by c.args.actor); unmade = tt }

pub returns-in-MoveTo : goal.returns-in-MoveTo
returns-in-MoveTo c = let made = takes_plainly _ _ _ _ _ c.requires.fresh refl refl (c.change-in-MoveTo.ensures.by c.args.actor) in search rules

pub returns-in-MoveBy : goal.returns-in-MoveBy
returns-in-MoveBy c = let made = takes_plainly _ _ _ _ _ c.requires.fresh refl refl (c.change-in-MoveBy.ensures.by c.args.actor) in search rules

pub returns-in-Resize : goal.returns-in-Resize
returns-in-Resize c = record { made = taken_by _ _ _ _ _ _ c.requires.fresh c.in-Resize.is refl refl (c.change-in-Resize.ensures.by c.args.actor); unmade = tt }

pub returns-in-Show : goal.returns-in-Show
returns-in-Show c = record { made = taken_by _ _ _ _ _ _ c.requires.fresh c.in-Show.is refl refl (c.change-in-Show.ensures.by c.args.actor); unmade = tt }

pub returns-in-Hide : goal.returns-in-Hide
returns-in-Hide c = record { made = taken_by _ _ _ _ _ _ c.requires.fresh c.in-Hide.is refl refl (c.change-in-Hide.ensures.by c.args.actor); unmade = tt }

pub returns-in-ToTop : goal.returns-in-ToTop
returns-in-ToTop c = record { made = taken_by _ _ _ _ _ _ c.requires.fresh c.in-ToTop.is refl refl (c.change-in-ToTop.ensures.by c.args.actor); unmade = tt }

pub returns-in-ToBottom : goal.returns-in-ToBottom
returns-in-ToBottom c = record { made = taken_by _ _ _ _ _ _ c.requires.fresh c.in-ToBottom.is refl refl (c.change-in-ToBottom.ensures.by c.args.actor); unmade = tt }

pub returns-in-SetClass : goal.returns-in-SetClass
returns-in-SetClass c = record { made = taken_by _ _ _ _ _ _ c.requires.fresh c.in-SetClass.is refl refl (c.change-in-SetClass.ensures.by c.args.actor); unmade = tt }

pub returns-in-SetTrans : goal.returns-in-SetTrans
returns-in-SetTrans c = record { made = taken_by _ _ _ _ _ _ c.requires.fresh c.in-SetTrans.is refl refl (c.change-in-SetTrans.ensures.by c.args.actor); unmade = tt }

pub returns-in-SetMemdev : goal.returns-in-SetMemdev
returns-in-SetMemdev c = record { made = taken_by _ _ _ _ _ _ c.requires.fresh c.in-SetMemdev.is refl refl (c.set_memdev.ensures.by c.args.actor); unmade = tt }

pub returns-in-SetValue : goal.returns-in-SetValue
returns-in-SetValue c = let made = takes_plainly _ _ _ _ _ c.requires.fresh refl refl (c.set_value.ensures.by c.args.actor) in search rules

pub returns-in-Send : goal.returns-in-Send
returns-in-Send c = let made = takes_plainly _ _ _ _ _ c.requires.fresh refl refl (c.send.ensures.by c.args.actor) in search rules

pub returns-in-Select : goal.returns-in-Select
returns-in-Select c = record { made = taken_by _ _ _ _ _ _ c.requires.fresh c.in-Select.is refl refl c.change_context.ensures; unmade = tt }

pub returns-in-DevSelect : goal.returns-in-DevSelect
returns-in-DevSelect c = record { made = taken_by _ _ _ _ _ _ c.requires.fresh c.in-DevSelect.is refl refl c.change_context-in-DevSelect.ensures; unmade = tt }

pub returns-in-Colour : goal.returns-in-Colour
returns-in-Colour c = record { made = taken_by _ _ _ _ _ _ c.requires.fresh c.in-Colour.is refl refl c.change_context-in-Colour.ensures; unmade = tt }

pub returns-in-BkColour : goal.returns-in-BkColour
returns-in-BkColour c = record { made = taken_by _ _ _ _ _ _ c.requires.fresh c.in-BkColour.is refl refl c.change_context-in-BkColour.ensures; unmade = tt }

pub returns-in-TextMode : goal.returns-in-TextMode
returns-in-TextMode c = record { made = taken_by _ _ _ _ _ _ c.requires.fresh c.in-TextMode.is refl refl c.change_context-in-TextMode.ensures; unmade = tt }

pub returns-in-Font : goal.returns-in-Font
returns-in-Font c = record { made = taken_by _ _ _ _ _ _ c.requires.fresh c.in-Font.is refl refl c.change_context-in-Font.ensures; unmade = tt }

pub returns-in-Save : goal.returns-in-Save
returns-in-Save c = record { made = taken_by _ _ _ _ _ _ c.requires.fresh c.in-Save.is refl refl c.change_context-in-Save.ensures; unmade = tt }

pub returns-in-Restore : goal.returns-in-Restore
returns-in-Restore c = record { made = taken_by _ _ _ _ _ _ c.requires.fresh c.in-Restore.is refl refl c.change_context-in-Restore.ensures; unmade = tt }

pub returns-in-DevDelete : goal.returns-in-DevDelete
returns-in-DevDelete c = record { made = taken_by _ _ _ _ _ _ c.requires.fresh c.in-DevDelete.is refl refl c.delete_device.ensures; unmade = tt }

pub returns-in-Invalidate : goal.returns-in-Invalidate
returns-in-Invalidate c = record { made = taken_by _ _ _ _ _ _ c.requires.fresh c.in-Invalidate.is refl refl (c.invalidate.ensures.by c.args.actor); unmade = tt }

pub returns-in-InvalidateRect : goal.returns-in-InvalidateRect
returns-in-InvalidateRect c = let made = takes_plainly _ _ _ _ _ c.requires.fresh refl refl (c.invalidate_rect.ensures.by c.args.actor) in search rules

pub returns-in-InvalidateArea : goal.returns-in-InvalidateArea
returns-in-InvalidateArea c = let made = takes_plainly _ _ _ _ _ c.requires.fresh refl refl (c.invalidate_area.ensures.by c.args.actor) in search rules

pub returns-in-Begin-clause-made : goal.returns-in-Begin-clause-made
returns-in-Begin-clause-made c = made_by _ _ _ _ _ _ c.requires.fresh c.in-Begin.is (c.begin.ensures.by c.args.actor)

pub returns-in-End-clause-made : goal.returns-in-End-clause-made
returns-in-End-clause-made c = turned_by _ _ _ _ _ _ c.in-End.is (c.end.ensures.by c.args.actor)

pub returns-in-Exec-clause-made : goal.returns-in-Exec-clause-made
returns-in-Exec-clause-made c = turned_by _ _ _ _ _ _ c.in-Exec.is (c.exec.ensures.by c.args.actor)

pub returns-in-Exec1-clause-made : goal.returns-in-Exec1-clause-made
returns-in-Exec1-clause-made c = turned_by _ _ _ _ _ _ c.in-Exec1.is (c.exec1.ensures.by c.args.actor)
