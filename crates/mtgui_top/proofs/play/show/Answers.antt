use Rattle.script.proofs.CallerLemmas.{no_script_with_fault}
use Rattle.mtgui_top.proofs.play.show.Goals as goal

pub returns-in_ok-write_fault-in-Err-Fault : goal.returns-in_ok-write_fault-in-Err-Fault
returns-in_ok-write_fault-in-Err-Fault g c =
    let is = rw c.in-Err-Fault.field-0-is at c.in-Err-Fault.ensures.fault in (
      c.in-Err-Fault.fault,
      no_script_with_fault c.args.text.now c.in-Err-Fault.fault is,
      is,
      rw c.in-Err-Fault.field-0-is at (rw c.reason_name.ensures.value at c.in_ok-write_fault-in-Err-Fault.ensures),
    )
