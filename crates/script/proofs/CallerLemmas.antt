-- The lemmas on scripts that proofs of other crates may cite: a file behind its first bytes, and no script with a fault.
pub use Rattle.script.proofs.ReadingLaws.{script_ready, no_script_with_fault, script-take, take-script, fault-take, take-fault}
