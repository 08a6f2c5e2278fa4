-- The lemmas on a script's lines that proofs of other crates may cite.
pub use Rattle.script_lines.proofs.ClassHeadLaws.{head_again, head_same, head_taken, head_words}
pub use Rattle.script_lines.proofs.CountLaws.{calls_and_ticks, counted_more, ticks_more}
pub use Rattle.script_lines.proofs.StringLaws.{string_again, string_same, string_taken, string_words}
