-- The lemmas on call lines that proofs of other crates may cite: each line says one call, and is one line's text; the line
-- of a tick is known by its bytes, and a line is none by its first word.
pub use Rattle.calls.proofs.CallLaws.{line_words_whole, line_read, line_spelled, tick_line, no_line}
