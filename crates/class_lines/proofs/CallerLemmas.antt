-- The lemmas on the lines of classes that proofs of other crates may cite: each line says one thing, is one line's text,
-- and is neither a comment nor `end`.
pub use Rattle.class_lines.proofs.ClassLineLaws.{class_line_read, class_line_spelled, class_line_words, first_is_known, no_comment, no_end}
