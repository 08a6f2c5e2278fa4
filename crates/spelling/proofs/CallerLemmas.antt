-- The lemmas on words and lines that proofs of other crates may cite: what is cut, what is read, and what is read of a
-- value's own spelling.
pub use Rattle.spelling.proofs.CutLemmas.{IsWhole, parts-join}
pub use Rattle.spelling.proofs.NumberSpellings.{number_takes, number_again, natural_takes, natural_again, natural_none}
pub use Rattle.spelling.proofs.SpellingLaws.{bind_some, chosen, onto, nothing_left, line_from_words}
pub use Rattle.spelling.proofs.SpellingLaws.{word_takes, named, same_name, after_word_takes, after_word_again}
pub use Rattle.spelling.proofs.SpellingLaws.{number_at_takes, number_at_again, natural_in_takes, natural_in_again, natural_at_takes, natural_at_again, no_natural_in, no_natural}
pub use Rattle.spelling.proofs.SpellingLaws.{colour_takes, colour_again, colour_no_dash}
pub use Rattle.spelling.proofs.SpellingLaws.{whole_by_test, natural_whole, number_whole, colour_whole}
pub use Rattle.spelling.proofs.CoordinateLaws.{no_number_of, num_takes, num_again, num_whole}
pub use Rattle.spelling.proofs.FieldLaws.{values_take, values_again, fields_take, fields_again, fields_whole, value_takes, value_again, value_whole, made_taking, words_with, line_values_take, line_values_again, text_same}
pub use Rattle.spelling.proofs.ItemLaws.{Without, same_block, Begins, AreApart, one_list, comments_more, items_comment, items_more, all_after_more}
pub use Rattle.spelling.proofs.FirstFaultLaws.{on_ok, run-append, run_on, first_read, run_one, Describes, no_prefix, read_says, either, one_place, one_fault, not_both, fault_with_more, fault_within, one_first}
