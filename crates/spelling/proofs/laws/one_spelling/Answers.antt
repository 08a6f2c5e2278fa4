use Rattle.std.proofs.Common.{ap, ◌∙◌}
use Rattle.std.proofs.lemmas.List.Splits.{join_with_byte-slice_split}
use Rattle.spelling.specs.Words.{number_of, natural_in, colour_of}
use Rattle.spelling.proofs.NumberSpellings.{number_takes, number_again}
use Rattle.spelling.proofs.SpellingLaws.{natural_in_takes, natural_in_again, colour_takes, colour_again}
use Rattle.spelling.proofs.laws.one_spelling.Goals as goal

pub returns-clause-words : goal.returns-clause-words
returns-clause-words c = λ line. join_with_byte-slice_split 32 line

pub returns-clause-number : goal.returns-clause-number
returns-clause-number c = λ word z. (λ e. number_takes word z e, λ h. ap number_of h.0 ∙ number_again z h.1)

pub returns-clause-natural : goal.returns-clause-natural
returns-clause-natural c = λ low high word n small. (λ e. natural_in_takes low high word n e, λ h. ap (natural_in low high) h.0 ∙ natural_in_again low high n h.1 h.2 small)

pub returns-clause-colour : goal.returns-clause-colour
returns-clause-colour c = λ word value. (λ e. colour_takes word value e, λ h. ap colour_of h.0 ∙ colour_again value h.1)
