use Rattle.std.proofs.Common.{ap, ◌∙◌}
use Rattle.spelling.specs.Words.{words_of}
use Rattle.spelling.specs.Fields.{line_values}
use Rattle.spelling.proofs.FieldLaws.{values_take, values_again, line_values_take, line_values_again}
use Rattle.spelling.proofs.laws.fields_tell_values.Goals as goal

pub returns-clause-words : goal.returns-clause-words
returns-clause-words c = λ fs words vs fields. (λ e. values_take fs words vs e, λ h. values_again fs words vs fields h.0 h.1)

pub returns-clause-line : goal.returns-clause-line
returns-clause-line c = λ name fs line vs whole fields. (λ e. line_values_take name fs line vs e, λ h. ap (λ t. line_values name fs (words_of t)) h.0 ∙ line_values_again name fs vs whole fields h.1)
