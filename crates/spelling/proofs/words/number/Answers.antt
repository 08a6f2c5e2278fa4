use Rattle.std.proofs.Common.{sym, ◌∙◌, rules}
use Rattle.std.specs.Int.{w16}
use Rattle.std.specs.Prelude.{FitsSigned}
use Rattle.std.proofs.lemmas.Int.{to_z-of_z}
use Rattle.std.proofs.lemmas.Str.{IsUtf8-from_ascii}
use Rattle.std.proofs.lemmas.Fmt.{IsAscii-signed}
use Rattle.spelling.proofs.NumberSpellings.{number_none, err_part, ok_part, mag_small, not_parsed, written_same, written_other}
use Rattle.spelling.proofs.words.number.Goals as goal

pub returns-in_err-text : goal.returns-in_err-text
returns-in_err-text c =
    c.from_residual.ensures ∙ sym (number_none c.args.word.now (λ z fits is.
    err_part c.from_utf8.result _ _ c.from_utf8.ensures.cases c.in_err-text.ensures.value (λ e no. no.0 (rw is (IsUtf8-from_ascii _ (IsAscii-signed z (mag_small z fits)))))))

pub returns-in_err-number : goal.returns-in_err-number
returns-in_err-number c =
    let same = ok_part c.from_utf8.result _ _ c.in_ok-text.text c.from_utf8.ensures.cases c.in_ok-text.ensures.value in
    c.from_residual-in_err-number.ensures ∙ sym (not_parsed c.args.word.now c.in_ok-text.text.now c.parse.result same.0 c.parse.ensures.value.0 c.in_err-number.ensures.value)

pub returns-then-eq : goal.returns-then-eq
returns-then-eq c =
    let fits : FitsSigned w16 c.in_ok-number.number = search rules in
    let n-is = to_z-of_z w16 c.in_ok-number.number fits in
    rw n-is (sym (written_same c.args.word.now c.as_bytes.result.now c.in_ok-number.number c.eq.result fits (rw n-is at (c.as_bytes.ensures.value ∙ c.format.ensures.text)) c.eq.ensures c.if-eq.true))

pub returns-else-eq : goal.returns-else-eq
returns-else-eq c =
    let fits : FitsSigned w16 c.in_ok-number.number = search rules in
    let n-is = to_z-of_z w16 c.in_ok-number.number fits in
    let same = ok_part c.from_utf8.result _ _ c.in_ok-text.text c.from_utf8.ensures.cases c.in_ok-text.ensures.value in
    sym (written_other c.args.word.now c.in_ok-text.text.now c.as_bytes.result.now c.parse.result c.in_ok-number.number c.eq.result same.0 c.parse.ensures.value.0 c.in_ok-number.ensures.value (rw n-is at (c.as_bytes.ensures.value ∙ c.format.ensures.text)) c.eq.ensures c.if-eq.false)
