use Rattle.std.proofs.Common.{◌^◌, ◌<◌, sym, ◌∙◌, rules, arith}
use Rattle.std.proofs.lemmas.Str.{IsUtf8-from_ascii}
use Rattle.std.proofs.lemmas.Fmt.{IsAscii-decimal}
use Rattle.spelling.proofs.NumberSpellings.{natural_none, err_part, ok_part, natural_not_parsed, natural_written_same, natural_written_other}
use Rattle.spelling.proofs.words.natural.Goals as goal

pub returns-in_err-text : goal.returns-in_err-text
returns-in_err-text c =
    c.from_residual.ensures ∙ sym (natural_none c.args.word.now (λ n small is.
    err_part c.from_utf8.result _ _ c.from_utf8.ensures.cases c.in_err-text.ensures.value (λ e no. no.0 (rw is (IsUtf8-from_ascii _ (IsAscii-decimal n (omega arith)))))))

pub returns-in_err-value : goal.returns-in_err-value
returns-in_err-value c =
    let same = ok_part c.from_utf8.result _ _ c.in_ok-text.text c.from_utf8.ensures.cases c.in_ok-text.ensures.value in
    c.from_residual-in_err-value.ensures ∙ sym (natural_not_parsed c.args.word.now c.in_ok-text.text.now c.parse.result same.0 c.parse.ensures.value.0 c.in_err-value.ensures.value)

pub returns-then-eq : goal.returns-then-eq
returns-then-eq c =
    let small : c.in_ok-value.value < 2 ^ 32 = search rules in
    sym (natural_written_same c.args.word.now c.as_bytes.result.now c.in_ok-value.value c.eq.result small (c.as_bytes.ensures.value ∙ c.format.ensures.text) c.eq.ensures c.if-eq.true)

pub returns-else-eq : goal.returns-else-eq
returns-else-eq c =
    let same = ok_part c.from_utf8.result _ _ c.in_ok-text.text c.from_utf8.ensures.cases c.in_ok-text.ensures.value in
    sym (natural_written_other c.args.word.now c.in_ok-text.text.now c.as_bytes.result.now c.parse.result c.in_ok-value.value c.eq.result same.0 c.parse.ensures.value.0 c.in_ok-value.ensures.value (c.as_bytes.ensures.value ∙ c.format.ensures.text) c.eq.ensures c.if-eq.false)
