use Rattle.std.proofs.Common.{◌≡◌, ◌∙◌, ◌+◌, ◌++◌, ◌∷◌, [], ℕ, List, length, Result, Err, sym, ap, subst, arith, rules}
use Rattle.std.proofs.lemmas.List.{length-append}
use Rattle.spelling.specs.Parts.{lines_of}
use Rattle.glyph_font.specs.declared.fault.FontWhy.{FontWhy}
use Rattle.glyph_font.specs.Faults.{why_at}
use Rattle.glyph_font.specs.Reading.{Draft, from_line, read_of, Says}
use Rattle.glyph_font.proofs.DraftLaws.{few_lines, step}
use Rattle.glyph_font.proofs.FaultLaws.{reads_wrong, reads_on}
use Rattle.glyph_font.proofs.reader.read_lines.Goals as goal

abbrev fault_at : ℕ → FontWhy → Result Draft (ℕ × FontWhy)
fault_at n reason = Err (n, reason)

pub overflow_add-number : goal.overflow_add-number
overflow_add-number c =
    let stands = c.loop-rest.invariant.stands in
    let same : length stands.0 ≡ c.loop-rest.number = stands.1 in
    let few = few_lines c.loop-rest.draft stands.0 stands.2 in
    search rules

pub overflow_add-number-else-is_whole : goal.overflow_add-number-else-is_whole
overflow_add-number-else-is_whole c =
    let stands = c.loop-rest.invariant.stands in
    let same : length stands.0 ≡ c.loop-rest.number = stands.1 in
    let few = few_lines c.loop-rest.draft stands.0 stands.2 in
    search rules

pub returns-in-Err-Wrong : goal.returns-in-Err-Wrong
returns-in-Err-Wrong c =
    let n : ℕ = c.loop-rest.number + 1 in
    let d : Draft = c.loop-rest.draft in
    let wrong = rw c.in-Err-Wrong.field-0-is at c.in-Err-Wrong.ensures in
    subst (Says (read_of c.args.height c.args.body.now)) (sym c.fault.ensures)
    (sym c.loop-rest.invariant.read ∙ ap (from_line n d) c.first_line.ensures.lines ∙ reads_wrong n d c.first_line.result.0.now (lines_of c.first_line.result.1.now) wrong ∙ ap (fault_at n) (ap why_at (sym c.place-place.ensures) ∙ sym c.why_at.ensures))

pub loop-rest-preserved : goal.loop-rest-preserved
loop-rest-preserved c =
    let n : ℕ = c.loop-rest.number + 1 in
    let d : Draft = c.loop-rest.draft in
    let line : List ℕ = c.first_line.result.0.now in
    let stands = c.loop-rest.invariant.stands in
    let same : length stands.0 ≡ c.loop-rest.number = stands.1 in
    let more = length-append stands.0 (line ∷ []) in
    record {
      read = sym (reads_on n d c.take.new.self line (lines_of c.first_line.result.1.now) c.in-Ok-take.ensures) ∙ sym (ap (from_line n d) c.first_line.ensures.lines) ∙ c.loop-rest.invariant.read;
      stands = (stands.0 ++ line ∷ [], omega arith, step d c.take.new.self stands.0 line stands.2 c.in-Ok-take.ensures);
    }
