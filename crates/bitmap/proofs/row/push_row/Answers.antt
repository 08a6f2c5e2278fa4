use Rattle.std.proofs.Common.{◌≡◌, ◌+◌, ◌≤◌, ◌++◌, length, false, ap, ◌∙◌, rules}
use Rattle.std.specs.Prelude.{vec_len, is_err}
use Rattle.spelling.specs.Words.{words_of, left}
use Rattle.spelling.proofs.CallerLemmas.{word_takes}
use Rattle.bitmap.specs.Texts.{points_of_run}
use Rattle.bitmap.specs.Reading.{run_from, points_of, onto}
use Rattle.bitmap.proofs.RowLaws.{word_on}
use Rattle.bitmap.proofs.PushLemmas.{run_more}
use Rattle.bitmap.proofs.row.push_row.Goals as goal

pub loop-word-preserved : goal.loop-word-preserved
loop-word-preserved c =
    let so = c.loop-word.invariant.read in
    let words = word_takes (left c.loop-word.rest) (c.in-Some.word.now, left c.in-Some.after) c.in-Some.ensures in
    let run = run_from c.in-Some-run_of.run' in
    let fits : run.count ≤ c.loop-word.room = search rules in
    let count : c.len.result + c.from.result ≡ length c.loop-word.points.items + run.count = search rules in
    let long : vec_len c.loop-word.points ≡ length c.loop-word.points.items = search rules in
    let fine : is_err c.resize.result ≡ false = search rules in
    record {
      read = (
        so.0 ++ points_of_run run,
        run_more c.args.points.now.items c.loop-word.points.items c.resize.new.self.items so.0 c.in-Some-run_of.run'.value (vec_len c.loop-word.points) run.count (c.len.result + c.from.result) c.resize.result c.resize.ensures.items fine long count so.1,
        word_on (points_of c.args.width (words_of c.args.line.now)) so.0 c.loop-word.room c.in-Some.word.now (left c.in-Some.after) run (so.2 ∙ ap (λ ws. onto so.0 (points_of c.loop-word.room ws)) words) c.in-Some-run_of.ensures.value fits,
      );
      fits = search rules;
    }
