use Rattle.std.proofs.Common.{Some, rules}
use Rattle.std.proofs.Output.{has_written_append, has_written_of_eq}
use Rattle.std.proofs.Padding.{displays_at_plain}
use Rattle.bench_sheet.proofs.ColumnTexts.{blanks_behind}
use Rattle.bench_sheet.proofs.rows.AskedRowDisplay.fmt.Goals as goal

pub returns-clause-writes : goal.returns-clause-writes
returns-clause-writes g c = λ plain ok.
    let what = c.write.ensures.writes plain (search rules) in
    let blanks = displays_at_plain _ _ _ _ (Some _) c.write_repeated.ensures.styled what.plain (search rules) in
    let answer = c.write-2.ensures.writes blanks.plain ok in
    has_written_of_eq _ _ _ _ _ (blanks_behind c.saturating_sub-blanks.result c.args.self.now.what.now _ (search rules))
    (has_written_append _ _ _ _ _ _ what (has_written_append _ _ _ _ _ _ blanks answer))
