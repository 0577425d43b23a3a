use Rattle.std.proofs.Common.{◌≡◌, ◌/◌, ◌%◌, ◌++◌, codes, rules}
use Rattle.std.proofs.Output.{has_written_of_eq}
use Rattle.std.specs.Fmt.{styled_decimal}
use Rattle.bench_sheet.specs.Columns.{right}
use Rattle.bench_sheet.specs.Rows.{per_kwh}
use Rattle.bench_sheet.proofs.ColumnTexts.{price_right}
use Rattle.bench_sheet.proofs.columns.PerKwhDisplay.fmt.Goals as goal

pub returns-clause-writes : goal.returns-clause-writes
returns-clause-writes g c = λ plain ok.
    let points = c.args.self.now.0 in
    let text : styled_decimal c.laid_out.result (points / 10000) ++ (codes "." ++ styled_decimal c.laid_out-2.result (points % 10000)) ≡ right g.row.WIDTH (per_kwh points) =
    price_right g.row.WIDTH c.saturating_sub-whole.result points c.laid_out.result c.laid_out-2.result (search rules) (search rules) (search rules) (search rules) in
    has_written_of_eq _ _ _ _ _ text (search rules)
