use Rattle.std.proofs.Common.{◌≡◌, ◌+◌, drop, None, sym, ap, ◌∙◌}
use Rattle.std.proofs.lemmas.List.{at_drop_more, at_drop_all}
use Rattle.std.proofs.lemmas.Result.{MatchResult-weaker, err_from_is_err_and}
use Rattle.bench_sheet.specs.Reading.{ended, entered, reading, uncommented}
use Rattle.bench_sheet.specs.Scanning.{from_there}
use Rattle.bench_sheet.proofs.typed.Typed.read_line.Goals as goal

pub returns-in_err-scan : goal.returns-in_err-scan
returns-in_err-scan c =
    let items = c.before_comment-byte-items.result.now in
    let i = c.loop-index.index in
    let next = at_drop_more (from_there c.loop-index.scan (i + 1)) items i 0 c.loop-index-test.true in
    let stopped = ap (reading (entered c.args.self) None 1) (sym c.before_comment-byte-items.ensures) ∙ sym c.loop-index.invariant ∙ next ∙ c.in_err-scan.ensures (drop (i + 1) items) in
    let p = err_from_is_err_and c.from_residual.result c.from_residual.ensures.1 in record { answer = rw (p.1, p.2) stopped }

pub loop-index-preserved : goal.loop-index-preserved
loop-index-preserved c =
    let items = c.before_comment-byte-items.result.now in
    let i = c.loop-index.index in
    let next = at_drop_more (from_there c.loop-index.scan (i + 1)) items i 0 c.loop-index-test.true in
    sym (c.in_ok-scan.ensures (drop (i + 1) items)) ∙ sym next ∙ c.loop-index.invariant

pub returns : goal.returns
returns c =
    let items = c.before_comment-byte-items.result.now in
    let all : reading (entered c.args.self) None 1 (uncommented c.args.line.now) ≡ ended (entered c.loop-index.scan.typed) c.loop-index.scan.begun =
    ap (reading (entered c.args.self) None 1) (sym c.before_comment-byte-items.ensures) ∙ sym c.loop-index.invariant
    ∙ at_drop_all (from_there c.loop-index.scan (c.loop-index.index + 1)) items c.loop-index.index c.loop-index-test.false in
    record { answer = MatchResult-weaker c.ended.result c.ended.ensures (λ t h. all ∙ h) (λ e h. all ∙ h) }
