use Rattle.std.proofs.Common.{◌≡◌, ◌≤◌, length, sym, arith, rules}
use Rattle.std.proofs.lemmas.List.{take_all}
use Rattle.bench_sheet.proofs.typed.Typed.twelve.Goals as goal

pub returns : goal.returns
returns c =
    let twelve : length c.args.self.now.numbers ≡ 12 = search rules in
    let all : length c.args.self.now.numbers ≤ c.args.self.now.count = omega arith in
    record { answer = sym (take_all c.args.self.now.count c.args.self.now.numbers all) }
