use Rattle.std.proofs.Common.{◌≡◌, rules}
use Rattle.site.specs.Setpoint.{name}
use Rattle.site.proofs.setpoint.SetpointDisplay.fmt.Goals as goal

pub returns-clause-styled : goal.returns-clause-styled
returns-clause-styled g c = let named : c.match-self.pad.now ≡ name c.args.self.now = search rules in rw (← named) c.pad.ensures.text
