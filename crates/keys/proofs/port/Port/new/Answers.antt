use Rattle.keys.specs.Identities.{valid_port}
use Rattle.keys.specs.Lexical.{ok_made}
use Rattle.keys.proofs.port.Port.new.Goals as goal

pub returns : goal.returns
returns c = ok_made (valid_port c.args.identity c.args.number) _ _ _
