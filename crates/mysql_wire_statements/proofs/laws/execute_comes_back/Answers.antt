use Rattle.std.proofs.Common.{[]}
use Rattle.mysql_wire_statements.specs.Executed.{params_good}
use Rattle.mysql_wire_statements.proofs.laws.execute_comes_back.Goals as goal

pub returns : goal.returns
returns c = λ command (are_numbers, there, are) at. c.parse_back.ensures.back command []
    are_numbers (there, params_good c.args.num_params command.params are) at
