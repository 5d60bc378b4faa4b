use Rattle.std.proofs.Common.{refl, rules}
use Rattle.connection_examples.proofs.server.read_first.Goals as goal

pub returns-in-Ok-Tls : goal.returns-in-Ok-Tls
returns-in-Ok-Tls c = let read = rw c.in-Ok-Tls.field-0-is at c.in-Ok-Tls.ensures in record {
  tls = read.tls;
  login = read.login;
  next = (refl, refl);
}

pub returns-in-Ok-Login : goal.returns-in-Ok-Login
returns-in-Ok-Login c = let read = rw c.in-Ok-Login.field-0-is at c.in-Ok-Login.ensures in record {
  tls = read.tls;
  login = read.login;
  next = (refl, search (rules, c.from_bits_retain-asked.ensures, c.intersection-capabilities.ensures));
}

pub returns-in-Err : goal.returns-in-Err
returns-in-Err c = let read = c.in-Err.ensures in record {
  tls = read.tls;
  login = read.login;
  next = tt;
}
