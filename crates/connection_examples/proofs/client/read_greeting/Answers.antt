use Rattle.std.proofs.Common.{refl}
use Rattle.connection_examples.proofs.client.read_greeting.Goals as goal

pub returns-in-Ok-Greeting : goal.returns-in-Ok-Greeting
returns-in-Ok-Greeting c = let read = rw c.in-Ok-Greeting.field-0-is at c.in-Ok-Greeting.ensures in record {
  greeted = read.greeting;
  refused = read.failed;
  next = refl;
}

pub returns-in-Ok-Failed : goal.returns-in-Ok-Failed
returns-in-Ok-Failed c = let read = rw c.in-Ok-Failed.field-0-is at c.in-Ok-Failed.ensures in record {
  greeted = read.greeting;
  refused = read.failed;
  next = tt;
}

pub returns-in-Err : goal.returns-in-Err
returns-in-Err c = let read = c.in-Err.ensures in record {
  greeted = read.greeting;
  refused = read.failed;
  next = tt;
}
