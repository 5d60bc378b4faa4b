use Rattle.std.proofs.Common.{refl}
use Rattle.connection_examples.proofs.client.read_outcome.Goals as goal

pub returns-in-Ok-Done : goal.returns-in-Ok-Done
returns-in-Ok-Done c = let read = rw c.in-Ok-Done.field-0-is at c.in-Ok-Done.ensures in record {
  done = read.done;
  failed = read.failed;
  switch = read.switch;
  more_data = read.more;
  next = (c.begin_command.ensures, refl);
}

pub returns-in-Ok-Failed : goal.returns-in-Ok-Failed
returns-in-Ok-Failed c = let read = rw c.in-Ok-Failed.field-0-is at c.in-Ok-Failed.ensures in record {
  done = read.done;
  failed = read.failed;
  switch = read.switch;
  more_data = read.more;
  next = tt;
}

pub returns-in-Ok-Switch : goal.returns-in-Ok-Switch
returns-in-Ok-Switch c = let read = rw c.in-Ok-Switch.field-0-is at c.in-Ok-Switch.ensures in record {
  done = read.done;
  failed = read.failed;
  switch = read.switch;
  more_data = read.more;
  next = (refl, refl);
}

pub returns-in-Ok-MoreData : goal.returns-in-Ok-MoreData
returns-in-Ok-MoreData c = let read = rw c.in-Ok-MoreData.field-0-is at c.in-Ok-MoreData.ensures in record {
  done = read.done;
  failed = read.failed;
  switch = read.switch;
  more_data = read.more;
  next = (refl, refl);
}

pub returns-in-Err : goal.returns-in-Err
returns-in-Err c = let read = c.in-Err.ensures in record {
  done = read.done;
  failed = read.failed;
  switch = read.switch;
  more_data = read.more;
  next = tt;
}
