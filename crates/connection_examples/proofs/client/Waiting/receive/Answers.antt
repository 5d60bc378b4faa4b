use Rattle.connection_examples.proofs.client.Waiting.receive.Goals as goal

pub returns-clause-done : goal.returns-clause-done
returns-clause-done c = rw c.receive-payload.ensures.payload at c.read_outcome.ensures.done

pub returns-clause-failed : goal.returns-clause-failed
returns-clause-failed c = rw c.receive-payload.ensures.payload at c.read_outcome.ensures.failed

pub returns-clause-switch : goal.returns-clause-switch
returns-clause-switch c = rw c.receive-payload.ensures.payload at c.read_outcome.ensures.switch

pub returns-clause-more_data : goal.returns-clause-more_data
returns-clause-more_data c = rw c.receive-payload.ensures.payload at c.read_outcome.ensures.more_data

pub returns-clause-next : goal.returns-clause-next
returns-clause-next c = rw c.receive-payload.ensures.next at c.read_outcome.ensures.next
