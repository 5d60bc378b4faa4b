use Rattle.connection_examples.proofs.client.Connecting.receive.Goals as goal

pub returns-clause-greeted : goal.returns-clause-greeted
returns-clause-greeted c = rw c.receive-payload.ensures.payload at c.read_greeting.ensures.greeted

pub returns-clause-refused : goal.returns-clause-refused
returns-clause-refused c = rw c.receive-payload.ensures.payload at c.read_greeting.ensures.refused

pub returns-clause-next : goal.returns-clause-next
returns-clause-next c = rw c.receive-payload.ensures.next at c.read_greeting.ensures.next
