use Rattle.connection_examples.proofs.server.Greeting.receive.Goals as goal

pub returns-clause-tls : goal.returns-clause-tls
returns-clause-tls c = rw c.receive-payload.ensures.payload at c.read_first.ensures.tls

pub returns-clause-login : goal.returns-clause-login
returns-clause-login c = rw c.receive-payload.ensures.payload at c.read_first.ensures.login

pub returns-clause-next : goal.returns-clause-next
returns-clause-next c = rw c.receive-payload.ensures.next at c.read_first.ensures.next
