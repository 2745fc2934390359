use Rattle.xl_tcp.proofs.connection.+grant.Given as goal

abbrev pub decreases-grant : goal.decreases-grant
decreases-grant l = l.most
