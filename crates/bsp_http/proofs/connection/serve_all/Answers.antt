use Rattle.bsp_streams.specs.Shares.{exchanges}
use Rattle.bsp_http.proofs.connection.serve_all.Goals as goal

pub returns-clause-run : goal.returns-clause-run
returns-clause-run g c = let history = c.serve_all.ensures.served.history in (exchanges history.run, history.answered)
