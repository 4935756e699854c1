use Rattle.bsp_desk.proofs.HotReplies.{hot_answers_pass, hot_replies_pass}
use Rattle.bsp_desk.proofs.laws.hot_replies_pass.Goals as goal

pub returns-clause-sent : goal.returns-clause-sent
returns-clause-sent g c = hot_replies_pass

pub returns-clause-answered : goal.returns-clause-answered
returns-clause-answered g c = hot_answers_pass g.B.Book.means
