use Rattle.std.proofs.Common.{subst, sym, ◌∙◌}
use Rattle.bsp_store_open.specs.Migrating.{IsEarlier}
use Rattle.bsp_store_open.proofs.VersionLemmas.{one_old}
use Rattle.sqlite.specs.Held.{state}
use Rattle.bsp_store.proofs.audit.other_refusal.Goals as goal

pub old_refusal-requires : goal.old_refusal-requires
old_refusal-requires g c = sym c.schema.ensures.value ∙ c.in-Some.ensures

pub returns-in-Some-clause-refused : goal.returns-in-Some-clause-refused
returns-in-Some-clause-refused g c = λ refused.
    let has = sym c.schema.ensures.value ∙ c.in-Some.ensures in
    record {
      ours = λ clean ours. absurd (c.requires ours);
      older = λ clean other is. subst (λ v. IsEarlier v c.old_refusal.result (state g.S.Store c.args.conn.now).now.trees) (one_old c.in-Some.version other (sym has ∙ is)) (c.old_refusal.ensures.earlier refused clean);
      others = λ clean other young. absurd (young c.in-Some.version has);
    }

pub returns-in-None-clause-refused : goal.returns-in-None-clause-refused
returns-in-None-clause-refused g c = λ refused. record {
  ours = λ clean ours. absurd (c.requires ours);
  older = λ clean version is. absurd (c.in-None.ensures version (c.schema.ensures.value ∙ is));
  others = λ clean other young. (c.refusal.new.conn, clean, c.refusal.ensures.asked);
}
