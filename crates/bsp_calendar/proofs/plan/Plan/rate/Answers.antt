use Rattle.std.proofs.Common.{◌≡◌, refl}
use Rattle.bsp_calendar.proofs.RateKeyLemmas.{rate_answered, answer_of}
use Rattle.bsp_calendar.proofs.plan.Plan.rate.Goals as goal

pub returns-in-Some-clause-value : goal.returns-in-Some-clause-value
returns-in-Some-clause-value c =
    let found = c.last_up_to.ensures in
    let answered : c.in-Some.rate.hundredths ≡ answer_of c.args.airline c.last_up_to.result = rw (c.in-Some.is, ← c.if-eq.ensures) refl in
    rw (← c.self.view_is)
    (rate_answered c.self.inside.lists.rates c.args.airline c.args.day c.rate_key.result c.last_up_to.result c.in-Some.rate.hundredths c.rate_key.ensures.civil found.all_valid found.distinct c.rate_key.ensures.key found.last answered).0

pub returns-in-Some-clause-latest : goal.returns-in-Some-clause-latest
returns-in-Some-clause-latest c =
    let found = c.last_up_to.ensures in
    let answered : c.in-Some.rate.hundredths ≡ answer_of c.args.airline c.last_up_to.result = rw (c.in-Some.is, ← c.if-eq.ensures) refl in
    rw (← c.self.view_is)
    (rate_answered c.self.inside.lists.rates c.args.airline c.args.day c.rate_key.result c.last_up_to.result c.in-Some.rate.hundredths c.rate_key.ensures.civil found.all_valid found.distinct c.rate_key.ensures.key found.last answered).1

pub returns-in_default-clause-value : goal.returns-in_default-clause-value
returns-in_default-clause-value c =
    let found = c.last_up_to.ensures in
    let answered : 0 ≡ answer_of c.args.airline c.last_up_to.result = rw (c.in-Some.is, ← c.if-eq.ensures) refl in
    rw (← c.self.view_is)
    (rate_answered c.self.inside.lists.rates c.args.airline c.args.day c.rate_key.result c.last_up_to.result 0 c.rate_key.ensures.civil found.all_valid found.distinct c.rate_key.ensures.key found.last answered).0

pub returns-in_default-clause-latest : goal.returns-in_default-clause-latest
returns-in_default-clause-latest c =
    let found = c.last_up_to.ensures in
    let answered : 0 ≡ answer_of c.args.airline c.last_up_to.result = rw (c.in-Some.is, ← c.if-eq.ensures) refl in
    rw (← c.self.view_is)
    (rate_answered c.self.inside.lists.rates c.args.airline c.args.day c.rate_key.result c.last_up_to.result 0 c.rate_key.ensures.civil found.all_valid found.distinct c.rate_key.ensures.key found.last answered).1

pub returns-in_default-2-clause-value : goal.returns-in_default-2-clause-value
returns-in_default-2-clause-value c =
    let found = c.last_up_to.ensures in
    let answered : 0 ≡ answer_of c.args.airline c.last_up_to.result = rw c.in_default.is refl in
    rw (← c.self.view_is)
    (rate_answered c.self.inside.lists.rates c.args.airline c.args.day c.rate_key.result c.last_up_to.result 0 c.rate_key.ensures.civil found.all_valid found.distinct c.rate_key.ensures.key found.last answered).0

pub returns-in_default-2-clause-latest : goal.returns-in_default-2-clause-latest
returns-in_default-2-clause-latest c =
    let found = c.last_up_to.ensures in
    let answered : 0 ≡ answer_of c.args.airline c.last_up_to.result = rw c.in_default.is refl in
    rw (← c.self.view_is)
    (rate_answered c.self.inside.lists.rates c.args.airline c.args.day c.rate_key.result c.last_up_to.result 0 c.rate_key.ensures.civil found.all_valid found.distinct c.rate_key.ensures.key found.last answered).1
