-- The rows, computed.
use Rattle.std.proofs.Common.{◌≡◌, ℕ, List, [], ◌∷◌, true, refl, Some, length, ◌&&◌}
use Rattle.matchit.proofs.OnLiterals.{matchit_on_literals}
use Rattle.bsp_routes.specs.Rows.{ResourceRows, add, office_rows, agent_rows, airline_rows, routes}
use Rattle.bsp_routes.specs.Resources.{form}
use Rattle.bsp_routes.proofs.Shapes.{all_shaped}
use Rattle.bsp_routes.proofs.Forms.{tokens, plain_form}
use Rattle.bsp_routes.proofs.Walks.{sound_form, count}
use Rattle.bsp_routes.proofs.Leads.{serves, end_of}
use Rattle.matchit.specs.Router.{RouteOf}
use Rattle.std.specs.Option.{option_map}
use Rattle.bsp_routes.specs.declared.resource.Resource.{Resource}
use Rattle.bsp_routes.specs.declared.resource.Resource.TheVariants.{Plan, Day, Agents, Airlines, Allot, Withdraw, OfficeRet, Close, Settlement, AgentRet, Document, Period, Stock, AgentMemos, Dispute, Agree, Statement, AirlineMemos, Uphold, WithdrawMemo, Reduce, Hot}

pub routes_shaped : all_shaped routes ≡ true
unfolding add office_rows agent_rows airline_rows matchit_on_literals
routes_shaped = refl

abbrev pub AreOf : ResourceRows → Type 0
AreOf [] = Unit {0}
AreOf ((t, r) ∷ rs) = (t ≡ tokens (form r.value)) × AreOf rs

pub routes_are_of : AreOf routes
unfolding add office_rows agent_rows airline_rows matchit_on_literals
routes_are_of = (refl, (refl, (refl, (refl, (refl, (refl, (refl, (refl, (refl, (refl, (refl, (refl, (refl, (refl, (refl, (refl, (refl, (refl, (refl, (refl, (refl, (refl, tt))))))))))))))))))))))

pub all_serve : (resource : Resource) → serves (form resource) routes ≡ true
unfolding add office_rows agent_rows airline_rows matchit_on_literals
all_serve Plan = refl
all_serve Day = refl
all_serve Agents = refl
all_serve Airlines = refl
all_serve Allot = refl
all_serve Withdraw = refl
all_serve OfficeRet = refl
all_serve Close = refl
all_serve Settlement = refl
all_serve AgentRet = refl
all_serve Document = refl
all_serve Period = refl
all_serve Stock = refl
all_serve AgentMemos = refl
all_serve Dispute = refl
all_serve Agree = refl
all_serve Statement = refl
all_serve AirlineMemos = refl
all_serve Uphold = refl
all_serve WithdrawMemo = refl
all_serve Reduce = refl
all_serve Hot = refl

-- the resource of a route, its pattern, and how many values it has
abbrev pub kept : RouteOf Resource → Resource × (List ℕ × ℕ)
kept route = (route.value, (route.pattern, length route.names))

pub all_end : (resource : Resource) → option_map kept (end_of (form resource) routes) ≡ Some (resource, (tokens (form resource), count (form resource)))
unfolding add office_rows agent_rows airline_rows matchit_on_literals
all_end Plan = refl
all_end Day = refl
all_end Agents = refl
all_end Airlines = refl
all_end Allot = refl
all_end Withdraw = refl
all_end OfficeRet = refl
all_end Close = refl
all_end Settlement = refl
all_end AgentRet = refl
all_end Document = refl
all_end Period = refl
all_end Stock = refl
all_end AgentMemos = refl
all_end Dispute = refl
all_end Agree = refl
all_end Statement = refl
all_end AirlineMemos = refl
all_end Uphold = refl
all_end WithdrawMemo = refl
all_end Reduce = refl
all_end Hot = refl

pub all_sound : (resource : Resource) → (plain_form (form resource) && sound_form (form resource)) ≡ true
all_sound Plan = refl
all_sound Day = refl
all_sound Agents = refl
all_sound Airlines = refl
all_sound Allot = refl
all_sound Withdraw = refl
all_sound OfficeRet = refl
all_sound Close = refl
all_sound Settlement = refl
all_sound AgentRet = refl
all_sound Document = refl
all_sound Period = refl
all_sound Stock = refl
all_sound AgentMemos = refl
all_sound Dispute = refl
all_sound Agree = refl
all_sound Statement = refl
all_sound AirlineMemos = refl
all_sound Uphold = refl
all_sound WithdrawMemo = refl
all_sound Reduce = refl
all_sound Hot = refl
