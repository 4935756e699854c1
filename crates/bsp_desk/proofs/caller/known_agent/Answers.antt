use Rattle.std.proofs.Common.{◌≡◌, ℕ, true, false, List, Option, sym, ap, ◌∙◌}
use Rattle.bsp_desk_writes.specs.Step.{is_token}
use Rattle.bsp_desk.specs.Reading.{token_text}
use Rattle.bsp_desk.proofs.Known.{agent_found}
use Rattle.bsp_desk.proofs.caller.known_agent.Goals as goal
use Rattle.bsp_desk.proofs.caller.known_agent.Goals.{in_default-2-via-in-Some+else-is_token_of, in_default-2-via-in_default-2}

pub returns-in-Some : goal.returns-in-Some
returns-in-Some g c =
    let given = token_text c.args.token in
    agent_found g.B.Book.means c.args.book.now c.agent_token.new.self given c.args.code.now c.in-Ok.agent c.in_ok-own.field-0 true (sym c.in-Ok.ensures.value)
    (ap (λ (t : Option (List ℕ)). is_token t given) c.in-Some.is ∙ sym c.is_token_of.ensures ∙ c.if-is_token_of.true) c.in_ok-own.ensures

pub returns-in_default-2 : goal.returns-in_default-2
returns-in_default-2 g c =
    let given = token_text c.args.token in
    let is : is_token c.in_ok-own.field-0 given ≡ false = elim c.in_default-2.branch [
      | in_default-2-via-in-Some+else-is_token_of w ↦ ap (λ (t : Option (List ℕ)). is_token t given) w.in-Some.is ∙ sym w.is_token_of.ensures ∙ w.if-is_token_of.false
      | in_default-2-via-in_default-2 w ↦ ap (λ (t : Option (List ℕ)). is_token t given) w.in_default-2.is
    ] in
    agent_found g.B.Book.means c.args.book.now c.agent_token.new.self given c.args.code.now c.in-Ok.agent c.in_ok-own.field-0 false (sym c.in-Ok.ensures.value) is c.in_ok-own.ensures
