use Rattle.std.proofs.Common.{◌≡◌, refl, ap, sym, subst, ◌∙◌}
use Rattle.bsp_desk.specs.RoutesCalls.{asking_text}
use Rattle.bsp_desk.specs.Contents.{IsAskedWith}
use Rattle.bsp_desk.specs.Content.{Content}
use Rattle.bsp_desk.specs.BodyKind.TheVariants.{Ret}
use Rattle.bsp_http.specs.Uses.{kind_of}
use Rattle.bsp_http.proofs.FileLemmas.{as_file, same_token}
use Rattle.bsp_http.proofs.answers.answer_file.Goals as goal

pub returns : goal.returns
returns g c = λ bytes is.
    let asked_for = asking_text c.asking-call.result in
    let is_found = c.requires.found.1 in
    let file : Ret ≡ kind_of asked_for = sym c.requires.kind ∙ is_found.2 ∙ ap kind_of (sym (c.asking-call.ensures.only is_found.0 is_found.1)) in
    record {
      request = record { token = c.args.message.now.token; call = c.asking-call.result; content = c.content_of.result };
      is = record {
        token = same_token c.args.message.now.token;
        asks = c.asking-call.ensures.asked;
        only = c.asking-call.ensures.only;
        reads = λ asked h. subst (λ (k : Content). IsAskedWith asked_for k asked) (sym c.content_of.ensures) (as_file asked_for bytes c.args.file asked file is h);
      };
      reply = c.answer.result;
      answered = c.answer.ensures.answered;
      office = c.answer.ensures.office;
      written_is = refl;
    }
