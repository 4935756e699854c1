use Rattle.std.proofs.Common.{[]}
use Rattle.bsp_routes.specs.ResponseHeads.{head_text, allow_lines, closing_lines}
use Rattle.bsp_routes.proofs.Texts.{text_is}
use Rattle.bsp_routes.proofs.response_head.ResponseHead.text.Goals as goal

pub returns : goal.returns
unfolding head_text
returns c =
    rw (
      c.put-5.ensures,
      c.put-4.ensures,
      c.put-3.ensures,
      c.put-2.ensures,
      c.put.ensures,
      c.new-text.ensures,
      c.status_line.ensures.value,
      c.body_lines.ensures.value,
      c.as_bytes.ensures.value,
      c.format.ensures.text,
      c.allow_line.ensures.value,
      c.last_lines.ensures.value,
    )
    (text_is [] _ _ _ _ (allow_lines c.args.self.now.allow) (closing_lines c.args.self.now.closes))
