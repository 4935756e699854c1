use Rattle.std.proofs.Common.{◌≡◌, length, true, sym}
use Rattle.std.proofs.lemmas.Bool.{le-leb}
use Rattle.bsp_fields.specs.Tokens.{is_token}
use Rattle.bsp_fields.proofs.TokenLemmas.{token_room_filled}
use Rattle.bsp_fields.proofs.token.Token.read.Goals as goal

pub invariant_of-result : goal.invariant_of-result
invariant_of-result c =
    let count = length c.args.text.now in
    let is : is_token c.args.text.now ≡ true =
    rw (le-leb 16 count c.if-count-lt16.false, le-leb count 64 c.if-count-gt64.false) (sym c.if-not-is_alphanumeric.ensures) in
    rw c.copy_from_slice.ensures.after (token_room_filled c.args.text.now c.if-count-gt64.false is)
