-- Each request, and each list of requests, has a reading.
use Rattle.std.proofs.Common.{[], ◌∷◌, refl}
use Rattle.bsp_routes.specs.Calls.{asking_text}
use Rattle.bsp_desk_writes.proofs.ContentsRead.{each_content_is_read}
use Rattle.bsp_desk.specs.Reading.{EachIsRead, ListsAreRead, token_text}

pub each_is_read : EachIsRead
each_is_read request whole =
    let asked = each_content_is_read (asking_text request.call) request.content whole in
    (record { token = token_text request.token; asked = asked.0 }, record { token = refl; asked = asked.1 })

pub lists_are_read : ListsAreRead
lists_are_read [] whole = ([], tt)
lists_are_read (request ∷ requests) whole =
    let first = each_is_read request whole.0 in
    let rest = lists_are_read requests whole.1 in
    (first.0 ∷ rest.0, (first.1, rest.1))
