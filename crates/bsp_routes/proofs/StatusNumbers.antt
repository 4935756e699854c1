-- The numbers of statuses in their digits.
use Rattle.std.proofs.Common.{◌≡◌, refl, codes}
use Rattle.std.specs.Fmt.{decimal, digits}

pub decimal_200 : decimal 200 ≡ codes "200"
unfolding digits
decimal_200 = refl

pub decimal_400 : decimal 400 ≡ codes "400"
unfolding digits
decimal_400 = refl

pub decimal_403 : decimal 403 ≡ codes "403"
unfolding digits
decimal_403 = refl

pub decimal_404 : decimal 404 ≡ codes "404"
unfolding digits
decimal_404 = refl

pub decimal_405 : decimal 405 ≡ codes "405"
unfolding digits
decimal_405 = refl

pub decimal_409 : decimal 409 ≡ codes "409"
unfolding digits
decimal_409 = refl

pub decimal_411 : decimal 411 ≡ codes "411"
unfolding digits
decimal_411 = refl

pub decimal_413 : decimal 413 ≡ codes "413"
unfolding digits
decimal_413 = refl

pub decimal_422 : decimal 422 ≡ codes "422"
unfolding digits
decimal_422 = refl

pub decimal_431 : decimal 431 ≡ codes "431"
unfolding digits
decimal_431 = refl

pub decimal_501 : decimal 501 ≡ codes "501"
unfolding digits
decimal_501 = refl

pub decimal_503 : decimal 503 ≡ codes "503"
unfolding digits
decimal_503 = refl
