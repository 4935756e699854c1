-- One rule of an audit after the other.
use Rattle.std.proofs.Common.{◌≡◌, Bool, false, Result, Ok, Err, IfOk, sym, ◌∙◌}
use Rattle.std.specs.Bool.{Decides}

-- a rule that fails settles the whole
pub refused : {P Q : Type 0} (r : Bool) → r ≡ false → Decides r P → (Q → P) → Decides false Q
refused r no' d part = ((λ t. absurd (cc t)), (λ whole. sym no' ∙ d.1 (part whole)))

-- the last rule, where the others hold
pub last : {P Q : Type 0} (r : Bool) → Decides r P → (P → Q) → (Q → P) → Decides r Q
last r d whole part = ((λ t. whole (d.0 t)), (λ q. d.1 (part q)))

pub last_if_ok : {P Q E : Type 0} (r : Result Bool E) → IfOk r (λ b. Decides b P) → (P → Q) → (Q → P) → IfOk r (λ b. Decides b Q)
last_if_ok (Ok b) d whole part = last b d whole part
last_if_ok (Err e) d whole part = tt

-- the same, for each x
pub each_last_if_ok : {X P E : Type 0} {Q : X → Type 0} (r : Result Bool E) → IfOk r (λ b. Decides b P) → ((x : X) → P → Q x) → ((x : X) → Q x → P) → IfOk r (λ b. (x : X) → Decides b (Q x))
each_last_if_ok (Ok b) d whole part = λ x. last b d (whole x) (part x)
each_last_if_ok (Err e) d whole part = tt
