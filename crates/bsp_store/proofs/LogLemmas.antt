-- A log that is too short for a page adds nothing to its file.
use Rattle.bsp_store_base.proofs.Std.{[], ◌<◌, ◌≡◌, ◌↔◌, arith, inl, inr, length, List, refl, suc, zero, ℕ}
use Rattle.sqlite_wal.specs.Recovery.{Pages, Recovers, Replays, pages_after}

-- it has no frame, so recovery takes none
no_frame : (size : ℕ) (log : List ℕ) (k : ℕ) → length log < 56 → Replays size log k → k ≡ 0
no_frame size log zero short replays = refl
no_frame size log (suc k) short (inl none) = absurd (cc none.1)
no_frame size log (suc k) short (inr it) = absurd (omega (arith, short, (it.0.valid 0 (omega arith)).within))

pub adds_nothing : (size : ℕ) (log db : List ℕ) (pages : Pages) → length log < 56 → Recovers size (record { log = log; db = db }) pages ↔ Recovers size (record { log = []; db = db }) pages
unfolding pages_after
adds_nothing size log db pages short = (
  λ it. let none = no_frame size log it.frames short it.replays in record { frames = 0; replays = inl (inl (omega arith), refl); present = it.present; gives = rw none at it.gives },
  λ it. let none = no_frame size [] it.frames (omega arith) it.replays in record { frames = 0; replays = inl (inl (omega (arith, short)), refl); present = it.present; gives = rw none at it.gives },
)
