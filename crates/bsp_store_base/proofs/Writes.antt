-- What a write to one of our tables ensures, whichever table it is.
use Rattle.bsp_store_base.proofs.Std.{[], ⊤, ◌==◌, ◌≡◌, cases_Bool, Err, inl, inr, length, List, Ok, OnErr, OnOk, refl, Result, ℕ}
use Rattle.bsp_store_base.specs.Sqlite.{CommitsBy, Enforced, Error, Executes, Ghosts, HasCleanDisk, Held, Row, Survives, state, works}
use Rattle.bsp_store_base.specs.Calls.{Changes, GivesUp}
use Rattle.bsp_store_base.specs.Schema.{our_schema}
use Rattle.bsp_store_base.specs.Content.{Content}

-- no foreign key acts: each has NO ACTION
pub no_work : (tree : ℕ) (olds news : List Row) → works our_schema Enforced 0 tree olds news ≡ []
no_work tree olds news = elim (cases_Bool (length news == 0)) [ inl is ↦ rw is refl | inr is ↦ rw is refl ]

module _ {S : Type 0} (g : Ghosts S) (old new : Held S) where
  -- what a write of this text, with these parameters, ensures of a content that meets a condition
  abbrev pub Does : List ℕ → Row → (Content → Type 0) → (Content → Content) → Type 0
  Does sql params may after =
      (r : Result ℕ Error) → Survives (state g old) (state g new) (CommitsBy sql params (state g old)) → (HasCleanDisk (state g new) → Executes sql params (state g old) (state g new) r)
      → OnOk r (Changes g old new may after) × OnErr r (GivesUp g old new)

-- a call that fails after another one
pub second_fails : {S : Type 0} (g : Ghosts S) (old mid new : Held S) (first : Content → Content) → Changes g old mid (λ now. ⊤) first → GivesUp g mid new → GivesUp g old new
second_fails g old mid new first made fails now last a b stands inside =
    let half = made now last a b tt stands inside in
    fails (first now) last a b half.0 half.1

-- an error, and what then holds
pub on_err : {A E X : Type 0} (r : Result A E) → X → OnErr r X
on_err (Ok a) x = tt
on_err (Err e) x = x
