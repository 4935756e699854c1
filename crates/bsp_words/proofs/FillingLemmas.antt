-- What a command has that is filled from a list of arguments or of commands.
use Rattle.std.proofs.Common.{◌≡◌, ◌∙◌, ◌++◌, ◌+◌, ◌<◌, ◌≤◌, ℕ, Bool, List, [], ◌∷◌, ap, append_assoc, get_or, length, map, refl, sym, take, false}
use Rattle.std.specs.Prelude.{Result, Ok, Err, IfOk, IsOkAnd, OnOk}
use Rattle.std.proofs.lemmas.List.{map_push, take_all, take_more}
use Rattle.clap.specs.Words.{AddsArg, AddsInTurn, AddsSubcommand, App, Rule, Shape, app_of, rule_of, shape_of, with_rule, with_subcommand}
use Rattle.clap.specs.declared.builder.arg.Arg.{Arg}
use Rattle.clap.specs.declared.builder.command.Command.{Command}
use Rattle.clap.specs.declared.builder.command.Command.TheViews.{out-Command as fields_of}
use Rattle.bsp_words.specs.Filling.{of_one, rules_in, shapes_in, with_rules, with_subcommands}

-- what a command is that was given arguments of these rules
takes_rules : (old new : Command) (arguments : List Arg) (rules : List Rule) → (fields_of old).has_globals ≡ false → rules_in arguments ≡ of_one rules → AddsInTurn AddsArg old arguments new → (app_of new ≡ with_rules (app_of old) rules) × ((fields_of new).has_globals ≡ false)
takes_rules old new [] [] none same is = (ap app_of (sym is), rw (← is) none)
takes_rules old new [] (r ∷ rs) none same adds = cc
takes_rules old new (a ∷ more) [] none same adds = cc
takes_rules old new (a ∷ more) (r ∷ rs) none same adds =
    let pair : ◌≡◌ {A = Rule × Bool} (rule_of a, a.global) (r, false) = cc in
    let local : a.global ≡ false = ap (λ p. p.1) pair in
    let first : rule_of a ≡ r = ap (λ p. p.0) pair in
    let others : rules_in more ≡ of_one rs = cc in
    let step = adds.1 in
    let after = takes_rules adds.0 new more rs (rw (none, local) at step.globals) others adds.2 in
    (after.0 ∙ ap (λ x. with_rules x rs) (step.shape local ∙ ap (with_rule (app_of old)) first), after.1)

-- and subcommands of these shapes
takes_shapes : (old new : Command) (commands : List Command) (shapes : List Shape) → shapes_in commands ≡ of_one shapes → AddsInTurn AddsSubcommand old commands new → app_of new ≡ with_subcommands (app_of old) shapes
takes_shapes old new [] [] same is = ap app_of (sym is)
takes_shapes old new [] (s ∷ ss) same adds = cc
takes_shapes old new (c ∷ cs) [] same adds = cc
takes_shapes old new (c ∷ cs) (s ∷ ss) same adds =
    let pair : ◌≡◌ {A = Shape × Bool} (shape_of c, (fields_of c).has_globals) (s, false) = cc in
    let local : (fields_of c).has_globals ≡ false = ap (λ p. p.1) pair in
    let first : shape_of c ≡ s = ap (λ p. p.0) pair in
    let others : shapes_in cs ≡ of_one ss = cc in
    let step = adds.1 in
    takes_shapes adds.0 new cs ss others adds.2 ∙ ap (λ x. with_subcommands x ss) (step.shape local ∙ ap (with_subcommand (app_of old)) first)

-- a list with the entries of the rows before a place, and that of the row there
pub one_more : {X Y : Type 0} (f : X → Y) (xs : List X) (i : ℕ) (x : X) (old before now : List (Y × Bool)) → i < length xs → before ≡ old ++ of_one (map f (take i xs)) → now ≡ before ++ of_one (f (get_or xs i x) ∷ []) → now ≡ old ++ of_one (map f (take (i + 1) xs))
one_more f xs i x old before now within was added = rw (added, was, take_more xs i x within, map_push, map_push, append_assoc) refl

-- and with those of all rows
pub all_of : {X Y : Type 0} (f : X → Y) (xs : List X) (i : ℕ) (old now : List (Y × Bool)) → length xs ≤ i → now ≡ old ++ of_one (map f (take i xs)) → now ≡ old ++ of_one (map f xs)
all_of f xs i old now past was = was ∙ ap (λ l. old ++ of_one (map f l)) (take_all i xs past)

-- a list to which an argument was added that one command alone takes
pub argument_added : (old new : List Arg) (a : Arg) (rule : Rule) → rule_of a ≡ rule → a.global ≡ false → new ≡ old ++ a ∷ [] → rules_in new ≡ rules_in old ++ of_one (rule ∷ [])
argument_added old new a rule is local pushed =
    let pair : ◌≡◌ {A = Rule × Bool} (rule_of a, a.global) (rule, false) = ap (λ r. (r, a.global)) is ∙ ap (λ b. (rule, b)) local in
    rw (pushed, map_push) (ap (λ (p : Rule × Bool). rules_in old ++ p ∷ []) pair)

-- a list that a command of these rules was added to
pub command_added : {E F U : Type 0} (base : Command) (start : App) (arguments : List Arg) (rules : List Rule) (made : Result Command E) (r : Result U F) (old new : List Command) → (fields_of base).has_globals ≡ false → app_of base ≡ start → rules_in arguments ≡ of_one rules → IfOk made (AddsInTurn AddsArg base arguments) → OnOk r (IsOkAnd made (λ x. new ≡ old ++ x ∷ [])) → OnOk r (shapes_in new ≡ shapes_in old ++ of_one ((with_rules start rules).top ∷ []))
command_added base start arguments rules made (Err e) old new none is same adds pushed = tt
command_added base start arguments rules (Err e) (Ok u) old new none is same adds pushed = absurd pushed
command_added base start arguments rules (Ok x) (Ok u) old new none is same adds pushed =
    let has = takes_rules base x arguments rules none same adds in
    let shape : shape_of x ≡ (with_rules start rules).top = ap (λ a. a.top) (has.0 ∙ ap (λ a. with_rules a rules) is) in
    rw (pushed, map_push, shape, has.1) refl

-- a command that was filled from commands of these shapes
pub filled_from : {E : Type 0} (base : Command) (start : App) (commands : List Command) (shapes : List Shape) (made : Result Command E) → app_of base ≡ start → shapes_in commands ≡ of_one shapes → IfOk made (AddsInTurn AddsSubcommand base commands) → IfOk made (λ x. app_of x ≡ with_subcommands start shapes)
filled_from base start commands shapes (Ok x) is same adds = takes_shapes base x commands shapes same adds ∙ ap (λ a. with_subcommands a shapes) is
filled_from base start commands shapes (Err e) is same adds = tt
