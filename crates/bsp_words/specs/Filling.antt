-- Lists of arguments and of commands, from which a command is filled.
use Rattle.std.specs.Prelude.{Bool, List, [], ◌∷◌, Option, Some, None, map, false, true}
use Rattle.clap.specs.Words.{App, Rule, Shape, rule_of, shape_of, with_rule, with_subcommand}
use Rattle.clap.specs.declared.builder.arg.Arg.{Arg}
use Rattle.clap.specs.declared.builder.command.Command.{Command}
use Rattle.clap.specs.declared.builder.command.Command.TheViews.{out-Command as fields_of}

-- the rule of each argument, and whether the subcommands take it too
abbrev pub rules_in : List Arg → List (Rule × Bool)
rules_in = map (λ a. (rule_of a, a.global))

-- the shape of each command, and whether its subcommands take an argument of it too
abbrev pub shapes_in : List Command → List (Shape × Bool)
shapes_in = map (λ c. (shape_of c, (fields_of c).has_globals))

-- each is taken by one command alone
abbrev pub of_one : {A : Type 0} → List A → List (A × Bool)
of_one = map (λ x. (x, false))

-- a command with an argument of each rule, in turn
abbrev pub with_rules : App → List Rule → App
with_rules a [] = a
with_rules a (r ∷ rs) = with_rules (with_rule a r) rs

-- a command with a subcommand of each shape, in turn
abbrev pub with_subcommands : App → List Shape → App
with_subcommands a [] = a
with_subcommands a (s ∷ ss) = with_subcommands (with_subcommand a s) ss

-- what was filled, where nothing that was to be read is out of its form
abbrev pub if_whole : {A : Type 0} → Bool → A → Option A
if_whole true filled = Some filled
if_whole false filled = None
