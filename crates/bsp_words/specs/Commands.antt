-- The commands of the program by their rows.
use Rattle.std.specs.Prelude.{Bool, map}
use Rattle.clap.specs.Words.{Rule, Shape, Text, new_app}
use Rattle.bsp_words.specs.CommandLine.{flag_rule, limit_option, named_option, number_option, repeated_option, word_rule}
use Rattle.bsp_words.specs.Filling.{with_rules}
use Rattle.bsp_words.specs.declared.commands.Argument.{Argument}
use Rattle.bsp_words.specs.declared.commands.Form.{Form}
use Rattle.bsp_words.specs.declared.commands.Form.TheVariants as form
use Rattle.bsp_words.specs.declared.commands.CommandRow.{CommandRow}

-- the rule of an argument of that name and form, which must be there or not
abbrev pub rule_by : Text → Form → Bool → Rule
rule_by id form.Word required = word_rule id required
rule_by id form.Flag required = record (flag_rule id) { required = required }
rule_by id (form.Named value) required = record (named_option id) { required = required }
rule_by id (form.Repeated value) required = record (repeated_option id) { required = required }
rule_by id (form.Number value least most) required = record (number_option id least most) { required = required }
rule_by id (form.Limit value least most default) required = record (limit_option id least most default.now) { required = required }

abbrev pub rule_at : Argument → Rule
rule_at a = rule_by a.id.now a.form a.required

-- the command of a row
abbrev pub shape_at : CommandRow → Shape
shape_at row = (with_rules (new_app row.name.now) (map rule_at row.arguments.now)).top
