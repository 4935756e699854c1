-- The text of a verdict's object behind the number, for private clauses.
use Rattle.std.specs.Prelude.{ℕ, List, ◌++◌, codes}
use Rattle.bsp_fields.specs.Decimal.{fixed_digits}
use Rattle.bsp_rules.specs.Refusals.{code_text}
use Rattle.bsp_rules.specs.declared.verdict.Verdict.{Verdict}
use Rattle.bsp_rules.specs.declared.verdict.Verdict.TheVariants.{Held, Accepted, Refused}

abbrev pub outcome_text : Verdict → List ℕ
outcome_text (Accepted period) = codes ",\"period\":\"" ++ (fixed_digits 5 period ++ codes "\",\"verdict\":\"accepted\"}")
outcome_text (Held period) = codes ",\"period\":\"" ++ (fixed_digits 5 period ++ codes "\",\"verdict\":\"held\"}")
outcome_text (Refused refusal) = codes ",\"verdict\":\"" ++ (code_text refusal ++ codes "\"}")
